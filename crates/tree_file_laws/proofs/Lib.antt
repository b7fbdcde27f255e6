-- Laws of the tree file as `TreeFile` and `TreeEncode` of the crate rules define it. They add nothing to what those say. Read in this order.
pub mod Fits
pub mod Names
pub mod Texts
pub mod Written
pub mod Again
pub mod Opened
pub mod Passing
pub mod Unlimited
pub mod Shown
