-- Laws about the constants of a function, open to the crates that judge by them.
pub mod Words
pub mod New
pub mod Kinding
