-- Laws for the proofs of this crate.
pub mod Ranges
pub mod Widths
