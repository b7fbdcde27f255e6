-- Laws for the proofs of this crate.
pub mod Steps
pub mod Lent
