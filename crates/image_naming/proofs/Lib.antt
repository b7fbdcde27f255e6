-- Laws for the proofs of this crate.
pub mod Counting
pub mod Walking
