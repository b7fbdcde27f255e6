-- Laws for the proofs of this crate.
pub mod Sound
pub mod Whole
pub mod Lookup
