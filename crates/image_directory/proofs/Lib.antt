-- Laws for the proofs of this crate.
pub mod Entries
pub mod Directory
pub mod Parts
