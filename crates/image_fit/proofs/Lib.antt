-- Laws about the division of a code, open to the crate that judges by it.
mod Pairing
pub mod Judging
