-- Laws about the CLOSUREs of a code, open to the crate that judges by them.
pub mod Counting
pub mod Named
