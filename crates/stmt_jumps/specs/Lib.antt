-- What the jumps around the parts of a statement are.
pub mod Jumps
