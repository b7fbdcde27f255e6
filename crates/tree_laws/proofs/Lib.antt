-- What a read tells of the bytes, open to the proofs of the crates that walk a tree file.
pub mod Taken
pub mod Expressions
pub mod Deeper
pub mod Statements
pub mod Depths
pub mod Later
