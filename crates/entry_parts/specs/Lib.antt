-- What is answered and what is left, by what became of a tree.
pub mod Ends
