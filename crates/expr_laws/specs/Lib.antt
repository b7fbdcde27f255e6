-- What the compiler's functions over a tree file's bytes say.
pub mod Exprs
