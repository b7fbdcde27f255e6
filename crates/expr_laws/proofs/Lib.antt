-- The laws of an expression's parts: one for each way out of the functions that compile them, and that they make the whole.
pub mod Operators
pub mod Calls
pub mod Counts
