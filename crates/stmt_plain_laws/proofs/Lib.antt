-- The laws of a statement's value, one for each way out of the functions that compile it.
pub mod Values
