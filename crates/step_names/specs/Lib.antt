-- What is done with a variable.
pub mod Access
