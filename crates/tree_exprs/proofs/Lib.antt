-- Where the rules' reader of expressions gets to, a law for each way out of a function of src/.
pub mod Expressions
