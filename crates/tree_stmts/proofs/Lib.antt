-- Where the rules' reader of statements gets to, a law for each way out of a function of src/.
pub mod Statements
