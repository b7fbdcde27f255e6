-- Where the rules' reader of names gets to, a law for each way out of a function of src/.
pub mod Texts
