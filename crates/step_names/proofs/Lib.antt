-- The laws of names, one for each way out of a function of src/.
pub mod Names
