-- Laws of functions that are begun: a law for each way out of a function of src/.
pub mod Names
pub mod Opening
