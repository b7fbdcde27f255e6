-- Laws of functions that are finished: a law for each way out of a function of src/, and how the rules' `compile_function` is cut.
pub mod Records
pub mod Closing
pub mod Cut
