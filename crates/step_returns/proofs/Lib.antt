-- The laws of a function's end and the script's start, one for each way out of a function of src/.
pub mod Returns
pub mod Start
pub mod Closures
