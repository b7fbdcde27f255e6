-- The laws of the jumps, one for each way out of a function of src/.
pub mod Jumps
pub mod Loops
