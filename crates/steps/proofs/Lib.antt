-- The laws of one step, and for each function of src/ a law for each way out of it.
pub mod Steps
pub mod Views
pub mod Jumps
pub mod Monad
