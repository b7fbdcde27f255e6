-- The laws of locals and upvalues, one for each way out of a function of src/.
pub mod Resolve
pub mod Adding
pub mod Outward
pub mod Declare
