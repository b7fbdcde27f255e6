-- The laws of a `var`, one for each way out of a function of src/.
pub mod Vars
