-- The laws of a `return`, one for each way out of a function of src/.
pub mod Returns
