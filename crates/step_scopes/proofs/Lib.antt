-- The laws of scopes and contexts, one for each way out of a function of src/.
pub mod Scopes
