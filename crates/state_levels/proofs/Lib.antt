-- The laws of levels, one for each way out of a function of src/.
pub mod Opening
pub mod Clearing
