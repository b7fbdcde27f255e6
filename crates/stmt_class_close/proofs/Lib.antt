-- The laws of what closes a class: one for each way out of a function of src/.
pub mod Closing
