-- The laws of what opens a class: one for each way out of a function of src/.
pub mod Opening
