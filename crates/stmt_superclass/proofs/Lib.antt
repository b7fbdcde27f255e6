-- The laws of a superclass: one for each way out of a function of src/.
pub mod Inheriting
