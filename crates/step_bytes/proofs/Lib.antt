-- The laws of bytes and constants, one for each way out of a function of src/.
pub mod Bytes
