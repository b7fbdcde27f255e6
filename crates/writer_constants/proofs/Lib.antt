-- Laws of constants, open to the crate that puts functions.
pub mod Rows
