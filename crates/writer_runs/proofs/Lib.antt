-- Laws of runs, open to the crate that puts functions.
pub mod Rows
