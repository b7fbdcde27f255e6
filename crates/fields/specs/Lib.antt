-- What stands at a place of a file, as numbers.
pub mod Words
pub mod Marks
