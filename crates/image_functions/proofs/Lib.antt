-- Laws about the functions of an image, open to the crates that judge by them.
pub mod One
pub mod All
