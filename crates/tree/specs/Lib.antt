-- What the file as a whole comes to.
pub mod Checked
pub mod Read
