-- Laws about the fields, open to the crates that read by them.
pub mod Reading
