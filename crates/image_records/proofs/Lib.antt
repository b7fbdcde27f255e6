-- Laws about the records of an image, open to the crates that read by them.
pub mod Many
pub mod Records
pub mod Running
pub mod Forward
pub mod Lengths
pub mod Faults
