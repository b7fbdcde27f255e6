-- Laws of what the output holds, open to the crates that put records into it.
pub mod Padding
