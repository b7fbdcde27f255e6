-- Laws of what the output holds.
pub mod Padding
pub mod Records
