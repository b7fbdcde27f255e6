-- Laws of the whole: areas that are all zero, the script's statements and what they come to, the header, and what is answered.
pub mod Zeros
pub mod Rows
pub mod Script
pub mod Answers
