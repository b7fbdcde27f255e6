-- Laws of statements, arm by arm.
pub mod Cuts
pub mod Blocks
pub mod Ifs
pub mod Whiles
pub mod Fors
pub mod Rows
pub mod Functions
pub mod ClassCut
pub mod Classes
pub mod Calls
