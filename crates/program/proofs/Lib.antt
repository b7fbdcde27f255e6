-- Laws of the program.
pub mod NeverShort
pub mod Shown
