-- Laws of steps that finish functions.
pub mod Growing
