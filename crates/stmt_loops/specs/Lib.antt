-- What the condition and the increment of a `for` say.
pub mod Loops
