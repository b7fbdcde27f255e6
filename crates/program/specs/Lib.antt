-- What the program answers.
pub mod Program
