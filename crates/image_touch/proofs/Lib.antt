-- Laws of the walk.
pub mod Walking
pub mod Knowing
pub mod Stepping
pub mod Searching
