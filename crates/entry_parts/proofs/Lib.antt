-- What a call leaves, part by part, and the image with what is asked for.
pub mod Ends
pub mod Images
