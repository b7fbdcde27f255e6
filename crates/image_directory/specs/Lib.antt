-- What stands behind the functions of an image.
pub mod Behind
