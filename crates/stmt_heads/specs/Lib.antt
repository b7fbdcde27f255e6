-- What the parts of a class say.
pub mod Classes
