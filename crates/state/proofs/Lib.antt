-- Laws of the layout, and for each function of src/ a law for each way out of it, over plain lists.
pub mod Numbers
pub mod Laws
pub mod Words
