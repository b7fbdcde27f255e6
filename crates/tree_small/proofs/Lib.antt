-- Laws of the rules' reader: where it gets to, a field and a mark at a time.
pub mod Places
pub mod Tables
