-- What the functions that compile a statement with no statement inside say.
pub mod Plain
