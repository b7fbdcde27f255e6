-- The compiler's state in lent memory. Read in this order.
pub mod Layout
pub mod Kinds
pub mod Meaning
