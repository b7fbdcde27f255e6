-- What the definitions give: P1 to P12, and the slips of this trade, each shut out. Laws of the definitions for all trees are the crate rules_laws.
pub mod Computes
pub mod Examples
pub mod Slips
pub mod Numbers
