-- The laws of a class's head: what stands in its record.
pub mod Heads
