-- What the parts of statements say, and what a statement does beside its code: functions that it finishes go into the output.
pub mod Output
pub mod Parts
