-- The laws of the arms: one for each way out of `compile_expr`.
pub mod Arms
