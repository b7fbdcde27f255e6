-- Laws of the walk over records: where they end in any bytes, that they end where the rules' encoder has them end, and that their places are put.
pub mod Ends
pub mod Records
pub mod Walking
