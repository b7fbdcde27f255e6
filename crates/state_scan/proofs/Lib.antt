-- What the scans say of a table.
pub mod Scan
