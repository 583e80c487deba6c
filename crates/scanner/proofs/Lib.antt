pub mod Runs
pub mod BadBytes
pub mod Ranges
