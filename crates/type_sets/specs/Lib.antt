pub mod TypeSet
pub mod Scan
