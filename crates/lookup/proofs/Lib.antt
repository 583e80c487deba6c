pub mod Lookup
pub mod Packing
pub mod Grouped
pub mod Groups
pub mod Ranges
