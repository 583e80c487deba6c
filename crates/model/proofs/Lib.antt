pub mod Starred
pub mod Sameness
pub mod Tested
pub mod Named
pub mod Moving
