pub mod Matching
pub mod Compiling
pub mod Merging
pub mod Numbered
