pub mod Merge
pub mod Results
