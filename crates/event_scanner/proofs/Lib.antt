pub mod KeyCounts
pub mod Meaning
pub mod EventRanges
pub mod LeftSide
pub mod Walks
