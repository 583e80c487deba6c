pub mod Spans
pub mod LeftSide
