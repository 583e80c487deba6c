pub mod Kept
pub mod Never
pub mod Viewed
pub mod KeptExamples
pub mod Replaced
