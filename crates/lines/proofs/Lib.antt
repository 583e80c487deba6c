pub mod Sums
pub mod Verdict
pub mod Kept
pub mod Steps
pub mod Turns
