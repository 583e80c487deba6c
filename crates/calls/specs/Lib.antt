pub mod Refusals
pub mod Places
pub mod Answers
pub mod Parts
