pub mod Appended
pub mod AddedLine
pub mod LineSteps
pub mod Run
pub mod Outcomes
