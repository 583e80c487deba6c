pub mod ProductionSteps
pub mod Outcome
