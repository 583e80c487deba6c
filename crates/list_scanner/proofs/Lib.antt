pub mod Words
pub mod ListSteps
