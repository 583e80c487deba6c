pub mod LongNames
pub mod Written
