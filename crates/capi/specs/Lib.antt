pub mod Answers
pub mod State
pub mod Laws
pub mod Match
pub mod Demand
pub mod Chain
