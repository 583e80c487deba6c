pub mod HeaderFacts
pub mod UnusedFacts
