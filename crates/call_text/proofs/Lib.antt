pub mod LentFacts
