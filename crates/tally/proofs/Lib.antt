pub mod Steps
pub mod WholeFacts
pub mod Tallies
pub mod ElementSizes
pub mod Extents
pub mod KeptSteps
pub mod Directives
pub mod Equality
