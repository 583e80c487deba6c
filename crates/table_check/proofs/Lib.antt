pub mod CheckFacts
pub mod Checked
pub mod Decoded
pub mod Exact
pub mod Stops
pub mod WholeFacts
