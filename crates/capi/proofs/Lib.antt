pub mod Bounds
pub mod Words
pub mod StateBytes
pub mod StateLaws
pub mod Matches
pub mod Demand
pub mod CallLaws
pub mod Chain
