pub mod Act
pub mod Moves
