pub mod Bools
pub mod Laws
pub mod RunLaws
pub mod Images
pub mod Zeros
