pub mod Layout
pub mod Reading
pub mod Writing
pub mod Fitting
pub mod Whole
pub mod Laws
