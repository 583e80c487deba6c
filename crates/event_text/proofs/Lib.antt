pub mod Named
pub mod Values
