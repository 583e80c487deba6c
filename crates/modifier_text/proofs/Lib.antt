pub mod Named
pub mod Bits
