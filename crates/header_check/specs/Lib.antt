pub mod Header
pub mod Unused
