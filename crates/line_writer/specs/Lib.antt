pub mod Puts
pub mod Reads
