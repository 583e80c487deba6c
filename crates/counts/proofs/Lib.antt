pub mod Elements
pub mod Places
