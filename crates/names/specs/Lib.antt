pub mod Places
pub mod Groups
pub mod Table
pub mod Writing
