pub mod Orders
pub mod Asked
pub mod Located
pub mod Answered
