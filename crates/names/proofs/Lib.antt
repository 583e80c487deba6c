pub mod Rest
pub mod InOrder
pub mod Order
pub mod Complete
pub mod Written
pub mod Spelled
