pub mod EventTests
pub mod Joined
