pub mod Laws
pub mod Digits
pub mod Joined
pub mod Unpacked
pub mod KeyNames
