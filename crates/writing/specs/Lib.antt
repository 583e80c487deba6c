pub mod Overlay
pub mod KeyNames
pub mod Steps
