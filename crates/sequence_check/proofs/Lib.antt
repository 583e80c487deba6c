pub mod SizeLaws
pub mod Joined
pub mod Shortcuts
