pub mod CallWords
pub mod Joined
pub mod Shortcuts
