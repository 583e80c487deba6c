pub mod Slots
pub mod Rising
