pub mod Digits
pub mod Masks
pub mod Below
pub mod Meeting
pub mod Setting
pub mod Impossible
