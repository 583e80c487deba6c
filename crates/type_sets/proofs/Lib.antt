pub mod TypeMask
pub mod Joined
pub mod Gathered
