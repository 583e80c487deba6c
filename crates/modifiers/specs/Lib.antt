pub mod Setting
pub mod Impossible
