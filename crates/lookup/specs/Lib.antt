pub mod Find
pub mod Rule
