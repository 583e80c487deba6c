pub mod Inserted
pub mod Same
