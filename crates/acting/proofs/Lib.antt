pub mod MoveLaws
pub mod ActLaws
pub mod Shifts
