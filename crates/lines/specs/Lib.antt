pub mod Totals
pub mod Left
pub mod Line
