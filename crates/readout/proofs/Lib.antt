pub mod Elements
pub mod Reader
pub mod Lines
pub mod Spans
pub mod Sources
pub mod ReadOut
pub mod Shown
