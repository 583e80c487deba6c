pub mod ReadOut
pub mod Examples
