pub mod Pieces
pub mod Totals
pub mod Images
pub mod Result
pub mod Answer
pub mod Theorems
