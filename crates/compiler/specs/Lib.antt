pub mod WholeLine
pub mod Held
pub mod Progress
pub mod Compile
pub mod Theorems
