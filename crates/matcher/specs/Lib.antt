pub mod Match
pub mod Laws
