pub mod Asked
pub mod Forms
pub mod Listed
