pub mod Puts
pub mod ProductionPuts
pub mod Directives
