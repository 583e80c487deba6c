pub mod AllKept
pub mod EventHere
pub mod EventWalk
pub mod CallWalk
