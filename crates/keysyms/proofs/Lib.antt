pub mod ByteOrder
pub mod Order
pub mod Constants
pub mod Held
pub mod Ranked
pub mod FirstPlaces
