pub mod Rooms
pub mod Unique
