pub mod Judges
pub mod Unique
pub mod Taken
