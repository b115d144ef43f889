pub mod Fills
pub mod Elements
pub mod Unique
