pub mod Directions
pub mod Points
pub mod Ranges
pub mod Strings
pub mod Inside
