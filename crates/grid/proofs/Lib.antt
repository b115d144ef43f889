pub mod Reached
pub mod Steps
pub mod Inside
pub mod WayBack
