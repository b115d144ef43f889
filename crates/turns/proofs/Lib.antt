pub mod Turning
pub mod Wordwise
