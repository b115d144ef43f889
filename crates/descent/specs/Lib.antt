pub mod Descendants
pub mod Positions
