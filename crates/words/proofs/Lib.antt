pub mod Numerals
pub mod Readings
pub mod Scanning
pub mod Parting
pub mod Names
pub mod Examples
