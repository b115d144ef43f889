pub mod Numeral
pub mod Lines
pub mod Reading
