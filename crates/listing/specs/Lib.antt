pub mod Copies
pub mod Filled
