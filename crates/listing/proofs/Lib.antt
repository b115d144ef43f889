pub mod Copies
pub mod Strides
pub mod Levels
pub mod Filled
