pub mod Centres
pub mod Reading
pub mod Strings
pub mod Ranges
pub mod Computed
