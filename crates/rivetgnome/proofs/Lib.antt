pub mod Narrow
pub mod Alone
