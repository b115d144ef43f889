pub mod Skips
pub mod Cursors
