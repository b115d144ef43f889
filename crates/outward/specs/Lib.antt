pub mod Exports
pub mod CursorWords
