pub mod Layout
pub mod Refusals
pub mod View
pub mod Check
pub mod Told
pub mod Ancestor
pub mod Written
pub mod Words
