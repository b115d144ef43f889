pub mod Bases
pub mod Ranking
pub mod Fields
pub mod Eights
