pub mod Rows
pub mod Meant
pub mod Demands
pub mod Onwards
pub mod StepMeant
pub mod Centred
