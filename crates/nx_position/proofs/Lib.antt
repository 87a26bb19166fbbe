pub mod Changing
pub mod CodeUnits
pub mod Lines
pub mod Steps
