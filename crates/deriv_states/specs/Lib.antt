pub mod Tables
pub mod Places
pub mod Parts
pub mod Codes
pub mod Steps
pub mod Telling
