pub mod Fits
pub mod Kept
pub mod Knowing
pub mod Needing
pub mod Remembering
pub mod Single
pub mod Strings
