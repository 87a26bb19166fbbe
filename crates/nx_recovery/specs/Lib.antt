pub mod Uniqueness
pub mod Existence
pub mod Levels
pub mod ItemFaults
pub mod Viability
pub mod Validity
pub mod Details
pub mod SameEvents
