pub mod Plain
pub mod Listing
pub mod Words
pub mod Shown
pub mod Details
