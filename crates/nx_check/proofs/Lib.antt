pub mod Asking
pub mod Backing
pub mod Finding
pub mod Keeping
pub mod Listing
pub mod Matching
pub mod Running
