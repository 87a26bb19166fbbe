pub mod Closing
pub mod Refreshing
pub mod Shifting
