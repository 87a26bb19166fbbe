pub mod Leaves
pub mod Opened
pub mod Choosing
pub mod Mentions
pub mod Steps
