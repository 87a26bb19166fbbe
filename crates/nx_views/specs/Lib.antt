pub mod States
pub mod Refreshed
pub mod Panes
pub mod Turns
