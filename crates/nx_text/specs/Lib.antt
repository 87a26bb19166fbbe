pub mod Borders
pub mod Changing
pub mod Editing
pub mod Feeds
pub mod Gap
pub mod Places
pub mod Reading
