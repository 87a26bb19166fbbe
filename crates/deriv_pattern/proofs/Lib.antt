pub mod InOrder
pub mod Opened
pub mod Mentioned
pub mod Sole
pub mod Same
pub mod Props
pub mod Choices
