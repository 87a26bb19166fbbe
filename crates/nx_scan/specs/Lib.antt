pub mod Borders
pub mod Doctype
pub mod Ending
pub mod Markup
pub mod Tag
