pub mod Examples
pub mod Overlaps
pub mod Parts
pub mod Borne
pub mod Choices
pub mod Documents
pub mod Same
pub mod SortedNames
