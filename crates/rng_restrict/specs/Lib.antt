pub mod Standing
pub mod Reaching
pub mod Paths
pub mod Contents
pub mod Attributes
pub mod Interleaves
pub mod Finding
pub mod Checking
