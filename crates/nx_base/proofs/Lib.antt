pub mod Alike
mod Examples
pub mod CodePoints
pub mod Forms
pub mod Fronts
pub mod Joined
