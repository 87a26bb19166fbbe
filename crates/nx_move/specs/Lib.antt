pub mod Tags
pub mod Balance
pub mod Ways
pub mod Walks
