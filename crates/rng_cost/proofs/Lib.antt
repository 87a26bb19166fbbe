pub mod Exact
mod Passing
pub mod Filling
