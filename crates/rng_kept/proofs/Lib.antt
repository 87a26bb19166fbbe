pub mod Residuals
pub mod Keeping
