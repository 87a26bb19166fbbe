pub mod Table
pub mod Alike
pub mod Places
pub mod Carried
pub mod Untold
