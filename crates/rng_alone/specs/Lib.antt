pub mod Alone
pub mod Left
