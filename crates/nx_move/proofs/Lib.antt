pub mod Cutting
pub mod Counting
pub mod Keeping
pub mod Leading
