pub mod Reading
pub mod Single
pub mod IfOk
pub mod Growing
pub mod Opening
pub mod Untold
mod Named
mod Kept
