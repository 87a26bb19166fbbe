pub mod Tops
pub mod Rows
pub mod Going
pub mod Stepping
pub mod PlainSteps
pub mod RequiredNames
pub mod NeededNames
