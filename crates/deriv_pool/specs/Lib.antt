pub mod Kept
pub mod Later
pub mod Laws
pub mod Meaning
pub mod Remembering
pub mod Single
