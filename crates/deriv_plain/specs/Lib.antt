pub mod Ways
pub mod Sameness
pub mod Order
pub mod Laws
pub mod Known
