pub mod Letters
pub mod Words
pub mod Tokens
pub mod Laws
pub mod Reading
