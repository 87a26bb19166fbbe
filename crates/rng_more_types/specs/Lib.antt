pub mod Spaces
pub mod Calendar
pub mod Literals
pub mod Octets
pub mod Told
pub mod Reading
pub mod MoreTypes
pub mod Laws
