pub mod Holding
pub mod Texts
pub mod Ends
pub mod Laws
