pub mod Under
pub mod Gone
pub mod Left
pub mod Typing
pub mod Pruning
