pub mod Moves
pub mod Marks
