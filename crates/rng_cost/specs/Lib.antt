pub mod Costs
pub mod Least
pub mod Leaves
pub mod Rounds
pub mod Sides
