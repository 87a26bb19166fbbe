-- ---- what a reader must believe: elements that a definition allows, and which schemas can be filled
pub mod Written
pub mod Moves
pub mod Strings
pub mod Fillable
pub mod Contents
pub mod Laws
-- ---- what private contracts cite
pub mod ClassNames
pub mod WordLists
pub mod Sorted
pub mod Matched
pub mod Doing
pub mod Heads
