-- ---- what a reader must believe: what is kept of reading a text, when it is right, and what edits and reading on do to it
pub mod Tags
pub mod Ruling
pub mod Chain
pub mod Right
pub mod Frontier
pub mod Before
pub mod Starting
pub mod Editing
pub mod Keeping
pub mod Bound
pub mod Meant
-- ---- what private contracts cite: a token, a step along the line, a row that is joined
pub mod Taking
pub mod Walking
pub mod Rejoining
pub mod Joined
-- ---- how marks lie in memory
pub mod Room
pub mod Tree
pub mod Nodes
