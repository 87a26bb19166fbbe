-- ---- what a reader must believe: schemas, what pruning answers, what a schema lists, and what the calls of a matcher answer
pub mod Order
pub mod Schemas
pub mod Dead
pub mod Pruned
pub mod Listed
pub mod Calls
-- ---- what private contracts and proofs cite
pub mod Conditions
pub mod Marking
pub mod Living
pub mod Spelling
pub mod Left
pub mod Leaving
pub mod Gathered
pub mod Possible
