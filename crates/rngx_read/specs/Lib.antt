-- ---- what a reader must believe
pub mod Kinds
pub mod Tags
pub mod Names
pub mod Defaults
pub mod Elements
pub mod Classes
pub mod Patterns
pub mod Reads
pub mod Files
-- laws
pub mod Laws
-- ---- what private contracts cite
pub mod Views
pub mod Forms
pub mod Answering
pub mod Reading
pub mod ReadingClasses
pub mod ReadingPatterns
pub mod Building
pub mod Indexing
pub mod Marking
pub mod Walking
pub mod PlainWalking
