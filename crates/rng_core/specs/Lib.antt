-- ---- what a reader must believe: classes, patterns, and what they match
pub mod Names
pub mod Patterns
pub mod Meaning
pub mod Matching
pub mod Validity
pub mod Soundness
-- ---- laws, and what calls answer
pub mod Unmentioned
pub mod Equality
-- ---- what private contracts cite
pub mod SortedClasses
pub mod Spine
pub mod Weights
