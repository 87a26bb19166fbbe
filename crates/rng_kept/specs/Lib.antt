-- ---- what a reader must believe: events, moves, kept lists, and which residual stands for them
pub mod Events
pub mod Moves
pub mod KeptLists
pub mod Residuals
pub mod Standing
pub mod Lists
pub mod Clean
pub mod Apart
pub mod Live
pub mod Lively
pub mod Mentioned
-- ---- what is left of a pattern
pub mod SmallPatterns
pub mod Nullable
pub mod Strings
pub mod SolidStrings
pub mod Attributes
pub mod Openings
pub mod Skipping
-- ---- what is left of a residual: the answers of a matcher
pub mod Merging
pub mod Entering
pub mod Content
pub mod Tags
pub mod Required
pub mod Needed
-- ---- worked examples
pub mod Examples
