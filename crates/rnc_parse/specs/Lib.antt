-- ---- what a reader must believe: what a text says by the grammar of the compact syntax, and what `read` answers
pub mod Written
pub mod Views
pub mod Scopes
pub mod Annotations
pub mod Classes
pub mod Parts
pub mod Grammar
pub mod Files
pub mod Reads
pub mod Answering
-- ---- laws of reading
pub mod Texts
pub mod Laws
-- ---- what private contracts and proofs cite
pub mod Reading
pub mod ReadingAnnotations
pub mod ReadingParts
pub mod ReadingClasses
pub mod ReadingPatterns
pub mod ReadingFiles
pub mod Looking
pub mod LookingUp
pub mod AnsweringParts
