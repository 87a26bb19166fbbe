-- ---- what a reader must believe: the lines of a script, and what each is
pub mod Lines
pub mod Grammar
pub mod QualifiedNames
pub mod Commands
-- ---- what a reply prints
pub mod Printing
pub mod FaultLines
pub mod Kinds
pub mod OfferLines
pub mod Causes
pub mod Escapes
pub mod Replies
-- ---- how a line is read, for private contracts
pub mod Reading
