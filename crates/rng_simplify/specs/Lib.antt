-- What a reader must believe: what a simplified schema is. `simplify` answers what stands in Simplified.
pub mod Simplified
-- The files that a file refers to, and all of them in one piece.
pub mod References
pub mod Classes
pub mod Composed
pub mod ComposedFiles
-- The simple form of a schema in one piece, and of what it is made.
pub mod Places
pub mod Forms
pub mod Simple
pub mod Whole
pub mod Datatypes
-- Why files define no grammar.
pub mod Broken
-- The laws of these definitions.
pub mod Unambiguous
pub mod Exact
pub mod Unnumbered
-- What the parts of the code do, for the proof. Files are loaded:
pub mod KeptMentions
pub mod LoadedFiles
pub mod FileChains
-- They are composed of numbered nodes, cells to a contract:
pub mod Cells
pub mod CellTexts
pub mod CellMeanings
pub mod Rows
pub mod MadeCells
pub mod SuppliedPieces
pub mod Composition
pub mod Refusals
-- References are resolved, and name classes judged:
pub mod NodePlaces
pub mod NameTables
pub mod Findings
pub mod ResolvedNodes
pub mod JudgedClasses
pub mod GoodClasses
-- Nodes are ordered, and get their forms by shapes:
pub mod NodeWalks
pub mod Shown
pub mod NodeForms
pub mod Limits
-- Types are known, and the grammar is spelled out:
pub mod NodeTypes
pub mod SpelledShapes
pub mod Grammars
