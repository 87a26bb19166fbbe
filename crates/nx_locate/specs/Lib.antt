-- ---- what a reader must believe: what `locate` answers, and that on which it stands
pub mod Patterns
pub mod Rules
pub mod RulesFiles
pub mod DocumentElements
pub mod Leading
pub mod Locates
pub mod Unambiguous
-- ---- the schema that a document names itself: what `named_schema` answers, and `is_fault` and `value_among` of RulesRead
pub mod NamedSchemas
-- ---- what private contracts and proofs cite
pub mod Answering
pub mod ElementsFound
pub mod Loading
pub mod Making
pub mod RulesRead
pub mod Running
pub mod Walking
