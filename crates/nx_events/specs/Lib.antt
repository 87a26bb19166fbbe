-- ---- what a reader must believe
-- one token: characters, strings, references, markup, names, tags, declarations
pub mod Choices
pub mod Utf8
pub mod References
pub mod Strings
pub mod Faults
pub mod CharacterFaults
pub mod Markup
pub mod XmlDeclaration
pub mod Names
pub mod Tags
pub mod Scopes
pub mod Declarations
pub mod Elements
-- tokens one after another: runs, items and the state between them, and the machine that they make
pub mod Runs
pub mod Items
pub mod Among
pub mod InForce
pub mod BareRules
-- the same in the standards' grammars
pub mod Words
pub mod DeclarationForm
pub mod ReferenceForm
pub mod StringsRead
pub mod Spelling
pub mod SpelledTags
pub mod MarkupForm
pub mod QualifiedNames
-- tags as far as they are written
pub mod OpenItems
pub mod Prefixes
-- laws
pub mod OpenTags
pub mod TextRuns
pub mod Balance
pub mod TreeEvents
pub mod Texts
pub mod Spans
pub mod Moves
-- ---- what private contracts cite, and those that nx_recover alone calls
pub mod Plain
pub mod PlainNames
pub mod ByteClasses
pub mod PlainTags
pub mod PlainTokens
pub mod PlainAttributes
pub mod NameBytes
pub mod SeenNames
pub mod Places
pub mod TagPlaces
-- ---- proofs of the laws that the machine hands on, which have to stand here
pub mod ItemsLie
pub mod ItemsMove
pub mod RunsGrow
pub mod BareLaws
