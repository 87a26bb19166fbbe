-- The schema that a document names itself, by an instruction `<?xml-model href="manual.rnc" type=".."?>` in front of its root (Associating
-- XML Documents with Schemas 1.0; how such an instruction is written: Associating Style Sheets with XML documents 1.0, section 3).
use Rattle.std.specs.Prelude.{ℕ, ◌-◌, Bool, true, false, not, ◌&&◌, ◌||◌, if◌then◌else◌, List, [], ◌∷◌, ◌++◌, length, take, drop, codes, Option, Some, None}
use Rattle.std.specs.List.{list_any}
use Rattle.std.specs.Str.{bytes_eq, is_utf8}
use Rattle.nx_base.specs.Tokens.{tokens_of}
use Rattle.nx_base.specs.declared.token.Token.{Token}
use Rattle.nx_base.specs.declared.token.TokenKind.{TokenKind}
use Rattle.nx_base.specs.declared.token.TokenKind.TheVariants as kinds
use Rattle.nx_events.specs.Items.{items_of_text}
use Rattle.nx_events.specs.Tags.{start_name}
use Rattle.nx_events.specs.declared.item.Item.{Item}
use Rattle.nx_locate.specs.Rules.{first_of}
use Rattle.nx_locate.specs.RulesRead.{is_fault, value_among}

-- ---- what the pseudo-attributes of an instruction say

-- the value is there, and this text
abbrev pub is_given : List ℕ → Option (List ℕ) → Bool
is_given text None = false
is_given text (Some value) = bytes_eq value text

-- by their types the schema is one of RELAX NG: of the compact syntax by its media type, of the XML syntax by its namespace
abbrev pub is_relax_ng : Option (List ℕ) → Option (List ℕ) → Bool
is_relax_ng media_type schema_types =
    is_given (codes "application/relax-ng-compact-syntax") media_type
    || (is_given (codes "application/xml") media_type && is_given (codes "http://relaxng.org/ns/structure/1.0") schema_types)

-- its name ends as those of such schemas do
abbrev pub is_named_so : List ℕ → Bool
is_named_so href =
    bytes_eq (drop (length href - 4) href) (codes ".rnc") || bytes_eq (drop (length href - 4) href) (codes ".rng")

-- the reference to the schema, where it is one of RELAX NG by its types or its name
abbrev pub reference : Option (List ℕ) → Bool → Option (List ℕ)
reference None typed = None
reference (Some href) typed = if typed || is_named_so href then Some href else None

-- what these attributes of an instruction refer to
unfoldable pub schema_among : List Item → Option (List ℕ)
schema_among attributes =
    reference (value_among (codes "href") attributes)
    (is_relax_ng (value_among (codes "type") attributes) (value_among (codes "schematypens") attributes))

-- ---- the instruction

-- the empty tag that has the content of an instruction: `<?xml-model href="a"?>` comes to `<xml-model href="a"/>`. The attributes of
-- the tag are the pseudo-attributes of the instruction, which are written as attributes are
unfoldable pub as_tag : List ℕ → List ℕ
as_tag bytes = codes "<" ++ take (length bytes - 4) (drop 2 bytes) ++ codes "/>"

-- read as a document of its own, the tag has no fault
unfoldable pub is_faultless : List ℕ → Bool
is_faultless tag = is_utf8 tag && not (list_any is_fault (items_of_text tag))

-- what a tag without fault refers to by its attributes; behind the beginning of its element they come first
unfoldable pub schema_in : List ℕ → Option (List ℕ)
schema_in tag = if is_faultless tag then schema_among (drop 1 (items_of_text tag)) else None

-- the token is an instruction whose target is `xml-model`
abbrev pub is_instruction : TokenKind → Bool
is_instruction kinds.Bom = false
is_instruction kinds.Text = false
is_instruction kinds.Start = false
is_instruction kinds.Empty = false
is_instruction kinds.End = false
is_instruction kinds.Comment = false
is_instruction kinds.Pi = true
is_instruction kinds.Cdata = false
is_instruction kinds.Doctype = false
is_instruction kinds.Decl = false
is_instruction kinds.Bad = false
is_instruction kinds.Unclosed = false

unfoldable pub is_model : Token → Bool
is_model token = is_instruction token.kind && bytes_eq (start_name (drop 1 token.bytes)) (codes "xml-model")

-- the schema that a token names
unfoldable pub named_by : Token → Option (List ℕ)
named_by token = if is_model token then schema_in (as_tag token.bytes) else None

-- ---- the document

-- the token is a tag, so the root begins with it, or should have begun
abbrev pub is_tag : TokenKind → Bool
is_tag kinds.Bom = false
is_tag kinds.Text = false
is_tag kinds.Start = true
is_tag kinds.Empty = true
is_tag kinds.End = true
is_tag kinds.Comment = false
is_tag kinds.Pi = false
is_tag kinds.Cdata = false
is_tag kinds.Doctype = false
is_tag kinds.Decl = false
is_tag kinds.Bad = false
is_tag kinds.Unclosed = false

-- the first schema that a token in front of the first tag names
unfoldable pub first_named : List Token → Option (List ℕ)
first_named [] = None
first_named (token ∷ others) = if is_tag token.kind then None else first_of (named_by token) (first_named others)

-- the reference to the schema that a document names
abbrev pub named_schema : List ℕ → Option (List ℕ)
named_schema text = first_named (tokens_of text)
