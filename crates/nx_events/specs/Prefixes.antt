-- The text of a tag up to a place inside of it (XML 1.0, 3.1 [40] to [42]): what is being written there, and what the tag says so
-- far.
use Rattle.std.specs.Prelude.{◌≡◌, ℕ, ◌-◌, ◌<◌, true, ◌==◌, if◌then◌else◌, List, [], ◌∷◌, ◌++◌, length, slice_get, Option, Some}
use Rattle.std.specs.Prelude.{None, codes}
use Rattle.std.specs.List.{AllByRecursion}
use Rattle.std.specs.Option.{option_map_or}
use Rattle.std.specs.Str.{IsUtf8, chars}
use Rattle.nx_base.specs.Characters.{is_name_char}
use Rattle.nx_base.specs.declared.name.Name.{Name}
use Rattle.nx_base.specs.declared.token.Token.{Token}
use Rattle.nx_base.specs.declared.token.TokenKind.TheVariants as kinds
use Rattle.nx_events.specs.Tags.{tag_attributes}
use Rattle.nx_events.specs.Spelling.{Written, AreSpaces, IsWritten, middle, spelled_tag}
use Rattle.nx_events.specs.SpelledTags.{IsName, HasNoLess}
use Rattle.nx_events.specs.Items.{own_bindings}
use Rattle.nx_events.specs.OpenItems.{open_items, kept_names, new_name}
use Rattle.nx_events.specs.declared.item.Item.{Item}
use Rattle.nx_events.specs.declared.prefix.TagPrefix.{TagPrefix}
use Rattle.nx_events.specs.declared.prefix.TagPrefix.TheVariants.{ElementName, EndName, AttributeName, AttributeValue, Elsewhere}
use Rattle.nx_events.specs.declared.state.EventState.{EventState}
use Rattle.nx_events.specs.declared.state.OpenElement.{OpenElement}
use Rattle.nx_events.specs.declared.state.Run.{Run}

-- ---- what is written

-- NameChars, or nothing (2.3 [4a])
pub record AreNameChars (bytes : List ℕ) : Type 0 where
  pub utf8 : IsUtf8 bytes
  pub each : AllByRecursion (λ (c : ℕ). is_name_char c ≡ true) (chars bytes)

-- an attribute: a Name, S*, `=`, S*, and a value in quotes, or a part of it, that holds neither its quote nor `<` (2.3 [10], [41])
pub record IsAttribute (it : Written) : Type 0 where
  pub written : IsWritten it
  pub is_name : IsName it.name
  pub no_less : HasNoLess it

-- with white space before it
abbrev pub IsSpaced : Written → Type 0
IsSpaced it = IsAttribute it × (0 < length it.space)

-- a start tag up to where an attribute may begin: `<`, a Name, attributes, S+
pub record IsOpenTag (tag : List ℕ) : Type 0 where
  pub name : List ℕ
  pub attributes : List Written
  pub space : List ℕ
  pub is_name : IsName name
  pub are_attributes : AllByRecursion IsSpaced attributes
  pub are_spaces : AreSpaces space
  pub some_space : 0 < length space
  pub spelled : tag ≡ spelled_tag name attributes space

-- an element's name: `<`, and NameChars or nothing
pub record IsElementName (bytes : List ℕ) : Type 0 where
  pub begun : List ℕ
  pub are_chars : AreNameChars begun
  pub spelled : bytes ≡ codes "<" ++ begun

-- the name of an end tag: `</`, and NameChars or nothing
pub record IsEndName (bytes : List ℕ) : Type 0 where
  pub begun : List ℕ
  pub are_chars : AreNameChars begun
  pub spelled : bytes ≡ codes "</" ++ begun

-- an attribute's name behind an open tag: NameChars or nothing
pub record IsAttributeName (tag bytes : List ℕ) : Type 0 where
  pub begun : List ℕ
  pub is_open : IsOpenTag tag
  pub are_chars : AreNameChars begun
  pub spelled : bytes ≡ tag ++ begun

-- the value of an attribute of this name behind an open tag: up to a part of its value
pub record IsAttributeValue (tag name bytes : List ℕ) : Type 0 where
  pub begun : Written
  pub is_open : IsOpenTag tag
  pub is_attribute : IsAttribute begun
  pub named : begun.name ≡ name
  pub spelled : bytes ≡ tag ++ ((begun.name ++ middle begun) ++ begun.quote ∷ begun.value)

-- none of these
pub record IsElsewhere (bytes : List ℕ) : Type 0 where
  pub no_element : ¬ IsElementName bytes
  pub no_end : ¬ IsEndName bytes
  pub no_attribute : (tag : List ℕ) → ¬ IsAttributeName tag bytes
  pub no_value : (tag name : List ℕ) → ¬ IsAttributeValue tag name bytes

-- ---- what it says

-- the string of a run, if there is a run and its string isn't empty
abbrev pub run_string : Option Run → Option (List ℕ)
run_string None = None
run_string (Some run) = if length run.string == 0 then None else Some run.string

-- the written name of the innermost open element, and nothing where none is open
abbrev pub innermost_name : List OpenElement → List ℕ
innermost_name elements =
    option_map_or (λ (element : OpenElement). element.written) (slice_get elements (length elements - 1)) []

-- an open tag as a start tag of its own, whose places are counted from its first byte
abbrev pub as_token : List ℕ → Token
as_token tag = record { kind = kinds.Start; from = 0; bytes = tag }

-- its items: what a start tag of these bytes gives, without the run before it and its end. Its own declarations alone are in force
abbrev pub items_so_far : EventState → List ℕ → List Item
items_so_far state tag = open_items [] state (as_token tag)

-- the name of an attribute behind it; none where it is a declaration, isn't resolved, or came before
abbrev pub name_behind : EventState → List ℕ → List ℕ → Option Name
name_behind state tag written =
    let scope = state.scope ++ own_bindings (as_token tag) in
    new_name scope (kept_names scope [] (tag_attributes 0 tag)) written

-- which case it is, and what is told of it
abbrev pub IsPrefix : EventState → List ℕ → TagPrefix → Type 0
IsPrefix state bytes ElementName = IsElementName bytes
IsPrefix state bytes (EndName written) = IsEndName bytes × (written ≡ innermost_name state.elements)
IsPrefix state bytes (AttributeName items) = (tag : List ℕ) × IsAttributeName tag bytes × (items ≡ items_so_far state tag)
IsPrefix state bytes (AttributeValue items name) = (tag written : List ℕ) × IsAttributeValue tag written bytes
    × (items ≡ items_so_far state tag) × (name ≡ name_behind state tag written)
IsPrefix state bytes Elsewhere = IsElsewhere bytes

-- of each text that begins with `<` exactly one is told
abbrev pub PrefixesAreTold : Type 0
PrefixesAreTold = (state : EventState) (bytes : List ℕ) → IsUtf8 (codes "<" ++ bytes) →
    (prefix : TagPrefix) × IsPrefix state (codes "<" ++ bytes) prefix
    × ((other : TagPrefix) → IsPrefix state (codes "<" ++ bytes) other → other ≡ prefix)
