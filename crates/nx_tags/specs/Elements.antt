-- Elements as the tags of a text tell them.
use Rattle.std.specs.Prelude.{◌≡◌, ℕ, ◌<◌, false, List, [], ◌∷◌, ◌++◌, length}
use Rattle.std.specs.List.{list_any}
use Rattle.nx_base.specs.Tokens.{tokens_of}
use Rattle.nx_base.specs.declared.token.Token.{Token}
use Rattle.nx_base.specs.declared.token.TokenKind.{TokenKind}
use Rattle.nx_base.specs.declared.token.TokenKind.TheVariants as kinds
use Rattle.nx_events.specs.Declarations.{is_declaration}
use Rattle.nx_events.specs.OpenTags.{Leaves}
use Rattle.nx_events.specs.Tags.{start_name, end_name, tag_attributes}
use Rattle.nx_events.specs.declared.tag.Attribute.{Attribute}
use Rattle.nx_tags.specs.Free.{IsFree}
use Rattle.nx_tags.specs.Parts.{in_front}

-- neither a start tag nor an end tag
abbrev pub IsNoStartOrEnd : TokenKind → Type 0
IsNoStartOrEnd kinds.Start = ⊥
IsNoStartOrEnd kinds.End = ⊥
IsNoStartOrEnd _ = Unit {0}

-- tokens in which start tags and end tags nest, each end tag with the name of its start tag (XML 1.0, 3, Element Type Match)
pub data Nested : List Token → Type 0 where
  nothing : Nested []
  other : (token : Token) (others : List Token) → IsNoStartOrEnd token.kind → Nested others → Nested (token ∷ others)
  element : (start end : Token) (inner others : List Token) → start.kind ≡ kinds.Start → Nested inner → end.kind ≡ kinds.End →
      start_name start.bytes ≡ end_name end.bytes → Nested others → Nested (start ∷ (inner ++ end ∷ others))

-- the element of a start tag at a place: its content nests, and an end tag of its name closes it
pub record IsElementAt (text : List ℕ) (at : ℕ) (start end : Token) : Type 0 where
  pub before : List Token
  pub inner : List Token
  pub others : List Token
  pub tokens : tokens_of text ≡ before ++ start ∷ (inner ++ end ∷ others)
  pub from : start.from ≡ at
  pub start_kind : start.kind ≡ kinds.Start
  pub nested : Nested inner
  pub end_kind : end.kind ≡ kinds.End
  pub named : start_name start.bytes ≡ end_name end.bytes

-- an empty-element tag at a place
pub record IsEmptyAt (text : List ℕ) (at : ℕ) (tag : Token) : Type 0 where
  pub before : List Token
  pub others : List Token
  pub tokens : tokens_of text ≡ before ++ tag ∷ others
  pub from : tag.from ≡ at
  pub kind : tag.kind ≡ kinds.Empty

-- the innermost open element at a place can be split there: the place is free, another element is around, and the start tag has no declaration,
-- not even a faulty one
pub record MayBeSplit (text : List ℕ) (at : ℕ) : Type 0 where
  pub free : IsFree text at
  pub outer : List Token
  pub tag : Token
  pub run : List Token
  pub opened : Leaves (in_front text at) (outer ++ tag ∷ []) run
  pub around : 0 < length outer
  pub declares_nothing : list_any (λ (it : Attribute). is_declaration it.name) (tag_attributes tag.from tag.bytes) ≡ false
