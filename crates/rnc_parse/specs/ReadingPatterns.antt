-- What reading finds of patterns and items. The program's own functions; no public contract rests on them.
use Rattle.std.specs.Prelude.{ℕ, zero, suc, Bool, ◌&&◌, if◌then◌else◌, List, [], codes, map, Option, Some, None}
use Rattle.rnc_lex.specs.declared.token.Lexeme.{Lexeme}
use Rattle.rnc_lex.specs.declared.token.Lexeme.TheVariants.{Identifier, Literal, Keyword as word, Symbol as mark}
use Rattle.rnc_lex.specs.declared.token.Symbol.{Symbol}
use Rattle.rnc_lex.specs.declared.token.Symbol.TheVariants.{LeftBrace, RightBrace, LeftParenthesis, RightParenthesis, LeftBracket, Equals}
use Rattle.rnc_lex.specs.declared.token.Symbol.TheVariants.{BarEquals, AmpersandEquals, Comma, Bar, Ampersand, QuestionMark, Star, Plus}
use Rattle.rnc_lex.specs.declared.token.Symbol.TheVariants.{Minus}
use Rattle.rnc_lex.specs.declared.token.Keyword.{Keyword}
use Rattle.rnc_lex.specs.declared.token.Keyword.TheVariants as keyword
use Rattle.rnc_parse.specs.declared.surface.Namespace.{Namespace}
use Rattle.rnc_parse.specs.declared.surface.Namespace.TheVariants.{Uri}
use Rattle.rnc_parse.specs.declared.surface.Defined.{Defined}
use Rattle.rnc_parse.specs.declared.surface.Defined.TheVariants as defined
use Rattle.rnc_parse.specs.declared.surface.Combine.{Combine}
use Rattle.rnc_parse.specs.declared.surface.Combine.TheVariants as combine
use Rattle.rnc_parse.specs.declared.sign.Sign.{Sign}
use Rattle.rnc_parse.specs.declared.sign.Sign.TheVariants as sign
use Rattle.rnc_parse.specs.declared.sign.Repeat.{Repeat}
use Rattle.rnc_parse.specs.declared.sign.Repeat.TheVariants as repeat
use Rattle.rnc_parse.specs.Scopes.{Scope}
use Rattle.rnc_parse.specs.Parts.{built_in}
use Rattle.rnc_parse.specs.Written.{WrittenClass, WrittenPattern, element, attribute, list, mixed, ref, parent_ref, empty, any_text}
use Rattle.rnc_parse.specs.Written.{not_allowed, value, typed, typed_but, external, grammar, optional, zero_or_more, one_or_more, choice}
use Rattle.rnc_parse.specs.Written.{group, interleave, WrittenItem, define, div, include, WrittenItems, no_items, item_then, items_and}
use Rattle.rnc_parse.specs.Written.{WrittenReplacement, define_anew, div_anew, WrittenReplacements, no_replacements, replacement_then}
use Rattle.rnc_parse.specs.Written.{replacements_and, joined_or}
use Rattle.rnc_parse.specs.declared.surface.Pattern.{Pattern}
use Rattle.rnc_parse.specs.Views.{pattern_of}
use Rattle.rnc_parse.specs.Reading.{Reading, read, no_reading, ◌>>=◌, first, behind, stands, behind_symbol, loop_at}
use Rattle.rnc_parse.specs.ReadingAnnotations.{is_element_name, group_at, opening_at, follow_at}
use Rattle.rnc_parse.specs.ReadingParts.{literal_at, identifier_at, type_at, begins_data, is_literal, params_at, reference_at, goes_on}
use Rattle.rnc_parse.specs.ReadingClasses.{class_at}

-- ---- signs

abbrev pub sign_of : Option Lexeme → Option Sign
sign_of (Some (mark Comma)) = Some sign.Group
sign_of (Some (mark Bar)) = Some sign.Choice
sign_of (Some (mark Ampersand)) = Some sign.Interleave
sign_of _ = None

-- what a sign makes of two patterns
abbrev pub joins : Sign → WrittenPattern → WrittenPattern → WrittenPattern
joins sign.Group = group
joins sign.Choice = choice
joins sign.Interleave = interleave

-- and of none
abbrev pub none_of : Sign → WrittenPattern
none_of sign.Group = empty
none_of sign.Choice = not_allowed
none_of sign.Interleave = empty

-- and of all patterns of a list
abbrev pub joined_all : Sign → List Pattern → WrittenPattern
joined_all sign particles = joined_or (joins sign) (none_of sign) (map pattern_of particles)

abbrev pub sign_symbol : Sign → Symbol
sign_symbol sign.Group = Comma
sign_symbol sign.Choice = Bar
sign_symbol sign.Interleave = Ampersand

abbrev pub repeat_of : Option Lexeme → Option Repeat
repeat_of (Some (mark QuestionMark)) = Some repeat.Optional
repeat_of (Some (mark Star)) = Some repeat.ZeroOrMore
repeat_of (Some (mark Plus)) = Some repeat.OneOrMore
repeat_of _ = None

abbrev pub repeats : Repeat → WrittenPattern → WrittenPattern
repeats repeat.Optional = optional
repeats repeat.ZeroOrMore = zero_or_more
repeats repeat.OneOrMore = one_or_more

abbrev pub defined_of : Option Lexeme → List Lexeme → Reading Defined
defined_of (Some (word keyword.Start)) rest = read defined.Start rest
defined_of (Some (Identifier name)) rest = read (defined.Name name) rest
defined_of _ rest = no_reading

abbrev pub combine_of : Option Lexeme → List Lexeme → Reading Combine
combine_of (Some (mark Equals)) rest = read combine.Alone rest
combine_of (Some (mark BarEquals)) rest = read combine.Choice rest
combine_of (Some (mark AmpersandEquals)) rest = read combine.Interleave rest
combine_of _ rest = no_reading

-- ---- items

-- a name with a group behind it
abbrev pub begins_annotation : List Lexeme → Bool
begins_annotation tokens = is_element_name (first tokens) && stands LeftBracket (behind tokens)

-- one more item; an annotation adds none
abbrev pub add_item : WrittenItems → Option WrittenItem → WrittenItems
add_item items (Some item) = items_and items (item_then item no_items)
add_item items None = items

abbrev pub add_replacement : WrittenReplacements → Option WrittenReplacement → WrittenReplacements
add_replacement replacements (Some one) = replacements_and replacements (replacement_then one no_replacements)
add_replacement replacements None = replacements

-- ---- what stands in brackets

-- what reading finds there
pub record Inside : Type 0 where
  pub pattern : List Lexeme → Reading WrittenPattern
  pub items : List Lexeme → Reading WrittenItems
  pub replacements : List Lexeme → Reading WrittenReplacements

-- something between two brackets
abbrev pub between : {A : Type 0} → Symbol → Symbol → (List Lexeme → Reading A) → List Lexeme → Reading A
between opening closing inside tokens =
    behind_symbol opening tokens >>= λ _ opened.
    inside opened >>= λ found closed.
    behind_symbol closing closed >>= λ _ rest.
    read found rest

-- ---- primaries with no pattern in them

unfoldable pub typed_at : Scope → List Lexeme → Reading WrittenPattern
typed_at scope tokens =
    type_at scope tokens >>= λ type said.
    if is_literal (first said)
    then (literal_at said >>= λ text rest. read (value type text) rest)
    else (params_at said >>= λ params rest. read (typed type params) rest)

-- where the first token is a keyword
abbrev pub leaf_by_word : Scope → List Lexeme → Keyword → Reading WrittenPattern
leaf_by_word scope tokens keyword.Empty = read empty (behind tokens)
leaf_by_word scope tokens keyword.Text = read any_text (behind tokens)
leaf_by_word scope tokens keyword.NotAllowed = read not_allowed (behind tokens)
leaf_by_word scope tokens keyword.Parent = identifier_at (behind tokens) >>= λ name rest. read (parent_ref name) rest
leaf_by_word scope tokens keyword.External = reference_at scope (behind tokens) >>= λ file rest. read (external file) rest
leaf_by_word scope tokens _ = typed_at scope tokens

abbrev pub leaf_by : Scope → List Lexeme → Option Lexeme → Reading WrittenPattern
leaf_by scope tokens (Some (Identifier name)) = read (ref name) (behind tokens)
leaf_by scope tokens (Some (Literal text)) = literal_at tokens >>= λ text rest. read (value (built_in (codes "token")) text) rest
leaf_by scope tokens (Some (word said)) = leaf_by_word scope tokens said
leaf_by scope tokens _ = typed_at scope tokens

unfoldable pub leaf_at : Scope → List Lexeme → Reading WrittenPattern
leaf_at scope tokens = leaf_by scope tokens (first tokens)

-- what follows a primary, and the mark behind it
abbrev pub marked_by : WrittenPattern → List Lexeme → Option Repeat → Reading WrittenPattern
marked_by p tokens (Some repeat) = follow_at (behind tokens) >>= λ _ rest. read (repeats repeat p) rest
marked_by p tokens None = read p tokens

unfoldable pub marked_at : WrittenPattern → List Lexeme → Reading WrittenPattern
marked_at p tokens = follow_at tokens >>= λ _ rest. marked_by p rest (repeat_of (first rest))

module _ (scope : Scope) (left : ℕ) (inside : Inside) where
  -- ---- patterns

  -- an element or attribute behind its word
  abbrev pub named_at : Namespace → (WrittenClass → WrittenPattern → WrittenPattern) → List Lexeme → Reading WrittenPattern
  named_at unprefixed make tokens =
      class_at scope unprefixed left tokens >>= λ class braced.
      between LeftBrace RightBrace inside.pattern braced >>= λ p rest.
      read (make class p) rest

  abbrev pub primary_by : List Lexeme → Option Lexeme → Reading WrittenPattern
  primary_by tokens (Some (word keyword.Element)) = named_at scope.unprefixed element (behind tokens)
  primary_by tokens (Some (word keyword.Attribute)) = named_at (Uri []) attribute (behind tokens)
  primary_by tokens (Some (word keyword.List)) =
      between LeftBrace RightBrace inside.pattern (behind tokens) >>= λ p rest. read (list p) rest
  primary_by tokens (Some (word keyword.Mixed)) =
      between LeftBrace RightBrace inside.pattern (behind tokens) >>= λ p rest. read (mixed p) rest
  primary_by tokens (Some (word keyword.Grammar)) =
      between LeftBrace RightBrace inside.items (behind tokens) >>= λ items rest. read (grammar items) rest
  primary_by tokens (Some (mark LeftParenthesis)) = between LeftParenthesis RightParenthesis inside.pattern tokens
  primary_by tokens _ = leaf_at scope tokens

  unfoldable pub primary_at : List Lexeme → Reading WrittenPattern
  primary_at tokens = primary_by tokens (first tokens)

  -- a primary with a group before it
  unfoldable pub opened_primary_at : List Lexeme → Reading WrittenPattern
  opened_primary_at tokens = opening_at tokens >>= λ _ opened. primary_at opened

  unfoldable pub particle_at : List Lexeme → Reading WrittenPattern
  particle_at tokens = opened_primary_at tokens >>= λ p rest. marked_at p rest

  -- the particles behind the first, with the sign before each
  abbrev pub joined_by : WrittenPattern → List Lexeme → Option Sign → Reading WrittenPattern
  joined_by p tokens None = read p tokens
  joined_by p tokens (Some sign) = loop_at (stands (sign_symbol sign)) (λ more. particle_at (behind more)) (joins sign) p tokens

  -- a pattern behind its first primary
  unfoldable pub behind_primary_at : WrittenPattern → List Lexeme → Reading WrittenPattern
  behind_primary_at p tokens = marked_at p tokens >>= λ q rest. joined_by q rest (sign_of (first rest))

  -- a pattern that begins with a type and no literal
  unfoldable pub data_at : List Lexeme → Reading WrittenPattern
  data_at tokens =
      type_at scope tokens >>= λ type said.
      params_at said >>= λ params rest.
      if stands Minus rest
      then (opened_primary_at (behind rest) >>= λ p followed. follow_at followed >>= λ _ end. read (typed_but type params p) end)
      else behind_primary_at (typed type params) rest

  unfoldable pub pattern_within : List Lexeme → Reading WrittenPattern
  pattern_within tokens =
      opening_at tokens >>= λ _ opened.
      if begins_data opened then data_at opened
      else (primary_at opened >>= λ p rest. behind_primary_at p rest)

  -- ---- items

  -- what a definition defines, how, and as what
  unfoldable pub definition_at : List Lexeme → Reading (Defined × Combine × WrittenPattern)
  definition_at tokens =
      defined_of (first tokens) (behind tokens) >>= λ name sign.
      combine_of (first sign) (behind sign) >>= λ combine said.
      pattern_within said >>= λ p rest.
      read (name, combine, p) rest

  -- the file that an include names, and what stands in its braces
  unfoldable pub include_at : List Lexeme → Reading WrittenItem
  include_at tokens =
      reference_at scope tokens >>= λ file rest.
      if stands LeftBrace rest
      then (between LeftBrace RightBrace inside.replacements rest >>= λ replacements end. read (include file replacements) end)
      else read (include file no_replacements) rest

  -- an item; none where it is an annotation
  abbrev pub item_by : List Lexeme → Option Lexeme → Reading (Option WrittenItem)
  item_by tokens (Some (word keyword.Div)) =
      between LeftBrace RightBrace inside.items (behind tokens) >>= λ items rest. read (Some (div items)) rest
  item_by tokens (Some (word keyword.Include)) = include_at (behind tokens) >>= λ item rest. read (Some item) rest
  item_by tokens _ = definition_at tokens >>= λ d rest. read (Some (define d.0 d.1 d.2)) rest

  unfoldable pub item_at : List Lexeme → Reading (Option WrittenItem)
  item_at tokens =
      opening_at tokens >>= λ _ opened.
      if begins_annotation opened then (group_at (behind opened) >>= λ _ rest. read None rest)
      else item_by opened (first opened)

  unfoldable pub items_within : List Lexeme → Reading WrittenItems
  items_within tokens = loop_at goes_on item_at add_item no_items tokens

  abbrev pub replacement_by : List Lexeme → Option Lexeme → Reading (Option WrittenReplacement)
  replacement_by tokens (Some (word keyword.Div)) =
      between LeftBrace RightBrace inside.replacements (behind tokens) >>= λ replacements rest. read (Some (div_anew replacements)) rest
  replacement_by tokens _ = definition_at tokens >>= λ d rest. read (Some (define_anew d.0 d.1 d.2)) rest

  unfoldable pub replacement_at : List Lexeme → Reading (Option WrittenReplacement)
  replacement_at tokens =
      opening_at tokens >>= λ _ opened.
      if begins_annotation opened then (group_at (behind opened) >>= λ _ rest. read None rest)
      else replacement_by opened (first opened)

  unfoldable pub replacements_within : List Lexeme → Reading WrittenReplacements
  replacements_within tokens = loop_at goes_on replacement_at add_replacement no_replacements tokens

-- what stands in brackets, where so many may still be opened
unfoldable pub inside_at : Scope → ℕ → Inside
inside_at scope zero = record { pattern = λ tokens. no_reading; items = λ tokens. no_reading; replacements = λ tokens. no_reading }
inside_at scope (suc left) = record {
  pattern = pattern_within scope left (inside_at scope left);
  items = items_within scope left (inside_at scope left);
  replacements = replacements_within scope left (inside_at scope left);
}

-- the same outside of all brackets
unfoldable pub pattern_at : Scope → ℕ → List Lexeme → Reading WrittenPattern
pattern_at scope left tokens = pattern_within scope left (inside_at scope left) tokens

unfoldable pub items_at : Scope → ℕ → List Lexeme → Reading WrittenItems
items_at scope left tokens = items_within scope left (inside_at scope left) tokens
