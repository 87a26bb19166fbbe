-- What reading finds of name classes. The program's own functions; no public contract rests on them.
use Rattle.std.specs.Prelude.{ℕ, zero, suc, Bool, true, false, ◌&&◌, if◌then◌else◌, List, Option, Some}
use Rattle.rnc_lex.specs.declared.token.Lexeme.{Lexeme}
use Rattle.rnc_lex.specs.declared.token.Lexeme.TheVariants.{Identifier, PrefixedName, NamespaceWildcard, Keyword as word, Symbol as mark}
use Rattle.rnc_lex.specs.declared.token.Symbol.TheVariants.{LeftParenthesis, RightParenthesis, Bar, Star, Minus}
use Rattle.rnc_lex.specs.Words.{keyword_text}
use Rattle.rnc_parse.specs.declared.surface.Namespace.{Namespace}
use Rattle.rnc_parse.specs.Scopes.{Scope}
use Rattle.rnc_parse.specs.Written.{WrittenClass, every_name, names_in, the_name, either, without}
use Rattle.rnc_parse.specs.Reading.{Reading, read, no_reading, ◌>>=◌, first, behind, stands, behind_symbol, loop_at}
use Rattle.rnc_parse.specs.ReadingAnnotations.{opening_at, follow_at}
use Rattle.rnc_parse.specs.ReadingParts.{namespace_at}

-- all names, or those of a prefix's namespace
abbrev pub wildcard_by : Scope → Option Lexeme → List Lexeme → Reading WrittenClass
wildcard_by scope (Some (NamespaceWildcard prefix)) rest = namespace_at scope prefix rest >>= λ ns behind. read (names_in ns) behind
wildcard_by scope (Some (mark Star)) rest = read every_name rest
wildcard_by scope _ rest = no_reading

unfoldable pub wildcard_at : Scope → List Lexeme → Reading WrittenClass
wildcard_at scope tokens = wildcard_by scope (first tokens) (behind tokens)

abbrev pub is_wildcard : Option Lexeme → Bool
is_wildcard (Some (NamespaceWildcard prefix)) = true
is_wildcard (Some (mark Star)) = true
is_wildcard _ = false

-- a class with something to leave out
abbrev pub begins_except : List Lexeme → Bool
begins_except tokens = is_wildcard (first tokens) && stands Minus (behind tokens)

-- a name with no prefix is in the namespace `unprefixed`; what stands in parentheses, `inside` finds
module _ (scope : Scope) (unprefixed : Namespace) (inside : List Lexeme → Reading WrittenClass) where
  abbrev pub parenthesized_at : List Lexeme → Reading WrittenClass
  parenthesized_at tokens = inside tokens >>= λ class closed. behind_symbol RightParenthesis closed >>= λ _ rest. read class rest

  abbrev pub one_class_by : List Lexeme → Option Lexeme → Reading WrittenClass
  one_class_by tokens (Some (Identifier name)) = read (the_name unprefixed name) (behind tokens)
  one_class_by tokens (Some (word keyword)) = read (the_name unprefixed (keyword_text keyword)) (behind tokens)
  one_class_by tokens (Some (PrefixedName prefix local)) =
      namespace_at scope prefix (behind tokens) >>= λ ns rest. read (the_name ns local) rest
  one_class_by tokens (Some (mark LeftParenthesis)) = parenthesized_at (behind tokens)
  one_class_by tokens _ = wildcard_at scope tokens

  unfoldable pub one_class_at : List Lexeme → Reading WrittenClass
  one_class_at tokens = one_class_by tokens (first tokens)

  unfoldable pub annotated_class_at : List Lexeme → Reading WrittenClass
  annotated_class_at tokens =
      opening_at tokens >>= λ _ opened.
      one_class_at opened >>= λ class followed.
      follow_at followed >>= λ _ rest.
      read class rest

  unfoldable pub except_class_at : List Lexeme → Reading WrittenClass
  except_class_at tokens =
      wildcard_at scope tokens >>= λ class less.
      annotated_class_at (behind less) >>= λ except rest.
      read (without class except) rest

  -- the classes behind the first, with `|` before each
  unfoldable pub more_classes_at : WrittenClass → List Lexeme → Reading WrittenClass
  more_classes_at class tokens = loop_at (stands Bar) (λ more. annotated_class_at (behind more)) either class tokens

  unfoldable pub several_classes_at : List Lexeme → Reading WrittenClass
  several_classes_at tokens =
      one_class_at tokens >>= λ class followed.
      follow_at followed >>= λ _ rest.
      more_classes_at class rest

  unfoldable pub class_within : List Lexeme → Reading WrittenClass
  class_within tokens = opening_at tokens >>= λ _ opened. if begins_except opened then except_class_at opened else several_classes_at opened

-- what stands in parentheses, where so many brackets may still be opened
unfoldable pub class_inside : Scope → Namespace → ℕ → List Lexeme → Reading WrittenClass
class_inside scope unprefixed zero tokens = no_reading
class_inside scope unprefixed (suc left) tokens = class_within scope unprefixed (class_inside scope unprefixed left) tokens

unfoldable pub class_at : Scope → Namespace → ℕ → List Lexeme → Reading WrittenClass
class_at scope unprefixed left tokens = class_within scope unprefixed (class_inside scope unprefixed left) tokens
