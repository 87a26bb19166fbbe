-- Whether two types, or two excepts, are the same, as answers.
use Rattle.std.specs.Prelude.{◌≡◌, ℕ, Bool, true, false, ◌&&◌, ◌==◌, List, [], ◌∷◌, IsTrue, ◌↔◌}
use Rattle.std.specs.Str.{bytes_eq}
use Rattle.rng_more_types.specs.declared.more_type.MoreType.{MoreType}
use Rattle.rng_more_types.specs.declared.more_type.MoreType.TheVariants.{Date, Time, DateTime, GYear, GYearMonth, HexBinary, Base64Binary}
use Rattle.rng_types.specs.declared.kind.Whitespace.{Whitespace}
use Rattle.rng_types.specs.declared.kind.Whitespace.TheVariants.{Preserve, Replace, Collapse}
use Rattle.rng_types.specs.declared.kind.Word.{Word}
use Rattle.rng_types.specs.declared.kind.Word.TheVariants.{Name, NcName, NmToken, Language, Boolean, Decimal, Integer}
use Rattle.rng_types.specs.declared.kind.Form.{Form}
use Rattle.rng_types.specs.declared.kind.Form.TheVariants.{Any, One, Several, More}
use Rattle.rng_types.specs.declared.facet.Relation.{Relation}
use Rattle.rng_types.specs.declared.facet.Relation.TheVariants.{Exactly, AtLeast, AtMost, Above, Below}
use Rattle.rng_types.specs.declared.facet.Facet.{Facet}
use Rattle.rng_types.specs.declared.facet.Facet.TheVariants.{Length, Bound}
use Rattle.rng_types.specs.declared.datatype.Datatype.{Datatype}
use Rattle.rng_types.specs.declared.datatype.Except.{Except}
use Rattle.rng_types.specs.declared.datatype.Except.TheVariants.{Own, BuiltinString, BuiltinToken}

-- a number for each treatment of white space, each form of a word, each further type, and each relation
abbrev pub whitespace_number : Whitespace → ℕ
whitespace_number Preserve = 0
whitespace_number Replace = 1
whitespace_number Collapse = 2

abbrev pub word_number : Word → ℕ
word_number Name = 0
word_number NcName = 1
word_number NmToken = 2
word_number Language = 3
word_number Boolean = 4
word_number Decimal = 5
word_number Integer = 6

abbrev pub more_type_number : MoreType → ℕ
more_type_number Date = 0
more_type_number Time = 1
more_type_number DateTime = 2
more_type_number GYear = 3
more_type_number GYearMonth = 4
more_type_number HexBinary = 5
more_type_number Base64Binary = 6

abbrev pub relation_number : Relation → ℕ
relation_number Exactly = 0
relation_number AtLeast = 1
relation_number AtMost = 2
relation_number Above = 3
relation_number Below = 4

abbrev pub same_form : Form → Form → Bool
same_form (Any a) (Any b) = (whitespace_number a == whitespace_number b)
same_form (One a) (One b) = (word_number a == word_number b)
same_form (Several a) (Several b) = (word_number a == word_number b)
same_form (More a) (More b) = (more_type_number a == more_type_number b)
same_form a b = false

abbrev pub same_facet : Facet → Facet → Bool
same_facet (Length r m) (Length s n) = (relation_number r == relation_number s) && (m == n)
same_facet (Bound r a) (Bound s b) = (relation_number r == relation_number s) && bytes_eq a b
same_facet a b = false

abbrev pub same_facets : List Facet → List Facet → Bool
same_facets [] [] = true
same_facets (a ∷ more) (b ∷ others) = same_facet a b && same_facets more others
same_facets more others = false

abbrev pub same_datatype : Datatype → Datatype → Bool
same_datatype a b = same_form a.form b.form && same_facets a.facets b.facets

abbrev pub same_except : Except → Except → Bool
same_except (Own a) (Own b) = bytes_eq a b
same_except (BuiltinString a) (BuiltinString b) = bytes_eq a b
same_except (BuiltinToken a) (BuiltinToken b) = bytes_eq a b
same_except a b = false

abbrev pub same_excepts : List Except → List Except → Bool
same_excepts [] [] = true
same_excepts (a ∷ more) (b ∷ others) = same_except a b && same_excepts more others
same_excepts more others = false

-- the answers are right
abbrev pub EqualityIsDecided : Type 0
EqualityIsDecided =
    ((a b : Datatype) → IsTrue (same_datatype a b) ↔ (a ≡ b))
    × ((a b : List Except) → IsTrue (same_excepts a b) ↔ (a ≡ b))
