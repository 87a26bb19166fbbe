-- What a type accepts, and which texts have the same value.
use Rattle.std.specs.Prelude.{◌≡◌, ℕ, Bool, true, List, IsTrue}
use Rattle.std.specs.List.{list_all}
use Rattle.nx_base.specs.Characters.{is_blank}
use Rattle.rng_more_types.specs.MoreTypes.{HaveSameValue}
use Rattle.rng_types.specs.Spaces.{collapsed, normalized}
use Rattle.rng_types.specs.Words.{whitespace_of, has_form, is_true}
use Rattle.rng_types.specs.Numbers.{number_of, SameNumber, has_few_digits as has_few_digits_of_number}
use Rattle.rng_types.specs.Facets.{meets}
use Rattle.rng_types.specs.declared.kind.Word.{Word}
use Rattle.rng_types.specs.declared.kind.Word.TheVariants.{Name, NcName, NmToken, Language, Boolean, Decimal, Integer}
use Rattle.rng_types.specs.declared.kind.Form.{Form}
use Rattle.rng_types.specs.declared.kind.Form.TheVariants.{Any, One, Several, More}
use Rattle.rng_types.specs.declared.datatype.Datatype.{Datatype}
use Rattle.rng_types.specs.declared.datatype.Except.{Except}
use Rattle.rng_types.specs.declared.datatype.Except.TheVariants.{Own, BuiltinString, BuiltinToken}

-- a text as the type sees it
abbrev pub seen_by : Datatype → List ℕ → List ℕ
seen_by type text = normalized (whitespace_of type.form) text

-- a text of the type: it has the form, and meets each facet
pub record Accepts (type : Datatype) (text : List ℕ) : Type 0 where
  pub form : IsTrue (has_form type.form (seen_by type text))
  pub facets : IsTrue (list_all (meets type.form (seen_by type text)) type.facets)

-- a literal of the form is one that a schema may write: a number has few digits, any other may have any length
abbrev pub has_few_digits : Form → List ℕ → Bool
has_few_digits (Any whitespace) text = true
has_few_digits (One Decimal) text = has_few_digits_of_number text
has_few_digits (One Integer) text = has_few_digits_of_number text
has_few_digits (One Name) text = true
has_few_digits (One NcName) text = true
has_few_digits (One NmToken) text = true
has_few_digits (One Language) text = true
has_few_digits (One Boolean) text = true
has_few_digits (Several word) text = true
has_few_digits (More more) text = true

-- two words of the form have the same value: the same truth value, number, or text
abbrev pub SameWord : Word → List ℕ → List ℕ → Type 0
SameWord Boolean a b = is_true a ≡ is_true b
SameWord Decimal a b = SameNumber (number_of a) (number_of b)
SameWord Integer a b = SameNumber (number_of a) (number_of b)
SameWord Name a b = a ≡ b
SameWord NcName a b = a ≡ b
SameWord NmToken a b = a ≡ b
SameWord Language a b = a ≡ b

-- and two texts of the form. Words are separated by one space, so that the same text is the same words
abbrev pub SameOfForm : Form → List ℕ → List ℕ → Type 0
SameOfForm (Any whitespace) a b = a ≡ b
SameOfForm (One word) a b = SameWord word a b
SameOfForm (Several word) a b = a ≡ b
SameOfForm (More more) a b = HaveSameValue more a b

-- two texts of the type have the same value
abbrev pub SameValue : Datatype → List ℕ → List ℕ → Type 0
SameValue type a b = SameOfForm type.form (seen_by type a) (seen_by type b)

-- an except takes the text away: each text of the same value, that text alone, or each that collapses to the same
abbrev pub TakesAway : Datatype → List ℕ → Except → Type 0
TakesAway type text (Own literal) = SameValue type text literal
TakesAway type text (BuiltinString literal) = text ≡ literal
TakesAway type text (BuiltinToken literal) = collapsed text ≡ collapsed literal

-- texts of the same value are both blank or both not
abbrev pub SameAreBlankAlike : Type 0
SameAreBlankAlike = (type : Datatype) (a b : List ℕ) → Accepts type a → Accepts type b → SameValue type a b → is_blank a ≡ is_blank b
