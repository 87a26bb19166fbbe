-- What a type accepts, which texts have the same value, and what excepts take away, as answers.
use Rattle.std.specs.Prelude.{ℕ, Bool, ◌^◌, ◌&&◌, not, List, IsTrue, ◌↔◌}
use Rattle.std.specs.List.{list_all, AllByRecursion}
use Rattle.std.specs.Ordering.{int_eq}
use Rattle.std.specs.Str.{bytes_eq}
use Rattle.std.specs.Bool.{beq}
use Rattle.rng_more_types.specs.MoreTypes.{is_same}
use Rattle.rng_types.specs.Spaces.{collapsed}
use Rattle.rng_types.specs.Words.{has_form, is_true}
use Rattle.rng_types.specs.Numbers.{Number, number_of, times}
use Rattle.rng_types.specs.Facets.{meets}
use Rattle.rng_types.specs.Types.{seen_by, Accepts, SameValue, TakesAway}
use Rattle.rng_types.specs.declared.kind.Word.{Word}
use Rattle.rng_types.specs.declared.kind.Word.TheVariants.{Name, NcName, NmToken, Language, Boolean, Decimal, Integer}
use Rattle.rng_types.specs.declared.kind.Form.{Form}
use Rattle.rng_types.specs.declared.kind.Form.TheVariants.{Any, One, Several, More}
use Rattle.rng_types.specs.declared.datatype.Datatype.{Datatype}
use Rattle.rng_types.specs.declared.datatype.Except.{Except}
use Rattle.rng_types.specs.declared.datatype.Except.TheVariants.{Own, BuiltinString, BuiltinToken}

abbrev pub is_accepted : Datatype → List ℕ → Bool
is_accepted type text = has_form type.form (seen_by type text) && list_all (meets type.form (seen_by type text)) type.facets

abbrev pub is_same_number : Number → Number → Bool
is_same_number x y = int_eq (times x (10 ^ y.places)) (times y (10 ^ x.places))

abbrev pub is_same_word : Word → List ℕ → List ℕ → Bool
is_same_word Boolean a b = beq (is_true a) (is_true b)
is_same_word Decimal a b = is_same_number (number_of a) (number_of b)
is_same_word Integer a b = is_same_number (number_of a) (number_of b)
is_same_word Name a b = bytes_eq a b
is_same_word NcName a b = bytes_eq a b
is_same_word NmToken a b = bytes_eq a b
is_same_word Language a b = bytes_eq a b

abbrev pub is_same_of_form : Form → List ℕ → List ℕ → Bool
is_same_of_form (Any whitespace) a b = bytes_eq a b
is_same_of_form (One word) a b = is_same_word word a b
is_same_of_form (Several word) a b = bytes_eq a b
is_same_of_form (More more) a b = is_same more a b

abbrev pub is_same_value : Datatype → List ℕ → List ℕ → Bool
is_same_value type a b = is_same_of_form type.form (seen_by type a) (seen_by type b)

abbrev pub is_taken_away : Datatype → List ℕ → Except → Bool
is_taken_away type text (Own literal) = is_same_value type text literal
is_taken_away type text (BuiltinString literal) = bytes_eq text literal
is_taken_away type text (BuiltinToken literal) = bytes_eq (collapsed text) (collapsed literal)

-- no except takes the text away
abbrev pub is_left : Datatype → List Except → List ℕ → Bool
is_left type excepts text = list_all (λ except. not (is_taken_away type text except)) excepts

-- the answers decide the facts
abbrev pub AcceptsIsDecided : Type 0
AcceptsIsDecided = (type : Datatype) (text : List ℕ) → IsTrue (is_accepted type text) ↔ Accepts type text

abbrev pub SameValueIsDecided : Type 0
SameValueIsDecided = (type : Datatype) (a b : List ℕ) → IsTrue (is_same_value type a b) ↔ SameValue type a b

abbrev pub TakesAwayIsDecided : Type 0
TakesAwayIsDecided =
    (type : Datatype) (text : List ℕ) (except : Except) → IsTrue (is_taken_away type text except) ↔ TakesAway type text except

abbrev pub LeftIsDecided : Type 0
LeftIsDecided = (type : Datatype) (text : List ℕ) (excepts : List Except) →
    IsTrue (is_left type excepts text) ↔ AllByRecursion (λ except. TakesAway type text except → ⊥) excepts
