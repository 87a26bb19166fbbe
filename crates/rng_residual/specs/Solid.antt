-- The leaves of a sound grammar that take a string that isn't blank.
use Rattle.std.specs.Prelude.{◌≡◌, ℕ, List, [], true, false, IsTrue}
use Rattle.std.specs.Str.{is_utf8}
use Rattle.nx_base.specs.Characters.{is_blank}
use Rattle.nx_base.specs.Trees.{nil, string}
use Rattle.rng_types.specs.declared.datatype.Datatype.{Datatype}
use Rattle.rng_types.specs.declared.datatype.Except.{Except}
use Rattle.rng_core.specs.Patterns.{Pattern, Definition, typed, literal, listed}
use Rattle.rng_core.specs.Soundness.{IsSoundPattern}
use Rattle.rng_core.specs.Matching.{Matches}
use Rattle.rng_kept.specs.Lists.{has_no_list, has_flat_lists}
use Rattle.rng_kept.specs.Strings.{Tests}
use Rattle.rng_kept.specs.SolidStrings.{solid_tests}
use Rattle.rng_kept.specs.Clean.{TakesString}

-- a leaf of a sound grammar, whose lists hold no lists
pub record IsSoundLeaf (p : Pattern) : Type 0 where
  pub count : ℕ
  pub sound : IsSoundPattern count p
  pub flat : has_flat_lists p ≡ true

-- of some leaves tests pass each that takes the string
pub record TestsIn (g : List Definition) (C : Pattern → Type 0) (tests : Tests) (t : List ℕ) : Type 0 where
  pub data_in : (type : Datatype) (excepts : List Except) → C (typed type excepts)
      → Matches g (typed type excepts) [] (string t nil) → tests.of_data type excepts ≡ true
  pub value_in : (type : Datatype) (wanted : List ℕ) → C (literal type wanted)
      → Matches g (literal type wanted) [] (string t nil) → tests.of_value type wanted ≡ true
  pub list_in : (p : Pattern) → C (listed p) → Matches g (listed p) [] (string t nil) → tests.of_list p ≡ true

-- each leaf that takes a text that isn't blank passes
pub record PassSolid (g : List Definition) : Type 0 where
  pub passes : (t : List ℕ) → IsTrue (is_utf8 t) → is_blank t ≡ false → TestsIn g IsSoundLeaf solid_tests t

-- and each that passes takes such a string of characters that XML allows
pub record PassNoBlank (g : List Definition) : Type 0 where
  pub data_out : (count : ℕ) (type : Datatype) (excepts : List Except) → IsSoundPattern count (typed type excepts)
      → solid_tests.of_data type excepts ≡ true → TakesString g false (typed type excepts)
  pub value_out : (count : ℕ) (type : Datatype) (text : List ℕ) → IsSoundPattern count (literal type text)
      → solid_tests.of_value type text ≡ true → is_blank text ≡ false
  pub list_out : (count : ℕ) (p : Pattern) → IsSoundPattern count p → has_no_list p ≡ true
      → solid_tests.of_list p ≡ true → TakesString g false (listed p)

pub record TestsSolid (g : List Definition) : Type 0 where
  pub all : PassSolid g
  pub none_else : PassNoBlank g

abbrev pub TestsAreSolid : Type 0
TestsAreSolid = (g : List Definition) → TestsSolid g
