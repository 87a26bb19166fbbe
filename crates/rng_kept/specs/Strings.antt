-- What is left of a pattern behind a string: ISO/IEC 19757-2, sections 9.3.1 to 9.3.10, told from the front.
use Rattle.std.specs.Prelude.{ℕ, List, [], ◌∷◌, Bool, false, ◌&&◌, if◌then◌else◌}
use Rattle.rng_types.specs.Spaces.{words}
use Rattle.rng_types.specs.declared.datatype.Datatype.{Datatype}
use Rattle.rng_types.specs.declared.datatype.Except.{Except}
use Rattle.rng_core.specs.Patterns.{Pattern, not_allowed, empty, any_text, typed, literal, listed, one_or_more, choice, group, interleave}
use Rattle.rng_types.specs.Answers.{is_accepted, is_same_value}
use Rattle.rng_types.specs.Answers.{is_left}
use Rattle.rng_kept.specs.SmallPatterns.{choice_of, group_of, interleave_of, star}
use Rattle.rng_kept.specs.Nullable.{nullable}

-- which leaves take a string: types without their excepts, values, and lists by their bodies
pub record Tests : Type 0 where
  pub of_data : Datatype → List Except → Bool
  pub of_value : Datatype → List ℕ → Bool
  pub of_list : Pattern → Bool

-- behind a string, by the leaves that take it
abbrev pub after_by : Tests → Pattern → Pattern
after_by tests any_text = any_text
after_by tests (typed type excepts) = if tests.of_data type excepts then empty else not_allowed
after_by tests (literal type wanted) = if tests.of_value type wanted then empty else not_allowed
after_by tests (listed p) = if tests.of_list p then empty else not_allowed
after_by tests (one_or_more p) = group_of (after_by tests p) (star p)
after_by tests (choice p q) = choice_of (after_by tests p) (after_by tests q)
after_by tests (group p q) = choice_of (group_of (after_by tests p) q) (if nullable p then after_by tests q else not_allowed)
after_by tests (interleave p q) = choice_of (interleave_of (after_by tests p) q) (interleave_of p (after_by tests q))
after_by tests _ = not_allowed

-- a text of a type without its excepts, and one of a literal's value
abbrev pub is_data : Datatype → List Except → List ℕ → Bool
is_data type excepts text = is_accepted type text && is_left type excepts text

abbrev pub is_value : Datatype → List ℕ → List ℕ → Bool
is_value type wanted text = is_accepted type text && is_same_value type text wanted

-- behind a word of a list, in which no list stands
abbrev pub word_tests : List ℕ → Tests
word_tests t = record {
  of_data = λ type excepts. is_data type excepts t;
  of_value = λ type wanted. is_value type wanted t;
  of_list = λ p. false;
}

abbrev pub after_word : List ℕ → Pattern → Pattern
after_word t p = after_by (word_tests t) p

abbrev pub after_words : List (List ℕ) → Pattern → Pattern
after_words [] p = p
after_words (w ∷ ws) p = after_words ws (after_word w p)

-- behind a string that stands in no list
abbrev pub string_tests : List ℕ → Tests
string_tests t = record {
  of_data = λ type excepts. is_data type excepts t;
  of_value = λ type wanted. is_value type wanted t;
  of_list = λ p. nullable (after_words (words t) p);
}

abbrev pub after : List ℕ → Pattern → Pattern
after t p = after_by (string_tests t) p
