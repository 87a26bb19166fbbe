-- Strings that aren't blank: which leaves of a pattern take one, and what is left behind one, whichever it is.
use Rattle.std.specs.Prelude.{[], ◌∷◌, Bool, true, false, not, ◌&&◌, ◌||◌, is_some, if◌then◌else◌}
use Rattle.nx_base.specs.Characters.{is_blank}
use Rattle.rng_types.specs.declared.datatype.Except.TheVariants.{BuiltinToken}
use Rattle.rng_core.specs.Patterns.{Pattern, not_allowed, any_text, typed, literal, listed, one_or_more, choice, group, interleave}
use Rattle.rng_types.specs.Answers.{is_accepted}
use Rattle.rng_types.specs.MemberTest.{has_member}
use Rattle.rng_types.specs.OneToken.{one_token_of}
use Rattle.rng_kept.specs.SmallPatterns.{choice_of, group_of, interleave_of, one_or_more_of}
use Rattle.rng_kept.specs.Nullable.{nullable}
use Rattle.rng_kept.specs.Strings.{Tests, after_by}

-- whether the body of a list matches some words, one at least: each leaf by a text of one token
abbrev pub has_words : Pattern → Bool
has_words any_text = true
has_words (typed type excepts) = has_member type excepts true
has_words (literal type wanted) = is_some (one_token_of type wanted)
has_words (one_or_more p) = has_words p
has_words (choice p q) = has_words p || has_words q
has_words (group p q) = (has_words p && (has_words q || nullable q)) || (nullable p && has_words q)
has_words (interleave p q) = (has_words p && (has_words q || nullable q)) || (nullable p && has_words q)
has_words _ = false

-- a type by its members that don't collapse to nothing. All texts of one value are blank or none is, so a value goes by its own text
abbrev pub solid_tests : Tests
solid_tests = record {
  of_data = λ type excepts. has_member type (BuiltinToken [] ∷ excepts) false;
  of_value = λ type wanted. not (is_blank wanted && is_accepted type wanted);
  of_list = λ p. has_words p;
}

-- behind some string that isn't blank
abbrev pub after_solid : Pattern → Pattern
after_solid p = after_by solid_tests p

-- without the leaves that take no strings but blank ones
abbrev pub loosen : Pattern → Pattern
loosen (typed type excepts) = if solid_tests.of_data type excepts then typed type excepts else not_allowed
loosen (literal type wanted) = if solid_tests.of_value type wanted then literal type wanted else not_allowed
loosen (listed p) = if solid_tests.of_list p then listed p else not_allowed
loosen (one_or_more p) = one_or_more_of (loosen p)
loosen (choice p q) = choice_of (loosen p) (loosen q)
loosen (group p q) = group_of (loosen p) (loosen q)
loosen (interleave p q) = interleave_of (loosen p) (loosen q)
loosen p = p
