-- Patterns that are put together without what is plainly superfluous: notAllowed takes the whole with it or is left out, empty is
-- left out, a choice takes no side twice, and what is repeated isn't repeated again. What such a pattern matches is what the plain one does: ISO/IEC 19757-2, section 9.3.
use Rattle.std.specs.Prelude.{Bool, true, false, ◌&&◌, ◌||◌, if◌then◌else◌}
use Rattle.rng_core.specs.Equality.{same_pattern}
use Rattle.rng_core.specs.Patterns.{Pattern, not_allowed, empty, one_or_more, choice, group, interleave}

abbrev pub is_not_allowed : Pattern → Bool
is_not_allowed not_allowed = true
is_not_allowed _ = false

abbrev pub is_empty : Pattern → Bool
is_empty empty = true
is_empty _ = false

-- whether a pattern is a side of a choice, or the whole
abbrev pub is_side : Pattern → Pattern → Bool
is_side q (choice a b) = is_side q a || same_pattern q b
is_side q p = same_pattern q p

-- a choice with one side more, unless it is there
abbrev pub with_side : Pattern → Pattern → Pattern
with_side p q = if is_not_allowed p then q else (if is_not_allowed q then p else (if is_side q p then p else choice p q))

abbrev pub choice_of : Pattern → Pattern → Pattern
choice_of p (choice a b) = choice_of (choice_of p a) b
choice_of p q = with_side p q

abbrev pub group_of : Pattern → Pattern → Pattern
group_of p q =
    if is_not_allowed p || is_not_allowed q then not_allowed else (if is_empty p then q else (if is_empty q then p else group p q))

abbrev pub interleave_of : Pattern → Pattern → Pattern
interleave_of p q =
    if is_not_allowed p || is_not_allowed q then not_allowed else (if is_empty p then q else (if is_empty q then p else interleave p q))

abbrev pub one_or_more_of : Pattern → Pattern
one_or_more_of p = if is_not_allowed p then not_allowed else one_or_more p

-- whether a pattern is a repetition of some parts, and one of as many as one likes, or none
abbrev pub is_repeated : Pattern → Bool
is_repeated (one_or_more p) = true
is_repeated _ = false

abbrev pub is_star : Pattern → Bool
is_star (choice p q) = (is_repeated p && is_empty q) || (is_empty p && is_repeated q)
is_star _ = false

-- as many as one likes, or none; a repetition of such a repetition is that one
unfoldable pub star : Pattern → Pattern
star p = if is_star p then p else choice_of (one_or_more p) empty
