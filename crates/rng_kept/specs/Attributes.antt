-- What is left of a pattern behind an attribute, and where no attribute comes any more: ISO/IEC 19757-2, section 9.3.7.
use Rattle.std.specs.Prelude.{ℕ, List, Bool, true, ◌&&◌, ◌||◌, if◌then◌else◌}
use Rattle.nx_base.specs.declared.name.Name.{Name}
use Rattle.nx_base.specs.Characters.{is_blank}
use Rattle.rng_core.specs.Names.{has_attribute_name}
use Rattle.rng_core.specs.Patterns.{Pattern, not_allowed, empty, attribute, one_or_more, choice, group, interleave}
use Rattle.rng_kept.specs.SmallPatterns.{is_empty, choice_of, group_of, interleave_of, one_or_more_of, star}
use Rattle.rng_kept.specs.Nullable.{nullable}
use Rattle.rng_kept.specs.Strings.{after}

-- whether a value matches as one string, or, where it is blank, as nothing
abbrev pub value_fits : List ℕ → Pattern → Bool
value_fits v p = nullable (after v p) || (is_blank v && nullable p)

-- what is left of a repetition behind an attribute: it may stand in any of its parts
abbrev pub around : Pattern → Pattern → Pattern
around rest p = if is_empty rest then star p else group_of (star p) (group_of rest (star p))

-- behind an attribute of a name, by a test of the patterns of values
abbrev pub attribute_by : (Pattern → Bool) → Name → Pattern → Pattern
attribute_by fits n (attribute class p) = if has_attribute_name class n && fits p then empty else not_allowed
attribute_by fits n (one_or_more p) = around (attribute_by fits n p) p
attribute_by fits n (choice p q) = choice_of (attribute_by fits n p) (attribute_by fits n q)
attribute_by fits n (group p q) = choice_of (group_of (attribute_by fits n p) q) (group_of p (attribute_by fits n q))
attribute_by fits n (interleave p q) = choice_of (interleave_of (attribute_by fits n p) q) (interleave_of p (attribute_by fits n q))
attribute_by fits n _ = not_allowed

abbrev pub after_attribute : Name → List ℕ → Pattern → Pattern
after_attribute n v p = attribute_by (value_fits v) n p

-- behind an attribute, whatever its value: each part of what is left takes something, so that some value is taken
abbrev pub after_any_attribute : Name → Pattern → Pattern
after_any_attribute n p = attribute_by (λ q. true) n p

-- where no attribute comes any more
abbrev pub close : Pattern → Pattern
close (attribute class p) = not_allowed
close (one_or_more p) = one_or_more_of (close p)
close (choice p q) = choice_of (close p) (close q)
close (group p q) = group_of (close p) (close q)
close (interleave p q) = interleave_of (close p) (close q)
close p = p

-- where attributes that don't come are passed over
abbrev pub drop : Pattern → Pattern
drop (attribute class p) = empty
drop (one_or_more p) = one_or_more_of (drop p)
drop (choice p q) = choice_of (drop p) (drop q)
drop (group p q) = group_of (drop p) (drop q)
drop (interleave p q) = interleave_of (drop p) (drop q)
drop p = p
