-- Lists in patterns. None stands in a list: ISO/IEC 19757-2, section 10.2.
use Rattle.std.specs.Prelude.{Bool, true, false, ◌&&◌}
use Rattle.rng_core.specs.Patterns.{Pattern, listed, attribute, one_or_more, choice, group, interleave}

-- whether the body of each list that stands in a pattern, but in no other list, passes a test
abbrev pub lists_are : (Pattern → Bool) → Pattern → Bool
lists_are test (listed p) = test p
lists_are test (attribute class p) = lists_are test p
lists_are test (one_or_more p) = lists_are test p
lists_are test (choice p q) = lists_are test p && lists_are test q
lists_are test (group p q) = lists_are test p && lists_are test q
lists_are test (interleave p q) = lists_are test p && lists_are test q
lists_are test _ = true

abbrev pub has_no_list : Pattern → Bool
has_no_list p = lists_are (λ q. false) p

-- no list stands in a list
abbrev pub has_flat_lists : Pattern → Bool
has_flat_lists p = lists_are has_no_list p
