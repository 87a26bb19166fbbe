-- what is found so far, and what is left to be found, is all that is found
use Rattle.std.proofs.Common.{◌≡◌, ◌++◌, drop}
use Rattle.rnc_parse.specs.Views.{items_in, replacements_in}
use Rattle.rng_simplify.specs.KeptMentions.{kept_of_all, mentions_of_each}
use Rattle.rng_simplify.specs.References.{mentions_of_items, mentions_anew}
use Rattle.rng_simplify.proofs.mention.+mentions.Given as goal

abbrev pub invariant-add_patterns-loop-pattern : goal.invariant-add_patterns-loop-pattern
invariant-add_patterns-loop-pattern l =
    l.found.items ++ kept_of_all l.inherited (mentions_of_each (drop l.pattern-index l.patterns)) ≡ l.fn.found.items ++ kept_of_all
    l.inherited (mentions_of_each l.patterns)

abbrev pub invariant-add_items-loop-item : goal.invariant-add_items-loop-item
invariant-add_items-loop-item l =
    l.found.items ++ kept_of_all l.inherited (mentions_of_items (items_in (drop l.item-index l.items))) ≡ l.fn.found.items ++ kept_of_all
    l.inherited (mentions_of_items (items_in l.items))

abbrev pub invariant-add_replacements-loop-replacement : goal.invariant-add_replacements-loop-replacement
invariant-add_replacements-loop-replacement l =
    l.found.items ++ kept_of_all l.inherited (mentions_anew (replacements_in (drop l.replacement-index l.replacements))) ≡
    l.fn.found.items ++ kept_of_all l.inherited (mentions_anew (replacements_in l.replacements))
