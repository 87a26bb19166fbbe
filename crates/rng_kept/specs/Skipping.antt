-- What is left of a pattern behind children that are left out. Each part of a residual matches something, so that what stands in
-- front can always be left out.
use Rattle.std.specs.Prelude.{List, [], map, slice_get}
use Rattle.nx_base.specs.declared.name.Name.{Name}
use Rattle.rng_core.specs.Patterns.{Pattern, Definition, not_allowed, empty, any_text, typed, literal, listed, attribute, ref}
use Rattle.rng_core.specs.Patterns.{one_or_more, choice, group, interleave}
use Rattle.rng_kept.specs.SmallPatterns.{choice_of, group_of, interleave_of, star}
use Rattle.rng_kept.specs.Openings.{Opening, joined, then_group, then_interleave, under_interleave, open_definition}

-- the ends of what is matched: of one child it is there or left out
abbrev pub ending : Pattern → Pattern
ending not_allowed = not_allowed
ending empty = empty
ending any_text = any_text
ending (typed type excepts) = choice (typed type excepts) empty
ending (literal type text) = choice (literal type text) empty
ending (listed p) = choice (listed p) empty
ending (attribute class p) = not_allowed
ending (ref i) = choice (ref i) empty
ending (one_or_more p) = group_of (ending p) (star p)
ending (choice p q) = choice_of (ending p) (ending q)
ending (group p q) = choice_of (group_of (ending p) q) (ending q)
ending (interleave p q) = interleave_of (ending p) (ending q)

-- what an element's name opens, behind any children that are left out
abbrev pub skip_opens : List Definition → Name → Pattern → List Opening
skip_opens g n (ref i) = open_definition (slice_get g i) n i
skip_opens g n (one_or_more p) = map (then_group (star p)) (skip_opens g n p)
skip_opens g n (choice p q) = joined (skip_opens g n p) (skip_opens g n q)
skip_opens g n (group p q) = joined (map (then_group q) (skip_opens g n p)) (skip_opens g n q)
skip_opens g n (interleave p q) =
    joined (map (then_interleave (ending q)) (skip_opens g n p)) (map (under_interleave (ending p)) (skip_opens g n q))
skip_opens g n _ = []
