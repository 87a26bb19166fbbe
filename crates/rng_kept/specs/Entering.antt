-- What is left of a residual behind an element's name, and behind children that are left out and an element's name.
use Rattle.std.specs.Prelude.{ℕ, List, [], ◌∷◌, ◌++◌, map, Bool, false, ◌||◌, ◌==◌, if◌then◌else◌, Option, Some, None, slice_get}
use Rattle.nx_base.specs.declared.name.Name.{Name}
use Rattle.rng_core.specs.Patterns.{Pattern, Definition, not_allowed}
use Rattle.rng_kept.specs.SmallPatterns.{choice_of}
use Rattle.rng_kept.specs.Openings.{Opening, opens}
use Rattle.rng_kept.specs.Skipping.{skip_opens}
use Rattle.rng_kept.specs.Residuals.{Outer, document, inside, one_of, Way, among, in_tag, Residual}
use Rattle.rng_kept.specs.Merging.{with_ways, stepped}

abbrev pub content_in : Option Definition → Pattern
content_in None = not_allowed
content_in (Some d) = d.content

abbrev pub content_of : List Definition → ℕ → Pattern
content_of g i = content_in (slice_get g i)

-- what is left by the opening of a number, if there is one
abbrev pub rest_at : ℕ → List Opening → Pattern
rest_at i [] = not_allowed
rest_at i (o ∷ os) = if i == o.number then choice_of o.rest (rest_at i os) else rest_at i os

-- those of the second that have a number of none of the first
abbrev pub has_number : ℕ → List Opening → Bool
has_number i [] = false
has_number i (o ∷ os) = i == o.number || has_number i os

abbrev pub tag_at_top : List Definition → Opening → Way
tag_at_top g o = in_tag (content_of g o.number) (document o.rest)

abbrev pub tag_of_both : List Definition → List Opening → Outer → Opening → Way
tag_of_both g loose outer o = in_tag (content_of g o.number) (inside o.rest (rest_at o.number loose) false outer)

abbrev pub tag_of_loose : List Definition → Outer → Opening → Way
tag_of_loose g outer o = in_tag (content_of g o.number) (inside not_allowed o.rest false outer)

-- each definition that the name opens gives one way, whether the children are seen as they stand or without blanks
abbrev pub others : List Opening → List Opening → List Opening
others strict [] = []
others strict (o ∷ os) = if has_number o.number strict then others strict os else o ∷ others strict os

abbrev pub enter_outer : List Definition → Name → Outer → Residual
enter_outer g n (document p) = map (tag_at_top g) (opens g n p)
enter_outer g n (inside b l v o) =
    let strict = opens g n b in
    let loose = opens g n l in
    map (tag_of_both g loose o) strict ++ map (tag_of_loose g o) (others strict loose)
enter_outer g n (one_of o u) = with_ways (enter_outer g n o) (enter_outer g n u)

abbrev pub enter_way : List Definition → Name → Way → Residual
enter_way g n (among o) = enter_outer g n o
enter_way g n (in_tag p o) = []

abbrev pub enter : List Definition → Name → Residual → Residual
enter g n x = stepped (enter_way g n) [] x

-- ---- behind children that are left out

abbrev pub skip_outer : List Definition → Name → Outer → Residual
skip_outer g n (document p) = map (tag_at_top g) (skip_opens g n p)
skip_outer g n (inside b l v o) =
    let strict = skip_opens g n b in
    let loose = skip_opens g n l in
    map (tag_of_both g loose o) strict ++ map (tag_of_loose g o) (others strict loose)
skip_outer g n (one_of o u) = with_ways (skip_outer g n o) (skip_outer g n u)

abbrev pub skip_way : List Definition → Name → Way → Residual
skip_way g n (among o) = skip_outer g n o
skip_way g n (in_tag p o) = []

abbrev pub enter_skip : List Definition → Name → Residual → Residual
enter_skip g n x = stepped (skip_way g n) [] x
