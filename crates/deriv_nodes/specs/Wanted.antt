-- The openings that are asked for.
use Rattle.std.specs.Prelude.{ℕ, List, [], ◌∷◌, map, Bool, false, if◌then◌else◌, Option, Some, None, slice_get}
use Rattle.nx_base.specs.declared.name.Name.{Name}
use Rattle.rng_core.specs.Meaning.{definition_of}
use Rattle.rng_core.specs.Names.{has_name}
use Rattle.rng_core.specs.Patterns.{Pattern, Definition, empty, ref, one_or_more, choice, group, interleave}
use Rattle.rng_kept.specs.SmallPatterns.{star}
use Rattle.rng_kept.specs.Nullable.{nullable}
use Rattle.rng_kept.specs.Openings.{Opening, opening, joined, then_group, then_interleave, under_interleave, open_definition}
use Rattle.deriv_nodes.specs.declared.openings.Wanted.{Wanted}
use Rattle.deriv_nodes.specs.declared.openings.Wanted.TheVariants as wanted

-- there is a definition, and it has the name
abbrev pub has_at : Option Definition → Name → Bool
has_at None n = false
has_at (Some d) n = has_name d.class n

abbrev pub is_named : List Definition → Name → ℕ → Bool
is_named g n i = has_at (slice_get g i) n

-- what a reference opens
abbrev pub reference_opens : Wanted → ℕ → List Opening
reference_opens wanted.Any i = opening i empty ∷ []
reference_opens (wanted.Named defs name) i = open_definition (slice_get (map definition_of defs.now) i) name.now i

-- openings, where references open this
abbrev pub opens_by : (ℕ → List Opening) → Pattern → List Opening
opens_by f (ref i) = f i
opens_by f (one_or_more p) = map (then_group (star p)) (opens_by f p)
opens_by f (choice p q) = joined (opens_by f p) (opens_by f q)
opens_by f (group p q) = joined (map (then_group q) (opens_by f p)) (if nullable p then opens_by f q else [])
opens_by f (interleave p q) = joined (map (then_interleave q) (opens_by f p)) (map (under_interleave p) (opens_by f q))
opens_by f _ = []
