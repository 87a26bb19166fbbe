-- What is kept for names.
use Rattle.std.specs.Prelude.{◌≡◌, ℕ, List, Option, Some, if◌then◌else◌}
use Rattle.std.specs.BTreeMap.{get_by}
use Rattle.std.specs.Cmp.Lexicographic.{slice_cmp}
use Rattle.std.specs.Ordering.{nat_cmp}
use Rattle.rnc_parse.specs.declared.surface.Defined.{Defined}
use Rattle.rnc_parse.specs.declared.surface.Defined.TheVariants as defined
use Rattle.rng_simplify.specs.declared.names.Names.{Names}
use Rattle.rng_simplify.specs.Composed.{same_defined}

-- what is kept for the name of a reference
abbrev pub kept_named : {T : Type 0} → Names T → List ℕ → Option T
kept_named names name = get_by (λ k. slice_cmp nat_cmp name k.items) names.names

-- and for what is defined
abbrev pub kept_for : {T : Type 0} → Names T → Defined → Option T
kept_for names defined.Start = names.start
kept_for names (defined.Name name) = kept_named names name

-- the name has this, and all others have what they had
abbrev pub KeepsOne : {T : Type 0} → Names T → Defined → T → Names T → Type 0
KeepsOne old name value new = (other : Defined) → kept_for new other ≡ (if same_defined other name then Some value else kept_for old other)
