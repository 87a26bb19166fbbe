-- The leaves by which a pattern is filled.
use Rattle.std.specs.Prelude.{◌≡◌, ◌≤◌, ℕ, nat_le, List, [], ◌∷◌, ◌++◌, map, if◌then◌else◌}
use Rattle.std.specs.Borrow.{Bor}
use Rattle.std.specs.List.{sum_by}
use Rattle.rng_core.specs.declared.grammar.Pat.{Pat}
use Rattle.rng_core.specs.Meaning.{pattern_of}
use Rattle.rng_core.specs.Patterns.{Pattern, not_allowed, empty, any_text, typed, literal, listed, attribute, ref, one_or_more}
use Rattle.rng_core.specs.Patterns.{choice, group, interleave}
use Rattle.rng_cost.specs.Least.{least}

-- of a choice those of the side that costs less, of the first where both cost alike; of a repetition those of one part; of both sides of
-- a group or an interleave. Text and empty have none
abbrev pub leaves : List ℕ → Pattern → List Pattern
leaves costs not_allowed = not_allowed ∷ []
leaves costs empty = []
leaves costs any_text = []
leaves costs (typed type excepts) = typed type excepts ∷ []
leaves costs (literal type text) = literal type text ∷ []
leaves costs (listed p) = listed p ∷ []
leaves costs (attribute class p) = attribute class p ∷ []
leaves costs (ref i) = ref i ∷ []
leaves costs (one_or_more p) = leaves costs p
leaves costs (choice p q) = if nat_le (least costs p) (least costs q) then leaves costs p else leaves costs q
leaves costs (group p q) = leaves costs p ++ leaves costs q
leaves costs (interleave p q) = leaves costs p ++ leaves costs q

-- patterns that references lead to
abbrev pub patterns_of : List (Bor Pat) → List Pattern
patterns_of found = map (λ leaf. pattern_of leaf.now) found

-- the leaves of a pattern cost together what it does, where that isn't more than 10,000
abbrev pub LeavesCost : Type 0
LeavesCost = (costs : List ℕ) (p : Pattern) → least costs p ≤ 10000 → sum_by (least costs) (leaves costs p) ≡ least costs p
