-- The definitions that have a name, from a number on.
use Rattle.std.specs.Prelude.{◌≡◌, ℕ, ◌+◌, ◌≤◌, ◌<◌, List, [], ◌∷◌, map, length, if◌then◌else◌}
use Rattle.std.proofs.Common.{zero, suc, get_or, drop, refl, sym, ap, ◌∙◌, arith}
use Rattle.nx_base.specs.declared.name.Name.{Name}
use Rattle.rng_core.specs.declared.grammar.Def.{Def}
use Rattle.rng_core.specs.Meaning.{definition_of}
use Rattle.rng_core.specs.Names.{has_name}
use Rattle.rng_core.specs.Patterns.{Pattern, Definition, not_allowed, ref}
use Rattle.rng_kept.specs.SmallPatterns.{choice_of}
use Rattle.rng_kept.specs.Standing.{known_from}

from_place : (defs : List Def) (i : ℕ) (d : Def) → i < length defs → d ≡ get_or defs i d →
    drop i (map definition_of defs) ≡ definition_of d ∷ drop (suc i) (map definition_of defs)
from_place [] i d inside at = absurd (omega arith)
from_place (e ∷ defs) zero d inside at = ap (λ x. definition_of x ∷ map definition_of defs) (sym at)
from_place (e ∷ defs) (suc i) d inside at = from_place defs i d (omega arith) at

-- one definition more, before those that are known
pub one_known : (defs : List Def) (name : Name) (i next : ℕ) (d : Def) → next ≡ i + 1 → i < length defs → d ≡ get_or defs i d →
    known_from (drop i (map definition_of defs)) name i
    ≡ (if has_name ((definition_of d).class) name then choice_of (ref i) (known_from (drop next (map definition_of defs)) name next)
    else known_from (drop next (map definition_of defs)) name next)
one_known defs name i next d is inside at =
    let K : ℕ → ℕ → Pattern = λ j k. known_from (drop j (map definition_of defs)) name k in
    let more : suc i ≡ next = omega arith in
    let behind : i + 1 ≡ next = omega arith in
    ap (λ ds. known_from ds name i) (from_place defs i d inside at)
    ∙ (ap (λ k. if has_name ((definition_of d).class) name then choice_of (ref i) (K (suc i) k) else K (suc i) k) behind
    ∙ ap (λ j. if has_name ((definition_of d).class) name then choice_of (ref i) (K j next) else K j next) more)

no_more : (defs : List Def) (i : ℕ) → length defs ≤ i → drop i (map definition_of defs) ≡ []
no_more [] zero all = refl
no_more [] (suc i) all = refl
no_more (d ∷ defs) zero all = absurd (omega arith)
no_more (d ∷ defs) (suc i) all = no_more defs i (omega arith)

-- none is left behind the last one
pub none_behind : (defs : List Def) (name : Name) (i : ℕ) → length defs ≤ i → known_from (drop i (map definition_of defs)) name i ≡ not_allowed
none_behind defs name i all = ap (λ ds. known_from ds name i) (no_more defs i all)
