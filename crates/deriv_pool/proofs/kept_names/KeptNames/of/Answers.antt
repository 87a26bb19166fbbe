use Rattle.std.proofs.Common.{ℕ, List, Option, sym, subst}
use Rattle.nx_base.specs.declared.name.Name.{Name}
use Rattle.deriv_pool.specs.declared.kept_names.NeededThere.{NeededThere}
use Rattle.deriv_pool.specs.Kept.{AreKept, IsKept}
use Rattle.deriv_pool.proofs.Kept.{kept_at}
use Rattle.deriv_pool.proofs.kept_names.KeptNames.of.Goals as goal

pub returns-then-is_skip : goal.returns-then-is_skip
returns-then-is_skip c = λ g nodes are.
    let first = c.in_ok-first.first.now in
    let P : List NeededThere → Type 0 = λ es. AreKept g nodes es in
    let Q : NeededThere → Type 0 = λ x. IsKept g nodes x.node x.skip x.names in
    let R : ℕ → Type 0 = λ p. IsKept g nodes p first.skip first.names in
    let S : Option Name → Type 0 = λ skip. IsKept g nodes c.args.p skip first.names in
    let there = kept_at g nodes c.as_slice.result.now c.place_of.result first (subst P (sym c.as_slice.ensures.value) are) c.in_ok-first.ensures.lookup.3.0 in
    subst S (c.is_skip.ensures c.if-is_skip.true) (subst R c.if-first-p.false (subst Q (sym c.in_ok-first.ensures.lookup.1) there))
