use Rattle.std.proofs.Common.{ℕ, List, sym, subst}
use Rattle.deriv_nodes.specs.declared.kept_openings.OpenedNode.{OpenedNode}
use Rattle.deriv_nodes.specs.declared.openings.Open.{Open}
use Rattle.deriv_nodes.specs.Kept.{AreKept, IsKept}
use Rattle.deriv_nodes.proofs.Kept.{kept_at}
use Rattle.deriv_nodes.proofs.kept_openings.KeptOpenings.of.Goals as goal

pub returns-then-first-p : goal.returns-then-first-p
returns-then-first-p c = λ nodes are.
    let first = c.in_ok-first.first.now in
    let P : List OpenedNode → Type 0 = λ fs. AreKept nodes fs in
    let Q : OpenedNode → Type 0 = λ x. IsKept nodes x.node x.opened.items in
    let R : ℕ → Type 0 = λ p. IsKept nodes p first.opened.items in
    let S : List Open → Type 0 = λ os. IsKept nodes c.args.p os in
    subst S (sym c.as_slice-then-first-p.ensures.value) (subst R c.if-first-p.true (subst Q (sym c.in_ok-first.ensures.lookup.1)
    (kept_at nodes c.as_slice.result.now c.place_of.result first (subst P (sym c.as_slice.ensures.value) are) c.in_ok-first.ensures.lookup.3.0)))
