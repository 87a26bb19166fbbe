use Rattle.std.proofs.Common.{sym, ap, subst, ◌∙◌, ◌≡◌, Bool, IfOk, if◌then◌else◌}
use Rattle.rng_core.specs.Meaning.{pattern_of}
use Rattle.rng_core.specs.Patterns.{Pattern}
use Rattle.rng_kept.specs.SmallPatterns.{group_of, star}
use Rattle.deriv_pattern.proofs.attributes.around.Goals as goal

pub returns : goal.returns
returns c x h =
    let same = rw c.in_ok-rest.was at h in
    let filled = rw c.deref.ensures at c.is_empty.ensures in
    let filled = rw same at (sym filled ∙ c.if-is_empty.false) in
    let more = star (pattern_of c.args.p.now) in
    subst (λ (w : Pattern). IfOk c.in_order.result (λ left. pattern_of left.value ≡ w))
    (sym (ap (λ (b : Bool). if b then more else group_of more (group_of x more)) filled))
    (c.in_order.ensures _ _ c.starred-3.ensures (c.in_order-rest.ensures _ _ same c.starred-2.ensures))
