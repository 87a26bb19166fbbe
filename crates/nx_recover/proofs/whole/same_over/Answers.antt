use Rattle.std.proofs.Common.{refl}
use Rattle.nx_recover.proofs.Stepping.{over_is, over_elements}
use Rattle.nx_recover.proofs.whole.same_over.Goals as goal

pub returns : goal.returns
returns g c =
    let f = g.M.Matcher.means c.args.matcher.now in
    let h = rw (c.as_slice.ensures.value, c.as_slice-2.ensures.value) at c.same_each.ensures in
    (λ t. over_is f c.args.a.now c.args.b.now (c.if-not-same.ensures.0 refl) (c.if-not-same_here.ensures.0 refl) (h.0 t), λ e. h.1 (over_elements f c.args.a.now c.args.b.now e))
