use Rattle.std.proofs.Common.{◌≡◌, ℕ, ◌+◌, ◌-◌, ap, subst, sym, ◌∙◌, arith}
use Rattle.nx_marks.specs.Chain.{Kept, frontier_of, reach}
use Rattle.nx_marks.specs.Walking.{DropsBetween, cut_off}
use Rattle.nx_marks.specs.Editing.{broken}
use Rattle.nx_marks.proofs.Cutting.{cut_there, cut_fits}
use Rattle.nx_marks.proofs.line.Line.cut_off.Goals as goal

pub invariant_of-self : goal.invariant_of-self
invariant_of-self g c = record {
  counted = c.self.invariant.counted;
  fits = (let i = c.self.invariant.fits in grind (arith, i, c.reach-at.ensures, c.reach.ensures, c.min-self-inside.ensures));
}

pub returns-clause-cut : goal.returns-clause-cut
returns-clause-cut g c = λ ordered fits.
    let k = c.args.self.now in
    let edit = c.args.edit.now in
    let d = c.drop_between-kept.new.self in
    let len = c.min-self-inside.result in
    let P : ℕ → Type 0 = λ n. DropsBetween n edit.to k d c.drop_between-kept.result in
    let drops = subst P c.next-next.ensures.place c.drop_between-kept.ensures in
    let at : reach c.self.inside.front ≡ frontier_of k = ap (λ (k : Kept _). frontier_of k) c.self.view_is ∙ ap reach drops.front in
    let behind : reach c.self.inside.aside ≡ reach d.aside = ap (λ (k : Kept _). reach k.aside) c.self.view_is in
    let long : len ≡ edit.from + edit.added + (c.drop_between-kept.result - edit.to) - frontier_of k =
    (let fit = cut_fits edit.from edit.to edit.added k d c.drop_between-kept.result fits drops in
    grind (arith, at, behind, fit, c.saturating_add.ensures, c.saturating_add-moved.ensures, c.saturating_sub.ensures, c.saturating_sub-2.ensures, c.min-self-inside.ensures, c.reach-at.ensures, c.reach.ensures)) in
    let Q : Kept _ → Type 0 = λ j. record { front = j.front; here = broken j.here len; marked = j.marked; aside = j.aside } ≡ cut_off edit.from edit.to edit.added k in
    rw (c.clear.ensures, c.is_mark-self-inside.ensures) (subst Q (sym c.self.view_is) (cut_there edit.from edit.to edit.added k d c.drop_between-kept.result len ordered (omega (arith, c.next-next.ensures.place, c.if-next-edit.false)) fits drops long))
