use Rattle.std.proofs.Common.{◌≡◌, ◌⊎◌, ◌-◌, ◌<◌, List, inl, inr, length, ap, subst, arith}
use Rattle.nx_marks.specs.Chain.{Kept}
use Rattle.nx_marks.specs.Tree.{count_up_to}
use Rattle.nx_marks.specs.declared.mark.Mark.{Mark}
use Rattle.nx_marks.proofs.Trees.{count-most}
use Rattle.nx_marks.proofs.Walking.{went_back}
use Rattle.nx_marks.proofs.line.Line.go_back.Goals as goal

pub overflow_sub-count : goal.overflow_sub-count
overflow_sub-count g c =
    elim c.count_before-kept.ensures [
      | inl z ↦ omega (arith, z.1)
      | inr z ↦ omega (arith, z.1, count-most (c.args.from - 1) c.self.inside.front, c.count.ensures)
    ]

pub returns : goal.returns
returns g c =
    let k = c.args.self.now in
    let P : List (Mark _) → Type 0 = λ l. ((c.args.from ≡ 0) × (c.count_before-kept.result ≡ 0)) ⊎ ((0 < c.args.from) × (c.count_before-kept.result ≡ count_up_to (c.args.from - 1) l)) in
    let n = ap (λ (k : Kept _). length k.front) c.self.view_is in
    went_back c.args.from c.count_before-kept.result _ k c.move_back.new.self (subst P (ap (λ (k : Kept _). k.front) c.self.view_is) c.count_before-kept.ensures) (omega (arith, n, c.count.ensures)) c.requires c.move_back.ensures
