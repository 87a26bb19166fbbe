use Rattle.std.proofs.Common.{◌≡◌, ◌⊎◌, ◌+◌, ◌-◌, ◌≤◌, ℕ, length, ap, subst, ◌∙◌}
use Rattle.nx_marks.specs.Chain.{Kept}
use Rattle.nx_marks.specs.Tree.{count_up_to}
use Rattle.nx_marks.proofs.Walking.{went_on}
use Rattle.nx_marks.proofs.line.Line.go_on.Goals as goal

pub returns : goal.returns
returns g c =
    let k = c.args.self.now in
    let all : c.count.result ≡ length k.aside = c.count.ensures ∙ ap (λ (k : Kept _). length k.aside) c.self.view_is in
    let M : ℕ → Type 0 = λ n. (c.one_more-count.result ≤ c.count_up_to-before.result + 1) × (c.one_more-count.result ≤ n) in
    let E : ℕ → Type 0 = λ n. (c.one_more-count.result ≡ n) ⊎ (c.one_more-count.result ≡ c.count_up_to-before.result + 1) in
    went_on c.args.from c.next-next.result c.count_up_to-before.result c.one_more-count.result k c.move_on.new.self c.requires c.next-next.ensures.place c.if-next-from.false
    (c.count_up_to-before.ensures ∙ ap (λ (k : Kept _). count_up_to (c.args.from - 1 - c.next-next.result) k.aside) c.self.view_is) (subst M all c.one_more-count.ensures.most) (subst E all c.one_more-count.ensures.either) c.move_on.ensures
