use Rattle.std.proofs.Common.{◌≡◌, ◌⊎◌, ◌+◌, ◌≤◌, ℕ, length, ap, sym, subst, ◌∙◌}
use Rattle.nx_marks.specs.Chain.{Kept}
use Rattle.nx_marks.specs.Tree.{whole_count}
use Rattle.nx_marks.proofs.Passing.{followed_on, followed_none}
use Rattle.nx_marks.proofs.line.Line.follow.Goals as goal

pub returns-then-self : goal.returns-then-self
returns-then-self g c =
    let k = c.args.self.now in
    let all : c.count.result ≡ length k.aside = c.count.ensures ∙ ap (λ (k : Kept _). length k.aside) c.self.view_is in
    let M : ℕ → Type 0 = λ n. (c.one_more-count.result ≤ c.whole_count-whole.result + 1) × (c.one_more-count.result ≤ n) in
    let E : ℕ → Type 0 = λ n. (c.one_more-count.result ≡ n) ⊎ (c.one_more-count.result ≡ c.whole_count-whole.result + 1) in
    followed_on c.one_more-count.result c.whole_count-whole.result k c.move_on.new.self (sym (ap (λ (k : Kept _). k.here.whole) c.self.view_is) ∙ c.if-self.true)
    (c.whole_count-whole.ensures ∙ ap (λ (k : Kept _). whole_count k.aside) c.self.view_is) (subst M all c.one_more-count.ensures.most) (subst E all c.one_more-count.ensures.either) c.move_on.ensures

pub returns-else-self : goal.returns-else-self
returns-else-self g c = followed_none c.args.self.now (sym (ap (λ (k : Kept _). k.here.whole) c.self.view_is) ∙ c.if-self.false)
