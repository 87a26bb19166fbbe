use Rattle.std.proofs.Common.{◌≡◌, ◌⊎◌, ◌+◌, ◌-◌, ◌≤◌, ◌++◌, ℕ, length, ap, sym, subst, ◌∙◌, arith}
use Rattle.std.proofs.lemmas.List.{length-append}
use Rattle.nx_marks.specs.Chain.{Kept, reach}
use Rattle.nx_marks.specs.Tree.{count_up_to}
use Rattle.nx_marks.proofs.Backs.{reach-append}
use Rattle.nx_marks.proofs.Walking.{dropped_between, none_between}
use Rattle.nx_marks.proofs.line.Line.drop_between.Goals as goal

pub returns-then-next-to : goal.returns-then-next-to
returns-then-next-to g c = none_between c.args.next c.args.to c.args.self.now c.if-next-to.true

pub overflow_add-result : goal.overflow_add-result
overflow_add-result g c =
    let a = ap reach c.split_off-kept.ensures.all in
    let b = reach-append c.split_off-kept.new.self c.split_off-kept.result in
    let d = ap reach c.replace-gone.ensures.value in
    let e = ap (λ (k : Kept _). reach k.aside) c.self.view_is in
    omega (arith, c.requires, c.reach-passed.ensures)

pub invariant_of-self : goal.invariant_of-self
invariant_of-self g c =
    let a = ap reach c.split_off-kept.ensures.all in
    let b = reach-append c.split_off-kept.new.self c.split_off-kept.result in
    let n = ap length c.split_off-kept.ensures.all in
    let m = length-append c.split_off-kept.new.self c.split_off-kept.result in
    let d = ap reach c.replace-gone.ensures.after in
    let e = ap length c.replace-gone.ensures.after in
    let i = c.self.invariant in
    record { counted = omega (arith, i.counted); fits = omega (arith, i.fits) }

pub returns : goal.returns
returns g c =
    let k = c.args.self.now in
    let here = c.self.inside in
    let n = c.one_more-count.result in
    let new : Kept _ = record { front = here.front; here = here.here; marked = here.marked; aside = c.replace-gone.new.dest } in
    let all : c.count.result ≡ length k.aside = c.count.ensures ∙ ap (λ (k : Kept _). length k.aside) c.self.view_is in
    let before : c.count_up_to-before.result ≡ count_up_to (c.args.to - c.args.next) k.aside = c.count_up_to-before.ensures ∙ ap (λ (k : Kept _). count_up_to (c.args.to - c.args.next) k.aside) c.self.view_is in
    let M : ℕ → ℕ → Type 0 = λ b a. (n ≤ b + 1) × (n ≤ a) in
    let E : ℕ → ℕ → Type 0 = λ b a. (n ≡ a) ⊎ (n ≡ b + 1) in
    let list : k.aside ≡ c.split_off-kept.new.self ++ c.replace-gone.new.dest =
    sym (ap (λ (k : Kept _). k.aside) c.self.view_is) ∙ c.split_off-kept.ensures.all ∙ ap (λ l. c.split_off-kept.new.self ++ l) (sym c.replace-gone.ensures.after) in
    dropped_between c.args.next c.args.to n _ k new c.split_off-kept.new.self c.if-next-to.false list (ap (λ (k : Kept _). k.front) c.self.view_is) (ap (λ (k : Kept _). k.here) c.self.view_is) (ap (λ (k : Kept _). k.marked) c.self.view_is)
    c.split_off-kept.ensures.count (subst (λ b. M b (length k.aside)) before (subst (M c.count_up_to-before.result) all c.one_more-count.ensures.most)) (subst (λ b. E b (length k.aside)) before (subst (E c.count_up_to-before.result) all c.one_more-count.ensures.either))
    (ap (λ m. c.args.next + m) (c.reach-passed.ensures ∙ ap reach c.replace-gone.ensures.value))
