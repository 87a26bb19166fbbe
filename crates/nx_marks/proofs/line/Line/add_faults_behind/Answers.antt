use Rattle.std.proofs.Common.{◌≡◌, ◌++◌, ◌+◌, ◌-◌, ◌^◌, List, take, ap, subst, sym, ◌∙◌, arith, append_assoc}
use Rattle.std.specs.Prelude.{OnOk}
use Rattle.nx_base.specs.Shifting.{placed}
use Rattle.nx_marks.specs.Chain.{FaultsFit, Kept, faults_in, frontier_of}
use Rattle.nx_marks.specs.Joined.{but_last}
use Rattle.nx_marks.specs.declared.mark.Mark.{Mark}
use Rattle.nx_marks.proofs.Faults.{all-wider}
use Rattle.nx_marks.proofs.Finding.{but-last-taken}
use Rattle.nx_marks.proofs.line.Line.add_faults_behind.Goals as goal

pub add_faults-requires : goal.add_faults-requires
add_faults-requires g c =
    let P : List (Mark _) → Type 0 = λ l. FaultsFit l in
    let Q : Kept _ → Type 0 = λ k. FaultsFit (but_last k.here k.aside) in
    let fit = subst P (but-last-taken c.self.inside.here c.self.inside.aside (c.count-count.result - 1) (grind (arith, c.count-count.ensures, c.if-count-eq0.false))) (subst Q (sym c.self.view_is) c.requires) in
    all-wider c.self.inside.here.len (2 ^ 64 - 1 - c.reach.result) c.self.inside.here.faults (omega (arith, c.self.invariant.fits, c.reach.ensures)) fit.0

pub add_faults-requires-2-clause-fit : goal.add_faults-requires-2-clause-fit
add_faults-requires-2-clause-fit g c =
    let P : List (Mark _) → Type 0 = λ l. FaultsFit l in
    let Q : Kept _ → Type 0 = λ k. FaultsFit (but_last k.here k.aside) in
    (subst P (but-last-taken c.self.inside.here c.self.inside.aside (c.count-count.result - 1) (grind (arith, c.count-count.ensures, c.if-count-eq0.false))) (subst Q (sym c.self.view_is) c.requires)).1

pub returns : goal.returns
returns g c =
    let first = c.args.faults.now in
    let here = c.self.inside.here in
    let more = take (c.count-count.result - 1) c.self.inside.aside in
    let next : c.next.result ≡ c.reach.result + here.len = c.next.ensures.place ∙ sym (ap (λ (k : Kept _). frontier_of k + k.here.len) c.self.view_is) ∙ ap (λ n. n + here.len) (sym c.reach.ensures) in
    let list : first ++ faults_in (frontier_of c.args.self.now) (but_last c.args.self.now.here c.args.self.now.aside) ≡ (first ++ placed c.reach.result here.faults) ++ faults_in c.next.result more =
    ap (λ (k : Kept _). first ++ faults_in (frontier_of k) (but_last k.here k.aside)) (sym c.self.view_is)
    ∙ ap (λ n. first ++ faults_in n (but_last here c.self.inside.aside)) (sym c.reach.ensures)
    ∙ ap (λ l. first ++ faults_in c.reach.result l) (but-last-taken here c.self.inside.aside (c.count-count.result - 1) (grind (arith, c.count-count.ensures, c.if-count-eq0.false)))
    ∙ ap (λ n. first ++ (placed c.reach.result here.faults ++ faults_in n more)) (sym next)
    ∙ sym (append_assoc first (placed c.reach.result here.faults) (faults_in c.next.result more)) in
    let P : List _ → Type 0 = λ l. OnOk c.add_faults-2.result (c.add_faults-2.new.faults ≡ l) in
    subst P (sym list) (let Q : List _ → Type 0 = λ l. OnOk c.add_faults-2.result (c.add_faults-2.new.faults ≡ l ++ faults_in c.next.result more) in subst Q c.in_ok-add_faults.ensures c.add_faults-2.ensures)
