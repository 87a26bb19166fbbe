use Rattle.std.proofs.Common.{◌≡◌, ◌++◌, ap, subst, sym, ◌∙◌}
use Rattle.nx_marks.specs.Chain.{FaultsFit, Kept, faults_in, frontier_of}
use Rattle.nx_marks.specs.Joined.{but_last}
use Rattle.nx_marks.proofs.Finding.{front-fits, behind-fits, faults-seen, seen-plain}
use Rattle.nx_marks.proofs.kept.Kept.faults.Goals as goal
use Rattle.nx_marks.proofs.kept.Kept.faults.Goals.{then-self+in_ok-add_faults_behind, else-self}

pub faults-requires : goal.faults-requires
faults-requires g c =
    let P : Kept _ → Type 0 = λ k. FaultsFit k.front in
    front-fits c.self.inside.joined c.self.inside.line (subst P (sym c.self.view_is) c.requires)

pub add_faults_behind-requires : goal.add_faults_behind-requires
add_faults_behind-requires g c =
    let P : Kept _ → Type 0 = λ k. FaultsFit k.front in
    behind-fits c.self.inside.joined c.self.inside.line c.if-self.true (subst P (sym c.self.view_is) c.requires)

pub returns : goal.returns
returns g c =
    let P : Kept _ → Type 0 = λ k. c.if-self.faults ≡ faults_in 0 k.front in
    subst P c.self.view_is (elim c.if-self.branch [
      | then-self+in_ok-add_faults_behind w ↦ w.faults-is ∙ w.in_ok-add_faults_behind.ensures ∙ ap (λ l. l ++ faults_in (frontier_of c.self.inside.line) (but_last c.self.inside.line.here c.self.inside.line.aside)) c.in_ok-faults.ensures ∙ sym (faults-seen c.self.inside.joined c.self.inside.line w.if-self.true)
      | else-self w ↦ w.faults-is ∙ c.in_ok-faults.ensures ∙ sym (seen-plain c.self.inside.joined c.self.inside.line w.if-self.false)
    ])
