use Rattle.std.proofs.Common.{◌≡◌, ℕ, Bool, length, ap, subst, sym, ◌∙◌}
use Rattle.nx_marks.specs.Chain.{Kept}
use Rattle.nx_marks.specs.Joined.{seen}
use Rattle.nx_marks.specs.Walking.{MovesOn}
use Rattle.nx_marks.proofs.Seen.{arrived}
use Rattle.nx_marks.proofs.line.Line.arrive.Goals as goal

pub returns-then-joined : goal.returns-then-joined
returns-then-joined g c =
    let P : Bool → Type 0 = λ b. c.move_on.new.self ≡ seen b c.args.self.now in
    let M : ℕ → Type 0 = λ n. MovesOn n c.args.self.now c.move_on.new.self in
    subst P (sym c.if-joined.true) (arrived c.args.self.now c.move_on.new.self (subst M (c.count-count.ensures ∙ ap (λ (k : Kept _). length k.aside) c.self.view_is) c.move_on.ensures))
