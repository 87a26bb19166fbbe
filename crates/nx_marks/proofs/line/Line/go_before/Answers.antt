use Rattle.std.proofs.Common.{Bool, ◌≤◌, subst, sym}
use Rattle.nx_marks.specs.Chain.{frontier_of}
use Rattle.nx_marks.specs.Joined.{seen}
use Rattle.nx_marks.specs.Walking.{GoesBack}
use Rattle.nx_marks.proofs.Seen.{back_in_front, on_behind}
use Rattle.nx_marks.proofs.line.Line.go_before.Goals as goal

pub returns-then-reach-from : goal.returns-then-reach-from
returns-then-reach-from g c =
    let P : Bool → Type 0 = λ b. GoesBack c.args.from (seen b c.args.self.now) c.go_on.new.self in
    let L : Bool → Type 0 = λ b. c.args.from ≤ frontier_of (seen b c.args.self.now) in
    subst P (sym c.if-joined.true) (on_behind c.args.from c.args.self.now c.go_on.new.self c.go_on.ensures (subst L c.if-joined.true c.requires))

pub returns-else-joined : goal.returns-else-joined
returns-else-joined g c = back_in_front c.args.joined c.args.from c.args.self.now c.go_back.new.self c.go_back.ensures
