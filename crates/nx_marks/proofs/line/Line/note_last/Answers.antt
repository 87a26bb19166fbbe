use Rattle.std.proofs.Common.{[], ◌∷◌, refl, ap, arith}
use Rattle.nx_marks.specs.declared.mark.Mark.{Mark}
use Rattle.nx_marks.proofs.Seen.{noted_last}
use Rattle.nx_marks.proofs.Holding.{further, unsaved_held}
use Rattle.nx_marks.proofs.line.Line.note_last.Goals as goal

pub push-requires-clause-reach : goal.push-requires-clause-reach
push-requires-clause-reach g c =
    let a = further c.self.inside.aside c.pop_last-last.new.self c.pop_last-last.result c.pop_last-last.ensures in
    let e = ap (λ (x : Mark _). x.len) c.unsave.ensures in
    omega (arith, c.self.invariant.fits)

pub invariant_of-self-else-is_empty : goal.invariant_of-self-else-is_empty
invariant_of-self-else-is_empty g c =
    unsaved_held c.self.inside.front c.self.inside.aside c.push.new.self c.pop_last-last.new.self (c.unsave.new.self ∷ []) c.self.inside.here c.pop_last-last.result c.unsave.new.self c.self.invariant
    c.pop_last-last.ensures c.unsave.ensures refl c.push.ensures

pub returns-else-is_empty : goal.returns-else-is_empty
returns-else-is_empty g c =
    rw (← c.self.view_is) (noted_last c.self.inside.front c.self.inside.here c.pop_last-last.result c.unsave.new.self c.self.inside.marked c.pop_last-last.new.self (c.unsave.new.self ∷ []) c.self.inside.aside c.push.new.self
    c.pop_last-last.ensures c.unsave.ensures refl c.push.ensures)
