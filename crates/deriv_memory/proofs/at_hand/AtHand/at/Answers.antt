use Rattle.std.proofs.Common.{sym, ◌∙◌}
use Rattle.deriv_memory.proofs.Holding.{slot_says}
use Rattle.deriv_memory.proofs.at_hand.AtHand.at.Goals as goal

pub returns-then-is_of : goal.returns-then-is_of
returns-then-is_of c =
    slot_says c.args.self.now c.place.result c.args.form c.args.state c.args.ns c.args.local c.slot-slot.result c.read.result c.slot-slot.ensures
    (sym c.is_of.ensures ∙ c.if-is_of.true) c.read.ensures
