use Rattle.deriv_memory.proofs.Holding.{named_put}
use Rattle.deriv_memory.proofs.at_hand.AtHand.put_in_slot.Goals as goal

pub returns-then-kept-eq-NOTHING-clause-slots : goal.returns-then-kept-eq-NOTHING-clause-slots
returns-then-kept-eq-NOTHING-clause-slots c =
    named_put c.args.self.now.slots.items c.args.call.now c.place-place.result c.args.number c.in-Some.slot c.in-Some.ensures
