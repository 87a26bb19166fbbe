use Rattle.deriv_memory.proofs.Holding.{then_one_more, then_no_more}
use Rattle.deriv_memory.proofs.at_hand.AtHand.put_named.Goals as goal

pub returns-then-not-put_in_block-clause-slots : goal.returns-then-not-put_in_block-clause-slots
returns-then-not-put_in_block-clause-slots c = λ answer says.
    then_one_more c.args.self.now.slots.items c.put_in_block.new.self.slots.items c.put_in_slot.new.self.slots.items c.args.call.now answer
    c.put_in_block.ensures.slots (c.put_in_slot.ensures.slots answer says)

pub returns-then-not-put_in_block-clause-blocks : goal.returns-then-not-put_in_block-clause-blocks
returns-then-not-put_in_block-clause-blocks c = λ answer says.
    then_no_more c.args.self.now c.put_in_block.new.self c.put_in_slot.new.self c.args.call.now answer
    (c.put_in_block.ensures.blocks answer says) c.put_in_slot.ensures.blocks
