use Rattle.std.proofs.Common.{rules, ap, ◌∙◌, [], ◌∷◌, ◌++◌}
use Rattle.deriv_memory.proofs.Holding.{block_pushed}
use Rattle.deriv_memory.proofs.at_hand.AtHand.make_block.Goals as goal

pub returns-in-Some-get_mut-clause-blocks : goal.returns-in-Some-get_mut-clause-blocks
returns-in-Some-get_mut-clause-blocks c =
    block_pushed c.args.self.now.owners.items c.push.new.self.items c.args.self.now.blocks.items c.push_reserved.new.self.items c.in-Some.owner c.new.result
    (search rules) c.new.ensures c.in_ok-push.ensures.items (c.push_reserved.ensures.items ∙ ap (λ bs. bs ++ c.new.result ∷ []) c.in_ok-reserve.ensures.items)
