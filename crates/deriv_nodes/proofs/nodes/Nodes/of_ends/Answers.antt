use Rattle.deriv_nodes.proofs.IfOk.{if_ok}
use Rattle.deriv_nodes.proofs.Opening.{ends_placed, told_as}
use Rattle.deriv_nodes.proofs.nodes.Nodes.of_ends.Goals as goal

pub returns-clause-made : goal.returns-clause-made
returns-clause-made c =
    if_ok c.of_interleave.result c.of_interleave.ensures.made (λ made is.
    told_as c.of_interleave.new.self _ _ made.items
    (ends_placed c.args.self.now c.ending.new.self c.ending-2.new.self c.args.a c.args.b c.in_ok-a.a c.in_ok-b.b c.args.first.now c.args.second.now
    c.in_ok-a.ensures.later c.in_ok-b.ensures.later c.requires.first c.requires.second c.requires.b c.in_ok-a.ensures.made c.in_ok-b.ensures.made) is)
