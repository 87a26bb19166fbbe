use Rattle.deriv_nodes.proofs.IfOk.{if_ok}
use Rattle.deriv_nodes.proofs.Opening.{many_placed, told_as}
use Rattle.deriv_nodes.proofs.nodes.Nodes.of_many.Goals as goal

pub returns-clause-made : goal.returns-clause-made
returns-clause-made c =
    if_ok c.all_placed.result c.all_placed.ensures.made (λ made is.
    told_as c.all_placed.new.self _ _ made.items
    (many_placed c.args.self.now c.star.new.self c.args.body c.in_ok-more.more c.args.opened.now c.in_ok-more.ensures.later c.requires.opened
    c.in_ok-more.ensures.made) is)
