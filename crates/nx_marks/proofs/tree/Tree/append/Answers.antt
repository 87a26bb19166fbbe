use Rattle.std.proofs.Common.{arith}
use Rattle.nx_marks.proofs.Holding.{further}
use Rattle.nx_marks.proofs.tree.Tree.append.Goals as goal

pub extend-requires-clause-reach : goal.extend-requires-clause-reach
extend-requires-clause-reach g c =
    let a = further c.args.self.now c.pop_last-last.new.self c.pop_last-last.result c.pop_last-last.ensures in
    omega (arith, c.requires.reach)
