use Rattle.std.proofs.Common.{length}
use Rattle.nx_marks.proofs.tree.Tree.+push.Given as goal

abbrev pub decreases-push : goal.decreases-push
decreases-push g l = length l.self.now
