use Rattle.nx_marks.proofs.Keeping.{keeps_all}
use Rattle.nx_marks.proofs.line.begin_here.Goals as goal

pub returns-then-not-line-clause-keeps : goal.returns-then-not-line-clause-keeps
returns-then-not-line-clause-keeps g c = keeps_all (g.A.Machine.means c.args.machine.now) (g.A.Machine.rules c.args.machine.now) c.args.text.now c.args.line.now
