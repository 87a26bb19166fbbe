use Rattle.nx_script.proofs.Reader.{reads, answer_fits}
use Rattle.nx_script.proofs.read.read_line.Goals as goal

pub returns-clause-read : goal.returns-clause-read
returns-clause-read c = reads c.args.line.now c.whole_line.result c.whole_line.ensures

pub returns-clause-texts : goal.returns-clause-texts
returns-clause-texts c = answer_fits c.args.line.now c.whole_line.result c.utf8.line (reads c.args.line.now c.whole_line.result c.whole_line.ensures)
