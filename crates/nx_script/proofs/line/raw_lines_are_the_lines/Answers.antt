use Rattle.nx_script.proofs.Cutting as lemmas
use Rattle.nx_script.proofs.line.raw_lines_are_the_lines.Goals as goal

pub returns : goal.returns
returns c = lemmas.raw_lines_are_the_lines
