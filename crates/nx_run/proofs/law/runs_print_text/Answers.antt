use Rattle.nx_run.proofs.Printing.{runs_print_text}
use Rattle.nx_run.proofs.law.runs_print_text.Goals as goal

pub returns : goal.returns
returns c = runs_print_text
