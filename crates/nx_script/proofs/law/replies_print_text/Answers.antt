use Rattle.nx_script.proofs.Printed.{reply_is_text}
use Rattle.nx_script.proofs.law.replies_print_text.Goals as goal

pub returns : goal.returns
returns c = reply_is_text
