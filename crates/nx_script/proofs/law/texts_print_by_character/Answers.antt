use Rattle.nx_script.proofs.Printed.{by_character}
use Rattle.nx_script.proofs.law.texts_print_by_character.Goals as goal

pub returns : goal.returns
returns c = by_character
