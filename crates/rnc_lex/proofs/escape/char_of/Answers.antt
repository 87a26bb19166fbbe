use Rattle.std.proofs.Common.{ap, ◌∙◌}
use Rattle.nx_base.specs.CharacterCodes.{char_of_code}
use Rattle.rnc_lex.proofs.Steps.{capped}
use Rattle.rnc_lex.proofs.escape.char_of.Goals as goal

pub returns : goal.returns
returns c = c.char_of_code.ensures ∙ ap char_of_code c.code_of_digits.ensures ∙ capped _
