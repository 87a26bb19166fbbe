use Rattle.std.proofs.Common.{rules}
use Rattle.nx_text.proofs.OneByte.{one_byte_stands}
use Rattle.nx_text.proofs.text.Text.char_at.Goals as goal

pub returns-in-Some-clause-char : goal.returns-in-Some-clause-char
returns-in-Some-clause-char c = one_byte_stands c.args.self.now c.args.at c.from.result (search rules) (search rules)
