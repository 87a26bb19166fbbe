use Rattle.nx_script.proofs.Texts.{hex_digits_at_front}
use Rattle.nx_script.proofs.quoted.code.Goals as goal

pub code_of-requires-clause-digits : goal.code_of-requires-clause-digits
code_of-requires-clause-digits c = rw (c.split_at.ensures.front, c.leading_hex_digits-count.ensures.counted) (hex_digits_at_front c.args.bytes.now)
