use Rattle.nx_script.proofs.Numbers.{digits_at_front}
use Rattle.nx_script.proofs.arguments.digits.Goals as goal

pub number_of-requires-clause-digits : goal.number_of-requires-clause-digits
number_of-requires-clause-digits c = rw (c.split_at.ensures.front, c.leading_digits-count.ensures.counted) (digits_at_front c.args.bytes.now)
