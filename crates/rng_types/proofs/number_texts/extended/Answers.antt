use Rattle.rng_types.proofs.Pushed.{extended_made}
use Rattle.rng_types.proofs.number_texts.extended.Goals as goal

pub returns : goal.returns
returns c = extended_made c.args.literal.now c.in_ok-text.text c.push_many.new.text c.push_three_digits.new.text c.args.zeros c.args.number c.in_ok-text.ensures c.in_ok-push_many.ensures c.in_ok-push_three_digits.ensures
