use Rattle.rng_types.proofs.Pushed.{hex_made}
use Rattle.rng_types.proofs.more_texts.hex_text.Goals as goal

pub returns : goal.returns
returns c =
    hex_made _ _ _ _ _ _ c.args.zeros _ _ c.new-text.ensures c.in_ok-push.ensures.ok c.in_ok-push-2.ensures.ok c.hex_digit.ensures c.hex_digit-2.ensures c.in_ok-push_many.ensures
