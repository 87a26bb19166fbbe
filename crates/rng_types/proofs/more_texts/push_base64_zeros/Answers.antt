use Rattle.std.proofs.Common.{◌∙◌}
use Rattle.rng_types.proofs.Pushed.{zeros_made}
use Rattle.rng_types.proofs.more_texts.push_base64_zeros.Goals as goal

pub returns : goal.returns
returns c =
    zeros_made c.args.text.now c.push_many.new.text c.push_all.new.text c.as_bytes.result.now c.args.count c.in_ok-push_many.ensures (c.as_bytes.ensures.value ∙ c.last_zeros.ensures) c.in_ok-push_all.ensures
