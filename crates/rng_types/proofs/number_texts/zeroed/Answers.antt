use Rattle.std.proofs.Common.{ap, ◌∙◌}
use Rattle.rng_types.specs.Giving.{zeroed as with_zeros}
use Rattle.rng_types.proofs.Pushed.{zeroed_made}
use Rattle.rng_types.proofs.number_texts.zeroed.Goals as goal

pub returns : goal.returns
returns c =
    zeroed_made c.args.literal.now c.in_ok-text.text c.push_many.new.text c.push_all.new.text c.unsigned-digits.result.now c.from.result c.unsigned-digits.ensures c.in_ok-text.ensures c.in_ok-push_many.ensures c.in_ok-push_all.ensures
    ∙ ap (λ i. with_zeros i c.args.literal.now) c.from.ensures
