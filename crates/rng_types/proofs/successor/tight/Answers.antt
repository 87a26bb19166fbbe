use Rattle.std.proofs.Common.{ap, sym, ◌∙◌}
use Rattle.rng_types.specs.Numbers.{without_leading_zeros}
use Rattle.rng_types.proofs.Stepped.{tight_digits}
use Rattle.rng_types.proofs.successor.tight.Goals as goal

pub returns : goal.returns
returns c =
    tight_digits c.args.digits c.in_ok-text.text c.without_leading_zeros-short.result.now c.requires (c.without_leading_zeros-short.ensures ∙ ap without_leading_zeros c.as_slice.ensures)
    (sym c.is_empty.ensures ∙ c.if-is_empty.false) c.in_ok-text.ensures
