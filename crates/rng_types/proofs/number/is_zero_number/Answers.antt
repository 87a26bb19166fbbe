use Rattle.std.proofs.Common.{◌≡◌, true, false, sym, ◌∙◌, ap}
use Rattle.std.specs.List.{list_all}
use Rattle.rng_types.specs.Numbers.{is_zero, whole_part, fraction_part}
use Rattle.rng_types.proofs.Comparing.{zero_by_digits}
use Rattle.rng_types.proofs.number.is_zero_number.Goals as goal

pub returns-then-all_zeros : goal.returns-then-all_zeros
returns-then-all_zeros c =
    let whole : list_all is_zero (whole_part c.args.text.now) ≡ true = ap (list_all is_zero) (sym c.whole_part.ensures) ∙ sym c.all_zeros.ensures ∙ c.if-all_zeros.true in
    let fraction : c.all_zeros-then-all_zeros.result ≡ list_all is_zero (fraction_part c.args.text.now) = c.all_zeros-then-all_zeros.ensures ∙ ap (list_all is_zero) c.fraction_part.ensures in
    fraction ∙ rw whole at (zero_by_digits c.args.text.now c.requires)

pub returns-else-all_zeros : goal.returns-else-all_zeros
returns-else-all_zeros c =
    let whole : list_all is_zero (whole_part c.args.text.now) ≡ false = ap (list_all is_zero) (sym c.whole_part.ensures) ∙ sym c.all_zeros.ensures ∙ c.if-all_zeros.false in
    c.if-all_zeros.false ∙ rw whole at (zero_by_digits c.args.text.now c.requires)
