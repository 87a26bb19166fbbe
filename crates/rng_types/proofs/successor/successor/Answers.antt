use Rattle.std.proofs.Common.{sym, ◌∙◌}
use Rattle.std.proofs.lemmas.Bool.{and_parts, not-true}
use Rattle.rng_types.proofs.Comparing.{decimal_from_integer}
use Rattle.rng_types.proofs.Stepped.{behind_minus, raised_whole, some_digits}
use Rattle.rng_types.proofs.successor.successor.Goals as goal

pub is_below_zero-requires : goal.is_below_zero-requires
is_below_zero-requires c = decimal_from_integer c.args.literal.now c.requires

pub lowered_negative-requires-clause-some : goal.lowered_negative-requires-clause-some
lowered_negative-requires-clause-some c =
    some_digits c.args.literal.now c.unsigned.result.now c.requires (not-true _ (and_parts _ _ (sym c.is_below_zero.ensures ∙ c.if-is_below_zero.true)).1) c.unsigned.ensures

pub returns-then-is_below_zero : goal.returns-then-is_below_zero
returns-then-is_below_zero c =
    behind_minus c.args.literal.now c.unsigned.result.now c.in_ok-text.text c.requires (and_parts _ _ (sym c.is_below_zero.ensures ∙ c.if-is_below_zero.true)).0 c.unsigned.ensures c.in_ok-text.ensures

pub returns : goal.returns
returns c =
    raised_whole c.args.literal.now c.unsigned-2.result.now c.in_ok-text-2.text c.requires (sym c.is_below_zero.ensures ∙ c.if-is_below_zero.false) c.unsigned-2.ensures c.in_ok-text-2.ensures
