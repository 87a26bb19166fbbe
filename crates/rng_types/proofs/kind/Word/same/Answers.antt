use Rattle.std.proofs.Common.{sym, ap, ◌∙◌, ◌≡◌, true}
use Rattle.rng_types.specs.Numbers.{is_integer, is_decimal}
use Rattle.rng_types.specs.Words.{is_word}
use Rattle.rng_types.specs.declared.kind.Word.{Word}
use Rattle.rng_types.proofs.Comparing.{decimal_from_integer}
use Rattle.rng_types.proofs.kind.Word.same.Goals as goal

pub compare-requires-in-Integer-clause-first : goal.compare-requires-in-Integer-clause-first
compare-requires-in-Integer-clause-first c =
    let integer : is_integer c.args.a.now ≡ true = ap (λ (w : Word). is_word w c.args.a.now) (sym c.in-Integer.is) ∙ c.requires.first in
    ap is_decimal c.as_bytes-in-Integer.ensures.value ∙ decimal_from_integer c.args.a.now integer

pub compare-requires-in-Integer-clause-second : goal.compare-requires-in-Integer-clause-second
compare-requires-in-Integer-clause-second c =
    let integer : is_integer c.args.b.now ≡ true = ap (λ (w : Word). is_word w c.args.b.now) (sym c.in-Integer.is) ∙ c.requires.second in
    ap is_decimal c.as_bytes-in-Integer-2.ensures.value ∙ decimal_from_integer c.args.b.now integer
