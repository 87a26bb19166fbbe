use Rattle.std.proofs.Common.{◌≡◌, true, sym, ap, ◌∙◌}
use Rattle.std.proofs.lemmas.Bool.{and_from}
use Rattle.std.proofs.lemmas.Str.{is_utf8-from_IsUtf8}
use Rattle.std.specs.List.{join_with_byte}
use Rattle.rng_types.specs.Spaces.{collapsed}
use Rattle.rng_types.specs.Numbers.{has_few_digits}
use Rattle.rng_types.specs.Words.{is_word}
use Rattle.rng_types.proofs.naming.bound_word.Goals as goal

pub returns-then-has_few_digits : goal.returns-then-has_few_digits
returns-then-has_few_digits c =
    let same : collapsed c.args.text.now ≡ c.in_ok-word.word.now = ap (join_with_byte 32) c.in_ok-word.ensures.some in
    let fits : is_word c.args.form c.in_ok-word.word.now ≡ true = sym c.fits.ensures ∙ c.if-fits.true in
    let few : has_few_digits c.in_ok-word.word.now ≡ true =
    ap has_few_digits (sym c.as_bytes.ensures.value) ∙ sym c.has_few_digits.ensures ∙ c.if-has_few_digits.true in
    (and_from _ _ (is_utf8-from_IsUtf8 c.args.text.now c.utf8.text) (rw same (and_from _ _ fits few)), sym same)
