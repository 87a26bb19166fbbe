use Rattle.std.proofs.Common.{sym, ap, ◌∙◌}
use Rattle.std.specs.Prelude.{ℕ, List}
use Rattle.std.specs.Str.{is_utf8}
use Rattle.std.proofs.lemmas.Bool.{and_parts, false≢true}
use Rattle.rng_types.specs.Spaces.{collapsed}
use Rattle.rng_types.specs.Numbers.{is_decimal}
use Rattle.rng_types.specs.declared.kind.Word.TheVariants.{Decimal}
use Rattle.rng_types.proofs.bounds.number_word.Goals as goal

pub unreachable-requires : goal.unreachable-requires
unreachable-requires c =
    let same = ap (λ (t : List ℕ). is_decimal (collapsed t)) c.text_of.ensures in
    false≢true (sym ((c.in_default.ensures {u = tt}).none Decimal) ∙ same ∙ (and_parts (is_utf8 c.args.literal.now) (is_decimal (collapsed c.args.literal.now)) c.requires).1)
