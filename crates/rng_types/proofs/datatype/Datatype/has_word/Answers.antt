use Rattle.std.proofs.Common.{ap, ◌∙◌}
use Rattle.rng_types.specs.declared.kind.Word.{Word}
use Rattle.rng_types.specs.declared.kind.Form.TheVariants.{One}
use Rattle.rng_types.proofs.Sound.{excepts_decimal, excepts_integer}
use Rattle.rng_types.proofs.datatype.Datatype.has_word.Goals as goal

pub has_decimal-requires-clause-others : goal.has_decimal-requires-clause-others
has_decimal-requires-clause-others c = excepts_decimal c.args.self.now c.args.excepts.now (c.requires.form ∙ ap (λ (word : Word). One word) c.in-Decimal.is) c.requires.sound

pub has_integer-requires-clause-others : goal.has_integer-requires-clause-others
has_integer-requires-clause-others c = excepts_integer c.args.self.now c.args.excepts.now (c.requires.form ∙ ap (λ (word : Word). One word) c.in-Integer.is) c.requires.sound
