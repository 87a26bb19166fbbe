use Rattle.std.proofs.Common.{sym}
use Rattle.std.proofs.lemmas.Bool.{and_left}
use Rattle.rng_types.specs.declared.kind.Word.TheVariants.{Decimal}
use Rattle.rng_types.proofs.meeting.is_word_related.Goals as goal

pub returns-in-None : goal.returns-in-None
returns-in-None c = sym (and_left _ _ (c.in-None.ensures.none Decimal))
