use Rattle.std.proofs.Common.{ap}
use Rattle.std.specs.List.{join_with_byte}
use Rattle.rng_types.proofs.Collapsed.{words-from_collapsed}
use Rattle.rng_types.proofs.sameness.same_collapsed.Goals as goal

pub returns : goal.returns
returns c = (
  λ found. ap (join_with_byte 32) (c.same_words.ensures.0 found),
  λ same. c.same_words.ensures.1 (words-from_collapsed c.args.a.now c.args.b.now same),
)
