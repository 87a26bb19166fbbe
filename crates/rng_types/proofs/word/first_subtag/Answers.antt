use Rattle.std.proofs.Common.{◌==◌, ℕ}
use Rattle.rng_types.proofs.Splits.{split-alone, split-more}
use Rattle.rng_types.proofs.word.first_subtag.Goals as goal

pub returns-then-end-text-clause-alone : goal.returns-then-end-text-clause-alone
returns-then-end-text-clause-alone c = split-alone (λ (b : ℕ). b == 45) c.args.text.now c.dash_place-end.result c.dash_place-end.ensures.place c.if-end-text.true

pub returns-clause-more : goal.returns-clause-more
returns-clause-more c = split-more (λ (b : ℕ). b == 45) c.args.text.now c.dash_place-end.result c.dash_place-end.ensures.place c.dash_place-end.ensures.within c.if-end-text.false
