use Rattle.rng_simplify.proofs.Renumbered.{no_refusal}
use Rattle.rng_simplify.proofs.law.grammar_is_no_refusal.Goals as goal

pub returns : goal.returns
returns c = no_refusal c.joins_is_decided.ensures
