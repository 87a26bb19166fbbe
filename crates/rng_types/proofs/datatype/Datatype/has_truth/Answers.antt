use Rattle.std.proofs.Common.{refl, inl, inr}
use Rattle.rng_types.proofs.Truths.{truth_accepted}
use Rattle.rng_types.proofs.datatype.Datatype.has_truth.Goals as goal

pub is_truth_left-requires-clause-accepted : goal.is_truth_left-requires-clause-accepted
is_truth_left-requires-clause-accepted c = truth_accepted c.args.self.now _ c.requires.form c.requires.made (inl refl)

pub is_truth_left-requires-else-is_truth_left-clause-accepted : goal.is_truth_left-requires-else-is_truth_left-clause-accepted
is_truth_left-requires-else-is_truth_left-clause-accepted c = truth_accepted c.args.self.now _ c.requires.form c.requires.made (inr (inl refl))

pub is_truth_left-requires-else-is_truth_left-2-clause-accepted : goal.is_truth_left-requires-else-is_truth_left-2-clause-accepted
is_truth_left-requires-else-is_truth_left-2-clause-accepted c = truth_accepted c.args.self.now _ c.requires.form c.requires.made (inr (inr (inl refl)))

pub is_truth_left-requires-else-is_truth_left-3-clause-accepted : goal.is_truth_left-requires-else-is_truth_left-3-clause-accepted
is_truth_left-requires-else-is_truth_left-3-clause-accepted c = truth_accepted c.args.self.now _ c.requires.form c.requires.made (inr (inr (inr (inl refl))))
