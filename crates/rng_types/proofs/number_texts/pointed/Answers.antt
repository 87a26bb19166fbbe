use Rattle.std.proofs.Common.{sym, ◌∙◌}
use Rattle.rng_types.proofs.Pushed.{pointed_made, pointed_already}
use Rattle.rng_types.proofs.number_texts.pointed.Goals as goal
use Rattle.rng_types.proofs.number_texts.pointed.Goals.{then-not-has_point+in_ok-push, else-not-has_point}

pub returns : goal.returns
returns c = elim c.if-not-has_point.branch [
  | then-not-has_point+in_ok-push w ↦ w.text-is ∙ pointed_made c.args.literal.now c.in_ok-text.text w.push.new.self (sym c.has_point.ensures ∙ w.if-not-has_point.true) c.in_ok-text.ensures w.in_ok-push.ensures.ok
  | else-not-has_point w ↦ w.text-is ∙ pointed_already c.args.literal.now c.in_ok-text.text (sym c.has_point.ensures ∙ w.if-not-has_point.false) c.in_ok-text.ensures
]
