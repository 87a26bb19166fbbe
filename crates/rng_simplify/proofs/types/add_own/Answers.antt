use Rattle.std.proofs.Common.{refl, sym}
use Rattle.rng_simplify.proofs.Typing.{own_taken, own_beside, accepted_as}
use Rattle.rng_simplify.proofs.types.add_own.Goals as goal

pub returns-in_ok-push : goal.returns-in_ok-push
returns-in_ok-push c = λ name. own_taken _ _ _ _ _ name (accepted_as _ _ _ c.text_of.ensures (c.if-accepts.ensures.decides.0 refl)) c.requires c.in_ok-copy.ensures c.in_ok-push.ensures.ok

pub returns-else-accepts : goal.returns-else-accepts
returns-else-accepts c = λ name. own_beside _ _ c.args.text.now _ _ name (λ h. c.if-accepts.ensures.decides.1 (accepted_as _ _ _ (sym c.text_of.ensures) h)) refl
