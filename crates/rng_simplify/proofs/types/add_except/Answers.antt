use Rattle.std.proofs.Common.{refl}
use Rattle.rng_simplify.proofs.Typing.{same_taken, string_taken, token_taken}
use Rattle.rng_simplify.proofs.types.add_except.Goals as goal

pub returns-then-same_type : goal.returns-then-same_type
returns-then-same_type c = same_taken _ _ c.args.text.now _ _ _ _ _ (c.if-same_type.ensures.0 refl) (c.add_own.ensures _)

pub returns-in_ok-push : goal.returns-in_ok-push
returns-in_ok-push c = string_taken _ _ _ _ _ _ _ c.if-same_type.ensures.1 (c.if-is_string.ensures.0 refl) c.requires c.in_ok-copy.ensures c.in_ok-push.ensures.ok

pub returns-in_ok-push-2 : goal.returns-in_ok-push-2
returns-in_ok-push-2 c = token_taken _ _ _ _ _ _ _ c.if-same_type.ensures.1 (c.if-is_token.ensures.0 refl) c.requires c.in_ok-copy-2.ensures c.in_ok-push-2.ensures.ok
