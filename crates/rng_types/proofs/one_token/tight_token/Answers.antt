use Rattle.std.proofs.Common.{sym, ◌∙◌}
use Rattle.std.proofs.lemmas.Bool.{not_from_false}
use Rattle.rng_types.proofs.Token.{solid_token}
use Rattle.rng_types.proofs.one_token.tight_token.Goals as goal

pub returns : goal.returns
returns c = solid_token c.args.bytes.now c.in_ok-kept.kept c.in_ok-kept.ensures (not_from_false _ (sym c.is_empty.ensures ∙ c.if-is_empty.false))
