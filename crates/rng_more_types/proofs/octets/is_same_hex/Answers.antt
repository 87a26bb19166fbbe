use Rattle.std.proofs.lemmas.Bool.Decides.{same_from_decides}
use Rattle.rng_more_types.proofs.Hex.{hex_decides}
use Rattle.rng_more_types.proofs.octets.is_same_hex.Goals as goal

pub returns : goal.returns
returns c = same_from_decides _ _ c.eq_ignore_ascii_case.ensures.test (hex_decides c.args.a.now c.args.b.now c.requires.first c.requires.second)
