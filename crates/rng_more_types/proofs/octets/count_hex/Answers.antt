use Rattle.std.proofs.Common.{sym}
use Rattle.rng_more_types.proofs.Hex.{hex_count}
use Rattle.rng_more_types.proofs.octets.count_hex.Goals as goal

pub returns : goal.returns
returns c = sym (hex_count c.args.text.now)
