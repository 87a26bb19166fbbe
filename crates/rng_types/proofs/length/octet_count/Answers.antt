use Rattle.rng_types.proofs.MoreSame.{is_one}
use Rattle.rng_types.proofs.length.octet_count.Goals as goal

pub octets-requires : goal.octets-requires
octets-requires c = is_one c.args.more c.args.text.now c.requires
