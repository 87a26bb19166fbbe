use Rattle.std.proofs.Common.{ap, arith}
use Rattle.std.specs.Prelude.{length}
use Rattle.nx_events.proofs.Prefixes.{less_is, place_is}
use Rattle.nx_events.proofs.place.place_in_tag.Goals as goal

pub either_place-requires : goal.either_place-requires
either_place-requires c = let size = ap length (less_is c.args.bytes.now c.requires.begins) in omega arith

pub returns : goal.returns
returns c = place_is c.args.bytes.now c.either_place.result c.requires.begins c.requires.text c.either_place.ensures
