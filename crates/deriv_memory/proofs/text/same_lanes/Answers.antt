use Rattle.deriv_memory.proofs.Ends.{same_from_lanes}
use Rattle.deriv_memory.proofs.text.same_lanes.Goals as goal

pub returns : goal.returns
returns g c = same_from_lanes c.args.a.now c.args.b.now c.args.at g.row.N c.requires.inside c.requires.inside_other c.requires.lanes
