use Rattle.nx_events.proofs.LaneMasks.{same_from_lanes}
use Rattle.nx_events.proofs.lanes.are_same.Goals as goal

pub returns : goal.returns
returns g c = same_from_lanes c.args.a.now c.args.b.now c.args.at g.row.N c.requires.inside c.requires.inside_other c.requires.lanes
