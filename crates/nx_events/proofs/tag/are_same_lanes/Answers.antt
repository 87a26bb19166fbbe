use Rattle.std.proofs.Common.{◌+◌}
use Rattle.nx_events.proofs.PlainGroups.{same_in_name}
use Rattle.nx_events.proofs.tag.are_same_lanes.Goals as goal

pub returns : goal.returns
returns g c =
    same_in_name c.are_same.result c.are_high.result c.args.a.now c.args.b.now c.args.at (c.args.at + g.row.N)
    c.are_same.ensures c.are_high.ensures
