use Rattle.deriv_memory.proofs.Ends.{ends_tell}
use Rattle.deriv_memory.proofs.text.same_ends.Goals as goal

pub returns : goal.returns
returns g c =
    ends_tell c.same_lanes.result c.same_lanes-2.result c.args.a.now c.args.b.now g.row.N c.requires.same_len c.requires.covered
    c.same_lanes.ensures c.same_lanes-2.ensures
