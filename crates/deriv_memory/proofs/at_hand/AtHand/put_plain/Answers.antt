use Rattle.std.proofs.Common.{refl}
use Rattle.deriv_memory.proofs.Holding.{plain_put}
use Rattle.deriv_memory.proofs.at_hand.AtHand.put_plain.Goals as goal

pub returns-clause-rows : goal.returns-clause-rows
returns-clause-rows c =
    plain_put c.args.self.now.rows.items _ c.args.call.now c.state-state.result c.args.number c.row.result c.with-row.result c.requires.room
    c.requires.plain c.state-state.ensures c.row.ensures c.with-row.ensures refl
