use Rattle.std.proofs.Common.{arith}
use Rattle.rng_simplify.proofs.Nodes.{body_among}
use Rattle.rng_simplify.proofs.resolve.give.Goals as goal

pub index_mut-requires : goal.index_mut-requires
index_mut-requires c =
    let lt = c.requires c.clause-item.result.body (body_among c.args.clauses.now c.loop-clause.clause-index c.clause-item.result (omega arith) c.clause-item.is) in
    omega (arith, lt, c.body.view_is, c.loop-clause.invariant.same_length)
