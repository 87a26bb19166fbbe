use Rattle.std.proofs.Common.{arith, take}
use Rattle.nx_recover.proofs.Tops.{last_above}
use Rattle.nx_recover.proofs.event.innermost.Goals as goal

pub returns-then-above-gt0 : goal.returns-then-above-gt0
returns-then-above-gt0 g c =
    let above = c.args.change.now.above in
    last_above (take c.args.change.now.kept c.args.levels.now.elements.items) above.items c.len-above.result c.index.result.now
    (omega (arith, c.len-above.ensures, above.ok.0)) c.if-above-gt0.true c.index.ensures
