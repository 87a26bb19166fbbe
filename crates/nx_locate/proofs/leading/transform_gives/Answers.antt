use Rattle.std.proofs.Common.{subst, ℕ, List, Option, Some, Ok}
use Rattle.nx_locate.specs.Answering.{MadeAnswers}
use Rattle.nx_locate.proofs.Giving.{made_there}
use Rattle.nx_locate.proofs.leading.transform_gives.Goals as goal

pub returns-in-Some-clause-gives : goal.returns-in-Some-clause-gives
returns-in-Some-clause-gives g c =
    let f = g.F.Files in
    let uri : List ℕ = c.in-Some.uri in
    let made = subst (λ (found : Option (List ℕ)). MadeAnswers c.args.document.now c.args.base.now c.args.from.now c.args.to.now (Ok found))
    c.in-Some.is c.in_ok-uri.ensures in
    made_there (f.told c.args.files.now) c.args.document.now c.args.base.now c.args.from.now c.args.to.now uri (f.faults c.args.files.now)
    (f.faults c.if_there.new.files) c.if_there.result made.0 made.1 c.if_there.ensures.found
