use Rattle.std.proofs.Common.{refl}
use Rattle.rng_simplify.proofs.Turns.{last_first}
use Rattle.rng_simplify.proofs.load.Loader.go_on.Goals as goal

pub returns-in-Some-clause-goes_on : goal.returns-in-Some-clause-goes_on
returns-in-Some-clause-goes_on g c uri under =
    c.open_mention.ensures.goes_on uri c.args.link refl (last_first c.pop.new.self.items c.args.link.waiting.items c.in-Some.mention
    c.in-Some.ensures.items) under
