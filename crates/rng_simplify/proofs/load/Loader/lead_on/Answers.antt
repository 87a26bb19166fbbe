use Rattle.rng_simplify.proofs.Chains.{one_more_opened}
use Rattle.rng_simplify.proofs.Loading.{added}
use Rattle.std.specs.Prelude.{◌∷◌, ◌++◌, []}
use Rattle.rng_simplify.proofs.load.Loader.lead_on.Goals as goal

pub returns-clause-known : goal.returns-clause-known
returns-clause-known c =
    one_more_opened c.args.self.now.opened c.add_named.new.self c.args.uri c.in_ok-waiting.waiting c.args.self.now.chain.items
    c.push.new.self.items c.in_ok-add_named.ensures c.in_ok-push.ensures.items c.requires

pub returns-clause-added : goal.returns-clause-added
returns-clause-added c =
    added c.args.uri c.args.file.now.inherited c.args.file.now.surface c.in_ok-waiting.waiting c.args.self.now.chain.items
    c.push.new.self.items c.args.self.now.loaded.items (c.args.self.now.loaded.items ++ c.args.file.now ∷ [])
    c.in_ok-waiting.ensures c.in_ok-push.ensures.items (λ i. c.args.self.now.loaded.items ++ c.args.file.now ∷ [])
