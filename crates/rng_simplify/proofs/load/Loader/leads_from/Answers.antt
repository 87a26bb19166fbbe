use Rattle.std.proofs.Common.{ap, sym, ◌∙◌, reverse}
use Rattle.std.specs.Prelude.{option_copied}
use Rattle.rng_simplify.proofs.Chains.{none_opened}
use Rattle.rng_simplify.proofs.load.Loader.leads_from.Goals as goal

pub returns-in-None : goal.returns-in-None
returns-in-None c =
    sym (none_opened c.args.self.now.opened c.args.uri.now (reverse c.args.self.now.chain.items) c.requires
    (sym c.named.ensures ∙ ap option_copied c.in-None.is))
