use Rattle.std.proofs.Common.{◌≡◌, List, map, sym, ap, subst, ◌∙◌}
use Rattle.rng_core.specs.declared.grammar.Def.{Def}
use Rattle.rng_core.specs.declared.grammar.Grammar.{Grammar}
use Rattle.rng_core.specs.Meaning.{definition_of}
use Rattle.deriv_pool.specs.Kept.{AreKept}
use Rattle.deriv_pool.proofs.pool.PoolMatcher.needed.Goals as goal

pub needed_names-requires-clause-right : goal.needed_names-requires-clause-right
needed_names-requires-clause-right c =
    let is : c.as_slice-defs.result.now ≡ c.args.self.now.schema.grammar.defs = c.as_slice-defs.ensures ∙ ap (λ (g : Grammar). g.defs) c.grammar.ensures in
    subst (λ (ds : List Def). ∥ AreKept (map definition_of ds) c.args.self.now.states.patterns c.args.self.now.kept.entries.items ∥₁) (sym is) c.args.self.now.names

pub invariant_of-self-clause-names : goal.invariant_of-self-clause-names
invariant_of-self-clause-names c =
    let is : c.as_slice-defs.result.now ≡ c.args.self.now.schema.grammar.defs = c.as_slice-defs.ensures ∙ ap (λ (g : Grammar). g.defs) c.grammar.ensures in
    subst (λ (ds : List Def). ∥ AreKept (map definition_of ds) c.args.self.now.states.patterns c.needed_names.new.kept.entries.items ∥₁) is c.needed_names.ensures.right
