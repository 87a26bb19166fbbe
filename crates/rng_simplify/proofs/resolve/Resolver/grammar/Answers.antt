use Rattle.std.proofs.Common.{sym, ◌∙◌, subst, ℕ, Option, length}
use Rattle.rnc_parse.specs.declared.surface.Defined.TheVariants.{Start}
use Rattle.rng_simplify.specs.Findings.{IsGatheredAs}
use Rattle.rng_simplify.proofs.resolve.Resolver.grammar.Goals as goal

pub returns-in-None : goal.returns-in-None
returns-in-None c =
    subst (λ (k : Option ℕ). IsGatheredAs (length c.args.self.now.combined.items) c.args.clauses.now c.gathered.new.combined.items Start k) (sym c.get.ensures ∙ sym c.copied.ensures ∙ c.in-None.is) (c.in_ok-names.ensures.0.gathered Start)
