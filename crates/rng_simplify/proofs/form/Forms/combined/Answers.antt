use Rattle.std.proofs.Common.{sym, ap, ◌∙◌, length, arith}
use Rattle.rng_simplify.proofs.Forming.{first_known, others_known, none_to_join}
use Rattle.rng_simplify.proofs.form.Forms.combined.Goals as goal

pub of-shape-requires : goal.of-shape-requires
of-shape-requires c = let known = (first_known _ _ _ _ _ (sym c.as_slice.ensures.value ∙ c.in-Some.ensures.cases.0) c.requires).within in omega (arith, known, c.first.view_is)

pub behind-requires-clause-known : goal.behind-requires-clause-known
behind-requires-clause-known c = others_known _ _ _ _ _ (sym c.as_slice.ensures.value ∙ c.in-Some.ensures.cases.0) c.requires

pub returns-in-None-clause-made : goal.returns-in-None-clause-made
returns-in-None-clause-made c = none_to_join _ _ _ _ _ _ (ap length (sym c.as_slice.ensures.value) ∙ c.in-None.ensures.cases) c.add.ensures
