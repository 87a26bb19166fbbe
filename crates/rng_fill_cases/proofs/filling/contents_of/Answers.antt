use Rattle.std.proofs.Common.{List, ℕ, map, ◌≡◌, ◌∙◌, ap, refl, sym, subst}
use Rattle.std.proofs.lemmas.Bool.{false≢true}
use Rattle.rng_core.specs.Meaning.{pattern_of, definitions_of}
use Rattle.rng_core.specs.Patterns.{Definition}
use Rattle.rng_cost.specs.Leaves.{leaves}
use Rattle.rng_fill.specs.declared.contents.Contents.{Contents}
use Rattle.rng_fill.specs.Contents.{definitions_in, costs_in, HaveLeaves, AreRead}
use Rattle.rng_fill.specs.Fillable.{CanBeFilled}
use Rattle.rng_fill_cases.proofs.filling.contents_of.Goals as goal

own_leaves : (g : List Definition) (costs : List ℕ) (contents : Contents) → HaveLeaves g costs contents → AreRead contents
own_leaves g costs contents h = record {
  definitions = refl;
  by_costs = refl;
  each =
      h.each
      ∙ (ap (λ (xs : List Definition). map (λ d. leaves costs d.content) xs) (sym h.definitions)
      ∙ ap (λ (ns : List ℕ). map (λ d. leaves ns d.content) (definitions_in contents)) (sym h.by_costs));
}

pub returns : goal.returns
returns c =
    let g : List Definition = definitions_of c.args.grammar.now in
    let costs : List ℕ = c.args.costs.now in
    let fit : CanBeFilled g costs =
    c.filled_where_not_large.ensures (pattern_of c.args.grammar.now.start) g costs c.requires.usable.sound c.requires.usable.live.definitions
    c.requires.usable.unmixed c.requires.least
    (λ large. absurd (false≢true (sym c.if-is_large.false ∙ (c.is_large.ensures g c.requires.least).1 large))) in
    let h = c.in_ok-contents.ensures in
    record {
      definitions = h.definitions;
      read = own_leaves g costs c.in_ok-contents.contents h;
      fit = subst (λ (xs : List Definition). CanBeFilled xs (costs_in c.in_ok-contents.contents)) (sym h.definitions)
          (subst (λ (ns : List ℕ). CanBeFilled g ns) (sym h.by_costs) fit);
    }
