use Rattle.std.proofs.Common.{List, Option, ap, sym, subst, ◌∙◌}
use Rattle.std.specs.Option.{option_map}
use Rattle.std.proofs.lemmas.Option.{slice_get-map}
use Rattle.rng_core.specs.Meaning.{definition_of}
use Rattle.rng_core.specs.Patterns.{Definition}
use Rattle.rng_fill.specs.Fillable.{IsNamed, is_named_by}
use Rattle.rng_fill_cases.proofs.filling.element_of.Goals as goal

pub write_element-requires-clause-named : goal.write_element-requires-clause-named
write_element-requires-clause-named c =
    let at = slice_get-map definition_of c.args.grammar.now.defs c.args.number ∙ ap (option_map definition_of) (sym c.in-Some.ensures) in
    subst (λ (xs : List Definition). IsNamed xs c.args.number) (sym c.requires.contents.definitions)
    (ap is_named_by at ∙ c.has_name.ensures c.if-has_name.true)
