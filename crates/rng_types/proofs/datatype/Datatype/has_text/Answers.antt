use Rattle.std.proofs.Common.{sym, ◌∙◌, ap}
use Rattle.std.specs.Prelude.{List}
use Rattle.rng_types.specs.TextMembers.{allows}
use Rattle.rng_types.specs.declared.facet.Facet.{Facet}
use Rattle.rng_types.proofs.Texts.{text_empty_accepted}
use Rattle.rng_types.proofs.datatype.Datatype.has_text.Goals as goal

pub is_empty_left-requires-clause-accepted : goal.is_empty_left-requires-clause-accepted
is_empty_left-requires-clause-accepted c =
    text_empty_accepted c.args.self.now c.args.whitespace c.requires.form c.requires.made
    (ap (λ (facets : List Facet). allows facets 0) (sym c.as_slice-else-one_token.ensures) ∙ sym c.allows.ensures ∙ c.if-not-allows.false)
