use Rattle.std.proofs.Common.{sym, ap, ◌∙◌, List}
use Rattle.rng_types.specs.Numbers.{is_integer, number_of}
use Rattle.rng_types.specs.NumberMembers.{is_number_left, has_integer}
use Rattle.rng_types.specs.declared.facet.Facet.{Facet}
use Rattle.rng_types.proofs.Sound.{excepts_integer}
use Rattle.rng_types.proofs.Tried.{some_given}
use Rattle.rng_types.proofs.TriedMore.{integer_given, no_integer_given, none_said, some_said}
use Rattle.rng_types.proofs.datatype.Datatype.integer_member.Goals as goal

pub returns-then-is_some : goal.returns-then-is_some
returns-then-is_some c = some_given c.args.self.now c.args.excepts.now c.args.one_token c.in_ok-simple.simple _ (sym c.is_some.ensures ∙ c.if-is_some.true) c.in_ok-simple.ensures

pub left_integer-requires-clause-others : goal.left_integer-requires-clause-others
left_integer-requires-clause-others c = excepts_integer c.args.self.now c.args.excepts.now c.requires.form c.requires.sound

pub returns-in_default : goal.returns-in_default
returns-in_default c =
    no_integer_given c.args.self.now c.args.excepts.now c.args.one_token c.requires.form c.requires.made c.requires.few
    (ap (λ (facets : List Facet). has_integer facets c.args.excepts.now) (sym c.as_slice.ensures) ∙ none_said c.in_ok-literal.field-0 _ _ c.in_default.is c.in_ok-literal.ensures)

pub returns : goal.returns
returns c =
    let said = some_said c.in_ok-literal.field-0 c.in-Some.literal _ _ c.in-Some.is c.in_ok-literal.ensures in
    integer_given c.args.self.now c.args.excepts.now c.args.one_token c.as_slice-2.result.now c.in_ok-found.found c.requires.form c.requires.made c.requires.few
    (ap is_integer c.as_slice-2.ensures ∙ said.0)
    (ap (λ t. is_number_left c.args.self.now.facets c.args.excepts.now (number_of t)) c.as_slice-2.ensures
    ∙ ap (λ (facets : List Facet). is_number_left facets c.args.excepts.now (number_of c.in-Some.literal)) (sym c.as_slice.ensures) ∙ said.1)
    c.in_ok-found.ensures
