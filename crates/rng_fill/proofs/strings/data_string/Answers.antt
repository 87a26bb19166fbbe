use Rattle.std.proofs.Common.{List, ◌∷◌, false, ap, subst, sym, ◌∙◌}
use Rattle.rng_types.specs.Giving.{IsMemberAnswer}
use Rattle.rng_types.specs.declared.datatype.Except.{Except}
use Rattle.rng_types.specs.declared.datatype.Except.TheVariants.{BuiltinToken}
use Rattle.rng_fill.proofs.Choosing.{data_answer, no_blanks, with_blanks}
use Rattle.rng_fill.proofs.strings.data_string.Goals as goal

pub returns-then-not-solid : goal.returns-then-not-solid
returns-then-not-solid c =
    data_answer c.args.solid c.args.datatype.now c.args.excepts.now c.in_ok-found.found c.requires
    (subst (λ (es : List Except). IsMemberAnswer c.args.datatype.now es false c.in_ok-found.found)
    (c.as_slice.ensures ∙ sym (no_blanks c.args.solid c.args.excepts.now c.if-not-solid.true)) c.in_ok-found.ensures)

pub returns : goal.returns
returns c =
    data_answer c.args.solid c.args.datatype.now c.args.excepts.now c.in_ok-found-2.found c.requires
    (subst (λ (es : List Except). IsMemberAnswer c.args.datatype.now es false c.in_ok-found-2.found)
    (c.as_slice-2.ensures ∙ c.in_ok-insert.ensures.ok ∙ ap (λ (es : List Except). BuiltinToken c.new.result ∷ es) c.in_ok-more.ensures
    ∙ with_blanks c.args.solid c.args.excepts.now c.new.result c.new.ensures c.if-not-solid.false) c.in_ok-found-2.ensures)
