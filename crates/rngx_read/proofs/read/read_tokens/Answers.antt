use Rattle.std.proofs.Common.{Ok, Err, ap, ◌∙◌}
use Rattle.std.specs.List.{flat_map}
use Rattle.std.proofs.lemmas.Result.{err_from_is_err_and}
use Rattle.rngx_read.specs.Elements.{declared_of_token}
use Rattle.rngx_read.specs.Views.{listed}
use Rattle.rngx_read.proofs.Answering.{nodes_answer}
use Rattle.rngx_read.proofs.Walking.{elements_found, none_found, of_text}
use Rattle.rngx_read.proofs.read.read_tokens.Goals as goal

pub returns-in_err-elements : goal.returns-in_err-elements
returns-in_err-elements c text utf8 tokens len =
    let why = err_from_is_err_and c.from_residual-in_err-elements.result c.from_residual-in_err-elements.ensures.1 in
    let declared = c.in_ok-declared.ensures ∙ ap (flat_map declared_of_token) tokens in
    rw (why.1, why.2)
    (none_found text c.in_err-elements.field-0.0
    (of_text text c.args.tokens.now c.args.len c.in_ok-declared.declared.items (Err c.in_err-elements.field-0.0) tokens len declared
    c.in_err-elements.ensures))

pub returns : goal.returns
returns c text utf8 tokens len =
    let declared = c.in_ok-declared.ensures ∙ ap (flat_map declared_of_token) tokens in
    let found = elements_found text c.in_ok-elements.elements utf8
    (of_text text c.args.tokens.now c.args.len c.in_ok-declared.declared.items (Ok c.in_ok-elements.elements) tokens len declared c.in_ok-elements.ensures) in
    nodes_answer text found.nodes c.said.result found.is_read found.shallow
    (c.said.ensures text found.nodes tokens found.is_read (ap listed c.as_slice.ensures.value ∙ found.elements_are))
