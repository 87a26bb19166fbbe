use Rattle.std.proofs.Common.{ap, ◌∙◌}
use Rattle.std.proofs.lemmas.Result.{err_from_is_err_and}
use Rattle.nx_script.specs.Reading.{onto, pieces_at}
use Rattle.nx_script.proofs.Texts.{onto_nil, ends_at_quote, gives_up, goes_on, ends_open}
use Rattle.nx_script.proofs.quoted.pieces.Goals as goal

pub loop-rest-init : goal.loop-rest-init
loop-rest-init c = ap (λ text. onto text (pieces_at c.args.bytes.now)) c.new-text.ensures.items ∙ onto_nil (pieces_at c.args.bytes.now)

pub returns-then-first-eq34 : goal.returns-then-first-eq34
returns-then-first-eq34 c =
    ends_at_quote c.loop-rest.text.items c.loop-rest.rest.now (pieces_at c.args.bytes.now) c.in-len1-up.len_at_least c.if-first-eq34.true c.loop-rest.invariant

pub returns : goal.returns
returns c = ends_open c.loop-rest.text.items c.loop-rest.rest.now (pieces_at c.args.bytes.now) c.in_default.len_below c.loop-rest.invariant

pub returns-in_err-rest : goal.returns-in_err-rest
returns-in_err-rest c =
    let fault = err_from_is_err_and c.from_residual.result c.from_residual.ensures.1 in
    rw (fault.1, fault.2)
    (gives_up c.in_err-rest.field-0.0 c.loop-rest.text.items c.loop-rest.rest.now (pieces_at c.args.bytes.now) c.in-len1-up.len_at_least c.if-first-eq34.false c.in_err-rest.ensures.found c.loop-rest.invariant)

pub loop-rest-preserved : goal.loop-rest-preserved
loop-rest-preserved c =
    goes_on c.loop-rest.text.items c.loop-rest.rest.now c.piece.new.text.items c.in_ok-rest.rest.now (pieces_at c.args.bytes.now) c.in-len1-up.len_at_least c.if-first-eq34.false c.in_ok-rest.ensures.found c.loop-rest.invariant
