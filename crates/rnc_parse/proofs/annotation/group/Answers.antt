use Rattle.std.proofs.Common.{reverse, sym, ◌∙◌, ap}
use Rattle.std.proofs.lemmas.Result.{err_from_is_err_and}
use Rattle.rnc_parse.specs.Reading.{read}
use Rattle.rnc_parse.proofs.Annotating.{closed_over, closed_more, closed_end, closed_stops, behind_shorter}
use Rattle.rnc_parse.proofs.annotation.group.Goals as goal

pub returns-in_err-pass : goal.returns-in_err-pass
returns-in_err-pass c =
    let p = err_from_is_err_and c.from_residual-in_err-pass.result c.from_residual-in_err-pass.ensures.1 in
    rw (p.1, p.2) (closed_stops (reverse c.loop-token.closers.items) (reverse c.pass.new.closers.items) c.loop-token.cursor c.loop-token.cursor c.in-Some.token.now _ c.in_err-pass.field-0.0 c.in-Some.ensures c.loop-token.invariant c.in_err-pass.ensures)

pub returns-then-is_empty : goal.returns-then-is_empty
returns-then-is_empty c =
    sym c.loop-token.invariant
    ∙ closed_end c.loop-token.closers.items c.pass.new.closers.items c.loop-token.cursor c.in-Some.token.now _ c.in-Some.ensures c.in_ok-pass.ensures c.pass.new.closers.ok.0 c.if-is_empty.ensures
    ∙ ap (read tt) (sym c.advance.ensures)

pub loop-token-smaller : goal.loop-token-smaller
loop-token-smaller c = rw c.advance.ensures (behind_shorter c.loop-token.cursor c.in-Some.token.now c.in-Some.ensures)

pub loop-token-preserved : goal.loop-token-preserved
loop-token-preserved c =
    rw c.advance.ensures
    (sym (closed_more c.loop-token.closers.items c.pass.new.closers.items c.loop-token.cursor c.in-Some.token.now _ c.in-Some.ensures c.in_ok-pass.ensures c.pass.new.closers.ok.0 c.if-is_empty.ensures)
    ∙ c.loop-token.invariant)

pub returns : goal.returns
returns c = sym c.loop-token.invariant ∙ closed_over _ _ c.in_default.ensures
