use Rattle.std.proofs.Common.{sym, ◌∙◌}
use Rattle.std.proofs.lemmas.Result.{err_from_is_err_and}
use Rattle.rnc_parse.proofs.Annotating.{follow_more, follow_ends, follow_stops}
use Rattle.rnc_parse.proofs.Shortening.{follower_shortens}
use Rattle.rnc_parse.proofs.annotation.follow.Goals as goal

pub loop-alloc-smaller : goal.loop-alloc-smaller
loop-alloc-smaller c = follower_shortens.shorter c.loop-alloc.cursor (sym c.stands.ensures ∙ c.loop-alloc-test.true) _ c.follower.new.cursor c.in_ok-follower.ensures

pub loop-alloc-preserved : goal.loop-alloc-preserved
loop-alloc-preserved c = sym (follow_more c.loop-alloc.cursor c.follower.new.cursor (sym c.stands.ensures ∙ c.loop-alloc-test.true) c.in_ok-follower.ensures) ∙ c.loop-alloc.invariant

pub returns-in_err-follower : goal.returns-in_err-follower
returns-in_err-follower c =
    let p = err_from_is_err_and c.from_residual.result c.from_residual.ensures.1 in
    rw (p.1, p.2) (follow_stops c.loop-alloc.cursor _ c.in_err-follower.field-0.0 (sym c.stands.ensures ∙ c.loop-alloc-test.true) c.loop-alloc.invariant c.in_err-follower.ensures)

pub returns : goal.returns
returns c = sym c.loop-alloc.invariant ∙ follow_ends c.loop-alloc.cursor (sym c.stands.ensures ∙ c.loop-alloc-test.false)
