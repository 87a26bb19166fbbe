use Rattle.std.proofs.Common.{sym, ◌∙◌}
use Rattle.nx_events.proofs.Pieces.{string_whole}
use Rattle.nx_events.proofs.piece.push_further.Goals as goal

pub loop-rest-preserved : goal.loop-rest-preserved
loop-rest-preserved c = c.in_ok-rest.ensures.string ∙ c.loop-rest.invariant

pub returns : goal.returns
returns c = string_whole c.args.reading c.loop-rest.rest.now _ _ (sym c.is_empty.ensures ∙ c.loop-rest-test.false) c.loop-rest.invariant
