use Rattle.std.proofs.Common.{refl, ◌∙◌}
use Rattle.std.proofs.lemmas.Str.{IsCharBoundary-start}
use Rattle.nx_move.proofs.Cutting.{all_ahead}
use Rattle.nx_move.proofs.ahead.border_ahead.Goals as goal

pub loop-place-init : goal.loop-place-init
loop-place-init g c = record { border = IsCharBoundary-start c.args.text.now c.len-len.ensures.utf8; same = refl }

pub returns-clause-tags : goal.returns-clause-tags
returns-clause-tags g c =
    let past = c.loop-place-test.false in
    c.loop-place.invariant.same ∙ all_ahead c.args.text.now c.args.at c.loop-place.place c.len-len.ensures.utf8 c.loop-place.invariant.border past
