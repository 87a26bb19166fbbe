use Rattle.std.proofs.Common.{ap, sym, ◌∙◌}
use Rattle.std.proofs.lemmas.Str.{IsCharBoundary-start}
use Rattle.nx_move.specs.Walks.{left_of, trail_left}
use Rattle.nx_move.specs.Tags.{tags_of}
use Rattle.nx_move.specs.Ways.{behind}
use Rattle.nx_move.proofs.Cutting.{none_behind_next}
use Rattle.nx_move.proofs.behind.trail_behind.Goals as goal

pub loop-trail-init : goal.loop-trail-init
loop-trail-init g c = record {
  border = IsCharBoundary-start c.args.text.now c.len-len.ensures.utf8;
  same = ap (λ left. left_of left (behind c.args.at (tags_of c.args.text.now))) (sym c.new-trail.ensures);
}

pub returns-then-tag-at : goal.returns-then-tag-at
returns-then-tag-at g c =
    let next = rw c.in-Some.is at c.in_ok-tag.ensures in
    sym (c.loop-trail.invariant.same
    ∙ ap (left_of (trail_left c.loop-trail.trail)) (none_behind_next c.args.text.now c.args.at c.loop-trail.place c.in-Some.tag c.len-len.ensures.utf8 next c.if-tag-at.true))
