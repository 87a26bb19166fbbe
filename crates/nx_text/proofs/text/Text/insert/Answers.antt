use Rattle.std.proofs.Common.{◌∙◌, ◌++◌, sym, ap}
use Rattle.nx_text.specs.Feeds.{feeds_from}
use Rattle.nx_text.proofs.Sides.{kept_more}
use Rattle.nx_text.proofs.text.Text.insert.Goals as goal

pub invariant_of-self-2 : goal.invariant_of-self-2
invariant_of-self-2 c =
    let moved = c.move_gaps.new in
    kept_more moved.bytes moved.feeds c.push_all.new.self c.push_feeds.new.feeds c.args.added.now c.args.at
    c.move_gaps.ensures.kept c.utf8.added (sym c.move_gaps.ensures.gap)
    (c.push_all.ensures.front ∙ ap (λ t. moved.bytes.front ++ t) c.as_bytes-2.ensures.value) c.push_all.ensures.back
    (c.push_feeds.ensures.front ∙ ap (λ t. moved.feeds.front ++ feeds_from c.args.at t) c.as_bytes-3.ensures.value) c.push_feeds.ensures.back
