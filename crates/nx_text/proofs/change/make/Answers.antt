use Rattle.std.proofs.Common.{◌≡◌, ◌∙◌, ◌++◌, length, take, sym, ap, arith}
use Rattle.std.proofs.lemmas.List.{length-take-le}
use Rattle.nx_text.specs.Feeds.{feeds_from, joined}
use Rattle.nx_text.proofs.Sides.{kept_more, kept_utf8, front_text}
use Rattle.nx_text.proofs.change.make.Goals as goal

pub take_out-requires-clause-front_utf8 : goal.take_out-requires-clause-front_utf8
take_out-requires-clause-front_utf8 c =
    let bytes = c.args.bytes.now in
    let change = c.args.change.now in
    front_text (joined bytes) c.move_gaps.new.bytes.front change.from change.to (kept_utf8 bytes c.args.feeds.now c.requires.kept)
    c.requires.range.start c.requires.range.ordered c.move_gaps.ensures.front

pub returns-clause-kept : goal.returns-clause-kept
returns-clause-kept c =
    let out = c.take_out.new in
    let change = c.args.change.now in
    let ordered = c.requires.range.ordered in
    let gap = c.move_gaps.ensures.gap in
    let len : length (take change.from c.move_gaps.new.bytes.front) ≡ change.from = length-take-le change.from c.move_gaps.new.bytes.front (omega arith) in
    kept_more out.bytes out.feeds c.push_all.new.self c.push_feeds.new.feeds change.text change.from
    c.take_out.ensures.kept c.requires.utf8 (sym (ap length c.take_out.ensures.front ∙ len))
    (c.push_all.ensures.front ∙ ap (λ t. out.bytes.front ++ t) c.as_slice.ensures) c.push_all.ensures.back
    (c.push_feeds.ensures.front ∙ ap (λ t. out.feeds.front ++ feeds_from change.from t) c.as_slice-2.ensures) c.push_feeds.ensures.back
