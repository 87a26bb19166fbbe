use Rattle.std.proofs.Common.{take, arith}
use Rattle.nx_text.specs.Feeds.{joined}
use Rattle.nx_text.proofs.Feeds.{counted, fewer_before}
use Rattle.nx_text.proofs.Indices.{index_of}
use Rattle.nx_text.proofs.Sides.{kept_moved}
use Rattle.nx_text.proofs.line_feeds.move_gaps.Goals as goal

pub lower_gap-requires : goal.lower_gap-requires
lower_gap-requires c = index_of c.args.bytes.now c.args.feeds.now c.requires.kept

pub raise_gap-requires-clause-all : goal.raise_gap-requires-clause-all
raise_gap-requires-clause-all c =
    let text = joined c.args.bytes.now in
    let fewer = fewer_before 0 c.args.at text in
    let number = counted (take c.args.at text) in
    let is = c.feeds_before-count.ensures.count in
    omega (arith, fewer, number, is)

pub returns-clause-kept : goal.returns-clause-kept
returns-clause-kept c =
    kept_moved c.args.bytes.now c.move_gap.new.self c.args.feeds.now c.raise_gap.new.feeds c.args.at c.feeds_before-count.result
    c.requires.kept c.requires.place c.raise_gap.ensures.index c.raise_gap.ensures.count c.feeds_before-count.ensures.count
    c.move_gap.ensures.front c.move_gap.ensures.back
