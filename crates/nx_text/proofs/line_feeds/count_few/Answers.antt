use Rattle.std.proofs.Common.{◌≡◌, drop, ap, arith}
use Rattle.std.proofs.lemmas.List.{drop_all}
use Rattle.nx_text.proofs.Feeds.{feed_count, counted}
use Rattle.nx_text.proofs.line_feeds.count_few.Goals as goal

pub returns : goal.returns
returns c =
    let bytes = c.args.bytes.now in let i = c.loop-i.i in
    let end : feed_count (drop i bytes) ≡ 0 = ap feed_count (drop_all i bytes (omega arith)) in
    let number = counted bytes in let so_far = c.loop-i.invariant.0 in
    omega (arith, end, number, so_far)
