use Rattle.std.proofs.Common.{◌≡◌, ◌∙◌, ◌+◌, ◌-◌, ◌≤◌, length, length-append, sym, ap, ap₂, arith}
use Rattle.nx_text.proofs.Feeds.{feed_count, feeds_counted}
use Rattle.nx_text.proofs.Sides.{counted_behind}
use Rattle.nx_text.proofs.line_feeds.feeds_before.Goals as goal

pub returns-else-at-front_len-clause-count : goal.returns-else-at-front_len-clause-count
returns-else-at-front_len-clause-count c =
    let front = c.args.bytes.now.front in let back = c.args.bytes.now.back in let at = c.args.at in
    let len = length-append front back in
    let inside = c.requires.inside in
    let start : c.front_len.result ≡ length front = c.front_len.ensures in
    let whole : c.len.result ≡ length front + length back = c.len.ensures in
    let past : length front ≤ at = omega arith in
    let number : length c.front-front.result.now ≡ feed_count front =
    ap length (c.front-front.ensures ∙ c.requires.kept.front_feeds) ∙ feeds_counted 0 front in
    let behind = c.feeds_beyond.ensures.count back (at - length front) (c.back.ensures ∙ c.requires.kept.back_feeds)
    (omega (arith, len, inside)) (omega arith) in
    ap₂ (λ n m. n + m) number behind ∙ sym (counted_behind front back at past)
