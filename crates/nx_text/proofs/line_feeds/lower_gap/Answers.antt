use Rattle.std.proofs.Common.{◌≡◌, ◌∙◌, ◌-◌, ◌∷◌, length, length-append, sym, ap, arith}
use Rattle.nx_text.specs.Feeds.{joined}
use Rattle.nx_text.proofs.Indices.{last_inside, lowered}
use Rattle.nx_text.proofs.line_feeds.lower_gap.Goals as goal

pub overflow_sub-len : goal.overflow_sub-len
overflow_sub-len c =
    let inside = last_inside (joined c.args.bytes.now) c.loop-moved.moved.front c.pop-feed.new.self.front c.pop-feed.result
    c.loop-moved.invariant.0.front c.pop-feed.ensures.front in
    let len = length-append c.args.bytes.now.front c.args.bytes.now.back in
    let is = c.len-len.ensures in
    omega (arith, inside, len, is)

pub loop-moved-preserved : goal.loop-moved-preserved
loop-moved-preserved c =
    let feed = c.pop-feed.result in
    let len : c.len-len.result ≡ length (joined c.args.bytes.now) =
    c.len-len.ensures ∙ sym (length-append c.args.bytes.now.front c.args.bytes.now.back) in
    let back = c.push_back.ensures.back ∙ ap (λ k. (k - feed) ∷ c.pop-feed.new.self.back) len in
    let index = lowered (joined c.args.bytes.now) c.loop-moved.moved c.pop-feed.new.self c.push_back.new.self feed
    c.loop-moved.invariant.0 c.pop-feed.ensures.front c.pop-feed.ensures.back c.push_back.ensures.front back in
    (index, omega arith)
