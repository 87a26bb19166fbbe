use Rattle.std.proofs.Common.{◌≡◌, ◌∙◌, ◌-◌, ◌++◌, ◌∷◌, [], length, length-append, sym, ap, arith}
use Rattle.std.proofs.lemmas.List.{length-drop}
use Rattle.nx_text.specs.Feeds.{joined, feeds_to_end}
use Rattle.nx_text.proofs.Indices.{same_number, first_inside, raised}
use Rattle.nx_text.proofs.line_feeds.raise_gap.Goals as goal

pub pop_back-left-requires : goal.pop_back-left-requires
pop_back-left-requires c =
    let text = joined c.args.bytes.now in
    let number = same_number text in
    let some = ap length c.loop-moved.invariant.0.back ∙ length-drop (length c.loop-moved.moved.front) (feeds_to_end text) in
    let all = c.requires.all in
    omega (arith, number, some, all)

pub overflow_sub-len : goal.overflow_sub-len
overflow_sub-len c =
    let inside = first_inside (joined c.args.bytes.now) c.loop-moved.moved.back c.pop_back-left.new.self.back
    (length c.loop-moved.moved.front) c.pop_back-left.result c.loop-moved.invariant.0.back c.pop_back-left.ensures.back in
    let len = length-append c.args.bytes.now.front c.args.bytes.now.back in
    let is = c.len-len.ensures in
    omega (arith, inside, len, is)

pub loop-moved-preserved : goal.loop-moved-preserved
loop-moved-preserved c =
    let left = c.pop_back-left.result in
    let len : c.len-len.result ≡ length (joined c.args.bytes.now) =
    c.len-len.ensures ∙ sym (length-append c.args.bytes.now.front c.args.bytes.now.back) in
    let front = c.push.ensures.front ∙ ap (λ k. c.pop_back-left.new.self.front ++ (k - left) ∷ []) len in
    let index = raised (joined c.args.bytes.now) c.loop-moved.moved c.pop_back-left.new.self c.push.new.self left
    c.loop-moved.invariant.0 c.pop_back-left.ensures.front c.pop_back-left.ensures.back front c.push.ensures.back in
    let longer = ap length c.push.ensures.front ∙ length-append c.pop_back-left.new.self.front ((c.len-len.result - left) ∷ []) in
    let same = ap length c.pop_back-left.ensures.front in
    (index, omega arith, omega (arith, longer, same))
