use Rattle.std.proofs.Common.{◌∙◌, ◌-◌, length, take, drop, sym, refl, arith, length-take-le}
use Rattle.nx_text.proofs.Feeds.{counted}
use Rattle.nx_text.proofs.NextByte.{counted_on, fits_on}
use Rattle.nx_text.proofs.line_feeds.count_feeds.Goals as goal

pub slice_bounds-count_few-end : goal.slice_bounds-count_few-end
slice_bounds-count_few-end c = sym (length-take-le 192 c.loop-left.left.now (omega arith))

pub count_few-requires : goal.count_few-requires
count_few-requires c = let len = length-take-le 192 c.loop-left.left.now (omega arith) in omega (arith, len)

pub loop-left-preserved : goal.loop-left-preserved
loop-left-preserved c =
    let left = c.loop-left.left.now in let rest = take (length left - 192) (drop 192 left) in (
      counted_on 192 c.loop-left.count c.from-count.result left rest c.args.text.now (omega arith) (c.from-count.ensures ∙ c.count_few.ensures) refl
          c.loop-left.invariant.0,
      fits_on 192 c.loop-left.count c.from-count.result left rest c.args.text.now (omega arith) (c.from-count.ensures ∙ c.count_few.ensures) refl
          c.loop-left.invariant.1,
    )

pub returns : goal.returns
returns c =
    let all = counted c.args.text.now in let rest = counted c.loop-left.left.now in let so_far = c.loop-left.invariant.0 in
    omega (arith, all, rest, so_far)
