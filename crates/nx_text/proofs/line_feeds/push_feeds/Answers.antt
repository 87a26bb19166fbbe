use Rattle.std.proofs.Common.{◌≡◌, ◌∙◌, ◌+◌, ◌-◌, ◌≤◌, ◌++◌, length, take, drop, refl, sym, ap, arith, rules, append-nil}
use Rattle.nx_text.specs.Feeds.{feeds_from}
use Rattle.nx_text.proofs.Feeds.{counted}
use Rattle.nx_text.proofs.NextByte.{count_found, one_fed, fewer_left, feeds_none}
use Rattle.nx_text.proofs.line_feeds.push_feeds.Goals as goal

pub loop-before-init : goal.loop-before-init
loop-before-init c =
    let added = c.args.added.now in
    let start : c.args.at + (length added - length added) ≡ c.args.at = omega arith in
    let number = counted added in
    let room = c.requires.room in
    (ap (λ k. c.args.feeds.now.front ++ feeds_from k added) start, refl, omega (arith, number, room), omega arith, omega arith)

pub push-requires : goal.push-requires
push-requires c =
    let left = c.loop-before.left.now in
    let some = count_found left c.in-Some.before c.in-Some.ensures in
    let room = c.loop-before.invariant.2 in
    omega (arith, some, room)

pub loop-before-preserved : goal.loop-before-preserved
loop-before-preserved c =
    let left = c.loop-before.left.now in let n = c.in-Some.before in let inv = c.loop-before.invariant in
    let rest = take (length left - (n + 1)) (drop (n + 1) left) in
    let fewer = fewer_left n left rest c.in-Some.ensures refl in
    let len : length rest ≤ length left = search (rules, arith) in (
      one_fed c.args.at (length c.args.added.now) n c.loop-before.feeds.front c.push.new.self.front left rest
          (c.args.feeds.now.front ++ feeds_from c.args.at c.args.added.now) inv.3 c.in-Some.ensures c.push.ensures.front refl inv.0,
      c.push.ensures.back ∙ inv.1,
      omega (arith, fewer, inv.2, c.push.ensures.room),
      omega (arith, len, inv.3),
      omega (arith, fewer, inv.4, c.push.ensures.room),
    )

pub returns-clause-front : goal.returns-clause-front
returns-clause-front c =
    let left = c.loop-before.left.now in
    sym (append-nil c.loop-before.feeds.front)
    ∙ ap (λ t. c.loop-before.feeds.front ++ t)
    (sym (feeds_none (c.args.at + (length c.args.added.now - length left)) left c.in_default.ensures)) ∙ c.loop-before.invariant.0

pub returns-clause-room : goal.returns-clause-room
returns-clause-room c =
    let number = counted c.args.added.now in
    let inv = c.loop-before.invariant in
    omega (arith, number, inv.4)
