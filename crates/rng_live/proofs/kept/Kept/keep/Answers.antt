use Rattle.std.proofs.Common.{◌≡◌, ℕ, List, ◌<◌, ◌≤◌, length, sym, ap, ◌∙◌, arith, true, false}
use Rattle.std.specs.Prelude.{slice_get}
use Rattle.std.proofs.Math.ListN.{length-set}
use Rattle.rng_restrict.proofs.Reached.{stays_without, stays_among, is_added, mark_read, few}
use Rattle.rng_live.proofs.Placing.{placed_more, placed_before, last_is}
use Rattle.rng_live.proofs.kept.Kept.keep.Goals as goal

pub returns-then-old-len-clause-kept : goal.returns-then-old-len-clause-kept
returns-then-old-len-clause-kept c = sym (stays_without _ c.args.number c.args.self.now.numbers.items (omega (arith, c.len.ensures, c.args.self.now.seen.ok.0, c.if-old-len.true)))

pub returns-then-index-clause-kept : goal.returns-then-index-clause-kept
returns-then-index-clause-kept c =
    let inside : c.args.number < length c.args.self.now.seen.items = omega (arith, c.len.ensures, c.args.self.now.seen.ok.0, c.if-old-len.false) in
    sym (stays_among _ c.args.number c.args.self.now.numbers.items (mark_read c.args.number c.args.self.now.numbers.items c.args.self.now.seen.items c.index.result.now true inside c.args.self.now.marked c.index.ensures c.if-index.true))

pub overflow_cast-place : goal.overflow_cast-place
overflow_cast-place c = omega (arith, c.len-place.ensures, c.args.self.now.numbers.ok.0, few c.args.self.now.numbers.items c.args.self.now.seen.items c.args.self.now.marked, c.args.self.now.few)

pub invariant_of-self-2-clause-placed : goal.invariant_of-self-2-clause-placed
invariant_of-self-2-clause-placed c =
    let inside : c.args.number < length c.args.self.now.seen.items = omega (arith, c.len.ensures, c.args.self.now.seen.ok.0, c.if-old-len.false) in
    let room : c.args.number < length c.args.self.now.places.items = omega (arith, inside, c.args.self.now.whole) in
    let last : c.len-place.result ≡ length c.args.self.now.numbers.items = omega (arith, c.len-place.ensures, c.args.self.now.numbers.ok.0) in
    placed_more c.args.self.now.placed room last c.in_ok-push.ensures.items

pub invariant_of-self-2-clause-whole : goal.invariant_of-self-2-clause-whole
invariant_of-self-2-clause-whole c =
    length-set c.args.self.now.places.items c.args.number c.len-place.result ∙ c.args.self.now.whole ∙ sym (length-set c.args.self.now.seen.items c.args.number true)

pub invariant_of-self-2-clause-few : goal.invariant_of-self-2-clause-few
invariant_of-self-2-clause-few c = omega (arith, length-set c.args.self.now.seen.items c.args.number true, c.args.self.now.few)

pub returns-clause-kept : goal.returns-clause-kept
returns-clause-kept c =
    let inside : c.args.number < length c.args.self.now.seen.items = omega (arith, c.len.ensures, c.args.self.now.seen.ok.0, c.if-old-len.false) in
    c.in_ok-push.ensures.items ∙ sym (is_added _ c.args.number c.args.self.now.numbers.items inside (mark_read c.args.number c.args.self.now.numbers.items c.args.self.now.seen.items c.index.result.now false inside c.args.self.now.marked c.index.ensures c.if-index.false))

pub returns-clause-numbered : goal.returns-clause-numbered
returns-clause-numbered c =
    let last : c.len-place.result ≡ length c.args.self.now.numbers.items = omega (arith, c.len-place.ensures, c.args.self.now.numbers.ok.0) in
    λ _. last_is c.args.self.now.numbers.items last c.in_ok-push.ensures.items

pub returns-then-index-clause-numbered : goal.returns-then-index-clause-numbered
returns-then-index-clause-numbered c =
    let inside : c.args.number < length c.args.self.now.seen.items = omega (arith, c.len.ensures, c.args.self.now.seen.ok.0, c.if-old-len.false) in
    let there = mark_read c.args.number c.args.self.now.numbers.items c.args.self.now.seen.items c.index.result.now true inside c.args.self.now.marked c.index.ensures c.if-index.true in
    λ _. placed_before c.args.self.now.placed (omega (arith, inside, c.args.self.now.whole)) there c.index-then-index.ensures
