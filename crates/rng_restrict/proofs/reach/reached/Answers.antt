use Rattle.std.proofs.Common.{◌≡◌, ◌<◌, ◌≤◌, length, sym, ◌∙◌, arith}
use Rattle.std.proofs.lemmas.List.{length-map}
use Rattle.rng_core.specs.Meaning.{pattern_of, definition_of, definitions_of}
use Rattle.rng_restrict.proofs.Reached.{begun_with, gone_on, within_after, spread_ends, few}
use Rattle.rng_restrict.proofs.reach.reached.Goals as goal

pub loop-next-init : goal.loop-next-init
loop-next-init c =
    let all : length c.in_ok-reach.reach.seen.items ≡ length (definitions_of c.args.grammar.now) =
    c.in_ok-reach.ensures.1 ∙ c.len.ensures ∙ sym (length-map c.args.grammar.now.defs definition_of) in
    record {
      spread = begun_with (pattern_of c.args.grammar.now.start) (definitions_of c.args.grammar.now) _ _ _ all c.in_ok-reach.ensures.0 c.in_ok-add_all.ensures.added;
      within = omega arith;
      steady = c.in_ok-add_all.ensures.steady ∙ all;
    }

pub loop-next-smaller : goal.loop-next-smaller
loop-next-smaller c =
    let inside : c.loop-next.next < length c.loop-next.reach.found.items = omega (arith, c.len-in-loop-next.ensures, c.loop-next.reach.found.ok.0, c.loop-next-test.true) in
    let most = few c.loop-next.reach.found.items c.loop-next.reach.seen.items c.loop-next.reach.marked in
    let more : c.loop-next.next < length (definitions_of c.args.grammar.now) = omega (arith, inside, most, c.loop-next.invariant.steady) in
    omega (arith, more)

pub loop-next-preserved : goal.loop-next-preserved
loop-next-preserved c =
    let inside : c.loop-next.next < length c.loop-next.reach.found.items = omega (arith, c.len-in-loop-next.ensures, c.loop-next.reach.found.ok.0, c.loop-next-test.true) in
    record {
      spread = gone_on (pattern_of c.args.grammar.now.start) (definitions_of c.args.grammar.now) _ c.loop-next.next c.index-number.result.now c.loop-next.reach.found.items c.follow.new.self.found.items inside c.loop-next.invariant.steady c.index-number.ensures c.in_ok-follow.ensures.added c.loop-next.invariant.spread;
      within = within_after (definitions_of c.args.grammar.now) _ c.loop-next.next c.index-number.result.now c.loop-next.reach.found.items c.follow.new.self.found.items inside c.in_ok-follow.ensures.added;
      steady = c.in_ok-follow.ensures.steady ∙ c.loop-next.invariant.steady;
    }

pub returns : goal.returns
returns c =
    let least : length c.loop-next.reach.found.items ≤ c.loop-next.next = omega (arith, c.len-in-loop-next.ensures, c.loop-next.reach.found.ok.0, c.loop-next-test.false) in
    spread_ends (pattern_of c.args.grammar.now.start) (definitions_of c.args.grammar.now) c.loop-next.reach.found.items c.loop-next.next least c.loop-next.invariant.within c.loop-next.invariant.spread
