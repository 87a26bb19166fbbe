use Rattle.std.proofs.Common.{◌≡◌, ℕ, List, [], ◌∷◌, Option, Some, None, ◌<◌, ◌≤◌, ◌++◌, length, map, sym, ap, subst, ◌∙◌, arith, length-append}
use Rattle.std.specs.Prelude.{slice_get, option_map}
use Rattle.std.proofs.lemmas.List.{length-map, map-append}
use Rattle.std.proofs.lemmas.Option.{slice_get-map, slice_get-get_or}
use Rattle.rng_core.specs.declared.grammar.Def.{Def}
use Rattle.rng_core.specs.Meaning.{definition_of}
use Rattle.rng_restrict.proofs.Reached.{few}
use Rattle.rng_live.proofs.Leavings.{left_more, left_ends, left_never, next_at}
use Rattle.rng_live.proofs.prune.left_definitions.Goals as goal

pub returns-in_default-clause-left : goal.returns-in_default-clause-left
returns-in_default-clause-left c =
    let inside : c.loop-next.next < length c.loop-next.kept.numbers.items = omega (arith, c.len.ensures, c.loop-next.kept.numbers.ok.0, c.loop-next-test.true) in
    left_never (next_at c.loop-next.kept.numbers.items c.loop-next.made inside c.index.ensures c.loop-next.invariant.place) (slice_get-map definition_of c.args.defs.now c.index.result.now ∙ ap (option_map definition_of) (sym c.in_default.ensures)) c.loop-next.invariant.so_far

pub loop-next-smaller : goal.loop-next-smaller
loop-next-smaller c =
    let inside : c.loop-next.next < length c.loop-next.kept.numbers.items = omega (arith, c.len.ensures, c.loop-next.kept.numbers.ok.0, c.loop-next-test.true) in
    let most = few c.loop-next.kept.numbers.items c.loop-next.kept.seen.items c.loop-next.kept.marked in
    omega (arith, inside, most, c.loop-next.invariant.whole)

pub loop-next-preserved : goal.loop-next-preserved
loop-next-preserved c =
    let inside : c.loop-next.next < length c.loop-next.kept.numbers.items = omega (arith, c.len.ensures, c.loop-next.kept.numbers.ok.0, c.loop-next-test.true) in
    let added : c.push.new.self ≡ c.loop-next.made ++ c.in_ok-one.one ∷ [] = c.in_ok-push.ensures.ok in
    record {
      so_far = left_more (c.loop-next.invariant.whole ∙ sym (length-map c.args.defs.now definition_of)) (next_at c.loop-next.kept.numbers.items c.loop-next.made inside c.index.ensures c.loop-next.invariant.place)
          (slice_get-map definition_of c.args.defs.now c.index.result.now ∙ ap (option_map definition_of) (sym c.in-Some.ensures)) c.in_ok-one.ensures.left
          (ap (map definition_of) added ∙ map-append definition_of c.loop-next.made (c.in_ok-one.one ∷ [])) c.loop-next.invariant.so_far;
      steady = c.in_ok-one.ensures.steady ∙ c.loop-next.invariant.steady;
      whole = c.in_ok-one.ensures.steady ∙ c.loop-next.invariant.whole;
      place = omega (arith, ap (λ (x : List Def). length x) added, length-append c.loop-next.made (c.in_ok-one.one ∷ []), c.loop-next.invariant.place);
    }

pub returns-clause-left : goal.returns-clause-left
returns-clause-left c =
    let end : length c.loop-next.kept.numbers.items ≤ c.loop-next.next = omega (arith, c.len.ensures, c.loop-next.kept.numbers.ok.0, c.loop-next-test.false) in
    left_ends (omega (arith, end, c.loop-next.invariant.place, length-map c.loop-next.made definition_of)) c.loop-next.invariant.so_far
