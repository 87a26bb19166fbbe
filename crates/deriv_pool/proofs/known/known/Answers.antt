use Rattle.std.proofs.Common.{◌≡◌, ◌+◌, ◌-◌, List, map, drop, length, sym, ap, subst, ◌∙◌, arith, if◌then◌else◌}
use Rattle.rng_core.specs.Meaning.{class_of, definition_of}
use Rattle.rng_core.specs.Names.{has_name}
use Rattle.rng_core.specs.Patterns.{Pattern, ref}
use Rattle.rng_kept.specs.SmallPatterns.{choice_of}
use Rattle.rng_kept.specs.Standing.{known_from}
use Rattle.deriv_nodes.specs.Numbers.{IsAt}
use Rattle.deriv_pool.specs.Laws.{later_on}
use Rattle.deriv_pool.proofs.Knowing.{one_known}
use Rattle.deriv_pool.proofs.known.known.Goals as goal

pub loop-number-preserved : goal.loop-number-preserved
loop-number-preserved c =
    let i = c.loop-number.number - 1 in
    let d = c.index-defs-number.result in
    let with_one : Pattern → Pattern = λ p. if has_name (class_of d.class) c.args.name.now then choice_of (ref i) p else p in
    let one : known_from (drop i (map definition_of c.args.defs.now)) c.args.name.now i ≡ with_one (known_from (drop c.loop-number.number (map definition_of c.args.defs.now)) c.args.name.now c.loop-number.number) =
    one_known c.args.defs.now c.args.name.now i c.loop-number.number d (omega (arith, c.loop-number-test.true)) (omega (arith, c.loop-number-test.true, c.loop-number.invariant.inside)) c.index-defs-number.is in
    record {
      inside = omega (arith, c.loop-number.invariant.inside);
      later = later_on _ _ _ c.loop-number.invariant.later c.with_definition.ensures.later;
      made = subst (λ (p : Pattern). IsAt c.with_definition.new.states.patterns p c.in_ok-known-2.known)
          (ap with_one c.loop-number.invariant.made.meaning ∙ sym one) c.in_ok-known-2.ensures.made;
    }
