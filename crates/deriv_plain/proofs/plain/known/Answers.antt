use Rattle.std.proofs.Common.{◌≡◌, ◌<◌, ◌≤◌, ◌+◌, suc, length, map, drop, ap, sym, ◌∙◌, arith}
use Rattle.rng_core.specs.declared.grammar.Def.{Def}
use Rattle.rng_core.specs.declared.grammar.Pat.{Pat}
use Rattle.rng_core.specs.Meaning.{class_of, pattern_of, definition_of}
use Rattle.rng_core.specs.Names.{has_name}
use Rattle.rng_core.specs.Patterns.{Pattern}
use Rattle.deriv_plain.specs.Known.{with_known}
use Rattle.deriv_plain.proofs.Knowing.{one_known, known_here, known_later, known_one_by_one, all_known}
use Rattle.deriv_plain.proofs.plain.known.Goals as goal
use Rattle.deriv_plain.proofs.plain.known.Goals.{then-has+in_ok-known, else-has}

pub loop-number-init : goal.loop-number-init
loop-number-init c = known_one_by_one (map definition_of c.args.defs.now) c.args.name.now 0

pub loop-number-preserved : goal.loop-number-preserved
loop-number-preserved c =
    let next : c.loop-number.number + 1 ≡ suc c.loop-number.number = omega arith in
    let inside : c.loop-number.number < length c.args.defs.now = omega arith in
    let step = one_known c.args.defs.now c.args.name.now (pattern_of c.loop-number.known) c.loop-number.number (c.loop-number.number + 1) c.index-defs-number.result next inside c.index-defs-number.is in
    let named = ap (λ (x : Def). has_name (class_of x.class) c.args.name.now) c.index-defs-number.is ∙ sym c.has.ensures in
    let rest : Pattern → Pattern = λ p. with_known p (drop (c.loop-number.number + 1) (map definition_of c.args.defs.now)) c.args.name.now (c.loop-number.number + 1) in
    elim c.if-has.branch [
      | then-has+in_ok-known w ↦ ap (λ (k : Pat). rest (pattern_of k)) w.known-is ∙ (ap rest w.in_ok-known.ensures
          ∙ (sym (step ∙ known_here (has_name (class_of c.index-defs-number.result.class) c.args.name.now) _ _ (named ∙ w.if-has.true)) ∙ c.loop-number.invariant))
      | else-has w ↦ ap (λ (k : Pat). rest (pattern_of k)) w.known-is
          ∙ (sym (step ∙ known_later (has_name (class_of c.index-defs-number.result.class) c.args.name.now) _ _ (named ∙ w.if-has.false)) ∙ c.loop-number.invariant)
    ]

pub returns : goal.returns
returns c =
    let all : length c.args.defs.now ≤ c.loop-number.number = omega arith in
    sym (all_known c.args.defs.now c.args.name.now (pattern_of c.loop-number.known) c.loop-number.number all) ∙ c.loop-number.invariant
