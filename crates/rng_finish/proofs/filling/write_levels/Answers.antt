use Rattle.std.proofs.Common.{List, sym, subst}
use Rattle.rng_core.specs.Meaning.{pattern_of}
use Rattle.rng_fill.specs.Contents.{definitions_in, costs_in}
use Rattle.rng_finish.specs.declared.left.Level.{Level}
use Rattle.rng_finish.specs.Filled.{FillsLevels, fills_document, fills_level}
use Rattle.rng_finish.specs.Fit.{FitLevels}
use Rattle.rng_finish.proofs.Adding.{none_left}
use Rattle.rng_finish.proofs.filling.write_levels.Goals as goal

pub loop-level-init : goal.loop-level-init
loop-level-init c = record { rest = λ new fills. fills; fits = c.requires.levels; heads = c.requires.heads }

pub write_level-requires-clause-fits : goal.write_level-requires-clause-fits
write_level-requires-clause-fits c =
    (subst (λ (ls : List Level). FitLevels (definitions_in c.args.contents.now) (costs_in c.args.contents.now) ls) c.in-Some.ensures.cases.0
    c.loop-level.invariant.fits).0

pub loop-level-preserved : goal.loop-level-preserved
loop-level-preserved c =
    let g = definitions_in c.args.contents.now in
    let costs = costs_in c.args.contents.now in
    let d = pattern_of c.args.document.now in
    record {
      rest = λ new fills.
          c.loop-level.invariant.rest new
          (subst (λ (ls : List Level). FillsLevels g costs d ls c.loop-level.moves new) (sym c.in-Some.ensures.cases.0)
          (fills_level c.in_ok-write_level.ensures.filled fills));
      fits = (subst (λ (ls : List Level). FitLevels g costs ls) c.in-Some.ensures.cases.0 c.loop-level.invariant.fits).1;
      heads = c.in_ok-write_level.ensures.heads;
    }

pub returns-clause-filled : goal.returns-clause-filled
returns-clause-filled c =
    let g = definitions_in c.args.contents.now in
    let costs = costs_in c.args.contents.now in
    let d = pattern_of c.args.document.now in
    c.loop-level.invariant.rest c.write_pattern.new.moves
    (subst (λ (ls : List Level). FillsLevels g costs d ls c.loop-level.moves c.write_pattern.new.moves) (sym (none_left c.loop-level.inside.now c.in_default.ensures.cases))
    (fills_document c.in_ok-write_pattern.ensures.added))
