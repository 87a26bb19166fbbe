use Rattle.std.proofs.Common.{refl, sym, ◌∙◌}
use Rattle.nx_locate.specs.Answering.{question}
use Rattle.nx_locate.specs.Leading.{Gives}
use Rattle.nx_locate.proofs.Giving.{gave_none, gave_more, gave_nothing, placed_text}
use Rattle.nx_locate.proofs.leading.all_give.Goals as goal

pub loop-placed-init : goal.loop-placed-init
loop-placed-init g c = record {
  gave = gave_none (g.F.Files.told c.args.files.now) (question c.args.document.now c.args.element.now c.args.rules.now);
  map = refl;
  faults = refl;
}

pub rule_gives-requires-clause-placed : goal.rule_gives-requires-clause-placed
rule_gives-requires-clause-placed g c =
    placed_text (g.F.Files.told c.args.files.now) (question c.args.document.now c.args.element.now c.args.rules.now) c.loop-placed.rest.now
    c.in-Some.more.now c.in-Some.placed.now c.requires.rules c.loop-placed.invariant.gave c.in-Some.ensures.cases.0

pub loop-placed-preserved : goal.loop-placed-preserved
loop-placed-preserved g c =
    let f = g.F.Files in
    let asked = question c.args.document.now c.args.element.now c.args.rules.now in
    let none = gave_nothing (f.told c.loop-placed.files) (f.told c.args.files.now) (λ map. Gives map asked c.in-Some.placed.now)
    (f.faults c.loop-placed.files) (f.faults c.rule_gives.new.files) c.in_ok-found.found (sym c.if-is_some.ensures) c.loop-placed.invariant.map
    c.in_ok-found.ensures.gives in
    record {
      gave =
          gave_more (f.told c.args.files.now) asked c.loop-placed.rest.now c.in-Some.more.now c.in-Some.placed.now c.loop-placed.invariant.gave
          c.in-Some.ensures.cases.0 none.0;
      map = c.in_ok-found.ensures.map ∙ c.loop-placed.invariant.map;
      faults = none.1 ∙ c.loop-placed.invariant.faults;
    }
