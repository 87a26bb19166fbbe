use Rattle.std.proofs.Common.{sym, subst, arith, ◌∷◌, ◌∙◌}
use Rattle.std.proofs.lemmas.Result.{err_from_is_err_and}
use Rattle.nx_locate.specs.Walking.{UnderWay, opens_of, open_of}
use Rattle.nx_locate.proofs.Walks.{all_listed, none_open_left, put_behind, refuses_alike}
use Rattle.nx_locate.proofs.load.Loader.follow.Goals as goal

pub returns-in_default-clause-lists : goal.returns-in_default-clause-lists
returns-in_default-clause-lists g c start under =
    let told = g.F.Files.told c.args.files.now in
    let listed = c.loop-turn.self.rules.items in
    let here = c.loop-turn.invariant.under_way start under in (
      all_listed told start listed
          (subst (λ opens. UnderWay told start opens listed)
          (none_open_left c.loop-turn.self.chain.items (omega (arith, c.in_default.ensures.cases.0, c.loop-turn.self.chain.ok.0))) here.0),
      here.1,
    )

pub returns-in_err-go_on-clause-lists : goal.returns-in_err-go_on-clause-lists
returns-in_err-go_on-clause-lists g c start under =
    let f = g.F.Files in
    let listed = c.loop-turn.self.rules.items in
    let p = err_from_is_err_and c.from_residual.result c.from_residual.ensures.1 in
    let here = c.loop-turn.invariant.under_way start under in
    let at_file : UnderWay (f.told c.args.files.now) start (open_of c.in-Some.file ∷ opens_of c.pop.new.self.items) listed =
    subst (λ opens. UnderWay (f.told c.args.files.now) start opens listed) (put_behind c.pop.new.self.items c.loop-turn.self.chain.items
    c.in-Some.file c.in-Some.ensures.items) here.0 in
    let at_files : UnderWay (f.told c.loop-turn.files) start (open_of c.in-Some.file ∷ opens_of c.pop.new.self.items) listed =
    subst (λ told. UnderWay told start (open_of c.in-Some.file ∷ opens_of c.pop.new.self.items) listed) (sym c.loop-turn.invariant.map)
    at_file in
    rw (p.1, p.2) (refuses_alike (f.told c.loop-turn.files) (f.told c.args.files.now) start (f.faults c.loop-turn.files)
    (f.faults c.args.files.now) (f.faults c.go_on.new.files) c.in_err-go_on.field-0.0 c.loop-turn.invariant.map
    here.1 (c.in_err-go_on.ensures.goes_on start at_files))

pub loop-turn-preserved : goal.loop-turn-preserved
loop-turn-preserved g c = record {
  chain = c.in_ok-go_on.ensures.chain_texts;
  rules = c.in_ok-go_on.ensures.rules_texts;
  map = c.in_ok-go_on.ensures.map ∙ c.loop-turn.invariant.map;
  under_way = λ start under.
      let f = g.F.Files in
      let listed = c.loop-turn.self.rules.items in
      let here = c.loop-turn.invariant.under_way start under in
      let at_file : UnderWay (f.told c.args.files.now) start (open_of c.in-Some.file ∷ opens_of c.pop.new.self.items) listed =
      subst (λ opens. UnderWay (f.told c.args.files.now) start opens listed) (put_behind c.pop.new.self.items c.loop-turn.self.chain.items
      c.in-Some.file c.in-Some.ensures.items) here.0 in
      let at_files : UnderWay (f.told c.loop-turn.files) start (open_of c.in-Some.file ∷ opens_of c.pop.new.self.items) listed =
      subst (λ told. UnderWay told start (open_of c.in-Some.file ∷ opens_of c.pop.new.self.items) listed) (sym c.loop-turn.invariant.map)
      at_file in
      let goes_on = c.in_ok-go_on.ensures.goes_on start at_files in (
        subst (λ told. UnderWay told start (opens_of c.go_on.new.self.chain.items) c.go_on.new.self.rules.items) c.loop-turn.invariant.map
            goes_on.0,
        goes_on.1 ∙ here.1,
      );
  steps = omega (arith, c.loop-turn.invariant.steps, c.in_ok-go_on.ensures.steps);
}
