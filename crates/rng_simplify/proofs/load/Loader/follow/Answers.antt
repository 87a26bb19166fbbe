use Rattle.std.proofs.Common.{subst, sym, arith, ◌∷◌, reverse}
use Rattle.std.proofs.lemmas.Result.{err_from_is_err_and}
use Rattle.rng_simplify.specs.FileChains.{IsUnderWay}
use Rattle.rng_simplify.proofs.Loading.{completed_all}
use Rattle.rng_simplify.proofs.Turns.{last_first, none_reversed, answers_alike}
use Rattle.rng_simplify.proofs.load.Loader.follow.Goals as goal

pub returns-in_default-clause-followed : goal.returns-in_default-clause-followed
returns-in_default-clause-followed g c uri under =
    let told = g.F.Files.told c.args.files.now in
    let loaded = c.loop-turn.self.loaded.items in (
      completed_all told uri loaded
          (subst (λ links. IsUnderWay told uri links loaded)
          (none_reversed c.loop-turn.self.chain.items (omega (arith, c.in_default.ensures.cases.0, c.loop-turn.self.chain.ok.0)))
          (c.loop-turn.invariant.under_way uri under)),
      c.loop-turn.invariant.faults,
    )

pub returns-in_err-go_on-clause-followed : goal.returns-in_err-go_on-clause-followed
returns-in_err-go_on-clause-followed g c uri under =
    let f = g.F.Files in
    let loaded = c.loop-turn.self.loaded.items in
    let p = err_from_is_err_and c.from_residual.result c.from_residual.ensures.1 in
    let at_link : IsUnderWay (f.told c.args.files.now) uri (c.in-Some.link ∷ reverse c.pop.new.self.items) loaded =
    subst (λ links. IsUnderWay (f.told c.args.files.now) uri links loaded) (last_first c.pop.new.self.items c.loop-turn.self.chain.items
    c.in-Some.link c.in-Some.ensures.items) (c.loop-turn.invariant.under_way uri under) in
    let at_files : IsUnderWay (f.told c.loop-turn.files) uri (c.in-Some.link ∷ reverse c.pop.new.self.items) loaded =
    subst (λ told. IsUnderWay told uri (c.in-Some.link ∷ reverse c.pop.new.self.items) loaded) (sym c.loop-turn.invariant.map)
    at_link in
    rw (p.1, p.2) (answers_alike (f.told c.loop-turn.files) (f.told c.args.files.now) uri (f.faults c.loop-turn.files)
    (f.faults c.args.files.now) (f.faults c.go_on.new.files) c.in_err-go_on.field-0.0 c.loop-turn.invariant.map
    c.loop-turn.invariant.faults (c.in_err-go_on.ensures.goes_on uri at_files))
