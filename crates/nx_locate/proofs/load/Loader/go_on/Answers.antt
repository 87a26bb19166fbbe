use Rattle.std.proofs.Common.{subst, refl, ◌∷◌, arith}
use Rattle.nx_locate.specs.Walking.{Open, opens_of, UnderWay}
use Rattle.nx_locate.proofs.Walks.{taken, ended, none_waiting}
use Rattle.nx_locate.proofs.load.Loader.go_on.Goals as goal

pub returns-in-Some-clause-goes_on : goal.returns-in-Some-clause-goes_on
returns-in-Some-clause-goes_on g c start under =
    c.turn.ensures.goes_on start (subst (λ (o : Open). UnderWay (g.F.Files.told c.args.files.now) start
    (o ∷ opens_of c.args.self.now.chain.items) c.args.self.now.rules.items)
    (taken c.args.file.uri c.args.file.waiting.items c.pop.new.self.items c.in-Some.rule c.in-Some.ensures.items) under)

pub returns-in-None-clause-goes_on : goal.returns-in-None-clause-goes_on
returns-in-None-clause-goes_on g c start under = (
  ended (g.F.Files.told c.args.files.now) start c.args.file.uri (opens_of c.args.self.now.chain.items) c.args.self.now.rules.items
      (subst (λ (o : Open). UnderWay (g.F.Files.told c.args.files.now) start (o ∷ opens_of c.args.self.now.chain.items)
      c.args.self.now.rules.items) (none_waiting c.args.file.uri c.args.file.waiting.items
      (omega (arith, c.in-None.ensures.cases.0, c.args.file.waiting.ok.0))) under),
  refl,
)
