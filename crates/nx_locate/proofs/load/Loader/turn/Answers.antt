use Rattle.std.proofs.Common.{sym, subst, ◌∷◌, refl}
use Rattle.nx_locate.specs.declared.rule.Rule.{Rule}
use Rattle.nx_locate.specs.Walking.{left_in, opens_of, opened, UnderWay}
use Rattle.nx_locate.proofs.Walks.{is_include, listed_now, included_now}
use Rattle.nx_locate.proofs.load.Loader.turn.Goals as goal

pub returns-in-Some-clause-goes_on : goal.returns-in-Some-clause-goes_on
returns-in-Some-clause-goes_on g c start under =
    included_now (g.F.Files.told c.args.files.now) start (g.F.Files.faults c.args.files.now) (g.F.Files.faults c.include.new.files)
    (opens_of c.include.new.self.chain.items) c.args.self.now.rules c.include.new.self.rules c.include.result c.include.ensures.rules
    (c.include.ensures.goes_on start (subst (λ (r : Rule). UnderWay (g.F.Files.told c.args.files.now) start
    (opened c.args.file.uri (r ∷ left_in c.args.file) ∷ opens_of c.args.self.now.chain.items) c.args.self.now.rules.items)
    (is_include c.args.rule c.in-Some.text.now (sym c.in-Some.ensures)) under))

pub returns-in_ok-list-in-None-clause-goes_on : goal.returns-in_ok-list-in-None-clause-goes_on
returns-in_ok-list-in-None-clause-goes_on g c start under = (
  listed_now (g.F.Files.told c.args.files.now) start c.args.file c.args.rule c.args.self.now.chain.items c.list.new.self.chain.items
      c.args.self.now.rules.items c.list.new.self.rules.items (sym c.in-None.ensures) c.in_ok-list-in-None.ensures.chain
      c.in_ok-list-in-None.ensures.rules under,
  refl,
)
