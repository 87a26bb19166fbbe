use Rattle.std.proofs.Common.{◌∙◌, ap, subst, sym, IsUtf8, []}
use Rattle.std.proofs.lemmas.Result.{err_from_is_err_and}
use Rattle.nx_locate.specs.Walking.{UnderWay, opens_of}
use Rattle.nx_locate.specs.RulesFiles.{AllRules}
use Rattle.nx_locate.specs.Locates.{IfTold}
use Rattle.nx_locate.proofs.Walks.{begins_from, not_begun, refuses_alike}
use Rattle.nx_locate.proofs.load.load.Goals as goal

pub returns-in_err-open-clause-loads : goal.returns-in_err-open-clause-loads
returns-in_err-open-clause-loads g c =
    let f = g.F.Files in
    let p = err_from_is_err_and c.from_residual-in_err-open.result c.from_residual-in_err-open.ensures.1 in
    rw (p.1, p.2) (not_begun (f.told c.args.files.now) c.args.uri.now c.in_ok-first.first (f.faults c.args.files.now) (f.faults c.open.new.files)
    c.in_err-open.field-0.0 (c.in_ok-first.ensures ∙ c.as_bytes.ensures.value)
    (subst (λ u. IsUtf8 u) c.as_bytes.ensures.value c.as_bytes.ensures.utf8) c.in_err-open.ensures.opened)

pub returns-in_err-follow-clause-loads : goal.returns-in_err-follow-clause-loads
returns-in_err-follow-clause-loads g c =
    let f = g.F.Files in
    let p = err_from_is_err_and c.from_residual-in_err-follow.result c.from_residual-in_err-follow.ensures.1 in
    let begun = begins_from (f.told c.args.files.now) c.args.uri.now c.in_ok-first.first (f.faults c.args.files.now) (f.faults c.open.new.files)
    c.new.result.items c.open.new.self.chain.items c.new-2.result.items c.open.new.self.rules.items
    (c.in_ok-first.ensures ∙ c.as_bytes.ensures.value) c.new.ensures.items c.new-2.ensures.items
    (ap (λ rules. rules.items) c.in_ok-open.ensures.rules) c.in_ok-open.ensures.opened in
    let at_files : UnderWay (f.told c.open.new.files) c.args.uri.now (opens_of c.open.new.self.chain.items) c.open.new.self.rules.items =
    subst (λ told. UnderWay told c.args.uri.now (opens_of c.open.new.self.chain.items) c.open.new.self.rules.items)
    (sym c.in_ok-open.ensures.map) begun.0 in
    rw (p.1, p.2) (refuses_alike (f.told c.open.new.files) (f.told c.args.files.now) c.args.uri.now (f.faults c.open.new.files)
    (f.faults c.args.files.now) (f.faults c.follow.new.files) c.in_err-follow.field-0.0 c.in_ok-open.ensures.map
    begun.1 (c.in_err-follow.ensures.lists c.args.uri.now at_files))

pub returns-clause-loads : goal.returns-clause-loads
returns-clause-loads g c =
    let f = g.F.Files in
    let begun = begins_from (f.told c.args.files.now) c.args.uri.now c.in_ok-first.first (f.faults c.args.files.now) (f.faults c.open.new.files)
    c.new.result.items c.open.new.self.chain.items c.new-2.result.items c.open.new.self.rules.items
    (c.in_ok-first.ensures ∙ c.as_bytes.ensures.value) c.new.ensures.items c.new-2.ensures.items
    (ap (λ rules. rules.items) c.in_ok-open.ensures.rules) c.in_ok-open.ensures.opened in
    let at_files : UnderWay (f.told c.open.new.files) c.args.uri.now (opens_of c.open.new.self.chain.items) c.open.new.self.rules.items =
    subst (λ told. UnderWay told c.args.uri.now (opens_of c.open.new.self.chain.items) c.open.new.self.rules.items)
    (sym c.in_ok-open.ensures.map) begun.0 in
    let done = c.in_ok-follow.ensures.lists c.args.uri.now at_files in (
      c.in_ok-follow.ensures.texts,
      subst (λ told. IfTold told (λ files. AllRules files [] c.args.uri.now c.follow.new.self.rules.items)) c.in_ok-open.ensures.map done.0,
      done.1 ∙ begun.1,
    )
