use Rattle.std.proofs.Common.{subst, sym, reverse}
use Rattle.std.proofs.lemmas.Result.{err_from_is_err_and}
use Rattle.rng_simplify.specs.FileChains.{AreTextLinks, AreOpened}
use Rattle.rng_simplify.proofs.Turns.{last_first, leads_nowhere, leads_to, opened_texts}
use Rattle.rng_simplify.proofs.load.Loader.open_mention.Goals as goal

pub returns-in_err-uri-clause-goes_on : goal.returns-in_err-uri-clause-goes_on
returns-in_err-uri-clause-goes_on g c uri before same taken under =
    let p = err_from_is_err_and c.from_residual.result c.from_residual.ensures.1 in
    rw (p.1, p.2) (leads_nowhere (g.F.Files.told c.args.files.now) uri before c.args.link c.args.mention
    (reverse c.args.self.now.chain.items) c.args.self.now.loaded.items (g.F.Files.faults c.args.files.now) c.in_err-uri.field-0.0 same
    taken under c.requires.mention.0 c.in_err-uri.ensures)

pub open-requires-clause-known : goal.open-requires-clause-known
open-requires-clause-known g c =
    subst (λ links. AreOpened c.args.self.now.opened links)
    (sym (last_first c.args.self.now.chain.items c.push.new.self.items c.args.link c.in_ok-push.ensures.items)) c.requires.known

pub returns-clause-texts : goal.returns-clause-texts
returns-clause-texts g c =
    opened_texts (g.F.Files.told c.args.files.now) c.in_ok-uri.uri c.args.mention.inherited (g.F.Files.faults c.args.files.now)
    (g.F.Files.faults c.open.new.files) c.push.new.self.items c.open.new.self.chain.items c.args.self.now.loaded.items
    c.open.new.self.loaded.items c.open.result c.requires.mention.1 c.in_ok-uri.ensures.1
    (subst (λ links. AreTextLinks links)
    (sym (last_first c.args.self.now.chain.items c.push.new.self.items c.args.link c.in_ok-push.ensures.items))
    (c.requires.link, c.requires.chain)) c.open.ensures.opened

pub returns-clause-goes_on : goal.returns-clause-goes_on
returns-clause-goes_on g c uri before same taken under =
    leads_to (g.F.Files.told c.args.files.now) uri before c.args.link c.args.mention (reverse c.args.self.now.chain.items)
    c.args.self.now.loaded.items c.in_ok-uri.uri (g.F.Files.faults c.args.files.now) (g.F.Files.faults c.open.new.files)
    c.push.new.self.items c.open.new.self.chain.items c.open.new.self.loaded.items c.open.result c.requires.mention.1 same taken under
    c.in_ok-uri.ensures
    (last_first c.args.self.now.chain.items c.push.new.self.items c.args.link c.in_ok-push.ensures.items) c.open.ensures.opened
