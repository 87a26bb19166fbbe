use Rattle.std.proofs.lemmas.Result.{err_from_is_err_and}
use Rattle.nx_locate.specs.Walking.{left_in, opens_of}
use Rattle.nx_locate.proofs.Walks.{not_next, opens_or_not, put_behind, opened_texts}
use Rattle.nx_locate.proofs.load.Loader.include.Goals as goal

pub returns-in_err-uri-clause-goes_on : goal.returns-in_err-uri-clause-goes_on
returns-in_err-uri-clause-goes_on g c start under =
    let p = err_from_is_err_and c.from_residual.result c.from_residual.ensures.1 in
    rw (p.1, p.2) (not_next (g.F.Files.told c.args.files.now) start c.args.file.uri c.args.text.now (left_in c.args.file)
    (opens_of c.args.self.now.chain.items) c.args.self.now.rules.items under (g.F.Files.faults c.args.files.now) c.in_err-uri.field-0.0
    c.requires.text c.in_err-uri.ensures)

pub returns-clause-goes_on : goal.returns-clause-goes_on
returns-clause-goes_on g c start under =
    opens_or_not (g.F.Files.told c.args.files.now) start c.args.file.uri c.args.text.now (left_in c.args.file)
    (opens_of c.args.self.now.chain.items) c.args.self.now.rules.items under c.in_ok-uri.uri (g.F.Files.faults c.args.files.now)
    (g.F.Files.faults c.open.new.files) c.put_back.new.self.chain.items c.open.new.self.chain.items c.open.result c.in_ok-uri.ensures
    (put_behind c.args.self.now.chain.items c.put_back.new.self.chain.items c.args.file c.in_ok-put_back.ensures.chain) c.open.ensures.opened

pub returns-clause-chain_texts : goal.returns-clause-chain_texts
returns-clause-chain_texts g c =
    opened_texts (g.F.Files.told c.args.files.now) c.in_ok-uri.uri (g.F.Files.faults c.args.files.now) (g.F.Files.faults c.open.new.files)
    c.args.self.now.chain.items c.put_back.new.self.chain.items c.open.new.self.chain.items c.args.file c.open.result c.in_ok-uri.ensures.1
    c.in_ok-put_back.ensures.chain c.requires.file c.requires.chain c.open.ensures.opened
