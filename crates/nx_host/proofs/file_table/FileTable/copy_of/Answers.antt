use Rattle.std.proofs.Common.{Some, ap, sym, ◌∙◌}
use Rattle.std.specs.FinMap as fin
use Rattle.nx_host.proofs.TableLemmas.{get-table_of}
use Rattle.nx_host.proofs.file_table.FileTable.copy_of.Goals as goal

pub returns-in_ok-copy-in-Some : goal.returns-in_ok-copy-in-Some
returns-in_ok-copy-in-Some c =
    ap Some c.in_ok-copy-in-Some.ensures
    ∙ c.in-Some.ensures.value
    ∙ sym (get-table_of c.self.inside.files c.args.uri.now)
    ∙ ap (λ table. fin.get table c.args.uri.now) c.self.view_is

pub returns-in-None : goal.returns-in-None
returns-in-None c =
    c.in-None.ensures.value
    ∙ sym (get-table_of c.self.inside.files c.args.uri.now)
    ∙ ap (λ table. fin.get table c.args.uri.now) c.self.view_is
