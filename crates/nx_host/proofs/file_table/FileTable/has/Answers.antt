use Rattle.std.proofs.Common.{ap, sym, ◌∙◌, is_some}
use Rattle.std.specs.FinMap as fin
use Rattle.nx_host.proofs.TableLemmas.{get-table_of}
use Rattle.nx_host.proofs.file_table.FileTable.has.Goals as goal

pub returns : goal.returns
returns c =
    c.contains_key.ensures
    ∙ ap is_some (sym (get-table_of c.self.inside.files c.args.uri.now))
    ∙ ap (λ table. fin.contains_key table c.args.uri.now) c.self.view_is
