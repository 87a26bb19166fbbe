use Rattle.std.proofs.Common.{string_bytes, ◌∙◌}
use Rattle.std.proofs.lemmas.Map.Text.{btree_map_updates_text}
use Rattle.nx_host.proofs.TableLemmas.{table_of-updated}
use Rattle.nx_host.proofs.file_table.FileTable.set.Goals as goal

pub returns-clause-ok : goal.returns-clause-ok
returns-clause-ok c =
    let updated = btree_map_updates_text (string_bytes c.in_ok-key.key) c.self.inside.files c.insert.new.self _ c.in_ok-insert.ensures.updates in
    table_of-updated c.self.inside.files c.insert.new.self c.args.self.now
    (string_bytes c.in_ok-key.key) c.args.uri.now c.from_vec-bytes.result c.args.bytes.now
    c.self.view_is c.in_ok-key.ensures.ok (c.from_vec-bytes.ensures ∙ c.in_ok-from_slice.ensures.items) updated
