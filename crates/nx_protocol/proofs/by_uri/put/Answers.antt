use Rattle.std.proofs.Common.{◌∙◌, Some, cond, ap, string_bytes}
use Rattle.std.proofs.lemmas.Map.Text.{hash_map_updates_text}
use Rattle.std.specs.Str.{bytes_eq}
use Rattle.indexmap.specs.IndexMap.{get_by_text}
use Rattle.nx_protocol.proofs.by_uri.put.Goals as goal

pub returns-in-Ok-insert-clause-ok : goal.returns-in-Ok-insert-clause-ok
returns-in-Ok-insert-clause-ok g c = λ asked.
    hash_map_updates_text (string_bytes c.in-Ok.key) c.args.kept.now c.insert.new.self (Some c.args.value) c.in-Ok-insert.ensures.updates asked
    ∙ ap (λ bytes. cond (bytes_eq bytes asked) (Some c.args.value) (get_by_text c.args.kept.now asked)) c.in-Ok.ensures.ok
