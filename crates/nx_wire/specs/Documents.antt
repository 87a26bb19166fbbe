-- Which document a message is about, and what it says of it.
use Rattle.std.specs.Prelude.{ℕ, ℤ, List, codes, Option, option_and_then}
use Rattle.nx_position.specs.declared.change.Change.{Change}
use Rattle.serde_json.specs.Data.{Data}
use Rattle.serde_json.specs.Find.{get, as_array}
use Rattle.nx_wire.specs.Changes.{changes_in}
use Rattle.nx_wire.specs.Values.{integer_at, text_at}

-- the URI of a document: `{"textDocument": {"uri": URI}}`
abbrev pub uri_in : Data → Option (List ℕ)
uri_in params = option_and_then (text_at (codes "uri")) (get (codes "textDocument") params)

-- its version: `{"textDocument": {"version": N}}`
abbrev pub version_in : Data → Option ℤ
version_in params = option_and_then (integer_at (codes "version")) (get (codes "textDocument") params)

-- its text: `{"textDocument": {"text": TEXT}}`
abbrev pub text_in : Data → Option (List ℕ)
text_in params = option_and_then (text_at (codes "text")) (get (codes "textDocument") params)

-- the changes of a text: `{"contentChanges": [CHANGE, ..]}`
abbrev pub content_changes_in : Data → Option (List Change)
content_changes_in params = option_and_then changes_in (option_and_then as_array (get (codes "contentChanges") params))
