-- What the parameters of a message say.
use Rattle.std.specs.Prelude.{ℕ, ℤ, List, codes, Option, option_and_then}
use Rattle.std.specs.Option.{option_map_or}
use Rattle.nx_position.specs.declared.change.Change.{Change}
use Rattle.nx_position.specs.declared.position.Encoding.{Encoding}
use Rattle.nx_position.specs.declared.position.Encoding.TheVariants.{Utf16}
use Rattle.nx_wire.specs.Documents.{content_changes_in, text_in, uri_in, version_in}
use Rattle.nx_wire.specs.Encodings.{encoding_in}
use Rattle.serde_json.specs.Data.{Data}
use Rattle.serde_json.specs.Find.{get}

abbrev pub params_of : Data → Option Data
params_of message = get (codes "params") message

-- the URI of the document that a message is about
abbrev pub uri_of : Data → Option (List ℕ)
uri_of message = option_and_then uri_in (params_of message)

abbrev pub version_of : Data → Option ℤ
version_of message = option_and_then version_in (params_of message)

abbrev pub text_of : Data → Option (List ℕ)
text_of message = option_and_then text_in (params_of message)

abbrev pub changes_of : Data → Option (List Change)
changes_of message = option_and_then content_changes_in (params_of message)

-- what columns count for the client that begins with this message
abbrev pub encoding_of : Data → Encoding
encoding_of message = option_map_or encoding_in (params_of message) Utf16
