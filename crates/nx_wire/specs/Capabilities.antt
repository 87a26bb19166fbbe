-- What the server can do, as it tells its client: the protocol's `InitializeResult`.
use Rattle.std.specs.Prelude.{true, codes}
use Rattle.serde_json.specs.Data.{Data, boolean, string, object, member, no_members}
use Rattle.nx_position.specs.declared.position.Encoding.{Encoding}
use Rattle.nx_wire.specs.Diagnostics.{number_data}
use Rattle.nx_wire.specs.Encodings.{encoding_name}

-- documents are opened and closed, and their changes are sent in parts
abbrev pub sync_data : Data
sync_data = object (member (codes "change") (number_data 2) (member (codes "openClose") (boolean true) no_members))

abbrev pub capabilities_data : Encoding → Data
capabilities_data encoding =
    object (member (codes "positionEncoding") (string (encoding_name encoding)) (member (codes "textDocumentSync") sync_data no_members))

-- what the server is called
abbrev pub info_data : Data
info_data = object (member (codes "name") (string (codes "nxml-server")) no_members)

-- `{"capabilities": {..}, "serverInfo": {"name": "nxml-server"}}`
abbrev pub initialized_data : Encoding → Data
initialized_data encoding =
    object (member (codes "capabilities") (capabilities_data encoding) (member (codes "serverInfo") info_data no_members))
