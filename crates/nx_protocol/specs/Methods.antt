-- The methods that are known.
use Rattle.std.specs.Prelude.{ℕ, List, codes, cond}
use Rattle.std.specs.Option.{option_map_or}
use Rattle.std.specs.Str.{bytes_eq}
use Rattle.nx_wire.specs.Envelopes.{method_in}
use Rattle.nx_protocol.specs.declared.method.RequestMethod.{RequestMethod}
use Rattle.nx_protocol.specs.declared.method.RequestMethod.TheVariants as requests
use Rattle.nx_protocol.specs.declared.method.NoticeMethod.{NoticeMethod}
use Rattle.nx_protocol.specs.declared.method.NoticeMethod.TheVariants as notices
use Rattle.serde_json.specs.Data.{Data}

abbrev pub request_named : List ℕ → RequestMethod
request_named name =
    cond (bytes_eq name (codes "initialize")) requests.Initialize (cond (bytes_eq name (codes "shutdown")) requests.Shutdown requests.Other)

abbrev pub notice_named : List ℕ → NoticeMethod
notice_named name =
    cond (bytes_eq name (codes "textDocument/didOpen")) notices.DidOpen
    (cond (bytes_eq name (codes "textDocument/didChange")) notices.DidChange
    (cond (bytes_eq name (codes "textDocument/didClose")) notices.DidClose
    (cond (bytes_eq name (codes "exit")) notices.Exit notices.Other)))

-- the method of a message that is a request
abbrev pub request_of : Data → RequestMethod
request_of message = option_map_or request_named (method_in message) requests.Other

-- that of one that is a notice
abbrev pub notice_of : Data → NoticeMethod
notice_of message = option_map_or notice_named (method_in message) notices.Other
