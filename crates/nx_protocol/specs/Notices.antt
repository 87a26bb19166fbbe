-- What becomes of the document under a URI by a message.
use Rattle.std.specs.Prelude.{ℕ, Bool, List, Option, Some, None, cond}
use Rattle.nx_position.specs.declared.position.Encoding.{Encoding}
use Rattle.nx_protocol.specs.Changes.{changed_there, closed, opened}
use Rattle.nx_protocol.specs.Documents.{Document}
use Rattle.nx_protocol.specs.Methods.{notice_of}
use Rattle.nx_protocol.specs.Parameters.{changes_of, text_of, uri_of, version_of}
use Rattle.nx_protocol.specs.Talks.{is_running}
use Rattle.nx_protocol.specs.declared.method.NoticeMethod.{NoticeMethod}
use Rattle.nx_protocol.specs.declared.method.NoticeMethod.TheVariants.{DidOpen, DidChange, DidClose, Exit, Other}
use Rattle.nx_protocol.specs.declared.talk.Talk.{Talk}
use Rattle.nx_wire.specs.Envelopes.{kind_of}
use Rattle.nx_wire.specs.declared.envelope.Kind.{Kind}
use Rattle.nx_wire.specs.declared.envelope.Kind.TheVariants.{Request, Notice, Answer, Wrong}
use Rattle.serde_json.specs.Data.{Data}

-- behind a notice
abbrev pub document_behind_notice : NoticeMethod → Encoding → Data → List ℕ → Option Document → Option Document
document_behind_notice DidOpen encoding message uri old = opened (uri_of message) (version_of message) (text_of message) uri old
document_behind_notice DidChange encoding message uri old =
    changed_there encoding (uri_of message) (version_of message) (changes_of message) uri old
document_behind_notice DidClose encoding message uri old = closed (uri_of message) uri old
document_behind_notice Exit encoding message uri old = old
document_behind_notice Other encoding message uri old = old

-- behind a message of any kind; requests leave all documents
abbrev pub document_behind_kind : Kind → Encoding → Data → List ℕ → Option Document → Option Document
document_behind_kind Request encoding message uri old = old
document_behind_kind Notice encoding message uri old = document_behind_notice (notice_of message) encoding message uri old
document_behind_kind Answer encoding message uri old = old
document_behind_kind Wrong encoding message uri old = old

-- behind a message, or behind one that is no JSON and may have been about any document
abbrev pub document_behind_content : Encoding → Option Data → List ℕ → Option Document → Option Document
document_behind_content encoding None uri old = None
document_behind_content encoding (Some message) uri old = document_behind_kind (kind_of message) encoding message uri old

-- the document that a client has under a URI behind a message; it has some between `initialize` and `shutdown`
abbrev pub document_behind : Talk → Option Data → List ℕ → Option Document → Option Document
document_behind talk content uri old = cond (is_running talk.phase) (document_behind_content talk.encoding content uri old) old

-- the rule of a notice, where it is heard
abbrev pub rule_where : Bool → NoticeMethod → Encoding → Data → List ℕ → Option Document → Option Document
rule_where heard method encoding message uri old = cond heard (document_behind_notice method encoding message uri old) old
