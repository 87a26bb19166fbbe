-- What is sent back for a message.
use Rattle.std.specs.Prelude.{◌&&◌, ℕ, List, Bool, true, codes, cond, Option, Some, None, is_some, unwrap_or}
use Rattle.nx_protocol.specs.Methods.{notice_of, request_of}
use Rattle.nx_protocol.specs.Parameters.{changes_of, encoding_of, text_of, uri_of, version_of}
use Rattle.nx_protocol.specs.Talks.{is_running, refusal_of}
use Rattle.nx_protocol.specs.declared.method.NoticeMethod.{NoticeMethod}
use Rattle.nx_protocol.specs.declared.method.NoticeMethod.TheVariants as notices
use Rattle.nx_protocol.specs.declared.method.RequestMethod.{RequestMethod}
use Rattle.nx_protocol.specs.declared.method.RequestMethod.TheVariants as requests
use Rattle.nx_protocol.specs.declared.talk.Phase.{Phase}
use Rattle.nx_protocol.specs.declared.talk.Talk.{Talk}
use Rattle.nx_wire.specs.Answers.{answer_data, error_data, notice_data}
use Rattle.nx_wire.specs.Capabilities.{initialized_data}
use Rattle.nx_wire.specs.Diagnostics.{number_data}
use Rattle.nx_wire.specs.Envelopes.{id_in, kind_of}
use Rattle.nx_wire.specs.declared.answer.Refusal.{Refusal}
use Rattle.nx_wire.specs.declared.answer.Refusal.TheVariants.{InternalError, InvalidRequest, ParseError}
use Rattle.nx_wire.specs.declared.envelope.Kind.{Kind}
use Rattle.nx_wire.specs.declared.envelope.Kind.TheVariants.{Request, Notice, Answer, Wrong}
use Rattle.serde_json.specs.Data.{Data, null, string, object, member, no_members}

-- the id of a message, or `null` where it has none that is one
abbrev pub id_of : Data → Data
id_of message = unwrap_or (id_in message) null

-- what a request that is done is answered with
abbrev pub result_of : RequestMethod → Data → Data
result_of requests.Initialize message = initialized_data (encoding_of message)
result_of requests.Shutdown message = null
result_of requests.Other message = null

abbrev pub answer_by : Option Refusal → Data → Data → Data
answer_by None id result = answer_data id result
answer_by (Some refusal) id result = error_data id refusal

-- the answer to a request
abbrev pub answer_to_request : Phase → RequestMethod → Data → Data
answer_to_request phase method message = answer_by (refusal_of phase method) (id_of message) (result_of method message)

-- whether a notice says what it has to say
abbrev pub is_read : NoticeMethod → Data → Bool
is_read notices.DidOpen message = is_some (uri_of message) && is_some (version_of message) && is_some (text_of message)
is_read notices.DidChange message = is_some (uri_of message) && is_some (version_of message) && is_some (changes_of message)
is_read notices.DidClose message = is_some (uri_of message)
is_read notices.Exit message = true
is_read notices.Other message = true

-- the notice that shows words to the user, as an error: `window/showMessage`
abbrev pub shown_data : List ℕ → Data
shown_data words =
    notice_data (codes "window/showMessage")
    (object (member (codes "message") (string words) (member (codes "type") (number_data 1) no_members)))

-- what is shown where a notice doesn't say what it has to say, so that a text isn't known
abbrev pub unread_data : Data
unread_data = shown_data (codes "a message about a document can't be read; close the document and open it again")

abbrev pub answer_to_notice : NoticeMethod → Data → Option Data
answer_to_notice method message = cond (is_read method message) None (Some unread_data)

-- notices are heard between `initialize` and `shutdown`
abbrev pub answer_to_kind : Kind → Phase → Data → Option Data
answer_to_kind Request phase message = Some (answer_to_request phase (request_of message) message)
answer_to_kind Notice phase message = cond (is_running phase) (answer_to_notice (notice_of message) message) None
answer_to_kind Answer phase message = None
answer_to_kind Wrong phase message = Some (error_data (id_of message) InvalidRequest)

-- what is sent back for a message, or for one that is no JSON; none where nothing is
abbrev pub answer_to : Talk → Option Data → Option Data
answer_to talk None = Some (error_data null ParseError)
answer_to talk (Some message) = answer_to_kind (kind_of message) talk.phase message

-- what is shown where there was no memory for a notice
abbrev pub starved_data : Data
starved_data = shown_data (codes "there is no memory; close the document and open it again")

abbrev pub starved_answer_to_kind : Kind → Data → Option Data
starved_answer_to_kind Request message = Some (error_data (id_of message) InternalError)
starved_answer_to_kind Notice message = Some starved_data
starved_answer_to_kind Answer message = None
starved_answer_to_kind Wrong message = Some (error_data (id_of message) InternalError)

-- what is sent back for a message where there is no memory to serve it
abbrev pub starved_answer_to : Option Data → Option Data
starved_answer_to None = Some (error_data null InternalError)
starved_answer_to (Some message) = starved_answer_to_kind (kind_of message) message
