-- The order of the talk: `initialize` comes first and once, `shutdown` behind it, and `exit` last.
use Rattle.std.specs.Prelude.{Bool, true, false, Option, Some, None}
use Rattle.nx_position.specs.declared.position.Encoding.TheVariants.{Utf16}
use Rattle.nx_protocol.specs.Methods.{request_of, notice_of}
use Rattle.nx_protocol.specs.Parameters.{encoding_of}
use Rattle.nx_protocol.specs.declared.method.RequestMethod.{RequestMethod}
use Rattle.nx_protocol.specs.declared.method.RequestMethod.TheVariants as requests
use Rattle.nx_protocol.specs.declared.method.NoticeMethod.{NoticeMethod}
use Rattle.nx_protocol.specs.declared.method.NoticeMethod.TheVariants as notices
use Rattle.nx_protocol.specs.declared.talk.Phase.{Phase}
use Rattle.nx_protocol.specs.declared.talk.Phase.TheVariants.{Begun, Running, Shut, Ended, BrokenOff}
use Rattle.nx_protocol.specs.declared.talk.Talk.{Talk}
use Rattle.nx_wire.specs.Envelopes.{kind_of}
use Rattle.nx_wire.specs.declared.answer.Refusal.{Refusal}
use Rattle.nx_wire.specs.declared.answer.Refusal.TheVariants.{InvalidRequest, MethodNotFound, ServerNotInitialized}
use Rattle.nx_wire.specs.declared.envelope.Kind.{Kind}
use Rattle.nx_wire.specs.declared.envelope.Kind.TheVariants as kinds
use Rattle.serde_json.specs.Data.{Data}

-- nothing has come
abbrev pub begun : Talk
begun = record { phase = Begun; encoding = Utf16 }

-- `exit` came
abbrev pub is_over : Phase → Bool
is_over Begun = false
is_over Running = false
is_over Shut = false
is_over Ended = true
is_over BrokenOff = true

-- documents are opened, changed and closed
abbrev pub is_running : Phase → Bool
is_running Begun = false
is_running Running = true
is_running Shut = false
is_running Ended = false
is_running BrokenOff = false

-- why a request isn't done in a phase; none where it is
abbrev pub refusal_of : Phase → RequestMethod → Option Refusal
refusal_of Begun requests.Initialize = None
refusal_of Begun requests.Shutdown = Some ServerNotInitialized
refusal_of Begun requests.Other = Some ServerNotInitialized
refusal_of Running requests.Initialize = Some InvalidRequest
refusal_of Running requests.Shutdown = None
refusal_of Running requests.Other = Some MethodNotFound
refusal_of Shut method = Some InvalidRequest
refusal_of Ended method = Some InvalidRequest
refusal_of BrokenOff method = Some InvalidRequest

-- behind a request that is done
abbrev pub talk_behind_done : RequestMethod → Talk → Data → Talk
talk_behind_done requests.Initialize talk message = record { phase = Running; encoding = encoding_of message }
talk_behind_done requests.Shutdown talk message = record { phase = Shut; encoding = talk.encoding }
talk_behind_done requests.Other talk message = talk

abbrev pub talk_behind_asked : Option Refusal → RequestMethod → Talk → Data → Talk
talk_behind_asked None method talk message = talk_behind_done method talk message
talk_behind_asked (Some refusal) method talk message = talk

abbrev pub talk_behind_request : RequestMethod → Talk → Data → Talk
talk_behind_request method talk message = talk_behind_asked (refusal_of talk.phase method) method talk message

-- behind `exit`
abbrev pub phase_behind_exit : Phase → Phase
phase_behind_exit Begun = BrokenOff
phase_behind_exit Running = BrokenOff
phase_behind_exit Shut = Ended
phase_behind_exit Ended = Ended
phase_behind_exit BrokenOff = BrokenOff

abbrev pub talk_behind_notice : NoticeMethod → Talk → Talk
talk_behind_notice notices.Exit talk = record { phase = phase_behind_exit talk.phase; encoding = talk.encoding }
talk_behind_notice notices.DidOpen talk = talk
talk_behind_notice notices.DidChange talk = talk
talk_behind_notice notices.DidClose talk = talk
talk_behind_notice notices.Other talk = talk

abbrev pub talk_behind_kind : Kind → Talk → Data → Talk
talk_behind_kind kinds.Request talk message = talk_behind_request (request_of message) talk message
talk_behind_kind kinds.Notice talk message = talk_behind_notice (notice_of message) talk
talk_behind_kind kinds.Answer talk message = talk
talk_behind_kind kinds.Wrong talk message = talk

-- where the talk is behind a message, or behind one that is no JSON
abbrev pub talk_behind : Talk → Option Data → Talk
talk_behind talk None = talk
talk_behind talk (Some message) = talk_behind_kind (kind_of message) talk message
