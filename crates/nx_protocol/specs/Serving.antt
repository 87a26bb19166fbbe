-- A message is served.
use Rattle.std.specs.Prelude.{◌≡◌, ◌⊎◌, ℕ, List, Option, Some, None, cond}
use Rattle.nx_protocol.specs.Answers.{answer_to, answer_to_kind, starved_answer_to}
use Rattle.nx_protocol.specs.Documents.{Document, DocumentMap, Follows, FollowsOrLoses}
use Rattle.nx_protocol.specs.Notices.{document_behind, document_behind_kind}
use Rattle.nx_protocol.specs.Talks.{is_running, talk_behind, talk_behind_kind}
use Rattle.nx_protocol.specs.declared.talk.Talk.{Talk}
use Rattle.nx_wire.specs.Answers.{error_data}
use Rattle.nx_wire.specs.Contents.{Reads}
use Rattle.nx_wire.specs.Sent.{Sends}
use Rattle.nx_wire.specs.declared.answer.Refusal.TheVariants.{InternalError}
use Rattle.nx_wire.specs.declared.envelope.Kind.{Kind}
use Rattle.serde_json.specs.Data.{Data, null}

-- a message is added to what is sent, or none
abbrev pub SendsMaybe : List ℕ → Option Data → List ℕ → Type 0
SendsMaybe old None new = new ≡ old
SendsMaybe old (Some value) new = Sends old value new

-- the talk, and the documents that are held, before and behind
pub record State : Type 0 where
  pub talk : Talk
  pub held : DocumentMap

abbrev pub state : Talk → DocumentMap → State
state talk held = record { talk = talk; held = held }

-- a message, or one that is no JSON, is served, and its answer is added to what is sent
pub record Serves (old : State) (content : Option Data) (new : State) (sent : List ℕ) (out : List ℕ) : Type 0 where
  pub talk : new.talk ≡ talk_behind old.talk content
  pub held : Follows (document_behind old.talk content) old.held new.held
  pub answer : SendsMaybe sent (answer_to old.talk content) out

-- there was no memory to serve it: a document that it is about may be lost
pub record Fails (old : State) (content : Option Data) (new : State) : Type 0 where
  pub talk : new.talk ≡ old.talk
  pub held : FollowsOrLoses (document_behind old.talk content) old.held new.held

-- that is said
pub record Starves (old : State) (content : Option Data) (new : State) (sent : List ℕ) (out : List ℕ) : Type 0 where
  pub fails : Fails old content new
  pub answer : SendsMaybe sent (starved_answer_to content) out

abbrev pub ServesOrStarves : State → Option Data → State → List ℕ → List ℕ → Type 0
ServesOrStarves old content new sent out = Serves old content new sent out ⊎ Starves old content new sent out

-- there was no memory to read it, so that it may have been about any document, and that is said
pub record StarvesUnread (old new : State) (sent : List ℕ) (out : List ℕ) : Type 0 where
  pub talk : new.talk ≡ old.talk
  pub held : (uri : List ℕ) → new.held uri ≡ None
  pub answer : Sends sent (error_data null InternalError) out

-- the message of a content is served, or that there was no memory for it is said
abbrev pub ServesContent : State → List ℕ → State → List ℕ → List ℕ → Type 0
ServesContent old body new sent out =
    ((content : Option Data) × Reads body content × ServesOrStarves old content new sent out) ⊎ StarvesUnread old new sent out

-- there was no memory for it, whatever it says, and none to say that
pub record FailsContent (old : State) (body : List ℕ) (new : State) : Type 0 where
  pub talk : new.talk ≡ old.talk
  pub held : (content : Option Data) → Reads body content → FollowsOrLoses (document_behind old.talk content) old.held new.held

-- ---- as the code sees it

-- what is under a URI behind a message of this kind
abbrev pub rule_of_kind : Kind → Talk → Data → List ℕ → Option Document → Option Document
rule_of_kind kind talk message uri old = cond (is_running talk.phase) (document_behind_kind kind talk.encoding message uri old) old

-- a message of this kind is served
pub record ServesKind (kind : Kind) (old : State) (message : Data) (new : State) (sent : List ℕ) (out : List ℕ) : Type 0 where
  pub talk : new.talk ≡ talk_behind_kind kind old.talk message
  pub held : Follows (rule_of_kind kind old.talk message) old.held new.held
  pub answer : SendsMaybe sent (answer_to_kind kind old.talk.phase message) out

-- there was no memory for it
pub record FailsKind (kind : Kind) (old : State) (message : Data) (new : State) : Type 0 where
  pub talk : new.talk ≡ old.talk
  pub held : FollowsOrLoses (rule_of_kind kind old.talk message) old.held new.held
