-- One message after another, out of the bytes that came.
use Rattle.std.specs.Prelude.{◌≡◌, ◌⊎◌, ℕ, ◌<◌, ◌≤◌, true, List, [], ◌∷◌, drop, length, Option, Some}
use Rattle.nx_protocol.specs.Answers.{id_of}
use Rattle.nx_protocol.specs.Documents.{Document, IsHeldOrLost}
use Rattle.nx_protocol.specs.Notices.{document_behind}
use Rattle.nx_protocol.specs.Serving.{State, ServesContent, FailsContent}
use Rattle.nx_protocol.specs.Talks.{is_over}
use Rattle.nx_protocol.specs.declared.bytes.Stop.{Stop}
use Rattle.nx_protocol.specs.declared.bytes.Stop.TheVariants.{Waiting, Garbled, Over, Starved}
use Rattle.nx_protocol.specs.declared.talk.Talk.{Talk}
use Rattle.nx_wire.specs.Answers.{answer_data, error_data}
use Rattle.nx_wire.specs.Contents.{Reads}
use Rattle.nx_wire.specs.Envelopes.{kind_of}
use Rattle.nx_wire.specs.Frames.{AwaitsMore, HasNoFrame, IsFrame, NeverHasFrame}
use Rattle.nx_wire.specs.Sent.{Sends}
use Rattle.nx_wire.specs.declared.answer.Refusal.{Refusal}
use Rattle.nx_wire.specs.declared.answer.Refusal.TheVariants.{InternalError}
use Rattle.nx_wire.specs.declared.envelope.Kind.TheVariants.{Request}
use Rattle.serde_json.specs.Data.{Data, null}

-- the text begins with messages of these contents, and that is what follows
abbrev pub AreFrames : List ℕ → List (List ℕ) → List ℕ → Type 0
AreFrames text [] rest = text ≡ rest
AreFrames text (body ∷ bodies) rest = (behind : List ℕ) × IsFrame text body behind × AreFrames behind bodies rest

-- a message in a run: its content, and where the talk was in front of it
pub record Turn : Type 0 where
  pub talk : Talk
  pub body : List ℕ

-- messages are served one after another
abbrev pub ServesAll : State → List Turn → State → List ℕ → List ℕ → Type 0
ServesAll old [] new sent out = (new ≡ old) × (out ≡ sent)
ServesAll old (turn ∷ turns) new sent out =
    (mid : State) × (between : List ℕ) × (turn.talk ≡ old.talk) × ServesContent old turn.body mid sent between × ServesAll mid turns new between out

abbrev pub bodies_of : List Turn → List (List ℕ)
bodies_of [] = []
bodies_of (turn ∷ turns) = turn.body ∷ bodies_of turns

-- why no more of them are served
abbrev pub Stops : State → State → List ℕ → Stop → Type 0
Stops mid new rest Waiting = (new ≡ mid) × HasNoFrame rest × AwaitsMore rest
Stops mid new rest Garbled = (new ≡ mid) × NeverHasFrame rest
Stops mid new rest Over = (new ≡ mid) × (is_over mid.talk.phase ≡ true)
Stops mid new rest Starved = (body behind : List ℕ) × IsFrame rest body behind × FailsContent mid body new

-- so many bytes of messages are served, and what they are answered with is added to what is sent
pub record ServesBytes (old : State) (bytes : List ℕ) (used : ℕ) (stop : Stop) (new : State) (sent out : List ℕ) : Type 0 where
  pub turns : List Turn
  pub frames : AreFrames bytes (bodies_of turns) (drop used bytes)
  pub mid : State
  pub serves : ServesAll old turns mid sent out
  pub stops : Stops mid new (drop used bytes) stop

-- ---- what that comes to

-- these are what the messages say
abbrev pub Say : List Turn → List (Option Data) → Type 0
Say [] [] = Unit {0}
Say (turn ∷ turns) (content ∷ contents) = Reads turn.body content × Say turns contents
Say [] (content ∷ contents) = ⊥
Say (turn ∷ turns) [] = ⊥

-- the document that a client has under a URI behind messages that say that
abbrev pub document_behind_all : List Turn → List (Option Data) → List ℕ → Option Document → Option Document
document_behind_all [] contents uri old = old
document_behind_all (turn ∷ turns) [] uri old = old
document_behind_all (turn ∷ turns) (content ∷ contents) uri old = document_behind_all turns contents uri (document_behind turn.talk content uri old)

-- what is held under a URI is the client's document, or nothing
abbrev pub TextsAreTheClients : Type 0
TextsAreTheClients = (old new : State) (turns : List Turn) (contents : List (Option Data)) (sent out uri : List ℕ) (client : Option Document) →
    ServesAll old turns new sent out → Say turns contents → IsHeldOrLost client (old.held uri) →
    IsHeldOrLost (document_behind_all turns contents uri client) (new.held uri)

-- the answer to a request of this id: a result, or why it isn't done
abbrev pub IsAnswerTo : Data → Data → Type 0
IsAnswerTo id answer = ((result : Data) × (answer ≡ answer_data id result)) ⊎ ((refusal : Refusal) × (answer ≡ error_data id refusal))

-- a request that is served is answered once, and nothing else is sent for it; where there was no memory to read it the answer has no id
abbrev pub RequestsAreAnswered : Type 0
RequestsAreAnswered = (old new : State) (body sent out : List ℕ) (message : Data) → ServesContent old body new sent out → Reads body (Some message) →
    kind_of message ≡ Request → (answer : Data) × Sends sent answer out × (IsAnswerTo (id_of message) answer ⊎ (answer ≡ error_data null InternalError))

-- ---- as the code sees it

-- a text begins with a message of so many bytes, which is served
pub record ServesNext (old : State) (bytes : List ℕ) (used : ℕ) (new : State) (sent out : List ℕ) : Type 0 where
  pub body : List ℕ
  pub frame : IsFrame bytes body (drop used bytes)
  pub serves : ServesContent old body new sent out
  pub some : 0 < used
  pub within : used ≤ length bytes
