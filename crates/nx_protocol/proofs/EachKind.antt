-- Messages by their kinds.
use Rattle.std.proofs.Common.{◌≡◌, ℕ, List, Option, Some, None, subst, inr}
use Rattle.nx_protocol.specs.Documents.{FollowsOrLoses}
use Rattle.nx_protocol.specs.Notices.{document_behind}
use Rattle.nx_protocol.specs.Serving.{Fails, FailsContent, FailsKind, Serves, ServesKind, State}
use Rattle.nx_protocol.proofs.Served.{says_one}
use Rattle.nx_wire.specs.Contents.{Reads}
use Rattle.nx_wire.specs.Envelopes.{kind_of}
use Rattle.nx_wire.specs.declared.envelope.Kind.{Kind}
use Rattle.serde_json.specs.Data.{Data}

of_its_kind : (old new : State) (message : Data) (sent out : List ℕ) → ServesKind (kind_of message) old message new sent out → Serves old (Some message) new sent out
of_its_kind old new message sent out s = record { talk = s.talk; held = s.held; answer = s.answer }

pub served_by : (kind : Kind) (old new : State) (message : Data) (sent out : List ℕ) → kind ≡ kind_of message → ServesKind kind old message new sent out →
    Serves old (Some message) new sent out
served_by kind old new message sent out e s = of_its_kind old new message sent out (subst (λ k. ServesKind k old message new sent out) e s)

fails_its_kind : (old new : State) (message : Data) → FailsKind (kind_of message) old message new → Fails old (Some message) new
fails_its_kind old new message f = record { talk = f.talk; held = f.held }

pub fails_by : (kind : Kind) (old new : State) (message : Data) → kind ≡ kind_of message → FailsKind kind old message new → Fails old (Some message) new
fails_by kind old new message e f = fails_its_kind old new message (subst (λ k. FailsKind k old message new) e f)

-- a message that fails fails whatever its content is read as
pub fails_content : (old new : State) (body : List ℕ) (content : Option Data) → Reads body content → Fails old content new → FailsContent old body new
fails_content old new body content reads f = record {
  talk = f.talk;
  held = λ other says. subst (λ c. FollowsOrLoses (document_behind old.talk c) old.held new.held) (says_one body content other reads says) f.held;
}

-- and where all is lost
pub all_lost : (old new : State) (body : List ℕ) → new.talk ≡ old.talk → ((uri : List ℕ) → new.held uri ≡ None) → FailsContent old body new
all_lost old new body same lost = record { talk = same; held = λ content reads uri. inr (lost uri) }
