-- Messages are served one after another.
use Rattle.std.proofs.Common.{◌≡◌, ◌⊎◌, ℕ, true, false, Bool, cond, List, [], ◌∷◌, ◌++◌, Option, Some, None, refl, sym, ap, subst, ◌∙◌, inl, inr}
use Rattle.std.specs.Prelude.{ℤ}
use Rattle.std.specs.Str.{bytes_eq}
use Rattle.nx_position.specs.Changes.{changed_in}
use Rattle.nx_position.specs.declared.change.Change.{Change}
use Rattle.nx_position.specs.declared.change.Range.{Range}
use Rattle.nx_position.specs.declared.position.Encoding.{Encoding}
use Rattle.nx_protocol.specs.Answers.{answer_by, answer_to, answer_to_kind, answer_to_request, id_of, result_of, starved_answer_to, starved_answer_to_kind}
use Rattle.nx_protocol.specs.Changes.{changed_document, changed_text, changed_texts, document_where, text_in, told_document, whole_text}
use Rattle.nx_protocol.specs.Documents.{Document, IsHeldOrLost}
use Rattle.nx_protocol.specs.Methods.{notice_of, request_of}
use Rattle.nx_protocol.specs.Notices.{document_behind, document_behind_content, document_behind_kind, document_behind_notice}
use Rattle.nx_protocol.specs.Parameters.{changes_of, text_of, uri_of, version_of}
use Rattle.nx_protocol.specs.Runs.{bodies_of, IsAnswerTo, RequestsAreAnswered, ServesAll, TextsAreTheClients, Turn}
use Rattle.nx_protocol.specs.Serving.{SendsMaybe, ServesContent, ServesOrStarves, State}
use Rattle.nx_protocol.specs.Talks.{is_running, refusal_of}
use Rattle.nx_protocol.specs.declared.method.NoticeMethod.{NoticeMethod}
use Rattle.nx_protocol.specs.declared.method.NoticeMethod.TheVariants.{DidOpen, DidChange, DidClose, Exit, Other}
use Rattle.nx_protocol.specs.declared.talk.Talk.{Talk}
use Rattle.nx_wire.specs.Answers.{error_data}
use Rattle.nx_wire.specs.Contents.{Reads}
use Rattle.nx_wire.specs.Envelopes.{kind_of}
use Rattle.nx_wire.specs.Sent.{Sends}
use Rattle.nx_wire.specs.declared.answer.Refusal.{Refusal}
use Rattle.nx_wire.specs.declared.answer.Refusal.TheVariants.{InternalError}
use Rattle.nx_wire.specs.declared.envelope.Kind.{Kind}
use Rattle.nx_wire.specs.declared.envelope.Kind.TheVariants.{Request, Notice, Answer, Wrong}
use Rattle.serde_json.specs.Data.{Data, null}

-- ---- one more message

pub one_more : (old mid new : State) (turns : List Turn) (turn : Turn) (sent between out : List ℕ) → ServesAll old turns mid sent between →
    turn.talk ≡ mid.talk → ServesContent mid turn.body new between out → ServesAll old (turns ++ turn ∷ []) new sent out
one_more old mid new [] turn sent between out all talk last = (
  new,
  out,
  talk ∙ ap (λ s. s.talk) all.0,
  subst (λ s. ServesContent s turn.body new sent out) all.0 (subst (λ xs. ServesContent mid turn.body new xs out) all.1 last),
  (refl, refl),
)
one_more old mid new (first ∷ turns) turn sent between out all talk last =
    (all.0, all.1, all.2, all.3, one_more all.0 mid new turns turn all.1 between out all.4 talk last)

pub bodies_more : (turns : List Turn) (turn : Turn) → bodies_of (turns ++ turn ∷ []) ≡ bodies_of turns ++ turn.body ∷ []
bodies_more [] turn = refl
bodies_more (first ∷ turns) turn = ap (λ bodies. first.body ∷ bodies) (bodies_more turns turn)

-- ---- what is held stays the client's, or is lost

-- a text is what it should be, or not known
abbrev IsTextOrLost : Option (List ℕ) → Option (List ℕ) → Type 0
IsTextOrLost right held = (held ≡ right) ⊎ (held ≡ None)

whole_or_lost : (encoding : Encoding) (right : Option (List ℕ)) (change : Change) (part : Option Range) → change.part ≡ part →
    IsTextOrLost (changed_text encoding right change) (whole_text part change.text)
whole_or_lost encoding right change (Some part) e = inr refl
whole_or_lost encoding None change None e = inl (ap (λ p. whole_text p change.text) (sym e))
whole_or_lost encoding (Some text) change None e = inl (ap (λ p. Some (changed_in encoding text p change.text)) (sym e))

change_goes_on : (encoding : Encoding) (right held : Option (List ℕ)) (change : Change) → IsTextOrLost right held →
    IsTextOrLost (changed_text encoding right change) (changed_text encoding held change)
change_goes_on encoding right held change (inl e) = inl (ap (λ text. changed_text encoding text change) e)
change_goes_on encoding right held change (inr e) =
    subst (λ text. IsTextOrLost (changed_text encoding right change) (changed_text encoding text change)) (sym e)
    (whole_or_lost encoding right change change.part refl)

changes_go_on : (encoding : Encoding) (right held : Option (List ℕ)) (changes : List Change) → IsTextOrLost right held →
    IsTextOrLost (changed_texts encoding right changes) (changed_texts encoding held changes)
changes_go_on encoding right held [] h = h
changes_go_on encoding right held (change ∷ rest) h =
    changes_go_on encoding (changed_text encoding right change) (changed_text encoding held change) rest (change_goes_on encoding right held change h)

told_nothing : (version : Option ℤ) → told_document version None ≡ None
told_nothing None = refl
told_nothing (Some version) = refl

told_goes_on : (version : Option ℤ) (right held : Option (List ℕ)) → IsTextOrLost right held →
    IsHeldOrLost (told_document version right) (told_document version held)
told_goes_on version right held (inl e) = inl (ap (told_document version) e)
told_goes_on version right held (inr e) = inr (ap (told_document version) e ∙ told_nothing version)

text_goes_on : (right held : Option Document) → IsHeldOrLost right held → IsTextOrLost (text_in right) (text_in held)
text_goes_on right held (inl e) = inl (ap text_in e)
text_goes_on right held (inr e) = inr (ap text_in e)

changed_goes_on : (encoding : Encoding) (right held : Option Document) (version : Option ℤ) (changes : Option (List Change)) →
    IsHeldOrLost right held → IsHeldOrLost (changed_document encoding right version changes) (changed_document encoding held version changes)
changed_goes_on encoding right held version None h = inl refl
changed_goes_on encoding right held version (Some changes) h =
    told_goes_on version (changed_texts encoding (text_in right) changes) (changed_texts encoding (text_in held) changes)
    (changes_go_on encoding (text_in right) (text_in held) changes (text_goes_on right held h))

cond_goes_on : (same : Bool) (given other right held : Option Document) → IsHeldOrLost given other → IsHeldOrLost right held →
    IsHeldOrLost (cond same given right) (cond same other held)
cond_goes_on true given other right held g h = g
cond_goes_on false given other right held g h = h

where_goes_on : (about : Option (List ℕ)) (uri : List ℕ) (given other right held : Option Document) → IsHeldOrLost given other →
    IsHeldOrLost right held → IsHeldOrLost (document_where about uri given right) (document_where about uri other held)
where_goes_on None uri given other right held g h = inl refl
where_goes_on (Some about) uri given other right held g h = cond_goes_on (bytes_eq about uri) given other right held g h

notice_goes_on : (method : NoticeMethod) (encoding : Encoding) (message : Data) (uri : List ℕ) (right held : Option Document) →
    IsHeldOrLost right held →
    IsHeldOrLost (document_behind_notice method encoding message uri right) (document_behind_notice method encoding message uri held)
notice_goes_on DidOpen encoding message uri right held h =
    let told = told_document (version_of message) (text_of message) in where_goes_on (uri_of message) uri told told right held (inl refl) h
notice_goes_on DidChange encoding message uri right held h =
    where_goes_on (uri_of message) uri (changed_document encoding right (version_of message) (changes_of message))
    (changed_document encoding held (version_of message) (changes_of message)) right held
    (changed_goes_on encoding right held (version_of message) (changes_of message) h) h
notice_goes_on DidClose encoding message uri right held h = where_goes_on (uri_of message) uri None None right held (inl refl) h
notice_goes_on Exit encoding message uri right held h = h
notice_goes_on Other encoding message uri right held h = h

kind_goes_on : (kind : Kind) (encoding : Encoding) (message : Data) (uri : List ℕ) (right held : Option Document) → IsHeldOrLost right held →
    IsHeldOrLost (document_behind_kind kind encoding message uri right) (document_behind_kind kind encoding message uri held)
kind_goes_on Request encoding message uri right held h = h
kind_goes_on Notice encoding message uri right held h = notice_goes_on (notice_of message) encoding message uri right held h
kind_goes_on Answer encoding message uri right held h = h
kind_goes_on Wrong encoding message uri right held h = h

content_goes_on : (encoding : Encoding) (content : Option Data) (uri : List ℕ) (right held : Option Document) → IsHeldOrLost right held →
    IsHeldOrLost (document_behind_content encoding content uri right) (document_behind_content encoding content uri held)
content_goes_on encoding None uri right held h = inl refl
content_goes_on encoding (Some message) uri right held h = kind_goes_on (kind_of message) encoding message uri right held h

goes_on : (talk : Talk) (content : Option Data) (uri : List ℕ) (right held : Option Document) → IsHeldOrLost right held →
    IsHeldOrLost (document_behind talk content uri right) (document_behind talk content uri held)
goes_on talk content uri right held h =
    cond_goes_on (is_running talk.phase) (document_behind_content talk.encoding content uri right) (document_behind_content talk.encoding content uri held) right held
    (content_goes_on talk.encoding content uri right held h) h

-- what is lost on the way is lost
lost_on_the_way : (right mid held : Option Document) → IsHeldOrLost right mid → IsHeldOrLost mid held → IsHeldOrLost right held
lost_on_the_way right mid held h (inr e) = inr e
lost_on_the_way right mid held (inl d) (inl e) = inl (e ∙ d)
lost_on_the_way right mid held (inr d) (inl e) = inr (e ∙ d)

-- a content says one thing
pub says_one : (body : List ℕ) (a b : Option Data) → Reads body a → Reads body b → a ≡ b
says_one body None None p q = refl
says_one body (Some x) (Some y) p q = sym p.1 ∙ q.1
says_one body (Some x) None p q = sym p.1 ∙ q p.0
says_one body None (Some y) p q = sym (p q.0) ∙ q.1

-- behind one message
served_goes_on : (old new : State) (talk : Talk) (content : Option Data) (sent out uri : List ℕ) (client : Option Document) → talk ≡ old.talk →
    ServesOrStarves old content new sent out → IsHeldOrLost client (old.held uri) → IsHeldOrLost (document_behind talk content uri client) (new.held uri)
served_goes_on old new talk content sent out uri client e (inl served) h =
    lost_on_the_way (document_behind talk content uri client) (document_behind talk content uri (old.held uri)) (new.held uri)
    (goes_on talk content uri client (old.held uri) h)
    (inl (served.held uri ∙ ap (λ t. document_behind t content uri (old.held uri)) (sym e)))
served_goes_on old new talk content sent out uri client e (inr starved) h =
    lost_on_the_way (document_behind talk content uri client) (document_behind talk content uri (old.held uri)) (new.held uri)
    (goes_on talk content uri client (old.held uri) h)
    (subst (λ t. IsHeldOrLost (document_behind t content uri (old.held uri)) (new.held uri)) (sym e) (starved.fails.held uri))

one_goes_on : (old new : State) (talk : Talk) (body : List ℕ) (content : Option Data) (sent out uri : List ℕ) (client : Option Document) →
    talk ≡ old.talk → ServesContent old body new sent out → Reads body content → IsHeldOrLost client (old.held uri) →
    IsHeldOrLost (document_behind talk content uri client) (new.held uri)
one_goes_on old new talk body content sent out uri client e (inr unread) reads h = inr (unread.held uri)
one_goes_on old new talk body content sent out uri client e (inl given) reads h =
    served_goes_on old new talk content sent out uri client e
    (subst (λ c. ServesOrStarves old c new sent out) (says_one body given.0 content given.1 reads) given.2) h

pub texts_are_the_clients : TextsAreTheClients
texts_are_the_clients old new [] [] sent out uri client all says h = subst (λ s. IsHeldOrLost client (s.held uri)) (sym all.0) h
texts_are_the_clients old new [] (content ∷ contents) sent out uri client all says h = absurd says
texts_are_the_clients old new (turn ∷ turns) [] sent out uri client all says h = absurd says
texts_are_the_clients old new (turn ∷ turns) (content ∷ contents) sent out uri client all says h =
    texts_are_the_clients all.0 new turns contents all.1 out uri (document_behind turn.talk content uri client) all.4 says.1
    (one_goes_on old all.0 turn.talk turn.body content sent all.1 uri client all.2 all.3 says.0 h)

-- ---- answers

answered_by : (refusal : Option Refusal) (id result : Data) → IsAnswerTo id (answer_by refusal id result)
answered_by None id result = inl (result, refl)
answered_by (Some refusal) id result = inr (refusal, refl)

says_request : (talk : Talk) (message : Data) (sent out : List ℕ) → kind_of message ≡ Request → SendsMaybe sent (answer_to talk (Some message)) out →
    Sends sent (answer_to_request talk.phase (request_of message) message) out
says_request talk message sent out is said = subst (λ kind. SendsMaybe sent (answer_to_kind kind talk.phase message) out) is said

says_starved : (message : Data) (sent out : List ℕ) → kind_of message ≡ Request → SendsMaybe sent (starved_answer_to (Some message)) out →
    Sends sent (error_data (id_of message) InternalError) out
says_starved message sent out is said = subst (λ kind. SendsMaybe sent (starved_answer_to_kind kind message) out) is said

answered : (old new : State) (message : Data) (sent out : List ℕ) → kind_of message ≡ Request → ServesOrStarves old (Some message) new sent out →
    (answer : Data) × Sends sent answer out × (IsAnswerTo (id_of message) answer ⊎ (answer ≡ error_data null InternalError))
answered old new message sent out is (inl served) =
    let phase = old.talk.phase in let method = request_of message in (
      answer_to_request phase method message,
      says_request old.talk message sent out is served.answer,
      inl (answered_by (refusal_of phase method) (id_of message) (result_of method message)),
    )
answered old new message sent out is (inr starved) =
    (error_data (id_of message) InternalError, says_starved message sent out is starved.answer, inl (inr (InternalError, refl)))

pub requests_are_answered : RequestsAreAnswered
requests_are_answered old new body sent out message (inr unread) reads is = (error_data null InternalError, unread.answer, inr refl)
requests_are_answered old new body sent out message (inl given) reads is =
    answered old new message sent out is (subst (λ c. ServesOrStarves old c new sent out) (says_one body given.0 (Some message) given.1 reads) given.2)
