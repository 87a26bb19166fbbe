-- A script that is being played: what was played and written so far, and how it goes on.
use Rattle.std.proofs.Common.{◌≡◌, ℕ, ◌+◌, ◌||◌, cond, Bool, true, false, List, [], ◌∷◌, ◌++◌, length, Option, Some, None, Result, Ok, Err, refl, sym, ap, ◌∙◌, subst, arith, append_assoc, length-append, inl, inr}
use Rattle.std.specs.List.{AllByRecursion, list_any}
use Rattle.std.proofs.lemmas.List.Folds.{list_any-append}
use Rattle.std.proofs.lemmas.List.{append-nil}
use Rattle.nx_host.specs.Count.{Rose}
use Rattle.nx_host.specs.declared.out.OutFault.{OutFault}
use Rattle.nx_host.specs.declared.out.OutFault.TheVariants.{Failed, NoMemory}
use Rattle.nx_host.specs.Out.{Appends, AppendsPrefix, WritesInParts, CountsOutFault}
use Rattle.nx_script.specs.Printing.{reply_text}
use Rattle.nx_script.specs.declared.reply.Reply.{Reply}
use Rattle.nx_run.specs.declared.status.Status.{Status}
use Rattle.nx_run.specs.declared.status.Status.TheVariants.{Done, Refused, Memory}
use Rattle.nx_script.specs.Replies.{ReplyIsText}
use Rattle.nx_session.specs.Editor.{EditorState, World, world, new_editor}
use Rattle.nx_session.specs.Viewing.{ViewsAreText}
use Rattle.nx_words.specs.Words.{CommandLine}
use Rattle.nx_run.specs.Codes.{stop_status}
use Rattle.nx_run.specs.Output.{OutState}
use Rattle.nx_run.specs.Surroundings.{Surroundings, begun_in}
use Rattle.nx_run.specs.Turns.{Turn, turns_of, first_number}
use Rattle.nx_run.specs.Play.{TurnStep, Plays, texts_from, wants_memory, is_refusal, IsWhole, IsCutOff, IsPlayOf}

-- a play goes on by one turn
pub plays-push : (old : World) (turns : List Turn) (answers : List Reply) (mid new : World) (turn : Turn) (answer : Reply) →
    Plays old turns answers mid → TurnStep mid turn answer new → Plays old (turns ++ turn ∷ []) (answers ++ answer ∷ []) new
plays-push old [] [] mid new turn answer played step =
    let P : World → Type 0 = λ w. TurnStep w turn answer new in
    (new, subst P played step, refl)
plays-push old (t ∷ ts) (a ∷ more) mid new turn answer played step =
    (played.0, played.1, plays-push played.0 ts more mid new turn answer played.2 step)
plays-push old [] (a ∷ more) mid new turn answer played step = absurd played
plays-push old (t ∷ ts) [] mid new turn answer played step = absurd played

-- the text of one more reply comes behind the others
pub texts_from-push : (number : ℕ) (answers : List Reply) (answer : Reply) →
    texts_from number (answers ++ answer ∷ []) ≡ texts_from number answers ++ reply_text (number + length answers) answer
texts_from-push number [] answer =
    let here : number ≡ number + 0 = omega arith in
    append-nil (reply_text number answer) ∙ ap (λ n. reply_text n answer) here
texts_from-push number (a ∷ more) answer =
    let later : (number + 1) + length more ≡ number + length (a ∷ more) = omega arith in
    ap (λ x. reply_text number a ++ x) (texts_from-push (number + 1) more answer)
    ∙ sym (append_assoc (reply_text number a) (texts_from (number + 1) more) (reply_text ((number + 1) + length more) answer))
    ∙ ap (λ n. (reply_text number a ++ texts_from (number + 1) more) ++ reply_text n answer) later

or_false : (b : Bool) → (b || false) ≡ b
or_false true = refl
or_false false = refl

-- a test of some item, with one more
pub list_any-push : (p : Reply → Bool) (answers : List Reply) (answer : Reply) → list_any p (answers ++ answer ∷ []) ≡ (list_any p answers || p answer)
list_any-push p answers answer =
    list_any-append p answers (answer ∷ []) ∙ ap (λ b. list_any p answers || b) (or_false (p answer))

pub appends-nil : (told : Option (List ℕ)) → Appends told [] told
appends-nil None = tt
appends-nil (Some bytes) = sym (append-nil bytes)

-- what is written in two goes is written in one
pub appends-more : (a b c : Option (List ℕ)) (x y : List ℕ) → Appends a x b → Appends b y c → Appends a (x ++ y) c
appends-more None None None x y h k = tt
appends-more None None (Some c) x y h k = k
appends-more None (Some b) c x y h k = absurd h
appends-more (Some a) None c x y h k = absurd h
appends-more (Some a) (Some b) None x y h k = k
appends-more (Some a) (Some b) (Some c) x y h k = k ∙ ap (λ z. z ++ y) h ∙ append_assoc a x y

-- an editor in its surroundings
abbrev pub placed : EditorState → Surroundings → World
placed editor now = world editor now.files now.views now.steps

all-push : (answers : List Reply) (answer : Reply) → AllByRecursion ReplyIsText answers → ReplyIsText answer → AllByRecursion ReplyIsText (answers ++ answer ∷ [])
all-push [] answer h k = (k, tt)
all-push (a ∷ more) answer h k = (h.0, all-push more answer h.1 k)

-- the turns so far were played, and the texts of their replies written; these are left, of which the next has this number
pub record IsPlaying (asked : CommandLine) (script : List ℕ) (old now : Surroundings) (before after : OutState) (editor : EditorState) (left : List Turn) (number : ℕ) (memory refusal : Bool) : Type 0 where
  pub front : List Turn
  pub answers : List Reply
  pub turns : turns_of asked.schema script ≡ front ++ left
  pub played : Plays (begun_in asked.rules old) front answers (placed editor now)
  pub are_text : ViewsAreText old.views → AllByRecursion ReplyIsText answers
  pub views_text : ViewsAreText old.views → ViewsAreText now.views
  pub counted : number ≡ first_number asked.schema + length answers
  pub written : Appends before.bytes (texts_from (first_number asked.schema) answers) after.bytes
  pub no_fault : after.faults ≡ before.faults
  pub memory_is : memory ≡ list_any wants_memory answers
  pub refusal_is : refusal ≡ list_any is_refusal answers

-- nothing was played yet
pub play-begun : (asked : CommandLine) (script : List ℕ) (old : Surroundings) (out : OutState) (editor : EditorState) (rules : Option (List ℕ)) (left : List Turn) (number : ℕ) →
    rules ≡ asked.rules → editor ≡ new_editor rules → left ≡ turns_of asked.schema script → number ≡ first_number asked.schema →
    IsPlaying asked script old old out out editor left number false false
play-begun asked script old out editor rules left number same begun all first = record {
  front = [];
  answers = [];
  turns = sym all;
  played = ap (λ e. placed e old) (begun ∙ ap new_editor same);
  are_text = λ h. tt;
  views_text = λ h. h;
  counted = omega (arith, first);
  written = appends-nil out.bytes;
  no_fault = refl;
  memory_is = refl;
  refusal_is = refl;
}

-- the turns, of which one is played next
next-turn : (turns front left following : List Turn) (turn : Turn) → turns ≡ front ++ left → left ≡ turn ∷ following →
    turns ≡ (front ++ turn ∷ []) ++ following
next-turn turns front left following turn h cut = h ∙ ap (λ ts. front ++ ts) cut ∙ sym (append_assoc front (turn ∷ []) following)

-- one more turn was played, and the text of its reply was written
pub play-more : (asked : CommandLine) (script : List ℕ) (old now next : Surroundings) (before after last : OutState) (editor new : EditorState)
    (left following : List Turn) (number number' : ℕ) (turn : Turn) (memory refusal memory' refusal' : Bool) (answer : Reply) →
    IsPlaying asked script old now before after editor left number memory refusal →
    left ≡ turn ∷ following → number' ≡ number + 1 →
    TurnStep (placed editor now) turn answer (placed new next) → (ViewsAreText now.views → ReplyIsText answer) → (ViewsAreText now.views → ViewsAreText next.views) →
    Appends after.bytes (reply_text number answer) last.bytes → last.faults ≡ after.faults →
    memory' ≡ (memory || wants_memory answer) → refusal' ≡ (refusal || is_refusal answer) →
    IsPlaying asked script old next before last new following number' memory' refusal'
play-more asked script old now next before after last editor new left following number number' turn memory refusal memory' refusal' answer h cut count step text views wrote quiet m r = record {
  front = h.front ++ turn ∷ [];
  answers = h.answers ++ answer ∷ [];
  turns = next-turn (turns_of asked.schema script) h.front left following turn h.turns cut;
  played = plays-push (begun_in asked.rules old) h.front h.answers (placed editor now) (placed new next) turn answer h.played step;
  are_text = λ k. all-push h.answers answer (h.are_text k) (text (h.views_text k));
  views_text = λ k. views (h.views_text k);
  counted = omega (arith, count, h.counted, length-append h.answers (answer ∷ []));
  written =
      let first = first_number asked.schema in
      let P : List ℕ → Type 0 = λ x. Appends before.bytes x last.bytes in
      subst P (ap (λ n. texts_from first h.answers ++ reply_text n answer) h.counted ∙ sym (texts_from-push first h.answers answer))
      (appends-more before.bytes after.bytes last.bytes (texts_from first h.answers) (reply_text number answer) h.written wrote);
  no_fault = quiet ∙ h.no_fault;
  memory_is = m ∙ ap (λ b. b || wants_memory answer) h.memory_is ∙ sym (list_any-push wants_memory h.answers answer);
  refusal_is = r ∙ ap (λ b. b || is_refusal answer) h.refusal_is ∙ sym (list_any-push is_refusal h.answers answer);
}

-- every turn was played
pub play-ended : (asked : CommandLine) (script : List ℕ) (old now : Surroundings) (before after : OutState) (editor : EditorState) (left : List Turn) (number : ℕ) (memory refusal : Bool) (status : Status) →
    IsPlaying asked script old now before after editor left number memory refusal → left ≡ [] →
    status ≡ cond memory Memory (cond refusal Refused Done) →
    IsWhole asked script old now before.bytes after.bytes status
play-ended asked script old now before after editor left number memory refusal status h none ended = record {
  answers = h.answers;
  end_world = placed editor now;
  played =
      let P : List Turn → Type 0 = λ ts. Plays (begun_in asked.rules old) ts h.answers (placed editor now) in
      let all : h.front ≡ turns_of asked.schema script = sym (append-nil h.front) ∙ ap (λ r. h.front ++ r) (sym none) ∙ sym h.turns in
      subst P all h.played;
  left = refl;
  are_text = h.are_text;
  written = h.written;
  ended = ended ∙ ap (λ b. cond b Memory (cond refusal Refused Done)) h.memory_is
      ∙ ap (λ b. cond (list_any wants_memory h.answers) Memory (cond b Refused Done)) h.refusal_is;
}

-- so the play is whole, whatever the status
pub play-done : (asked : CommandLine) (script : List ℕ) (old now : Surroundings) (before after : OutState) (editor : EditorState) (left : List Turn) (number : ℕ)
    (memory refusal : Bool) (status : Status) → IsPlaying asked script old now before after editor left number memory refusal → left ≡ [] →
    status ≡ cond memory Memory (cond refusal Refused Done) → IsPlayOf asked script old now before after status
play-done asked script old now before after editor left number memory refusal status h none ended =
    let Q : Status → Type 0 = λ s. IsPlayOf asked script old now before after s in
    subst Q (sym ended) (by_tally memory refusal
    (play-ended asked script old now before after editor left number memory refusal (cond memory Memory (cond refusal Refused Done)) h none refl))
  where
    by_tally : (m r : Bool) → IsWhole asked script old now before.bytes after.bytes (cond m Memory (cond r Refused Done)) →
        IsPlayOf asked script old now before after (cond m Memory (cond r Refused Done))
    by_tally true r w = (inl w, h.no_fault)
    by_tally false true w = (w, h.no_fault)
    by_tally false false w = (w, h.no_fault)

-- one more turn was played, and only a part of its reply's text was written
pub play-stopped : (asked : CommandLine) (script : List ℕ) (old now next : Surroundings) (before after last : OutState) (editor new : EditorState)
    (left following : List Turn) (number : ℕ) (turn : Turn) (memory refusal : Bool) (answer : Reply) →
    IsPlaying asked script old now before after editor left number memory refusal →
    left ≡ turn ∷ following →
    TurnStep (placed editor now) turn answer (placed new next) → (ViewsAreText now.views → ReplyIsText answer) →
    AppendsPrefix after.bytes (reply_text number answer) last.bytes →
    IsCutOff asked script old next before.bytes last.bytes
play-stopped asked script old now next before after last editor new left following number turn memory refusal answer h cut step text wrote = record {
  front = h.front ++ turn ∷ [];
  rest = following;
  answers = h.answers;
  last = answer;
  end_world = placed new next;
  turns = next-turn (turns_of asked.schema script) h.front left following turn h.turns cut;
  played = plays-push (begun_in asked.rules old) h.front h.answers (placed editor now) (placed new next) turn answer h.played step;
  left = refl;
  are_text = λ k. all-push h.answers answer (h.are_text k) (text (h.views_text k));
  part = wrote.0;
  missing = wrote.1;
  parted = ap (λ n. reply_text n answer) (sym h.counted) ∙ wrote.2;
  written = appends-more before.bytes after.bytes last.bytes (texts_from (first_number asked.schema) h.answers) wrote.0 h.written wrote.3;
}

-- ---- what a write answers

abbrev Answer : Type 0
Answer = Result (Unit {0}) OutFault

pub refused-part : (result : Answer) (fault : OutFault) (before after : Option (List ℕ)) (text : List ℕ) → result ≡ Err fault → WritesInParts result before text after → AppendsPrefix before text after
refused-part result fault before after text e h = let P : Answer → Type 0 = λ r. WritesInParts r before text after in subst P e h

-- the play ends where a write was refused
pub play-refused : (asked : CommandLine) (script : List ℕ) (old new : Surroundings) (before was after : OutState) (result : Answer) (fault : OutFault) (status : Status) →
    result ≡ Err fault → was.faults ≡ before.faults → IsCutOff asked script old new before.bytes after.bytes → CountsOutFault result was.faults after.faults →
    status ≡ stop_status fault → IsPlayOf asked script old new before after status
play-refused asked script old new before was after result fault status e quiet cut counts ended =
    let P : Answer → Type 0 = λ r. CountsOutFault r was.faults after.faults in
    let Q : Status → Type 0 = λ s. IsPlayOf asked script old new before after s in
    subst Q (sym ended) (by_fault fault (subst P e counts))
  where
    by_fault : (x : OutFault) → CountsOutFault {A = Unit {0}} (Err x) was.faults after.faults → IsPlayOf asked script old new before after (stop_status x)
    by_fault Failed rose = let R : ℕ → Type 0 = λ n. Rose n after.faults in (cut, subst R quiet rose)
    by_fault NoMemory same = (inr (inl cut), same ∙ quiet)

pub done-whole : (result : Answer) (done : Unit {0}) (before after : Option (List ℕ)) (text : List ℕ) → result ≡ Ok done → WritesInParts result before text after → Appends before text after
done-whole result done before after text e h = let P : Answer → Type 0 = λ r. WritesInParts r before text after in subst P e h

pub done-stays : (result : Answer) (done : Unit {0}) (before after : ℕ) → result ≡ Ok done → CountsOutFault result before after → after ≡ before
done-stays result done before after e h = let P : Answer → Type 0 = λ r. CountsOutFault r before after in subst P e h
