-- What a run writes is text.
use Rattle.std.proofs.Common.{◌≡◌, ℕ, ◌+◌, List, [], ◌∷◌, ◌++◌, codes, Option, Some, None, refl, sym, ap, subst}
use Rattle.std.specs.Fmt.{decimal}
use Rattle.std.specs.List.{AllByRecursion}
use Rattle.std.specs.Str.{IsUtf8}
use Rattle.std.proofs.lemmas.Str.{IsUtf8-append, IsUtf8-nil}
use Rattle.std.proofs.lemmas.Option.{same_Some}
use Rattle.nx_host.specs.Out.{Appends}
use Rattle.nx_script.specs.Printing.{reply_text}
use Rattle.nx_script.specs.Replies.{ReplyIsText}
use Rattle.nx_script.specs.declared.reply.Reply.{Reply}
use Rattle.nx_script.proofs.Printed.{word_text, decimal_text, reply_is_text}
use Rattle.nx_run.specs.declared.script.ScriptRefusal.{ScriptRefusal}
use Rattle.nx_run.specs.declared.script.ScriptRefusal.TheVariants.{BadUri, Absent, NotUtf8, Failed}
use Rattle.nx_run.specs.declared.status.Status.{Status}
use Rattle.nx_run.specs.declared.status.Status.TheVariants.{Done, Refused, Words, Script, Output, Memory}
use Rattle.nx_session.specs.Viewing.{ViewsAreText}
use Rattle.nx_run.specs.Output.{OutState}
use Rattle.nx_run.specs.Surroundings.{Surroundings}
use Rattle.nx_run.specs.Script.{refusal_line}
use Rattle.nx_run.specs.Turns.{first_number}
use Rattle.nx_run.specs.Play.{texts_from}
use Rattle.nx_run.specs.Run.{IsRunOf, IsToTheEnd, usage_line}

texts_are_text : (number : ℕ) (answers : List Reply) → AllByRecursion ReplyIsText answers → IsUtf8 (texts_from number answers)
texts_are_text number [] h = IsUtf8-nil
texts_are_text number (answer ∷ more) h = IsUtf8-append (reply_text number answer) (texts_from (number + 1) more) (reply_is_text number answer h.0) (texts_are_text (number + 1) more h.1)

refusal_is_text : (cause : ScriptRefusal) → IsUtf8 (refusal_line cause)
refusal_is_text BadUri = word_text (refusal_line BadUri) refl
refusal_is_text Absent = word_text (refusal_line Absent) refl
refusal_is_text (NotUtf8 at) =
    IsUtf8-append (codes "script refused: NotUtf8 " ++ decimal at) (codes "\n")
    (IsUtf8-append (codes "script refused: NotUtf8 ") (decimal at) (word_text (codes "script refused: NotUtf8 ") refl) (decimal_text at)) (word_text (codes "\n") refl)
refusal_is_text Failed = word_text (refusal_line Failed) refl

-- text behind text
abbrev WritesText : Option (List ℕ) → Type 0
WritesText after = (whole : List ℕ) × (after ≡ Some whole) × IsUtf8 whole

behind : (before after : Option (List ℕ)) (front text : List ℕ) → Appends before text after → before ≡ Some front → IsUtf8 front → IsUtf8 text → WritesText after
behind None after front text h e f t = absurd cc
behind (Some old) None front text h e f t = absurd h
behind (Some old) (Some new) front text h e f t =
    let same : old ≡ front = same_Some old front e in
    (old ++ text, ap (λ (x : List ℕ). Some x) h, IsUtf8-append old text (subst IsUtf8 (sym same) f) t)

pub runs_print_text : (words : List (List ℕ)) (old new : Surroundings) (before after : OutState) (status : Status) (front : List ℕ) →
    IsRunOf words old new before after status → IsToTheEnd status → ViewsAreText old.views → before.bytes ≡ Some front → IsUtf8 front → WritesText after.bytes
runs_print_text words old new before after Done front h whole views e f =
    let first = first_number h.asked.schema in
    behind before.bytes after.bytes front (texts_from first h.play.0.answers) h.play.0.written e f (texts_are_text first h.play.0.answers (h.play.0.are_text views))
runs_print_text words old new before after Refused front h whole views e f =
    let first = first_number h.asked.schema in
    behind before.bytes after.bytes front (texts_from first h.play.0.answers) h.play.0.written e f (texts_are_text first h.play.0.answers (h.play.0.are_text views))
runs_print_text words old new before after Words front h whole views e f = behind before.bytes after.bytes front usage_line h.said.0 e f (word_text usage_line refl)
runs_print_text words old new before after Script front h whole views e f = behind before.bytes after.bytes front (refusal_line h.cause) h.said.0 e f (refusal_is_text h.cause)
runs_print_text words old new before after Output front h whole views e f = absurd whole
runs_print_text words old new before after Memory front h whole views e f = absurd whole
