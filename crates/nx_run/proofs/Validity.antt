-- What it says of a text that a run prints `errors: 0` for it.
use Rattle.std.proofs.Common.{◌≡◌, ◌⊎◌, ℕ, ◌+◌, ◌≤◌, List, [], ◌∷◌, ◌++◌, length, suc, codes, Option, Some, None, IsUtf8, refl, sym, ap, ◌∙◌, subst, inl, inr, arith, length-append, append_assoc}
use Rattle.std.specs.Prelude.{◌↔◌, map}
use Rattle.std.specs.Fmt.{decimal, digits}
use Rattle.std.specs.List.{AllByRecursion, flat_map}
use Rattle.std.specs.Str.Lines.{strip_carriage_return}
use Rattle.nx_base.specs.Text.{EditedIsUtf8}
use Rattle.nx_base.specs.declared.fault.Fault.{Fault}
use Rattle.nx_host.specs.Out.{Appends}
use Rattle.nx_script.specs.FaultLines.{place_text, detail_text, fault_line, errors_text}
use Rattle.nx_script.specs.Grammar.{IsLine, LinesAreOneCommand}
use Rattle.nx_script.specs.Kinds.{kind_name}
use Rattle.nx_script.specs.Lines.{raw_lines_of, RawLinesAreTheLines}
use Rattle.nx_script.specs.Printing.{reply_text}
use Rattle.nx_script.specs.declared.command.Command.{Command}
use Rattle.nx_script.specs.declared.command.Command.TheVariants.{Errors, SchemaFile}
use Rattle.nx_script.specs.declared.reply.Reply.{Reply}
use Rattle.nx_script.specs.declared.reply.Reply.TheVariants as reply
use Rattle.nx_script.specs.declared.reply.Refusal.TheVariants.{NoMemory}
use Rattle.nx_session.specs.Editor.{EditorState, World, schema_of}
use Rattle.nx_session.specs.Step.{Step}
use Rattle.nx_session.specs.Validating.{ErrorsStep}
use Rattle.nx_session.specs.Validity.{IsDocumentFor}
use Rattle.nx_session.proofs.Fitness.{IsFit, new_fit, step_fit}
use Rattle.nx_session.proofs.Validity.{errors_exact}
use Rattle.nx_run.specs.Play.{TurnStep, Plays, IsWhole, texts_from}
use Rattle.nx_run.specs.Surroundings.{begun_in}
use Rattle.nx_run.specs.Turns.{Turn, hold, line, turns_of, first_number}
use Rattle.nx_run.specs.Validity.{PlayedNoErrorsIsValid, WrittenNoErrorsIsValid}
use Rattle.nx_run.proofs.InsertedTexts.{inserted_text, stripped_text, lines_are_text}

-- ---- what is printed

-- a fault takes a line of three bytes or more
line_is_long : (fault : Fault) → 3 ≤ length (fault_line fault)
line_is_long fault =
    let from = decimal fault.span.from in
    let to = decimal fault.span.to in
    let place = place_text fault.span in
    let kind = kind_name fault.kind in
    let detail = detail_text fault.detail in
    omega (
      arith,
      length-append ((place ++ kind) ++ detail) (codes "\n"),
      length-append (place ++ kind) detail,
      length-append place kind,
      length-append ((from ++ codes "-") ++ to) (codes " "),
      length-append (from ++ codes "-") to,
      length-append from (codes "-"),
    )

-- so faults aren't printed as none
none_printed : (faults : List Fault) → errors_text faults ≡ codes "errors: 0\n" → faults ≡ []
none_printed [] e = refl
none_printed (fault ∷ faults) e =
    let count = decimal (length (fault ∷ faults)) in
    let lines = flat_map fault_line faults in
    let size : length (errors_text (fault ∷ faults)) ≡ 10 = ap length e in
    let long = line_is_long fault in
    absurd (omega (
      arith,
      size,
      long,
      length-append ((codes "errors: " ++ count) ++ codes "\n") (fault_line fault ++ lines),
      length-append (fault_line fault) lines,
      length-append (codes "errors: " ++ count) (codes "\n"),
      length-append (codes "errors: ") count,
    ))

zero_printed : errors_text [] ≡ codes "errors: 0\n"
unfolding digits
zero_printed = refl

printed_exact : (old new : EditorState) (before now number : ℕ) (answer : Reply) (valid : Type 0) → ErrorsStep old before answer new now →
    ((answer ≡ reply.Errors []) ↔ valid) ⊎ (answer ≡ reply.Refused NoMemory) →
    ((reply_text number answer ≡ codes "errors: 0\n") ↔ valid) ⊎ (answer ≡ reply.Refused NoMemory)
printed_exact old new before now number answer valid h (inr none) = inr none
printed_exact old new before now number (reply.Errors faults) valid h (inl is) = inl (
  λ e. is.0 (ap reply.Errors (none_printed faults e)),
  λ d. ap (reply_text number) (is.1 d) ∙ zero_printed,
)
printed_exact old new before now number (reply.Refused NoMemory) valid h (inl is) = inr refl
printed_exact old new before now number answer valid h (inl is) = absurd h

-- ---- turns

abbrev TurnIsText : Turn → Type 0
TurnIsText (hold uri) = Unit {0}
TurnIsText (line text) = IsUtf8 text

stripped_turns : (raw : List (List ℕ)) → AllByRecursion IsUtf8 raw → AllByRecursion TurnIsText (map (λ text. line text) (map strip_carriage_return raw))
stripped_turns [] h = tt
stripped_turns (one ∷ raw) h = (stripped_text one h.0, stripped_turns raw h.1)

turns_text : RawLinesAreTheLines → (schema : Option (List ℕ)) (script : List ℕ) → IsUtf8 script → AllByRecursion TurnIsText (turns_of schema script)
turns_text raw None script utf8 =
    stripped_turns (raw_lines_of script) (lines_are_text (raw_lines_of script) script ((raw script (raw_lines_of script)).1 refl) utf8)
turns_text raw (Some uri) script utf8 =
    (tt, stripped_turns (raw_lines_of script) (lines_are_text (raw_lines_of script) script ((raw script (raw_lines_of script)).1 refl) utf8))

front_text : (front : List Turn) (behind : List Turn) → AllByRecursion TurnIsText (front ++ behind) → AllByRecursion TurnIsText front
front_text [] behind h = tt
front_text (turn ∷ front) behind h = (h.0, front_text front behind h.1)

module _ (edited_utf8 : EditedIsUtf8) where
  turn_fit : (old new : World) (turn : Turn) (answer : Reply) → TurnIsText turn → IsFit old.editor → TurnStep old turn answer new → IsFit new.editor
  turn_fit old new (hold uri) answer text fit h =
      step_fit edited_utf8 old new (SchemaFile uri) answer (λ at added e. absurd cc) fit h
  turn_fit old new (line text) answer utf8 fit (inl h) =
      let P : Command → Type 0 = λ c. IsLine text c in
      step_fit edited_utf8 old new h.0 answer (λ at added e. inserted_text text at added utf8 (subst P e h.1)) fit h.2
  turn_fit old new (line text) answer utf8 fit (inr (inl h)) = subst (λ (w : World). IsFit w.editor) (sym h.2) fit
  turn_fit old new (line text) answer utf8 fit (inr (inr h)) = subst (λ (w : World). IsFit w.editor) (sym h.1) fit

  plays_fit : (old : World) (turns : List Turn) (answers : List Reply) (new : World) → AllByRecursion TurnIsText turns → IsFit old.editor
      → Plays old turns answers new → IsFit new.editor
  plays_fit old [] [] new text fit h = subst (λ (w : World). IsFit w.editor) (sym h) fit
  plays_fit old (turn ∷ turns) (answer ∷ answers) new text fit h =
      plays_fit h.0 turns answers new text.1 (turn_fit old h.0 turn answer text.0 fit h.1) h.2
  plays_fit old [] (answer ∷ answers) new text fit h = absurd h
  plays_fit old (turn ∷ turns) [] new text fit h = absurd h

pub played_no_errors_is_valid : EditedIsUtf8 → RawLinesAreTheLines → LinesAreOneCommand → PlayedNoErrorsIsValid
played_no_errors_is_valid edited_utf8 raw one asked script old text now answer number h is =
    let P : List Turn → Type 0 = λ turns. AllByRecursion TurnIsText turns in
    let texts : AllByRecursion TurnIsText h.front = front_text h.front (line text ∷ h.behind) (subst P h.turns (turns_text raw asked.schema script h.is_text)) in
    let fit : IsFit now.editor = plays_fit edited_utf8 (begun_in asked.rules old) h.front h.answers now texts (new_fit asked.rules) h.played in
    elim (h.step) [
      | inl step ↦
          let Q : Command → Type 0 = λ c. Step now c answer h.next in
          let errors : Step now Errors answer h.next = subst Q (one text step.0 Errors step.1 is) step.2 in
          printed_exact now.editor h.next.editor now.steps h.next.steps number answer (IsDocumentFor (schema_of now.editor) now.editor.text) errors.0
          (errors_exact now.editor h.next.editor now.steps h.next.steps answer fit.utf8 fit.live errors.0)
      | inr other ↦ elim other [
        | inl none ↦ absurd (none.0 Errors is)
        | inr wants ↦ inr wants.0
      ]
    ]

-- ---- what is written

-- the replies to the turns in front of one, the one to it, and those to the turns behind it
record PlaysParted (old : World) (front : List Turn) (turn : Turn) (answers : List Reply) : Type 0 where
  first : List Reply
  now : World
  played : Plays old front first now
  answer : Reply
  next : World
  step : TurnStep now turn answer next
  rest : List Reply
  parts : answers ≡ first ++ answer ∷ rest
  counted : length first ≡ length front

plays_parted : (old : World) (front : List Turn) (turn : Turn) (behind : List Turn) (answers : List Reply) (new : World) →
    Plays old (front ++ turn ∷ behind) answers new → PlaysParted old front turn answers
plays_parted old [] turn behind (answer ∷ answers) new h =
    record { first = []; now = old; played = refl; answer = answer; next = h.0; step = h.1; rest = answers; parts = refl; counted = refl }
plays_parted old (one ∷ front) turn behind (answer ∷ answers) new h =
    let p = plays_parted h.0 front turn behind answers new h.2 in
    record {
      first = answer ∷ p.first;
      now = p.now;
      played = (h.0, h.1, p.played);
      answer = p.answer;
      next = p.next;
      step = p.step;
      rest = p.rest;
      parts = ap (λ xs. answer ∷ xs) p.parts;
      counted = ap suc p.counted;
    }
plays_parted old [] turn behind [] new h = absurd h
plays_parted old (one ∷ front) turn behind [] new h = absurd h

texts_parted : (number : ℕ) (first : List Reply) (answer : Reply) (rest : List Reply) → (behind : List ℕ) × (texts_from number (first ++ answer ∷ rest)
    ≡ (texts_from number first ++ reply_text (number + length first) answer) ++ behind)
texts_parted number [] answer rest =
    let none : number ≡ number + 0 = omega arith in
    (texts_from (number + 1) rest, ap (λ (n : ℕ). reply_text n answer ++ texts_from (number + 1) rest) none)
texts_parted number (one ∷ first) answer rest =
    let p = texts_parted (number + 1) first answer rest in
    let later : (number + 1) + length first ≡ number + length (one ∷ first) = omega arith in
    let front = texts_from (number + 1) first in (
      p.0,
      ap (λ x. reply_text number one ++ x) (p.1 ∙ ap (λ (n : ℕ). (front ++ reply_text n answer) ++ p.0) later)
          ∙ sym (append_assoc (reply_text number one) (front ++ reply_text (number + length (one ∷ first)) answer) p.0)
          ∙ ap (λ x. x ++ p.0) (sym (append_assoc (reply_text number one) front (reply_text (number + length (one ∷ first)) answer))),
    )

pub written_no_errors_is_valid : PlayedNoErrorsIsValid → WrittenNoErrorsIsValid
written_no_errors_is_valid valid asked script old new before after status whole utf8 front behind text turns is =
    let P : List Turn → Type 0 = λ ts. Plays (begun_in asked.rules old) ts whole.answers whole.end_world in
    let p = plays_parted (begun_in asked.rules old) front (line text) behind whole.answers whole.end_world (subst P turns whole.played) in
    let number = first_number asked.schema in
    let parted = texts_parted number p.first p.answer p.rest in
    let counted : number + length p.first ≡ number + length front = ap (λ (n : ℕ). number + n) p.counted in
    let W : List ℕ → Type 0 = λ bytes. Appends before bytes after in
    record {
      answers = p.first;
      now = p.now;
      played = p.played;
      answer = p.answer;
      behind = parted.0;
      written = subst W (ap (texts_from number) p.parts ∙ parted.1 ∙ ap (λ (n : ℕ). (texts_from number p.first ++ reply_text n p.answer) ++ parted.0) counted) whole.written;
      tells = valid asked script old text p.now p.answer (number + length front) (record {
        is_text = utf8;
        front = front;
        behind = behind;
        turns = turns;
        answers = p.first;
        played = p.played;
        next = p.next;
        step = p.step;
      }) is;
    }
