-- What it says of a text that `errors` lists no fault.
use Rattle.std.proofs.Common.{◌≡◌, ◌⊎◌, ℕ, List, [], length, Option, Some, None, IsUtf8, refl, sym, ap, subst, inl, inr}
use Rattle.std.specs.Prelude.{◌↔◌, IfSome}
use Rattle.nx_base.specs.declared.fault.Fault.{Fault}
use Rattle.nx_base.specs.Tokens.{tokens_of}
use Rattle.nx_document.proofs.Borders.{tokens_mark_first}
use Rattle.nx_document.proofs.Nesting.{document_reads}
use Rattle.nx_document.proofs.Prologs.{faultless_is_document}
use Rattle.nx_recover.specs.Faults.{AreFaultsOf}
use Rattle.nx_recovery.proofs.Uniqueness.{recovery_is_one}
use Rattle.nx_recovery.proofs.Validity.{no_faults_is_valid}
use Rattle.nx_script.specs.declared.reply.Reply.{Reply}
use Rattle.nx_script.specs.declared.reply.Reply.TheVariants.{Errors, Refused}
use Rattle.nx_script.specs.declared.reply.Refusal.TheVariants.{NoMemory}
use Rattle.nx_session.specs.Editor.{EditorState, schema_of}
use Rattle.nx_session.specs.Validating.{ErrorsStep}
use Rattle.nx_session.specs.Validity.{IsDocumentFor, NoErrorsIsValid}
use Rattle.rng_core.specs.Patterns.{Language}
use Rattle.rng_kept.specs.Live.{IsLive}

-- the faults that a reply lists
abbrev faults_in : Reply → List Fault
faults_in (Errors faults) = faults
faults_in reply = []

-- no faults are those of the text exactly where it is a document
none_is_document : (schema : Option Language) (text : List ℕ) → IsUtf8 text → IfSome schema IsLive → AreFaultsOf schema text []
    ↔ IsDocumentFor schema text
none_is_document None text utf8 live =
    let all = tokens_of text in (
      λ e. faultless_is_document all (length text) (tokens_mark_first text utf8) (sym e),
      λ is. sym (document_reads all is.0 (length text) is.1).0,
    )
none_is_document (Some g) text utf8 live = no_faults_is_valid g live text utf8

pub errors_exact : (old new : EditorState) (before now : ℕ) (reply : Reply) → IsUtf8 old.text → IfSome (schema_of old) IsLive
    → ErrorsStep old before reply new now → ((reply ≡ Errors []) ↔ IsDocumentFor (schema_of old) old.text) ⊎ (reply ≡ Refused NoMemory)
errors_exact old new before now (Errors faults) utf8 live h =
    let none = none_is_document (schema_of old) old.text utf8 live in
    let P : List Fault → Type 0 = λ all. AreFaultsOf (schema_of old) old.text all in
    inl (
      λ e. let same : faults ≡ [] = ap faults_in e in none.0 (subst P same h.0),
      λ d. ap Errors (recovery_is_one (schema_of old) old.text faults [] h.0 (none.1 d)),
    )
errors_exact old new before now (Refused NoMemory) utf8 live h = inr refl
errors_exact old new before now reply utf8 live h = absurd h

pub no_errors_is_valid : NoErrorsIsValid
no_errors_is_valid session files views steps reply new right held h =
    errors_exact session.editor new.editor steps new.steps reply right.utf8 held.live h.0
