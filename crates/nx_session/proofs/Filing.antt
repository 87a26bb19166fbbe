-- Documents that are opened and saved.
use Rattle.std.proofs.Common.{◌≡◌, ℕ, List, Option, Some, Err, refl, sym, ap, ◌∙◌, subst, inl, inr}
use Rattle.nx_host.specs.Files.{FileMap, LeavesOthers, CountsFault}
use Rattle.nx_host.specs.Uri.{Joins, IsBadUri}
use Rattle.nx_host.specs.declared.files.FileFault.{FileFault}
use Rattle.nx_host.specs.declared.files.FileFault.TheVariants as file_fault
use Rattle.nx_host.specs.declared.uri.UriFault.{UriFault}
use Rattle.nx_host.specs.declared.uri.UriFault.TheVariants as uri_fault
use Rattle.nx_script.specs.Replies.{refusal_of_files, refusal_of_uri}
use Rattle.nx_script.specs.declared.reply.Reply.{Reply}
use Rattle.nx_script.specs.declared.reply.Reply.TheVariants.{Silent, Printed, Errors, Frontier, Taken, Located, Offered, Caret, Stay, Position, Shown, Refused}
use Rattle.nx_script.specs.declared.reply.Refusal.TheVariants.{BadCommand, BadPosition, BadUri, Absent, NotUtf8, Unreadable, BadRules, NoView, Failed, NoMemory}
use Rattle.nx_session.specs.Editor.{EditorState, FilesState, files_state, work_folder}
use Rattle.nx_session.specs.Documents.{Finds, OpensBytes, OpenStep, SaveStep}

-- the bytes that were fetched are opened
pub opens : (uri_text uri bytes : List ℕ) (old new : EditorState) (answer : Reply) (before after : FilesState) → Finds uri_text uri before (Some bytes) → after ≡ before →
    OpensBytes uri bytes old answer new → OpenStep uri_text old before answer new after
opens uri_text uri bytes old new Silent before after found same h = (uri, bytes, found, h.0, h.1, same)
opens uri_text uri bytes old new (Refused (NotUtf8 named at)) before after found same h =
    let P : List ℕ → Type 0 = λ u. Finds uri_text u before (Some bytes) in
    (bytes, subst P (sym h.0) found, h.1, h.2, h.3, same)
opens uri_text uri bytes old new (Refused NoMemory) before after found same h = (h, same)
opens uri_text uri bytes old new (Printed text) before after found same h = absurd h
opens uri_text uri bytes old new (Errors faults) before after found same h = absurd h
opens uri_text uri bytes old new (Frontier at len) before after found same h = absurd h
opens uri_text uri bytes old new (Taken taken) before after found same h = absurd h
opens uri_text uri bytes old new (Located located) before after found same h = absurd h
opens uri_text uri bytes old new (Offered offers) before after found same h = absurd h
opens uri_text uri bytes old new (Caret at) before after found same h = absurd h
opens uri_text uri bytes old new Stay before after found same h = absurd h
opens uri_text uri bytes old new (Position row column) before after found same h = absurd h
opens uri_text uri bytes old new (Shown index faults) before after found same h = absurd h
opens uri_text uri bytes old new (Refused BadCommand) before after found same h = absurd h
opens uri_text uri bytes old new (Refused (BadPosition at len)) before after found same h = absurd h
opens uri_text uri bytes old new (Refused BadUri) before after found same h = absurd h
opens uri_text uri bytes old new (Refused (Absent named)) before after found same h = absurd h
opens uri_text uri bytes old new (Refused (BadRules fault)) before after found same h = absurd h
opens uri_text uri bytes old new (Refused (NoView index)) before after found same h = absurd h
opens uri_text uri bytes old new (Refused (Unreadable why)) before after found same h = absurd h
opens uri_text uri bytes old new (Refused Failed) before after found same h = absurd h

-- files that tell the same, and have failed as often, are the same to an editor
pub same-files : (after before : FilesState) → after.map ≡ before.map → after.faults ≡ before.faults → after ≡ before
same-files after before map faults =
    ap (λ (m : Option FileMap). files_state m after.faults) map ∙ ap (λ (n : ℕ). files_state before.map n) faults

-- the command's text is no URI, or there is no memory to see whether it is one
pub open-unjoined : (uri_text : List ℕ) (old : EditorState) (files : FilesState) (fault : UriFault)
    → (fault ≡ uri_fault.Bad → IsBadUri work_folder uri_text) → OpenStep uri_text old files (Refused (refusal_of_uri fault)) old files
open-unjoined uri_text old files uri_fault.Bad bad = (bad refl, refl, refl)
open-unjoined uri_text old files uri_fault.NoMemory bad = (refl, refl)

pub save-unjoined : (uri_text : List ℕ) (old : EditorState) (files : FilesState) (fault : UriFault)
    → (fault ≡ uri_fault.Bad → IsBadUri work_folder uri_text) → SaveStep uri_text old files (Refused (refusal_of_uri fault)) old files
save-unjoined uri_text old files uri_fault.Bad bad = (bad refl, refl, refl)
save-unjoined uri_text old files uri_fault.NoMemory bad = inl (refl, refl)

-- the files refuse what is asked of them
abbrev IsCounted : FileFault → FilesState → FilesState → Type 0
IsCounted fault before after = CountsFault {A = Unit {0}} (Err fault) before.faults after.faults

pub open-unfetched : (uri_text uri : List ℕ) (old : EditorState) (before after : FilesState) (fault : FileFault) →
    Joins work_folder uri_text uri → after.map ≡ before.map → IsCounted fault before after →
    OpenStep uri_text old before (Refused (refusal_of_files fault)) old after
open-unfetched uri_text uri old before after file_fault.Failed joined map rose = (uri, joined, refl, map, rose)
open-unfetched uri_text uri old before after file_fault.NoMemory joined map same = (refl, same-files after before map same)

pub save-unstored : (uri_text uri : List ℕ) (old : EditorState) (before after : FilesState) (fault : FileFault) →
    Joins work_folder uri_text uri → LeavesOthers before.map uri after.map → IsCounted fault before after →
    SaveStep uri_text old before (Refused (refusal_of_files fault)) old after
save-unstored uri_text uri old before after file_fault.Failed joined leaves rose = (uri, joined, refl, leaves, rose)
save-unstored uri_text uri old before after file_fault.NoMemory joined leaves same = inr (uri, joined, refl, leaves, same)
