-- A script that is fetched.
use Rattle.std.proofs.Common.{◌≡◌, ℕ, List, Some, Result, Ok, Err, IsUtf8, sym, subst}
use Rattle.nx_host.specs.Files.{Holds, CountsFault}
use Rattle.nx_host.specs.Uri.{Joins}
use Rattle.nx_host.specs.declared.files.FileFault.{FileFault}
use Rattle.nx_host.specs.declared.files.FileFault.TheVariants as file_fault
use Rattle.nx_session.specs.Editor.{FilesState, work_folder}
use Rattle.nx_session.proofs.Filing.{same-files}
use Rattle.nx_run.specs.declared.script.ScriptRefusal.TheVariants.{BadUri, Absent, NotUtf8, Failed}
use Rattle.nx_run.specs.declared.script.FetchFault.{FetchFault}
use Rattle.nx_run.specs.declared.script.FetchFault.TheVariants.{Refused, NoMemory}
use Rattle.nx_run.specs.Script.{FetchesScript, IsTextAlone, fetch_fault_of_files}

-- the bytes that were fetched are the script where they are text
pub fetched : (word uri bytes : List ℕ) (old new : FilesState) (answer : Result (List ℕ) FetchFault) → Joins work_folder word uri → Holds old.map uri (Some bytes) → new ≡ old →
    IsTextAlone bytes answer → FetchesScript word old new answer
fetched word uri bytes old new (Ok script) joined held same h =
    let P : List ℕ → Type 0 = λ b. Holds old.map uri (Some b) in
    (record { uri = uri; joined = joined; held = subst P (sym h.1) held; is_text = subst IsUtf8 (sym h.1) h.0 }, same)
fetched word uri bytes old new (Err (Refused (NotUtf8 at))) joined held same h = (uri, bytes, joined, held, h.0, h.1, same)
fetched word uri bytes old new (Err (Refused BadUri)) joined held same h = absurd h
fetched word uri bytes old new (Err (Refused Absent)) joined held same h = absurd h
fetched word uri bytes old new (Err (Refused Failed)) joined held same h = absurd h
fetched word uri bytes old new (Err NoMemory) joined held same h = absurd h

-- the files refused it
pub unfetched : (word uri : List ℕ) (old new : FilesState) (fault : FileFault) → Joins work_folder word uri → new.map ≡ old.map →
    CountsFault {A = Unit {0}} (Err fault) old.faults new.faults → FetchesScript word old new (Err (fetch_fault_of_files fault))
unfetched word uri old new file_fault.Failed joined map rose = (uri, joined, map, rose)
unfetched word uri old new file_fault.NoMemory joined map same = same-files new old map same
