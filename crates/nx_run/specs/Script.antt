-- The script that a word names.
use Rattle.std.specs.Prelude.{◌≡◌, ℕ, List, ◌++◌, codes, Some, None, Result, Ok, Err, IsUtf8}
use Rattle.std.specs.Fmt.{decimal}
use Rattle.nx_host.specs.Count.{Rose}
use Rattle.nx_host.specs.Files.{Holds}
use Rattle.nx_host.specs.Uri.{Joins, IsBadUri}
use Rattle.nx_host.specs.Utf8.{StopsBeingText}
use Rattle.nx_host.specs.declared.files.FileFault.{FileFault}
use Rattle.nx_host.specs.declared.files.FileFault.TheVariants as file_fault
use Rattle.nx_host.specs.declared.uri.UriFault.{UriFault}
use Rattle.nx_host.specs.declared.uri.UriFault.TheVariants as uri_fault
use Rattle.nx_run.specs.declared.script.ScriptRefusal.{ScriptRefusal}
use Rattle.nx_run.specs.declared.script.ScriptRefusal.TheVariants.{BadUri, Absent, NotUtf8, Failed}
use Rattle.nx_run.specs.declared.script.FetchFault.{FetchFault}
use Rattle.nx_run.specs.declared.script.FetchFault.TheVariants.{Refused, NoMemory}
use Rattle.nx_session.specs.Editor.{FilesState, work_folder}

-- the files hold the script under the word's URI, and it is text
pub record IsScript (word : List ℕ) (files : FilesState) (script : List ℕ) : Type 0 where
  pub uri : List ℕ
  pub joined : Joins work_folder word uri
  pub held : Holds files.map uri (Some script)
  pub is_text : IsUtf8 script

-- the cause holds of the word, and of what the files answered
abbrev pub HoldsOfScript : ScriptRefusal → List ℕ → FilesState → FilesState → Type 0
HoldsOfScript BadUri word old new = IsBadUri work_folder word × (new ≡ old)
HoldsOfScript Absent word old new =
    (uri : List ℕ) × Joins work_folder word uri × Holds old.map uri None × (new ≡ old)
HoldsOfScript (NotUtf8 at) word old new =
    (uri bytes : List ℕ) × Joins work_folder word uri × Holds old.map uri (Some bytes) × ¬ (IsUtf8 bytes)
    × StopsBeingText bytes at × (new ≡ old)
HoldsOfScript Failed word old new =
    (uri : List ℕ) × Joins work_folder word uri × (new.map ≡ old.map) × Rose old.faults new.faults

-- what fetching the script gave
abbrev pub FetchesScript : List ℕ → FilesState → FilesState → Result (List ℕ) FetchFault → Type 0
FetchesScript word old new (Ok script) = IsScript word old script × (new ≡ old)
FetchesScript word old new (Err (Refused cause)) = HoldsOfScript cause word old new
FetchesScript word old new (Err NoMemory) = new ≡ old

-- the bytes are the answer where they are text, and otherwise the first offset at which they stop being one
abbrev pub IsTextAlone : List ℕ → Result (List ℕ) FetchFault → Type 0
IsTextAlone bytes (Ok script) = IsUtf8 bytes × (script ≡ bytes)
IsTextAlone bytes (Err (Refused (NotUtf8 at))) = ¬ (IsUtf8 bytes) × StopsBeingText bytes at
IsTextAlone bytes (Err fault) = ⊥

-- why there is no script where its URI can't be had
abbrev pub fetch_fault_of_uri : UriFault → FetchFault
fetch_fault_of_uri uri_fault.Bad = Refused BadUri
fetch_fault_of_uri uri_fault.NoMemory = NoMemory

-- why there is no script where the files refuse it
abbrev pub fetch_fault_of_files : FileFault → FetchFault
fetch_fault_of_files file_fault.Failed = Refused Failed
fetch_fault_of_files file_fault.NoMemory = NoMemory

-- what is written where the script can't be read
abbrev pub refusal_line : ScriptRefusal → List ℕ
refusal_line BadUri = codes "script refused: BadUri\n"
refusal_line Absent = codes "script refused: Absent\n"
refusal_line (NotUtf8 at) = codes "script refused: NotUtf8 " ++ decimal at ++ codes "\n"
refusal_line Failed = codes "script refused: Failed\n"
