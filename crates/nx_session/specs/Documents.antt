-- Commands on files, from those before to those after.
use Rattle.std.specs.Prelude.{◌≡◌, ℕ, ◌⊎◌, List, Option, Some, None, IsUtf8}
use Rattle.nx_host.specs.Count.{Rose}
use Rattle.nx_host.specs.Files.{Holds, SetsFile, LeavesOthers}
use Rattle.nx_host.specs.Uri.{Joins, IsBadUri}
use Rattle.nx_host.specs.Utf8.{StopsBeingText}
use Rattle.nx_script.specs.declared.reply.Reply.{Reply}
use Rattle.nx_script.specs.declared.reply.Reply.TheVariants.{Silent, Refused}
use Rattle.nx_script.specs.declared.reply.Refusal.TheVariants.{BadUri, Absent, NotUtf8, Failed, NoMemory}
use Rattle.nx_session.specs.Editor.{EditorState, FilesState, work_folder, opened}
use Rattle.nx_session.specs.LargeDocuments.{large_document}

-- what is under the URI that the text denotes, where the files tell it
abbrev pub Finds : List ℕ → List ℕ → FilesState → Option (List ℕ) → Type 0
Finds uri_text uri files found = Joins work_folder uri_text uri × Holds files.map uri found

-- what becomes of an editor that opens these bytes under this URI
abbrev pub OpensBytes : List ℕ → List ℕ → EditorState → Reply → EditorState → Type 0
OpensBytes uri bytes old Silent new = IsUtf8 bytes × (new ≡ opened old uri bytes)
OpensBytes uri bytes old (Refused (NotUtf8 named at)) new =
    (named ≡ uri) × ¬ (IsUtf8 bytes) × StopsBeingText bytes at × (new ≡ old)
OpensBytes uri bytes old (Refused NoMemory) new = new ≡ old
OpensBytes uri bytes old reply new = ⊥

-- the text is the file's from now on, the caret stands before it, and the document's URI is this one
abbrev pub OpenStep : List ℕ → EditorState → FilesState → Reply → EditorState → FilesState → Type 0
OpenStep uri_text old before Silent new after =
    (uri text : List ℕ) × Finds uri_text uri before (Some text) × IsUtf8 text × (new ≡ opened old uri text) × (after ≡ before)
OpenStep uri_text old before (Refused BadUri) new after =
    IsBadUri work_folder uri_text × (new ≡ old) × (after ≡ before)
OpenStep uri_text old before (Refused Failed) new after =
    (uri : List ℕ) × Joins work_folder uri_text uri × (new ≡ old) × (after.map ≡ before.map)
    × Rose before.faults after.faults
OpenStep uri_text old before (Refused (Absent uri)) new after =
    Finds uri_text uri before None × (new ≡ old) × (after ≡ before)
OpenStep uri_text old before (Refused (NotUtf8 uri at)) new after =
    (bytes : List ℕ) × Finds uri_text uri before (Some bytes) × ¬ (IsUtf8 bytes) × StopsBeingText bytes at
    × (new ≡ old) × (after ≡ before)
OpenStep uri_text old before (Refused NoMemory) new after = (new ≡ old) × (after ≡ before)
OpenStep uri_text old before reply new after = ⊥

-- the text comes under the URI; a save that the files refuse leaves open what is there, and nothing else
abbrev pub SaveStep : List ℕ → EditorState → FilesState → Reply → EditorState → FilesState → Type 0
SaveStep uri_text old before Silent new after =
    (uri : List ℕ) × Joins work_folder uri_text uri × (new ≡ old)
    × SetsFile before.map uri old.text after.map × (after.faults ≡ before.faults)
SaveStep uri_text old before (Refused BadUri) new after =
    IsBadUri work_folder uri_text × (new ≡ old) × (after ≡ before)
SaveStep uri_text old before (Refused Failed) new after =
    (uri : List ℕ) × Joins work_folder uri_text uri × (new ≡ old)
    × LeavesOthers before.map uri after.map × Rose before.faults after.faults
SaveStep uri_text old before (Refused NoMemory) new after =
    ((new ≡ old) × (after ≡ before))
    ⊎ ((uri : List ℕ) × Joins work_folder uri_text uri × (new ≡ old)
    × LeavesOthers before.map uri after.map × (after.faults ≡ before.faults))
SaveStep uri_text old before reply new after = ⊥

-- the text is the large document that the two numbers make, from now on, and the caret stands before it
abbrev pub MakeStep : ℕ → ℕ → EditorState → Reply → EditorState → Type 0
MakeStep seed pieces old Silent new = new ≡ opened old old.document (large_document seed pieces)
MakeStep seed pieces old (Refused NoMemory) new = new ≡ old
MakeStep seed pieces old reply new = ⊥
