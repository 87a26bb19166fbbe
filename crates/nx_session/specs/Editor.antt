-- The editor, and the world that it works in.
use Rattle.std.specs.Prelude.{ℕ, List, [], ◌==◌, length, codes, Option, None, option_map, if◌then◌else◌}
use Rattle.nx_base.specs.Text.{edited, moved_place}
use Rattle.nx_base.specs.declared.edit.Edit.{Edit}
use Rattle.nx_host.specs.Files.{FileMap}
use Rattle.nx_marks.specs.Chain.{Kept}
use Rattle.nx_recover.specs.RecoverRules.{Recovered}
use Rattle.nx_views.specs.States.{ViewState}
use Rattle.rng_core.specs.Meaning.{language_of}
use Rattle.rng_core.specs.Patterns.{Language}
use Rattle.rng_core.specs.declared.grammar.Grammar.{Grammar}

-- an editor between two commands: its text, the caret's byte offset, the URI of its document, the grammar that the document
-- is held against, if any, the URI text of the rules by which schemas are located, if any, the byte offset up to which the text is
-- read, and how many tokens the last command took that read it
pub record EditorState : Type 0 where
  pub text : List ℕ
  pub caret : ℕ
  pub document : List ℕ
  pub schema : Option Grammar
  pub locating : Option (List ℕ)
  pub frontier : ℕ
  pub taken : ℕ

-- an editor, and what it keeps of reading its text: the marks, each with what its state means
pub record SessionState : Type 0 where
  pub editor : EditorState
  pub marks : Kept Recovered

-- what files tell, and how many calls they have failed
pub record FilesState : Type 0 where
  pub map : Option FileMap
  pub faults : ℕ

-- an editor, the files that it fetches and stores, the views that it shows faults to, and how many tokens were cut so far
pub record World : Type 0 where
  pub editor : EditorState
  pub files : FilesState
  pub views : List ViewState
  pub steps : ℕ

abbrev pub files_state : Option FileMap → ℕ → FilesState
files_state map faults = record { map = map; faults = faults }

abbrev pub world : EditorState → FilesState → List ViewState → ℕ → World
world editor files views steps = record { editor = editor; files = files; views = views; steps = steps }

-- the folder that URIs are read against
abbrev pub work_folder : List ℕ
work_folder = codes "file:///work/"

-- the editor with the document under this URI: the whole text is replaced, so nothing of it is read
abbrev pub opened : EditorState → List ℕ → List ℕ → EditorState
opened old uri text = record old { text = text; caret = 0; document = uri; frontier = 0 }

-- an editor before its first command, which was given these rules, or none
abbrev pub new_editor : Option (List ℕ) → EditorState
new_editor rules = record {
  text = [];
  caret = 0;
  document = codes "file:///work/untitled.xml";
  schema = None;
  locating = rules;
  frontier = 0;
  taken = 0;
}

-- the edit that puts these bytes in the place of those from `from` to `to`
abbrev pub edit_of : ℕ → ℕ → List ℕ → Edit
edit_of from to added = record { from = from; to = to; added = length added }

-- where a caret goes: it moves with the text, but stays where text is put in at it
abbrev pub caret_after : Edit → ℕ → ℕ
caret_after edit caret = if caret == edit.from then caret else moved_place caret edit

-- the editor after the bytes from `from` to `to` were replaced by the added ones, read up to a frontier of its own
abbrev pub edited_editor : EditorState → ℕ → ℕ → List ℕ → ℕ → EditorState
edited_editor old from to added frontier = record old {
  text = edited old.text from to added;
  caret = caret_after (edit_of from to added) old.caret;
  frontier = frontier;
}

-- the editor read up to this byte offset, by so many tokens
abbrev pub read_editor : EditorState → ℕ → ℕ → EditorState
read_editor old frontier taken = record old { frontier = frontier; taken = taken }

-- the editor with its caret at this byte offset
abbrev pub at_caret : EditorState → ℕ → EditorState
at_caret old caret = record old { caret = caret }

-- the editor that holds its document against this grammar, or against none, from now on: nothing of the text is read yet
abbrev pub with_schema : EditorState → Option Grammar → EditorState
with_schema old schema = record old { schema = schema; frontier = 0; taken = 0 }

-- what the document is held against, without the memory that it stands in
abbrev pub schema_of : EditorState → Option Language
schema_of editor = option_map language_of editor.schema
