-- The command that locates the schema of the document by the rules that the editor was given.
use Rattle.std.specs.Prelude.{◌≡◌, ℕ, ◌⊎◌, List, Option, Some, None, Result, Ok, Err, IsUtf8}
use Rattle.nx_base.specs.declared.locate_fault.LocateFault.{LocateFault}
use Rattle.nx_host.specs.Uri.{Joins, IsBadUri}
use Rattle.nx_locate.specs.Locates.{Locates}
use Rattle.nx_script.specs.Replies.{refusal_of_rules}
use Rattle.nx_script.specs.declared.reply.Reply.{Reply}
use Rattle.nx_script.specs.declared.reply.Reply.TheVariants.{Located, Refused}
use Rattle.nx_script.specs.declared.reply.Refusal.{Refusal}
use Rattle.nx_script.specs.declared.reply.Refusal.TheVariants.{BadUri, NoMemory}
use Rattle.nx_session.specs.Editor.{EditorState, FilesState, work_folder, with_schema}
use Rattle.nx_session.specs.Schemas.{HoldsFile, IsRefusedFor}

-- the rules that the editor was given by this text, which is UTF-8, are those in the file under this URI; it was given none, and there are
-- none
abbrev pub RulesAre : Option (List ℕ) → Option (List ℕ) → Type 0
RulesAre None None = Unit {0}
RulesAre (Some text) (Some uri) = IsUtf8 text × Joins work_folder text uri
RulesAre given rules = ⊥

-- the editor was given a text for its rules that is no URI, or that is no text
abbrev pub HasBadRules : Option (List ℕ) → Type 0
HasBadRules (Some text) = IsBadUri work_folder text ⊎ ¬ (IsUtf8 text)
HasBadRules None = ⊥

-- why the URI of the rules can't be had: their text is none, or there is no memory to see whether it is one
abbrev pub LacksRules : Option (List ℕ) → Refusal → Type 0
LacksRules given cause = ((cause ≡ BadUri) × HasBadRules given) ⊎ (cause ≡ NoMemory)

-- this is what the rules may give for the editor's document, where the count of the files' faults goes to `after`
abbrev pub LocatesFor : EditorState → FilesState → ℕ → Result (Option (List ℕ)) LocateFault → Type 0
LocatesFor editor before after given =
    (rules : Option (List ℕ)) × RulesAre editor.locating rules
    × Locates before.map rules editor.document editor.text before.faults after given

-- why nothing is located: the URI of the rules can't be had; or they can't be followed
abbrev pub IsUnlocated : EditorState → FilesState → ℕ → Refusal → Type 0
IsUnlocated editor before after cause =
    (LacksRules editor.locating cause × (after ≡ before.faults))
    ⊎ ((fault : LocateFault) × (cause ≡ refusal_of_rules fault) × LocatesFor editor before after (Err fault))

-- what may be answered of the schema of the editor's document
abbrev pub LocatingAnswers : EditorState → FilesState → ℕ → Result (Option (List ℕ)) Refusal → Type 0
LocatingAnswers editor before after (Ok found) = LocatesFor editor before before.faults (Ok found) × (after ≡ before.faults)
LocatingAnswers editor before after (Err cause) = IsUnlocated editor before after cause

-- nothing is located; or the schema is refused that is located
abbrev pub IsRefusedAuto : EditorState → FilesState → FilesState → Refusal → Type 0
IsRefusedAuto old before after cause =
    IsUnlocated old before after.faults cause
    ⊎ ((uri : List ℕ) × LocatesFor old before before.faults (Ok (Some uri))
    × IsRefusedFor before.map uri before.faults after.faults cause)

-- the document is held against the schema that the rules give for it, or against none where they give none, and the reply tells
-- which; a refused command leaves all as it was. How many tokens are cut to locate it, and to read it, isn't said
abbrev pub SchemaAutoStep : EditorState → FilesState → Reply → EditorState → FilesState → Type 0
SchemaAutoStep old before (Located (Some uri)) new after =
    LocatesFor old before before.faults (Ok (Some uri)) × HoldsFile uri old before new after
SchemaAutoStep old before (Located None) new after =
    LocatesFor old before before.faults (Ok None) × (new ≡ with_schema old None) × (after ≡ before)
SchemaAutoStep old before (Refused cause) new after =
    (new ≡ old) × (after.map ≡ before.map) × IsRefusedAuto old before after cause
SchemaAutoStep old before reply new after = ⊥
