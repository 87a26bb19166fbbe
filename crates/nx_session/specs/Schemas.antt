-- Commands on the schema that the document is held against.
use Rattle.std.specs.Prelude.{◌≡◌, ℕ, List, Option, Some, ◌⊎◌, Result, Ok, Err}
use Rattle.nx_base.specs.declared.cause.Cause.{Cause}
use Rattle.nx_base.specs.declared.cause.Cause.TheVariants as cause
use Rattle.nx_host.specs.Count.{Rose}
use Rattle.nx_host.specs.Files.{FileMap}
use Rattle.nx_host.specs.Uri.{Joins, IsBadUri}
use Rattle.nx_script.specs.declared.reply.Reply.{Reply}
use Rattle.nx_script.specs.declared.reply.Reply.TheVariants.{Silent, Refused}
use Rattle.nx_script.specs.declared.reply.Refusal.{Refusal}
use Rattle.nx_script.specs.declared.reply.Refusal.TheVariants.{BadUri, Absent, NotUtf8, Unreadable, Failed, NoMemory}
use Rattle.nx_session.specs.Editor.{EditorState, FilesState, work_folder, with_schema}
use Rattle.rng_core.specs.Meaning.{language_of, pattern_of, definitions_of}
use Rattle.rng_core.specs.Soundness.{IsSound}
use Rattle.rng_core.specs.declared.grammar.Grammar.{Grammar}
use Rattle.rng_kept.specs.Live.{IsLive}
use Rattle.rng_live.specs.Dead.{IsDead}
use Rattle.rng_live.specs.Pruned.{IsPruned, MatchSame}
use Rattle.rng_live.specs.declared.schema.Schema.{Schema}
use Rattle.rng_restrict.specs.Checking.{ChecksGrammar}
use Rattle.rng_restrict.specs.declared.fault.RestrictFault.TheVariants as broken
use Rattle.rng_simplify.specs.Broken.{IsAbsent, IsNoText, HasBadUri, IsBroken}
use Rattle.rng_simplify.specs.Simplified.{IfTold, IsOfSimplification, Simplifies}

-- ---- what can be used of a grammar

-- the grammar breaks no restriction and has valid documents, and this is what documents can use of it: the same documents are
-- valid, and each part of it is in one of them
pub record IsUsable (whole left : Grammar) : Type 0 where
  pub checked : ChecksGrammar whole (Ok tt)
  pub pruned : IsPruned (language_of whole) (language_of left)
  pub trees : MatchSame (language_of whole) (language_of left)
  pub live : IsLive (language_of left)
  pub sound : IsSound left

-- the grammar can't be used, for this cause: it breaks this restriction, and none before it; or it breaks none, and no document
-- is valid
abbrev pub IsUnusable : Grammar → Cause → Type 0
IsUnusable whole cause.Path = ChecksGrammar whole (Err broken.Path)
IsUnusable whole cause.Mixture = ChecksGrammar whole (Err broken.Mixture)
IsUnusable whole cause.AttributeOverlap = ChecksGrammar whole (Err broken.AttributeOverlap)
IsUnusable whole cause.WildcardOnce = ChecksGrammar whole (Err broken.WildcardOnce)
IsUnusable whole cause.InterleaveOverlap = ChecksGrammar whole (Err broken.InterleaveOverlap)
IsUnusable whole cause.TextTwice = ChecksGrammar whole (Err broken.TextTwice)
IsUnusable whole cause.NothingValid =
    ChecksGrammar whole (Ok tt) × IsDead (language_of whole).definitions (language_of whole).start
IsUnusable whole why = ⊥

-- what may be answered of a grammar; want of memory is free
abbrev pub UsesGrammar : Grammar → Result Schema Refusal → Type 0
UsesGrammar whole (Ok schema) = IsUsable whole schema.grammar
UsesGrammar whole (Err (Unreadable why)) = IsUnusable whole why
UsesGrammar whole (Err NoMemory) = Unit {0}
UsesGrammar whole (Err refusal) = ⊥

-- ---- what files define

-- the files that are reached from the URI define the grammar, where they tell what they hold
pub record Defines (told : Option FileMap) (uri : List ℕ) (whole : Grammar) : Type 0 where
  pub simplified : IfTold told (λ files. Simplifies files uri (pattern_of whole.start) (definitions_of whole))
  pub sound : IsSound whole

-- they define one of which this can be used
abbrev pub GivesSchema : Option FileMap → List ℕ → Grammar → Type 0
GivesSchema told uri left = (whole : Grammar) × Defines told uri whole × IsUsable whole left

-- they define none, for this cause; or one that can't be used
abbrev pub GivesNoSchema : Option FileMap → List ℕ → Cause → Type 0
GivesNoSchema told uri why =
    (IsOfSimplification why × IfTold told (λ files. IsBroken files uri why))
    ⊎ ((whole : Grammar) × Defines told uri whole × IsUnusable whole why)

-- why the schema of the file under the URI is refused, where the count of the files' faults went from `before` to `after`: a file
-- that is reached isn't there, is no text, or refers to another by a text that is no URI; the files make no schema; they could
-- not be had. Want of memory is free
abbrev pub IsRefusedFor : Option FileMap → List ℕ → ℕ → ℕ → Refusal → Type 0
IsRefusedFor told uri before after (Absent absent) = IfTold told (λ files. IsAbsent files uri absent) × (after ≡ before)
IsRefusedFor told uri before after (NotUtf8 wrong at) = IfTold told (λ files. IsNoText files uri wrong at) × (after ≡ before)
IsRefusedFor told uri before after BadUri =
    ((text : List ℕ) × IfTold told (λ files. HasBadUri files uri text)) × (after ≡ before)
IsRefusedFor told uri before after (Unreadable why) = GivesNoSchema told uri why × (after ≡ before)
IsRefusedFor told uri before after Failed = Rose before after
IsRefusedFor told uri before after NoMemory = after ≡ before
IsRefusedFor told uri before after refusal = ⊥

-- what may be answered of the file under the URI
abbrev pub SchemaAnswers : Option FileMap → List ℕ → ℕ → ℕ → Result Schema Refusal → Type 0
SchemaAnswers told uri before after (Ok schema) = GivesSchema told uri schema.grammar × (after ≡ before)
SchemaAnswers told uri before after (Err refusal) = IsRefusedFor told uri before after refusal

-- ---- the commands

-- the command's text is no URI, or there is no memory to see whether it is one; or the schema is refused that it leads to
abbrev pub IsRefusedSchema : List ℕ → FilesState → FilesState → Refusal → Type 0
IsRefusedSchema uri_text before after cause =
    ((cause ≡ BadUri) × IsBadUri work_folder uri_text × (after.faults ≡ before.faults))
    ⊎ ((cause ≡ NoMemory) × (after.faults ≡ before.faults))
    ⊎ ((uri : List ℕ) × Joins work_folder uri_text uri × IsRefusedFor before.map uri before.faults after.faults cause)

-- the document is held against the schema of the file under the URI from now on, and nothing of its text is read
abbrev pub HoldsFile : List ℕ → EditorState → FilesState → EditorState → FilesState → Type 0
HoldsFile uri old before new after =
    (schema : Grammar) × GivesSchema before.map uri schema × (new ≡ with_schema old (Some schema)) × (after ≡ before)

-- the document is held against the schema of the file; a refused command leaves all as it was, the schema that was held before, too.
-- How many tokens are cut to read schemas in the XML syntax isn't said
abbrev pub SchemaFileStep : List ℕ → EditorState → FilesState → Reply → EditorState → FilesState → Type 0
SchemaFileStep uri_text old before Silent new after =
    (uri : List ℕ) × Joins work_folder uri_text uri × HoldsFile uri old before new after
SchemaFileStep uri_text old before (Refused cause) new after =
    (new ≡ old) × (after.map ≡ before.map) × IsRefusedSchema uri_text before after cause
SchemaFileStep uri_text old before reply new after = ⊥

-- the document is held against this grammar, or against none, from now on
abbrev pub HoldStep : Option Grammar → EditorState → Reply → EditorState → Type 0
HoldStep schema old Silent new = new ≡ with_schema old schema
HoldStep schema old (Refused NoMemory) new = new ≡ old
HoldStep schema old reply new = ⊥
