-- The count of the files' faults, which no step lowers.
use Rattle.std.proofs.Common.{◌≡◌, ℕ, ◌≤◌, List, Option, Some, None, Err, refl, sym, ap, subst, inl, inr, arith, le_refl}
use Rattle.nx_host.specs.Count.{Rose}
use Rattle.nx_host.specs.Files.{FileMap}
use Rattle.nx_base.specs.declared.locate_fault.LocateFault.{LocateFault}
use Rattle.nx_base.specs.declared.locate_fault.LocateFault.TheVariants as locate_fault
use Rattle.nx_locate.specs.Locates.{Locates}
use Rattle.nx_script.specs.declared.command.Command.{Command}
use Rattle.nx_script.specs.declared.command.Command.TheVariants.{Nothing, OpenFile, Save, Insert, Delete, Print, Errors, Slice, Stats}
use Rattle.nx_script.specs.declared.command.Command.TheVariants.{SchemaFile, SchemaNone, SchemaAuto, Complete, Goto, Move, Next, Previous}
use Rattle.nx_script.specs.declared.command.Command.TheVariants.{Position, View, Close, Make, Finish, Split, Pair, Rename}
use Rattle.nx_script.specs.declared.reply.Reply.{Reply}
use Rattle.nx_script.specs.declared.reply.Reply.TheVariants.{Silent, Located, Refused}
use Rattle.nx_script.specs.declared.reply.Refusal.{Refusal}
use Rattle.nx_script.specs.declared.reply.Refusal.TheVariants.{BadUri, Absent, NotUtf8, Unreadable, Failed, NoMemory}
use Rattle.nx_session.specs.Documents.{OpenStep, SaveStep}
use Rattle.nx_session.specs.Editor.{EditorState, FilesState, World}
use Rattle.nx_session.specs.Locating.{IsRefusedAuto, SchemaAutoStep}
use Rattle.nx_session.specs.Schemas.{IsRefusedFor, IsRefusedSchema, SchemaFileStep}
use Rattle.nx_session.specs.Step.{Step}

same_count : (before after : ℕ) → after ≡ before → before ≤ after
same_count before after e = omega (arith, e)

same_files : (before after : FilesState) → after ≡ before → before.faults ≤ after.faults
same_files before after e = same_count before.faults after.faults (ap (λ (f : FilesState). f.faults) e)

open_counted : (uri_text : List ℕ) (old new : EditorState) (before after : FilesState) (reply : Reply) → OpenStep uri_text old before reply new after
    → before.faults ≤ after.faults
open_counted uri_text old new before after Silent h = same_files before after h.5
open_counted uri_text old new before after (Refused BadUri) h = same_files before after h.2
open_counted uri_text old new before after (Refused Failed) h = h.4.later
open_counted uri_text old new before after (Refused (Absent uri)) h = same_files before after h.2
open_counted uri_text old new before after (Refused (NotUtf8 uri at)) h = same_files before after h.5
open_counted uri_text old new before after (Refused NoMemory) h = same_files before after h.1
open_counted uri_text old new before after reply h = absurd h

save_counted : (uri_text : List ℕ) (old new : EditorState) (before after : FilesState) (reply : Reply) → SaveStep uri_text old before reply new after
    → before.faults ≤ after.faults
save_counted uri_text old new before after Silent h = same_count before.faults after.faults h.4
save_counted uri_text old new before after (Refused BadUri) h = same_files before after h.2
save_counted uri_text old new before after (Refused Failed) h = h.4.later
save_counted uri_text old new before after (Refused NoMemory) (inl h) = same_files before after h.1
save_counted uri_text old new before after (Refused NoMemory) (inr h) = same_count before.faults after.faults h.4
save_counted uri_text old new before after reply h = absurd h

refused_counted : (told : Option FileMap) (uri : List ℕ) (before after : ℕ) (cause : Refusal) → IsRefusedFor told uri before after cause → before ≤ after
refused_counted told uri before after (Absent absent) h = same_count before after h.1
refused_counted told uri before after (NotUtf8 wrong at) h = same_count before after h.1
refused_counted told uri before after BadUri h = same_count before after h.1
refused_counted told uri before after (Unreadable why) h = same_count before after h.1
refused_counted told uri before after Failed h = h.later
refused_counted told uri before after NoMemory h = same_count before after h
refused_counted told uri before after cause h = absurd h

refusal_counted : (uri_text : List ℕ) (before after : FilesState) (cause : Refusal) → IsRefusedSchema uri_text before after cause
    → before.faults ≤ after.faults
refusal_counted uri_text before after cause (inl h) = same_count before.faults after.faults h.2
refusal_counted uri_text before after cause (inr (inl h)) = same_count before.faults after.faults h.1
refusal_counted uri_text before after cause (inr (inr h)) = refused_counted before.map h.0 before.faults after.faults cause h.2

schema_counted : (uri_text : List ℕ) (old new : EditorState) (before after : FilesState) (reply : Reply)
    → SchemaFileStep uri_text old before reply new after → before.faults ≤ after.faults
schema_counted uri_text old new before after Silent h = same_files before after h.2.3
schema_counted uri_text old new before after (Refused cause) h = refusal_counted uri_text before after cause h.2
schema_counted uri_text old new before after reply h = absurd h

rules_counted : (told : Option FileMap) (rules : Option (List ℕ)) (document text : List ℕ) (before after : ℕ) (fault : LocateFault)
    → Locates told rules document text before after (Err fault) → before ≤ after
rules_counted told None document text before after fault h = absurd h
rules_counted told (Some uri) document text before after (locate_fault.RulesAbsent wrong) h = same_count before after h.2
rules_counted told (Some uri) document text before after (locate_fault.RulesNotUtf8 wrong at) h = same_count before after h.2
rules_counted told (Some uri) document text before after (locate_fault.BadRules wrong) h = same_count before after h.2
rules_counted told (Some uri) document text before after (locate_fault.RulesLoop wrong) h = same_count before after h.2
rules_counted told (Some uri) document text before after (locate_fault.BadUri wrong) h = same_count before after h.2
rules_counted told (Some uri) document text before after locate_fault.Failed h = h.later
rules_counted told (Some uri) document text before after locate_fault.NoMemory h = same_count before after h

auto_counted : (old new : EditorState) (before after : FilesState) (reply : Reply) → SchemaAutoStep old before reply new after
    → before.faults ≤ after.faults
auto_counted old new before after (Located (Some uri)) h = same_files before after h.1.3
auto_counted old new before after (Located None) h = same_files before after h.2
auto_counted old new before after (Refused cause) h = refused h.2
  where
    refused : IsRefusedAuto old before after cause → before.faults ≤ after.faults
    refused (inl (inl k)) = same_count before.faults after.faults k.1
    refused (inl (inr k)) = rules_counted before.map k.2.0 old.document old.text before.faults after.faults k.0 k.2.2
    refused (inr k) = refused_counted before.map k.0 before.faults after.faults cause k.2
auto_counted old new before after reply h = absurd h

pub step_counted : (old new : World) (given : Command) (reply : Reply) → Step old given reply new → old.files.faults ≤ new.files.faults
step_counted old new Nothing reply h = same_files old.files new.files h.1
step_counted old new (OpenFile uri) reply h = open_counted uri old.editor new.editor old.files new.files reply h.0
step_counted old new (Save uri) reply h = save_counted uri old.editor new.editor old.files new.files reply h.0
step_counted old new (Insert at added) reply h = same_files old.files new.files h.1
step_counted old new (Delete from to) reply h = same_files old.files new.files h.1
step_counted old new Print reply h = same_files old.files new.files h.1
step_counted old new Errors reply h = same_files old.files new.files h.1
step_counted old new (Slice count) reply h = same_files old.files new.files h.1
step_counted old new Stats reply h = same_files old.files new.files h.1
step_counted old new (SchemaFile uri) reply h = schema_counted uri old.editor new.editor old.files new.files reply h.0
step_counted old new SchemaNone reply h = same_files old.files new.files h.1
step_counted old new SchemaAuto reply h = auto_counted old.editor new.editor old.files new.files reply h.0
step_counted old new (Complete at) reply h = same_files old.files new.files h.1
step_counted old new (Goto at) reply h = same_files old.files new.files h.1
step_counted old new (Move way) reply h = same_files old.files new.files h.1
step_counted old new Next reply h = same_files old.files new.files h.1
step_counted old new Previous reply h = same_files old.files new.files h.1
step_counted old new Position reply h = same_files old.files new.files h.1
step_counted old new (View index) reply h = same_files old.files new.files h.2
step_counted old new (Close index) reply h = same_files old.files new.files h.2
step_counted old new (Make seed pieces) reply h = same_files old.files new.files h.1
step_counted old new (Finish at) reply h = same_files old.files new.files h.1
step_counted old new (Split at) reply h = same_files old.files new.files h.1
step_counted old new (Pair at name) reply h = same_files old.files new.files h.1
step_counted old new (Rename at name) reply h = same_files old.files new.files h.1
