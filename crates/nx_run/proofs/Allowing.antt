-- Plays of turns of which the premises hold.
use Rattle.std.proofs.Common.{◌≡◌, ℕ, ◌+◌, ◌-◌, ◌^◌, ◌≤◌, ◌⊎◌, min, Bool, true, false, List, [], ◌∷◌, Option, Some, None, IsUtf8, refl, sym, ap, ◌∙◌, subst, inl, inr, arith, le_refl}
use Rattle.std.specs.List.{list_any}
use Rattle.std.proofs.Math.Nat.{min-le_left, min-le_right, le-min, le_trans}
use Rattle.std.proofs.lemmas.Option.{same_Some}
use Rattle.nx_host.specs.Count.{Rose}
use Rattle.nx_host.specs.Files.{FileMap, Holds}
use Rattle.nx_host.specs.Uri.{Joins, JoinsIsDecided}
use Rattle.nx_script.specs.declared.command.Command.{Command}
use Rattle.nx_script.specs.declared.command.Command.TheVariants.{SchemaFile}
use Rattle.nx_script.specs.declared.reply.Reply.{Reply}
use Rattle.nx_script.specs.declared.reply.Reply.TheVariants.{Refused as refused}
use Rattle.nx_script.specs.declared.reply.Refusal.{Refusal}
use Rattle.nx_script.specs.declared.reply.Refusal.TheVariants as refusal
use Rattle.nx_session.specs.Done.{IsDone, NoneFails, AllowedCommandsAreDone, AllowedLinesAreDone, FaultsAreCounted}
use Rattle.nx_session.specs.Editor.{FilesState, World, work_folder}
use Rattle.nx_session.specs.Premises.{Allows}
use Rattle.nx_session.specs.Step.{Step, LineStep}
use Rattle.nx_words.specs.Words.{CommandLine, Asks}
use Rattle.nx_run.specs.declared.script.ScriptRefusal.{ScriptRefusal}
use Rattle.nx_run.specs.declared.script.ScriptRefusal.TheVariants.{BadUri, Absent, NotUtf8, Failed}
use Rattle.nx_run.specs.declared.status.Status.{Status}
use Rattle.nx_run.specs.declared.status.Status.TheVariants.{Done, Refused, Words, Script, Output, Memory}
use Rattle.nx_run.specs.Allowed.{IsTurnOf, AreAllowed, IsAllowedRun}
use Rattle.nx_run.specs.Codes.{code_of}
use Rattle.nx_run.specs.Output.{OutState}
use Rattle.nx_run.specs.Play.{TurnStep, Plays, wants_memory, is_refusal, status_of, IsWhole, IsPlayOf}
use Rattle.nx_run.specs.Run.{IsRunOf}
use Rattle.nx_run.specs.Script.{IsScript, HoldsOfScript}
use Rattle.nx_run.specs.Surroundings.{Surroundings, begun_in, around}
use Rattle.nx_run.specs.Turns.{Turn, hold, line, turns_of}

-- ---- counts

-- a count that rises on the way rises on the whole
rises : (a b c d : ℕ) → a ≤ b → c ≤ d → Rose b c → Rose a d
rises a b c d low high rose =
    let more : a + 1 ≤ b + 1 = omega (arith, low) in
    let first : min (a + 1) (2 ^ 64 - 1) ≤ min (b + 1) (2 ^ 64 - 1) =
    le-min (le_trans (min-le_left (a + 1) (2 ^ 64 - 1)) more) (min-le_right (a + 1) (2 ^ 64 - 1)) in
    record {
      later = le_trans low (le_trans rose.later high);
      risen = le_trans first (le_trans rose.risen high);
    }

module _ (counted : FaultsAreCounted) where
  turn_counted : (old new : World) (turn : Turn) (reply : Reply) → TurnStep old turn reply new → old.files.faults ≤ new.files.faults
  turn_counted old new (hold uri) reply h = counted old new (SchemaFile uri) reply h
  turn_counted old new (line text) reply (inl h) = counted old new h.0 reply h.2
  turn_counted old new (line text) reply (inr (inl h)) = rw h.2 (le_refl old.files.faults)
  turn_counted old new (line text) reply (inr (inr h)) = rw h.1 (le_refl old.files.faults)

  plays_counted : (old : World) (turns : List Turn) (answers : List Reply) (new : World) → Plays old turns answers new
      → old.files.faults ≤ new.files.faults
  plays_counted old [] [] new h = rw h (le_refl old.files.faults)
  plays_counted old (turn ∷ turns) (answer ∷ answers) new h =
      let first = turn_counted old h.0 turn answer h.1 in
      let others = plays_counted h.0 turns answers new h.2 in
      omega (arith, first, others)
  plays_counted old [] (answer ∷ answers) new h = absurd h
  plays_counted old (turn ∷ turns) [] new h = absurd h

-- ---- replies

-- some reply wants memory, or none refuses
abbrev AreFine : List Reply → Type 0
AreFine answers = (list_any wants_memory answers ≡ true) ⊎ ((list_any wants_memory answers ≡ false) × (list_any is_refusal answers ≡ false))

fine_behind : (answer : Reply) (answers : List Reply) → IsDone answer → AreFine answers → AreFine (answer ∷ answers)
fine_behind (refused cause) answers done fine = absurd done
fine_behind answer answers done fine = fine

fine_for_memory : (answer : Reply) (answers : List Reply) → answer ≡ refused refusal.NoMemory → AreFine (answer ∷ answers)
fine_for_memory answer answers wants = let P : Reply → Type 0 = λ a. AreFine (a ∷ answers) in subst P (sym wants) (inl refl)

fine_status : (answers : List Reply) → AreFine answers → (code_of (status_of answers) ≡ 0) ⊎ (code_of (status_of answers) ≡ 5)
fine_status answers (inl wants) = inr (rw wants refl)
fine_status answers (inr none) = inl (rw (none.0, none.1) refl)

-- so the status isn't that of a script of which some command was refused
fine_unrefused : (answers : List Reply) → AreFine answers → Refused ≡ status_of answers → ⊥
fine_unrefused answers fine ended =
    let one : 1 ≡ code_of (status_of answers) = ap code_of ended in
    elim (fine_status answers fine) [
      | inl none ↦ absurd (omega (arith, one, none))
      | inr five ↦ absurd (omega (arith, one, five))
    ]

-- ---- plays

module _ (counted : FaultsAreCounted) (commands : AllowedCommandsAreDone) (lines : AllowedLinesAreDone) where
  turn_done : (old new : World) (turn : Turn) (given : Command) (reply : Reply) → IsTurnOf turn given → Allows old given
      → NoneFails old.files new.files → TurnStep old turn reply new → (Step old given reply new × IsDone reply) ⊎ (reply ≡ refused refusal.NoMemory)
  turn_done old new (hold uri) given reply is ok none h =
      let P : Command → Type 0 = λ c. Step old c reply new in
      let step : Step old given reply new = subst P (sym is) h in
      elim (commands old new given reply ok none step) [
        | inl done ↦ inl (step, done)
        | inr wants ↦ inr wants.1
      ]
  turn_done old new (line text) given reply is ok none h = lines old new text given reply is ok none h

  plays_fine : (old : World) (turns : List Turn) (answers : List Reply) (new : World) → AreAllowed old turns → NoneFails old.files new.files
      → Plays old turns answers new → AreFine answers
  plays_fine old [] [] new allowed none h = inr (refl, refl)
  plays_fine old (turn ∷ turns) (answer ∷ answers) new allowed none h =
      let mid : World = h.0 in
      let first : old.files.faults ≤ mid.files.faults = turn_counted counted old mid turn answer h.1 in
      let others : mid.files.faults ≤ new.files.faults = plays_counted counted mid turns answers new h.2 in
      let here : NoneFails old.files mid.files =
      λ rose. none (rises old.files.faults old.files.faults mid.files.faults new.files.faults (le_refl old.files.faults) others rose) in
      let there : NoneFails mid.files new.files =
      λ rose. none (rises old.files.faults mid.files.faults new.files.faults new.files.faults first (le_refl new.files.faults) rose) in
      elim (turn_done old mid turn allowed.0 answer allowed.1 allowed.2 here h.1) [
        | inl done ↦ fine_behind answer answers done.1 (plays_fine mid turns answers new (allowed.3 answer mid done.0 done.1) there h.2)
        | inr wants ↦ fine_for_memory answer answers wants
      ]
  plays_fine old [] (answer ∷ answers) new allowed none h = absurd h
  plays_fine old (turn ∷ turns) [] new allowed none h = absurd h

  whole_fine : (asked : CommandLine) (script : List ℕ) (old new : Surroundings) (before after : Option (List ℕ))
      → AreAllowed (begun_in asked.rules old) (turns_of asked.schema script) → NoneFails old.files new.files
      → IsWhole asked script old new before after Refused → ⊥
  whole_fine asked script old new before after allowed none h =
      let same : new.files ≡ h.end_world.files = ap (λ (s : Surroundings). s.files) h.left in
      let P : FilesState → Type 0 = λ f. NoneFails old.files f in
      fine_unrefused h.answers
      (plays_fine (begun_in asked.rules old) (turns_of asked.schema script) h.answers h.end_world allowed (subst P same none) h.played) h.ended

-- ---- runs

-- files that tell what they hold have one thing under a URI
held_once : (told : Option FileMap) (files : FileMap) (uri : List ℕ) (some other : Option (List ℕ)) → told ≡ Some files → Holds told uri some
    → Holds told uri other → some ≡ other
held_once None files uri some other tells h k = absurd cc
held_once (Some map) files uri some other tells h k = h ∙ sym k

module _ (decided : JoinsIsDecided) where
  -- what is under the URI of a script's word is the script
  script_once : (word uri script : List ℕ) (files : FilesState) (map : FileMap) (found : Option (List ℕ)) → files.map ≡ Some map → IsScript word files script
      → Joins work_folder word uri → Holds files.map uri found → found ≡ Some script
  script_once word uri script files map found tells is joined held =
      let same : uri ≡ is.uri = decided.1 work_folder word uri is.uri joined is.joined in
      let P : List ℕ → Type 0 = λ u. Holds files.map u found in
      held_once files.map map is.uri found (Some script) tells (subst P same held) is.held

  -- a script that is there, and is text, isn't refused, unless the files fail
  readable : (cause : ScriptRefusal) (word script : List ℕ) (old new : FilesState) (map : FileMap) → old.map ≡ Some map → IsScript word old script
      → NoneFails old new → HoldsOfScript cause word old new → ⊥
  readable BadUri word script old new map tells is none h = decided.0 work_folder word is.uri is.joined h.0
  readable Absent word script old new map tells is none h =
      let e : None ≡ Some script = script_once word h.0 script old map None tells is h.1 h.2 in
      absurd cc
  readable (NotUtf8 at) word script old new map tells is none h =
      let e : Some h.1 ≡ Some script = script_once word h.0 script old map (Some h.1) tells is h.2 h.3 in
      h.4 (subst IsUtf8 (sym (same_Some h.1 script e)) is.is_text)
  readable Failed word script old new map tells is none h = none h.3

-- the words ask for one thing
asked_once : (words : List (List ℕ)) (asked other : CommandLine) → Asks words asked → Asks words other → asked ≡ other
asked_once words asked other h k = same_Some asked other (sym h.form ∙ k.form)

pub runs_done : FaultsAreCounted → AllowedCommandsAreDone → AllowedLinesAreDone → JoinsIsDecided →
    (words : List (List ℕ)) (old new : Surroundings) (before after : OutState) (status : Status) → IsAllowedRun words old →
    NoneFails old.files new.files → ¬ Rose before.faults after.faults → IsRunOf words old new before after status →
    (code_of status ≡ 0) ⊎ (code_of status ≡ 5)
runs_done counted commands lines decided words old new before after Done allowed none quiet h = inl refl
runs_done counted commands lines decided words old new before after Memory allowed none quiet h = inr refl
runs_done counted commands lines decided words old new before after Words allowed none quiet h = absurd (h.words_are_wrong allowed.asked allowed.asks)
runs_done counted commands lines decided words old new before after Script allowed none quiet h =
    let same : h.asked ≡ allowed.asked = asked_once words h.asked allowed.asked h.asks allowed.asks in
    let P : CommandLine → Type 0 = λ a. HoldsOfScript h.cause a.script old.files new.files in
    absurd (readable decided h.cause allowed.asked.script allowed.script old.files new.files allowed.files allowed.tells allowed.is_script none (subst P same h.holds))
runs_done counted commands lines decided words old new before after Refused allowed none quiet h =
    let same : h.asked ≡ allowed.asked = asked_once words h.asked allowed.asked h.asks allowed.asks in
    let P : CommandLine → Type 0 = λ a. IsScript a.script old.files h.script in
    let is : IsScript allowed.asked.script old.files h.script = subst P same h.is_script in
    let text : h.script ≡ allowed.script = same_Some h.script allowed.script
    (script_once decided allowed.asked.script is.uri allowed.script old.files allowed.files (Some h.script) allowed.tells allowed.is_script is.joined is.held) in
    let Q : CommandLine → Type 0 = λ a. IsWhole a h.script old new before.bytes after.bytes Refused in
    let R : List ℕ → Type 0 = λ s. IsWhole allowed.asked s old new before.bytes after.bytes Refused in
    absurd (whole_fine counted commands lines allowed.asked allowed.script old new before.bytes after.bytes allowed.allowed none
    (subst R text (subst Q same h.play.0)))
runs_done counted commands lines decided words old new before after Output allowed none quiet (inl h) = absurd (quiet h.said.1)
runs_done counted commands lines decided words old new before after Output allowed none quiet (inr (inl h)) = absurd (quiet h.said.1)
runs_done counted commands lines decided words old new before after Output allowed none quiet (inr (inr h)) = absurd (quiet h.play.1)
