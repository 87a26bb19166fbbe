-- A whole run of the program: its words, the files, the views, an output and the count of tokens before and after it, and its status.
use Rattle.std.specs.Prelude.{◌≡◌, ℕ, ◌⊎◌, List, codes, Some, IsUtf8}
use Rattle.nx_host.specs.Count.{Rose}
use Rattle.nx_host.specs.Out.{Appends, AppendsPrefix}
use Rattle.nx_run.specs.declared.script.ScriptRefusal.{ScriptRefusal}
use Rattle.nx_run.specs.declared.status.Status.{Status}
use Rattle.nx_run.specs.declared.status.Status.TheVariants.{Done, Refused, Words, Script, Output, Memory}
use Rattle.nx_run.specs.Output.{OutState}
use Rattle.nx_session.specs.Viewing.{ViewsAreText}
use Rattle.nx_run.specs.Surroundings.{Surroundings}
use Rattle.nx_words.specs.Words.{CommandLine, Asks}
use Rattle.nx_run.specs.Script.{IsScript, HoldsOfScript, refusal_line}
use Rattle.nx_run.specs.Play.{IsPlayOf, IsUnbegun}

-- one line is written, whole
abbrev pub WritesLine : List ℕ → OutState → OutState → Type 0
WritesLine line before after = Appends before.bytes line after.bytes × (after.faults ≡ before.faults)

-- a write of one line failed, and only a part of it was written
abbrev pub FailsLine : List ℕ → OutState → OutState → Type 0
FailsLine line before after = AppendsPrefix before.bytes line after.bytes × Rose before.faults after.faults

-- there was no memory to write one line, of which a part was written
abbrev pub StarvesLine : List ℕ → OutState → OutState → Type 0
StarvesLine line before after = AppendsPrefix before.bytes line after.bytes × (after.faults ≡ before.faults)

-- what is written where the words are out of form
abbrev pub usage_line : List ℕ
usage_line = codes "usage: nxml [--schema URI] [--rules URI] SCRIPT\n"

-- the words are out of form, which the usage line says
pub record IsMisused (words : List (List ℕ)) (old new : Surroundings) (says : List ℕ → Type 0) : Type 0 where
  pub words_are_wrong : (asked : CommandLine) → Asks words asked → ⊥
  pub all_stays : new ≡ old
  pub said : says usage_line

-- the words name a script that can't be read, which a line says
pub record IsUnread (words : List (List ℕ)) (old new : Surroundings) (says : List ℕ → Type 0) : Type 0 where
  pub asked : CommandLine
  pub asks : Asks words asked
  pub cause : ScriptRefusal
  pub holds : HoldsOfScript cause asked.script old.files new.files
  pub same_views : new.views ≡ old.views
  pub no_steps : new.steps ≡ old.steps
  pub said : says (refusal_line cause)

-- the words name a script that was played
pub record IsPlayed (words : List (List ℕ)) (old new : Surroundings) (before after : OutState) (status : Status) : Type 0 where
  pub asked : CommandLine
  pub asks : Asks words asked
  pub script : List ℕ
  pub is_script : IsScript asked.script old.files script
  pub play : IsPlayOf asked script old new before after status

-- the words name a script, and there was no memory to read it, or the words
pub record IsStarved (words : List (List ℕ)) (old new : Surroundings) (before after : OutState) : Type 0 where
  pub asked : CommandLine
  pub asks : Asks words asked
  pub unbegun : IsUnbegun old new before.bytes after.bytes
  pub no_fault : after.faults ≡ before.faults

-- What a run does, by the status that it ends with. A status that stands under several cases has one of them.
abbrev pub IsRunOf : List (List ℕ) → Surroundings → Surroundings → OutState → OutState → Status → Type 0
IsRunOf words old new before after Words = IsMisused words old new (λ line. WritesLine line before after)
IsRunOf words old new before after Script = IsUnread words old new (λ line. WritesLine line before after)
IsRunOf words old new before after Done = IsPlayed words old new before after Done
IsRunOf words old new before after Refused = IsPlayed words old new before after Refused
IsRunOf words old new before after Output =
    IsMisused words old new (λ line. FailsLine line before after)
    ⊎ IsUnread words old new (λ line. FailsLine line before after)
    ⊎ IsPlayed words old new before after Output
IsRunOf words old new before after Memory =
    IsMisused words old new (λ line. StarvesLine line before after)
    ⊎ IsUnread words old new (λ line. StarvesLine line before after)
    ⊎ IsPlayed words old new before after Memory
    ⊎ IsStarved words old new before after

-- what writing a line ends a run with: the status that the line stands for, or that of an output that refuses it
abbrev pub SaysLine : List ℕ → Status → Status → OutState → OutState → Type 0
SaysLine line meant status before after =
    ((status ≡ meant) × WritesLine line before after)
    ⊎ ((status ≡ Output) × FailsLine line before after)
    ⊎ ((status ≡ Memory) × StarvesLine line before after)

-- a run that wasn't stopped
abbrev pub IsToTheEnd : Status → Type 0
IsToTheEnd Done = Unit {0}
IsToTheEnd Refused = Unit {0}
IsToTheEnd Words = Unit {0}
IsToTheEnd Script = Unit {0}
IsToTheEnd Output = ⊥
IsToTheEnd Memory = ⊥

-- what such a run writes is UTF-8, where the details are that the views show before it
abbrev pub RunsPrintText : Type 0
RunsPrintText = (words : List (List ℕ)) (old new : Surroundings) (before after : OutState) (status : Status) (front : List ℕ) →
    IsRunOf words old new before after status → IsToTheEnd status → ViewsAreText old.views → before.bytes ≡ Some front → IsUtf8 front →
    (whole : List ℕ) × (after.bytes ≡ Some whole) × IsUtf8 whole
