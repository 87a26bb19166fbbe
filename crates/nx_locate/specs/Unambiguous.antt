-- What locating rules give is one thing at most, and where a schema or none is located no refusal holds that has a cause in them.
use Rattle.std.specs.Prelude.{◌≡◌, ◌⊎◌, ℕ, List, Option, Some, Result, Ok, Err}
use Rattle.nx_base.specs.declared.locate_fault.LocateFault.{LocateFault}
use Rattle.nx_base.specs.declared.locate_fault.LocateFault.TheVariants.{Failed, NoMemory}
use Rattle.nx_host.specs.Files.{FileMap}
use Rattle.nx_locate.specs.Leading.{Outcome}
use Rattle.nx_locate.specs.Locates.{RulesGive, Locates}

-- rules of the same files give one outcome for a document at most
abbrev pub RulesGiveOneOutcome : Type 0
RulesGiveOneOutcome = (files : FileMap) (rules document text : List ℕ) (one other : Outcome) →
    RulesGive files rules document text one → RulesGive files rules document text other → one ≡ other

-- where a schema or none may be located by files that tell what they hold, every other answer is the same, but for files that fail
-- and want of memory: so no refusal holds that has a cause in the rules
abbrev pub LocatedIsTheAnswer : Type 0
LocatedIsTheAnswer = (files : FileMap) (rules : Option (List ℕ)) (document text : List ℕ) (before after earlier later : ℕ)
    (found : Option (List ℕ)) (answer : Result (Option (List ℕ)) LocateFault) →
    Locates (Some files) rules document text before after (Ok found) → Locates (Some files) rules document text earlier later answer →
    (answer ≡ Ok found) ⊎ (answer ≡ Err Failed) ⊎ (answer ≡ Err NoMemory)
