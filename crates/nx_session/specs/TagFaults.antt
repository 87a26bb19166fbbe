-- What commands on tags do to the list of faults.
use Rattle.std.specs.Prelude.{◌≡◌, ℕ, ◌+◌, List, [], ◌∷◌, ◌++◌, length}
use Rattle.std.specs.List.{AllByRecursion}
use Rattle.nx_base.specs.Tokens.{tokens_of}
use Rattle.nx_base.specs.declared.fault.Fault.{Fault}
use Rattle.nx_base.specs.declared.fault.Kind.TheVariants as kinds
use Rattle.nx_base.specs.declared.name.Name.{Name}
use Rattle.nx_base.specs.declared.token.Token.{Token}
use Rattle.nx_events.specs.Tags.{start_name}
use Rattle.nx_events.specs.declared.flaw.Resolved.TheVariants.{Named}
use Rattle.nx_recover.specs.Faults.{AreFaultsOf}
use Rattle.nx_script.specs.Commands.{HasFitTexts}
use Rattle.nx_script.specs.declared.command.Command.{Command}
use Rattle.nx_script.specs.declared.command.Command.TheVariants.{Finish, Rename}
use Rattle.nx_script.specs.declared.reply.Reply.{Reply}
use Rattle.nx_script.specs.declared.reply.Reply.TheVariants.{Silent}
use Rattle.nx_session.specs.Editor.{EditorState, World, schema_of}
use Rattle.nx_session.specs.Step.{Step}
use Rattle.nx_tags.specs.Renamed.{resolved_in}
use Rattle.std.specs.Str.{IsUtf8}

-- each fault is of an element that the end of the text closes
abbrev pub AreOfUnclosedElements : List Fault → Type 0
AreOfUnclosedElements faults = AllByRecursion (λ (fault : Fault). fault.kind ≡ kinds.UnclosedElement) faults

-- the tag at this place is called the same expanded name by this name as by its own, with the declarations in force around the tag and in it
pub record ResolvesAlike (text : List ℕ) (at : ℕ) (name : List ℕ) : Type 0 where
  pub before : List Token
  pub tag : Token
  pub behind : List Token
  pub split : tokens_of text ≡ before ++ tag ∷ behind
  pub from : tag.from ≡ at
  pub expanded : Name
  pub was : resolved_in before tag (start_name tag.bytes) ≡ Named expanded
  pub is : resolved_in before tag name ≡ Named expanded

-- where each fault of a text is of an element that isn't closed, an accepted `finish` at its end leaves a text whose list of faults, of which there
-- is one, is one shorter
abbrev pub TakesOneFault : EditorState → Command → Reply → EditorState → Type 0
TakesOneFault old (Finish at) Silent new = (faults left : List Fault) → at ≡ length old.text →
    AreFaultsOf (schema_of old) old.text faults → AreOfUnclosedElements faults → AreFaultsOf (schema_of new) new.text left →
    length left + 1 ≡ length faults
TakesOneFault old given reply new = Unit {0}

-- a text without faults has none behind an accepted `rename` to a name that resolves to the same
abbrev pub KeepsNoFaults : EditorState → Command → Reply → EditorState → Type 0
KeepsNoFaults old (Rename at name) Silent new =
    ResolvesAlike old.text at name → AreFaultsOf (schema_of old) old.text [] → AreFaultsOf (schema_of new) new.text []
KeepsNoFaults old given reply new = Unit {0}

-- both hold of every step of the editor
abbrev pub TagsTouchFewFaults : Type 0
TagsTouchFewFaults = (old new : World) (given : Command) (reply : Reply) → IsUtf8 old.editor.text →
    HasFitTexts given → Step old given reply new →
    TakesOneFault old.editor given reply new.editor × KeepsNoFaults old.editor given reply new.editor
