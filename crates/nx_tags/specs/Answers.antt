-- What each command changes, and where it changes nothing.
use Rattle.std.specs.Prelude.{◌≡◌, ◌⊎◌, ℕ, true, List, [], ◌∷◌, ◌++◌, length, Option, Some, None}
use Rattle.std.specs.Str.{IsUtf8}
use Rattle.nx_base.specs.declared.token.Token.{Token}
use Rattle.nx_events.specs.Names.{is_qname}
use Rattle.nx_events.specs.Prefixes.{innermost_name}
use Rattle.nx_events.specs.Tags.{start_name}
use Rattle.nx_base.specs.declared.change.Change.{Change}
use Rattle.nx_tags.specs.declared.command.TagCommand.{TagCommand}
use Rattle.nx_tags.specs.declared.command.TagCommand.TheVariants.{Finish, Split, Pair, Rename}
use Rattle.nx_tags.specs.Changing.{inserting, renaming, start_tag, end_tag}
use Rattle.nx_tags.specs.Elements.{IsElementAt, IsEmptyAt, MayBeSplit}
use Rattle.nx_tags.specs.Free.{IsFree}
use Rattle.nx_tags.specs.Parts.{state_at}

-- the written name of the innermost open element
abbrev pub innermost_name_at : List ℕ → ℕ → List ℕ
innermost_name_at text at = innermost_name (state_at text at).elements

abbrev pub place_of : TagCommand → ℕ
place_of (Finish at) = at
place_of (Split at) = at
place_of (Pair at name) = at
place_of (Rename at name) = at

-- a QName in UTF-8 (Namespaces in XML 1.0, section 4)
abbrev pub IsQName : List ℕ → Type 0
IsQName name = IsUtf8 name × (is_qname name ≡ true)

-- the name that a command puts in, if it does, is one
abbrev pub PutsInQName : TagCommand → Type 0
PutsInQName (Finish at) = Unit {0}
PutsInQName (Split at) = Unit {0}
PutsInQName (Pair at name) = IsQName name
PutsInQName (Rename at name) = IsQName name

-- the command is carried out where this holds, and changes nothing where it doesn't
abbrev pub IfDone : Type 0 → List Change → Option (List Change) → Type 0
IfDone allowed there None = ¬ allowed
IfDone allowed there (Some changes) = allowed × (changes ≡ there)

-- the tags of the element at a place get another name
abbrev pub Renames : List ℕ → ℕ → List ℕ → List Change → Type 0
Renames text at name changes =
    ((tag : Token) × IsEmptyAt text at tag × (changes ≡ renaming at None (length (start_name tag.bytes)) name))
    ⊎ ((start end : Token) × IsElementAt text at start end × (changes ≡ renaming at (Some end.from) (length (start_name start.bytes)) name))

abbrev pub IfRenamed : List ℕ → ℕ → List ℕ → Option (List Change) → Type 0
IfRenamed text at name None = (changes : List Change) → ¬ Renames text at name changes
IfRenamed text at name (Some changes) = Renames text at name changes

-- the answer to a command
abbrev pub Answers : List ℕ → TagCommand → Option (List Change) → Type 0
Answers text (Finish at) answer = IfDone (IsFree text at) (inserting at (end_tag (innermost_name_at text at)) ∷ []) answer
Answers text (Split at) answer =
    IfDone (MayBeSplit text at) (inserting at (end_tag (innermost_name_at text at) ++ start_tag (innermost_name_at text at)) ∷ []) answer
Answers text (Pair at name) answer = IfDone (IsFree text at) (inserting at (start_tag name ++ end_tag name) ∷ []) answer
Answers text (Rename at name) answer = IfRenamed text at name answer

-- laws: a command has one answer, so the changes of which a clause speaks are those that were made
abbrev pub AnswersAreOne : Type 0
AnswersAreOne = (text : List ℕ) (command : TagCommand) (one two : Option (List Change)) → IsUtf8 text → Answers text command one →
    Answers text command two → one ≡ two
