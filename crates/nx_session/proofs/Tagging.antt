-- Steps of commands on tags.
use Rattle.std.proofs.Common.{◌≡◌, ℕ, ◌^◌, ◌<◌, List, length, map, Option, Some, None, Result, Ok, Err, sym, subst}
use Rattle.std.specs.Prelude.{IfOk, IfSome}
use Rattle.std.specs.Str.{IsUtf8}
use Rattle.nx_base.specs.Text.{IsPlace}
use Rattle.nx_base.specs.declared.change.Change.{Change}
use Rattle.nx_script.specs.declared.reply.Reply.{Reply}
use Rattle.nx_script.specs.declared.reply.Reply.TheVariants.{Silent, Stay}
use Rattle.nx_session.specs.Editor.{EditorState, SessionState}
use Rattle.nx_session.specs.Marks.{ChangesMarks}
use Rattle.nx_session.specs.Tagging.{AreMade, TagStep, shifted_by, told_by}
use Rattle.nx_session.specs.Telling.{FitsThen}
use Rattle.nx_session.proofs.Changing.{answers_fit}
use Rattle.nx_session.proofs.QNames.{tag_name}
use Rattle.nx_script.specs.QualifiedNames.{IsQName}
use Rattle.nx_tags.specs.Answers.{Answers, place_of, IsQName as IsTagName}
use Rattle.nx_tags.specs.declared.command.TagCommand.{TagCommand}
use Rattle.nx_tags.specs.declared.command.TagCommand.TheVariants as tags
use Rattle.nx_text.specs.Changing.{AreChanges}
use Rattle.nx_views.specs.States.{ViewState}

pub pair_again : (at : ℕ) (one other : List ℕ) (old new : EditorState) (before behind : List ViewState) (reply : Reply) → one ≡ other
    → TagStep (tags.Pair at one) old before reply new behind → TagStep (tags.Pair at other) old before reply new behind
pair_again at one other old new before behind reply e h = let P : List ℕ → Type 0 = λ n. TagStep (tags.Pair at n) old before reply new behind in subst P e h

pub rename_again : (at : ℕ) (one other : List ℕ) (old new : EditorState) (before behind : List ViewState) (reply : Reply) → one ≡ other
    → TagStep (tags.Rename at one) old before reply new behind → TagStep (tags.Rename at other) old before reply new behind
rename_again at one other old new before behind reply e h = let P : List ℕ → Type 0 = λ n. TagStep (tags.Rename at n) old before reply new behind in subst P e h

pub pair_marks_again : (at : ℕ) (one other : List ℕ) (old new : SessionState) (reply : Reply) → one ≡ other
    → ChangesMarks (tags.Pair at one) old reply new → ChangesMarks (tags.Pair at other) old reply new
pair_marks_again at one other old new reply e h = let P : List ℕ → Type 0 = λ n. ChangesMarks (tags.Pair at n) old reply new in subst P e h

pub rename_marks_again : (at : ℕ) (one other : List ℕ) (old new : SessionState) (reply : Reply) → one ≡ other
    → ChangesMarks (tags.Rename at one) old reply new → ChangesMarks (tags.Rename at other) old reply new
rename_marks_again at one other old new reply e h = let P : List ℕ → Type 0 = λ n. ChangesMarks (tags.Rename at n) old reply new in subst P e h

-- a copy of a QName of a line may be put in
pub copied_name : (one other : List ℕ) → one ≡ other → IsQName other → IsTagName one
copied_name one other e h = subst IsTagName (sym e) (tag_name other h)

-- ---- what was found

pub are_some : (text : List ℕ) (found : Option (List Change)) (changes : List Change) → found ≡ Some changes → IfSome found (AreChanges text) → AreChanges text changes
are_some text found changes is are = let P : Option (List Change) → Type 0 = λ o. IfSome o (AreChanges text) in subst P is are

answers_some : (text : List ℕ) (command : TagCommand) (found : Option (List Change)) (changes : List Change) → found ≡ Some changes → Answers text command found
    → Answers text command (Some changes)
answers_some text command found changes is answers = let P : Option (List Change) → Type 0 = λ o. Answers text command o in subst P is answers

pub found_fit : {E : Type 0} → (text : List ℕ) (command : TagCommand) (answer : Result (Option (List Change)) E) → IsUtf8 text → length text < 2 ^ 64
    → IfOk answer (Answers text command) → IfOk answer (λ found. IfSome found (AreChanges text)) → IfOk answer (λ found. IfSome found (FitsThen text))
found_fit text command (Ok (Some changes)) utf8 before answers are = λ behind. answers_fit text command changes utf8 are answers before behind
found_fit text command (Ok None) utf8 before answers are = tt
found_fit text command (Err fault) utf8 before answers are = tt

pub is_done : (command : TagCommand) (old new : EditorState) (before behind : List ViewState) (found : Option (List Change)) (changes : List Change) → found ≡ Some changes
    → IsPlace old.text (place_of command) → Answers old.text command found → IfSome found (AreChanges old.text) → AreMade changes old new
    → behind ≡ shifted_by changes before → TagStep command old before Silent new behind
is_done command old new before behind found changes is place answers are made moved =
    (place, changes, answers_some old.text command found changes is answers, are_some old.text found changes is are, made, moved)

pub marks_told : (command : TagCommand) (old new : SessionState) (found : Option (List Change)) (changes : List Change) → found ≡ Some changes
    → Answers old.editor.text command found → new.marks ≡ told_by changes old.marks → ChangesMarks command old Silent new
marks_told command old new found changes is answers told = (changes, answers_some old.editor.text command found changes is answers, told)

pub stays : (command : TagCommand) (old new : EditorState) (before behind : List ViewState) (found : Option (List Change)) → found ≡ None
    → IsPlace old.text (place_of command) → Answers old.text command found → new ≡ old → behind ≡ before → TagStep command old before Stay new behind
stays command old new before behind found is place answers same views =
    (place, (let P : Option (List Change) → Type 0 = λ o. Answers old.text command o in subst P is answers), same, views)
