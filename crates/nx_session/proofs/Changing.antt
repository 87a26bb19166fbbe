-- Changes that are made one after another, each in front of the one before it.
use Rattle.std.proofs.Common.{◌≡◌, ℕ, ◌+◌, ◌-◌, ◌^◌, ◌<◌, ◌≤◌, List, [], ◌∷◌, length, Some, refl, sym, ap, subst, ◌∙◌, arith, inl, inr}
use Rattle.std.specs.Str.{IsUtf8}
use Rattle.std.proofs.lemmas.Bool.{cases_lt}
use Rattle.nx_base.specs.Text.{IsPlace, edited, EditedKeepsRest}
use Rattle.nx_base.specs.declared.change.Change.{Change}
use Rattle.nx_marks.proofs.Places.{edited-utf8, edited-length}
use Rattle.nx_session.specs.Tagging.{edit_by}
use Rattle.nx_session.specs.Telling.{caret_behind, Fit, FitsThen}
use Rattle.nx_session.specs.Editor.{caret_after}
use Rattle.nx_session.proofs.Carets.{caret_stands}
use Rattle.nx_tags.specs.Answers.{Answers, IfDone}
use Rattle.nx_tags.specs.Changing.{replacing}
use Rattle.nx_tags.specs.declared.command.TagCommand.{TagCommand}
use Rattle.nx_tags.specs.declared.command.TagCommand.TheVariants.{Finish, Split, Pair, Rename}
use Rattle.nx_text.proofs.Making.{stays_place}
use Rattle.nx_text.specs.Changing.{changed, LieInFront, AreChanges}
use Rattle.nx_text.specs.Editing.{IsRange}

-- changes in front of a change are changes of the text behind it
stay_changes : (text : List ℕ) (first : Change) (limit : ℕ) (changes : List Change) → IsUtf8 text → IsUtf8 first.text → IsRange text first.from first.to
    → limit ≤ first.from → LieInFront limit changes → AreChanges text changes → AreChanges (edited text first.from first.to first.text) changes
stay_changes text first limit [] utf8 added range le front are = tt
stay_changes text first limit (change ∷ others) utf8 added range le front are =
    let ordered = are.0.ordered in
    let stays = stays_place text first.text first.from first.to utf8 added range in (
      record { start = stays change.from (omega arith) are.0.start; end = stays change.to (omega arith) are.0.end; ordered = ordered },
      are.1,
      are.2,
      stay_changes text first change.from others utf8 added range (omega arith) are.2 are.3,
    )

pub others_stay : (text : List ℕ) (change : Change) (others : List Change) → IsUtf8 text → AreChanges text (change ∷ others)
    → AreChanges (edited text change.from change.to change.text) others
others_stay text change others utf8 are = stay_changes text change change.from others utf8 are.1 are.0 (omega arith) are.2 are.3

pub one_utf8 : (text : List ℕ) (change : Change) (others : List Change) → IsUtf8 text → AreChanges text (change ∷ others)
    → IsUtf8 (edited text change.from change.to change.text)
one_utf8 text change others utf8 are = edited-utf8 text change.text change.from change.to utf8 are.1 are.0.start are.0.end are.0.ordered

pub changed_utf8 : (text : List ℕ) (changes : List Change) → IsUtf8 text → AreChanges text changes → IsUtf8 (changed text changes)
changed_utf8 text [] utf8 are = utf8
changed_utf8 text (change ∷ others) utf8 are =
    changed_utf8 (edited text change.from change.to change.text) others (one_utf8 text change others utf8 are) (others_stay text change others utf8 are)

-- ---- all of them fit into memory

pub first_fits : (text : List ℕ) (changes : List Change) → Fit text changes → length text < 2 ^ 64
first_fits text [] h = h
first_fits text (change ∷ others) h = h.0

-- between two replacements of as many bytes by the same text no more stands than in front of both or behind both
between_fits : (most : ℕ) (text name : List ℕ) (a b len : ℕ) → IsUtf8 text → AreChanges text (replacing a (a + len) name ∷ replacing b (b + len) name ∷ [])
    → length text < most → length (edited (edited text a (a + len) name) b (b + len) name) < most → length (edited text a (a + len) name) < most
between_fits most text name a b len utf8 are before behind =
    let first : Change = replacing a (a + len) name in
    let others : List Change = replacing b (b + len) name ∷ [] in
    let middle : List ℕ = edited text a (a + len) name in
    let still = others_stay text first others utf8 are in
    let one = edited-length text name a (a + len) utf8 are.1 are.0.start are.0.end are.0.ordered in
    let two = edited-length middle name b (b + len) (one_utf8 text first others utf8 are) still.1 still.0.start still.0.end still.0.ordered in
    let inside = are.0.end.0 in
    let inside_too = still.0.end.0 in
    omega arith

-- the changes of commands on tags do
pub answers_fit : (text : List ℕ) (command : TagCommand) (changes : List Change) → IsUtf8 text → AreChanges text changes → Answers text command (Some changes)
    → length text < 2 ^ 64 → length (changed text changes) < 2 ^ 64 → Fit text changes
answers_fit text (Finish at) changes utf8 are h before = subst (FitsThen text) (sym h.1) (λ behind. (before, behind))
answers_fit text (Split at) changes utf8 are h before = subst (FitsThen text) (sym h.1) (λ behind. (before, behind))
answers_fit text (Pair at name) changes utf8 are h before = subst (FitsThen text) (sym h.1) (λ behind. (before, behind))
answers_fit text (Rename at name) changes utf8 are (inl (tag, empty, e)) before = subst (FitsThen text) (sym e) (λ behind. (before, behind))
answers_fit text (Rename at name) changes utf8 are (inr (start, end, element, e)) before =
    subst (FitsThen text) (sym e) (λ behind. (before, (between_fits (2 ^ 64) text name _ _ _ utf8 (subst (AreChanges text) e are) before behind, behind)))

-- ---- the caret stands at a place behind all of them

pub caret_stands_behind : EditedKeepsRest → (text : List ℕ) (changes : List Change) (caret : ℕ) → IsUtf8 text → AreChanges text changes → Fit text changes
    → IsPlace text caret → IsPlace (changed text changes) (caret_behind changes caret)
caret_stands_behind keeps text [] caret utf8 are fit place = place
caret_stands_behind keeps text (change ∷ others) caret utf8 are fit place =
    let new : List ℕ = edited text change.from change.to change.text in
    let now = one_utf8 text change others utf8 are in
    let stands = caret_stands text change.text new change.from change.to caret (caret_after (edit_by change) caret) (length change.text)
    keeps utf8 now refl are.0.start are.0.ordered are.0.end.0 (first_fits new others fit.1) refl place refl in
    caret_stands_behind keeps new others (caret_after (edit_by change) caret) now (others_stay text change others utf8 are) fit.1 stands
