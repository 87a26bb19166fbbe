-- Changes that are told to what stands beside the text.
use Rattle.std.proofs.Common.{◌≡◌, ℕ, ◌^◌, ◌<◌, ◌≤◌, List, [], ◌∷◌, length, refl, sym, ap, subst, ◌∙◌, arith}
use Rattle.std.specs.Str.{IsUtf8}
use Rattle.nx_base.specs.Rules.{Rules}
use Rattle.nx_base.specs.Text.{IsPlace, edited}
use Rattle.nx_base.specs.declared.change.Change.{Change}
use Rattle.nx_base.specs.declared.edit.Edit.{Edit}
use Rattle.nx_marks.specs.Chain.{Kept, frontier_of}
use Rattle.nx_marks.specs.Editing.{edit_kept}
use Rattle.nx_marks.specs.Frontier.{IsBorder, FrontierAfterEdit}
use Rattle.nx_marks.specs.Right.{IsRight}
use Rattle.nx_session.specs.Editor.{EditorState, caret_after, edited_editor}
use Rattle.nx_session.specs.Tagging.{edit_by, AreMade, shifted_by, told_by}
use Rattle.nx_session.specs.Telling.{AreTold, caret_behind, Fit}
use Rattle.nx_session.specs.Viewing.{ViewsAreText}
use Rattle.nx_session.proofs.Changing.{others_stay, one_utf8, first_fits}
use Rattle.nx_session.proofs.Edited.{shown}
use Rattle.nx_session.proofs.Views.{moved_text}
use Rattle.nx_text.specs.Changing.{changed, AreChanges}
use Rattle.nx_views.specs.States.{ViewState, moved_view}

-- what holds between two changes, of a text of which some are left
pub record Between {S M : Type 0} (is_state : S → Type 0) (means : S → M) (rules : Rules M) (text : List ℕ) (all left : List Change) (old now : Kept S) : Type 0 where
  pub middle : List ℕ
  pub utf8 : IsUtf8 middle
  pub are : AreChanges middle left
  pub fit : Fit middle left
  pub right : IsRight is_state means rules middle now
  pub on : (last : Kept S) → AreTold is_state means rules middle left now last → AreTold is_state means rules text all old last

module _ {S M : Type 0} (is_state : S → Type 0) (means : S → M) (rules : Rules M) where
  pub begun : (text : List ℕ) (all : List Change) (old : Kept S) → IsUtf8 text → AreChanges text all → Fit text all → IsRight is_state means rules text old
      → Between is_state means rules text all all old old
  begun text all old utf8 are fit right = record { middle = text; utf8 = utf8; are = are; fit = fit; right = right; on = λ last h. h }

  pub one_more : (text : List ℕ) (all : List Change) (change : Change) (left : List Change) (old now next : Kept S)
      (h : Between is_state means rules text all (change ∷ left) old now) → next ≡ edit_kept change.from change.to (length change.text) now
      → FrontierAfterEdit change.from (frontier_of now) (frontier_of next) → IsRight is_state means rules (edited h.middle change.from change.to change.text) next
      → Between is_state means rules text all left old next
  one_more text all change left old now next h told frontier right =
      let new : List ℕ = edited h.middle change.from change.to change.text in
      let F : Kept S → Type 0 = λ k. FrontierAfterEdit change.from (frontier_of now) (frontier_of k) in
      record {
        middle = new;
        utf8 = one_utf8 h.middle change left h.utf8 h.are;
        are = others_stay h.middle change left h.utf8 h.are;
        fit = h.fit.1;
        right = right;
        on = λ last k. h.on last (h.right, subst F told frontier, (let P : Kept S → Type 0 = λ j. AreTold is_state means rules new left j last in subst P told k));
      }

  -- what an edit does to marks, of every text for which they are right
  abbrev pub TellsEdit : Kept S → Kept S → Edit → Type 0
  TellsEdit now next edit = (text added : List ℕ) → IsUtf8 text → IsUtf8 added → IsPlace text edit.from → IsPlace text edit.to → edit.from ≤ edit.to
      → edit.added ≡ length added → length text < 2 ^ 64 → length (edited text edit.from edit.to added) < 2 ^ 64 → IsRight is_state means rules text now
      → IsRight is_state means rules (edited text edit.from edit.to added) next × (next ≡ edit_kept edit.from edit.to edit.added now)

  pub one_told : (text : List ℕ) (all : List Change) (change : Change) (left : List Change) (old now next : Kept S) (edit : Edit) → edit ≡ edit_by change
      → TellsEdit now next edit → FrontierAfterEdit edit.from (frontier_of now) (frontier_of next)
      → Between is_state means rules text all (change ∷ left) old now → Between is_state means rules text all left old next
  one_told text all change left old now next edit is tells frontier h =
      let T : Edit → Type 0 = λ e. TellsEdit now next e in
      let F : Edit → Type 0 = λ e. FrontierAfterEdit e.from (frontier_of now) (frontier_of next) in
      let behind = (subst T is tells) h.middle change.text h.utf8 h.are.1 h.are.0.start h.are.0.end h.are.0.ordered refl h.fit.0
      (first_fits (edited h.middle change.from change.to change.text) left h.fit.1) h.right in
      one_more text all change left old now next h behind.1 (subst F is frontier) behind.0

  pub told_all : (text : List ℕ) (all : List Change) (old now : Kept S) → Between is_state means rules text all [] old now → AreTold is_state means rules text all old now
  told_all text all old now h = h.on now (h.right, refl)

  pub told_whole : (text : List ℕ) (all left : List Change) (old now : Kept S) → length left ≡ 0 → Between is_state means rules text all left old now
      → AreTold is_state means rules text all old now
  told_whole text all [] old now none h = told_all text all old now h
  told_whole text all (change ∷ left) old now none h = absurd (omega arith)

  -- ---- what follows

  first_right : (text : List ℕ) (changes : List Change) (old new : Kept S) → AreTold is_state means rules text changes old new → IsRight is_state means rules text old
  first_right text [] old new h = h.0
  first_right text (change ∷ others) old new h = h.0

  pub told_right : (text : List ℕ) (changes : List Change) (old new : Kept S) → AreTold is_state means rules text changes old new
      → IsRight is_state means rules (changed text changes) new
  told_right text [] old new h = let P : Kept S → Type 0 = λ k. IsRight is_state means rules text k in subst P (sym h.1) h.0
  told_right text (change ∷ others) old new h =
      told_right (edited text change.from change.to change.text) others (edit_kept change.from change.to (length change.text) old) new h.2

  pub told_is : (text : List ℕ) (changes : List Change) (old new : Kept S) → AreTold is_state means rules text changes old new → new ≡ told_by changes old
  told_is text [] old new h = h.1
  told_is text (change ∷ others) old new h =
      told_is (edited text change.from change.to change.text) others (edit_kept change.from change.to (length change.text) old) new h.2

  -- each change is an edit of the editor
  pub are_made : ((text : List ℕ) (kept : Kept S) → IsUtf8 text → IsRight is_state means rules text kept → IsBorder text (frontier_of kept))
      → (changes : List Change) (old : EditorState) (kept new : Kept S) → old.frontier ≡ frontier_of kept → IsUtf8 old.text → AreChanges old.text changes
      → AreTold is_state means rules old.text changes kept new
      → AreMade changes old (shown old (changed old.text changes) (caret_behind changes old.caret) (frontier_of new) old.taken)
  are_made border [] old kept new frontier utf8 are h =
      ap (λ n. shown old old.text old.caret n old.taken) (ap frontier_of h.1 ∙ sym frontier)
  are_made border (change ∷ others) old kept new frontier utf8 are h =
      let behind : Kept S = edit_kept change.from change.to (length change.text) kept in
      let text : List ℕ = edited old.text change.from change.to change.text in
      let now = one_utf8 old.text change others utf8 are in
      let between : EditorState = edited_editor old change.from change.to change.text (frontier_of behind) in
      let F : ℕ → Type 0 = λ n. FrontierAfterEdit change.from n (frontier_of behind) in (
        between,
        record {
          editor = refl;
          frontier = subst F (sym frontier) h.1;
          border = border text behind now (first_right text others behind new h.2);
        },
        are_made border others between behind new refl now (others_stay old.text change others utf8 are) h.2,
      )

-- so it is for an editor with these parts
pub made_shown : (changes : List Change) (old : EditorState) (text : List ℕ) (caret frontier taken : ℕ) → text ≡ changed old.text changes
    → caret ≡ caret_behind changes old.caret → taken ≡ old.taken
    → AreMade changes old (shown old (changed old.text changes) (caret_behind changes old.caret) frontier old.taken)
    → AreMade changes old (shown old text caret frontier taken)
made_shown changes old text caret frontier taken is_text is_caret same h =
    let new : List ℕ = changed old.text changes in
    let is : shown old text caret frontier taken ≡ shown old new (caret_behind changes old.caret) frontier old.taken =
    ap (λ t. shown old t caret frontier taken) is_text ∙ ap (λ n. shown old new n frontier taken) is_caret
    ∙ ap (λ n. shown old new (caret_behind changes old.caret) frontier n) same in
    subst (AreMade changes old) (sym is) h

-- what changes do to marks they do to the meanings of these
pub told_meant : {S T : Type 0} (f : Kept S → Kept T) → ((from to added : ℕ) (kept : Kept S) → f (edit_kept from to added kept) ≡ edit_kept from to added (f kept))
    → (changes : List Change) (kept : Kept S) → f (told_by changes kept) ≡ told_by changes (f kept)
told_meant f law [] kept = refl
told_meant f law (change ∷ others) kept =
    told_meant f law others (edit_kept change.from change.to (length change.text) kept)
    ∙ ap (told_by others) (law change.from change.to (length change.text) kept)

pub shifted_by_text : (changes : List Change) (views : List ViewState) → ViewsAreText views → ViewsAreText (shifted_by changes views)
shifted_by_text [] views h = h
shifted_by_text (change ∷ others) views h = shifted_by_text others _ (moved_text (edit_by change) views h)
