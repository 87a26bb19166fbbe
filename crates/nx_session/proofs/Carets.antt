-- The caret stands at a place, also behind an edit.
use Rattle.std.proofs.Common.{◌≡◌, ℕ, ◌+◌, ◌-◌, ◌^◌, ◌<◌, ◌≤◌, cond, eqb, ltb, leb, min, List, ◌++◌, length, take, drop, sym, ap, ◌∙◌, subst, arith, inl, inr}
use Rattle.std.specs.Str.{IsUtf8}
use Rattle.std.proofs.lemmas.Bool.{cases_Bool, cases_lt, eqb-true, lt-ltb, le-ltb, lt-leb, le-leb}
use Rattle.std.proofs.lemmas.List.{length-take, length-append, length-drop}
use Rattle.std.proofs.lemmas.Str.{IsUtf8-take, IsUtf8-drop, IsCharBoundary-from_take, IsCharBoundary-from_drop}
use Rattle.nx_base.specs.Text.{IsPlace, edited, EditedKeepsRest}
use Rattle.nx_base.specs.declared.edit.Edit.{Edit}
use Rattle.nx_session.specs.Editor.{caret_after}

-- what stands before the edit, or at it
before_it : (text added : List ℕ) (from to at : ℕ) → EditedKeepsRest → IsUtf8 text → IsUtf8 (edited text from to added) → from ≤ to → to ≤ length text
    → at ≤ from → IsPlace text at → IsPlace (edited text from to added) at
before_it text added from to at keeps utf8 now ordered within low place =
    let new = edited text from to added in
    let same : take at new ≡ take at text = (keeps text added from to at ordered within).0 low in
    let size : at ≤ length new = omega (arith, length-append (take from text ++ added) (drop to text), length-append (take from text) added, length-take from text) in
    IsCharBoundary-from_take new at now size (subst IsUtf8 (sym same) (IsUtf8-take text at utf8 place))

-- what stands behind it
behind_it : (text added : List ℕ) (from to at : ℕ) → EditedKeepsRest → IsUtf8 text → from ≤ to → to ≤ length text
    → to ≤ at → IsPlace text at → IsPlace (edited text from to added) (at - (to - from) + length added)
behind_it text added from to at keeps utf8 ordered within low place =
    let new = edited text from to added in
    let moved = at - (to - from) + length added in
    let same : drop moved new ≡ drop at text = (keeps text added from to at ordered within).1 low in
    let size : moved ≤ length new = omega (arith, length-append (take from text ++ added) (drop to text), length-append (take from text) added, length-take from text, length-drop to text, place.0) in
    IsCharBoundary-from_drop new moved size (subst IsUtf8 (sym same) (IsUtf8-drop text at utf8 place))

-- a number that another one bounds
bounded : (n most : ℕ) → n ≤ most → min n most ≡ n
bounded n most h = omega arith

-- where an edit moves a place, no sum of which passes the most
moved_to : (text added : List ℕ) (from to at most : ℕ) → EditedKeepsRest → IsUtf8 text → IsUtf8 (edited text from to added) → IsPlace text from → from ≤ to → to ≤ length text
    → length (edited text from to added) ≤ most → IsPlace text at
    → IsPlace (edited text from to added) (cond (ltb at from) at (cond (leb to at) (min (at - (to - from) + length added) most) from))
moved_to text added from to at most keeps utf8 now start ordered within fits place =
    let new = edited text from to added in
    let P : ℕ → Type 0 = λ n. IsPlace new n in
    elim (cases_lt at from) [
      | inl front ↦ rw (lt-ltb at from front) (before_it text added from to at keeps utf8 now ordered within (omega arith) place)
      | inr past ↦ elim (cases_lt at to) [
        | inl inside ↦ rw (le-ltb at from past, lt-leb to at inside) (before_it text added from to from keeps utf8 now ordered within (omega arith) start)
        | inr behind ↦
            let moved = behind_it text added from to at keeps utf8 ordered within behind place in
            let same : min (at - (to - from) + length added) most ≡ at - (to - from) + length added = bounded (at - (to - from) + length added) most (omega (arith, moved.0)) in
            rw (le-ltb at from past, le-leb to at behind) (subst P (sym same) moved)
      ]
    ]

pub caret_stands : (text added new : List ℕ) (from to caret behind len : ℕ) → EditedKeepsRest → IsUtf8 text → IsUtf8 new → new ≡ edited text from to added
    → IsPlace text from → from ≤ to → to ≤ length text → length new < 2 ^ 64 → len ≡ length added → IsPlace text caret
    → behind ≡ caret_after (record { from = from; to = to; added = len }) caret → IsPlace new behind
caret_stands text added new from to caret behind len keeps utf8 now is start ordered within fits size place goes =
    let whole = edited text from to added in
    let long : length whole ≡ length new = ap length (sym is) in
    let same : IsUtf8 whole = subst IsUtf8 is now in
    let edit : ℕ → Edit = λ n. record { from = from; to = to; added = n } in
    let Q : List ℕ → Type 0 = λ t. IsPlace t behind in
    let R : ℕ → Type 0 = λ n. IsPlace whole n in
    let goes_to : behind ≡ caret_after (edit (length added)) caret = goes ∙ ap (λ n. caret_after (edit n) caret) size in
    subst Q (sym is) (subst R (sym goes_to) (elim (cases_Bool (eqb caret from)) [
      | inl at ↦ rw at (before_it text added from to caret keeps utf8 same ordered within (omega (arith, eqb-true caret from at)) place)
      | inr other ↦ rw other (moved_to text added from to caret (2 ^ 64 - 1) keeps utf8 same start ordered within (omega arith) place)
    ]))
