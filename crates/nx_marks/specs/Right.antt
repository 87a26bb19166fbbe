-- What is kept is right for a machine and a text.
use Rattle.std.specs.Prelude.{◌≡◌, ℕ, ◌<◌, ◌^◌, true, false, List, [], ◌∷◌, length, IsUtf8}
use Rattle.nx_base.specs.Rules.{Rules}
use Rattle.nx_marks.specs.Chain.{Kept, MarksHold, is_mark}
use Rattle.nx_marks.specs.Ruling.{is_due}
use Rattle.nx_marks.specs.declared.mark.Mark.{Mark}

-- how many tags lie behind the last of these marks
abbrev pub tags_behind : {S : Type 0} → List (Mark S) → ℕ
tags_behind [] = 0
tags_behind (x ∷ []) = x.tags
tags_behind (x ∷ y ∷ ys) = tags_behind (y ∷ ys)

-- in none of these that is a mark a text run is pending
abbrev pub NonePends : {S M : Type 0} → (S → M) → Rules M → List (Mark S) → Type 0
NonePends means r [] = Unit {0}
NonePends means r (x ∷ xs) = (is_mark x ≡ true → r.back (means x.state) ≡ 0) × NonePends means r xs

-- the frontier is a mark where one is due; inside of segments none was (that is told with each segment)
pub record MarkRule {S M : Type 0} (means : S → M) (r : Rules M) (k : Kept S) : Type 0 where
  pub rule : k.marked ≡ false → is_due r (means k.here.state) (tags_behind k.front) ≡ false
  pub some : k.marked ≡ false → 0 < length k.front
  pub mark : k.marked ≡ true → r.back (means k.here.state) ≡ 0
  pub saved : NonePends means r k.aside

pub record IsRight {S M : Type 0} (is_state : S → Type 0) (means : S → M) (r : Rules M) (t : List ℕ) (k : Kept S) : Type 0 where
  pub holds : MarksHold is_state means r t k
  pub rule : MarkRule means r k

-- for some text
pub record IsRightForSome {S M : Type 0} (is_state : S → Type 0) (means : S → M) (r : Rules M) (k : Kept S) : Type 0 where
  pub text : List ℕ
  pub utf8 : IsUtf8 text
  pub fits : length text < 2 ^ 64
  pub right : IsRight is_state means r text k

-- for some text of this length
pub record IsRightForLength {S M : Type 0} (is_state : S → Type 0) (means : S → M) (r : Rules M) (len : ℕ) (k : Kept S) : Type 0 where
  pub text : List ℕ
  pub utf8 : IsUtf8 text
  pub long : length text ≡ len
  pub right : IsRight is_state means r text k

-- what is right for a machine stays so for every later one
abbrev pub StaysRight : {Self S M : Type 0} → (Self → Self → Type 0) → (Self → S → Type 0) → (Self → S → M) → (Self → Rules M) → Type 0
StaysRight {Self = Self} {S = S} later is_state means rules = (earlier now : Self) (text : List ℕ) (kept : Kept S) → later earlier now →
    IsRight (is_state earlier) (means earlier) (rules earlier) text kept → IsRight (is_state now) (means now) (rules now) text kept
