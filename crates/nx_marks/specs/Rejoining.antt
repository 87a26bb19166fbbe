-- How marks aside that the frontier reaches are joined.
use Rattle.std.specs.Prelude.{◌≡◌, ◌⊎◌, ℕ, ◌<◌, ◌≤◌, List, [], ◌∷◌, length, IsUtf8}
use Rattle.nx_base.specs.Rules.{Rules}
use Rattle.nx_marks.specs.Bound.{WillReach}
use Rattle.nx_marks.specs.Chain.{Kept, frontier_of}
use Rattle.nx_marks.specs.Keeping.{KeepsMarks}
use Rattle.nx_marks.specs.Right.{IsRight}
use Rattle.nx_marks.specs.Taking.{row_joined}
use Rattle.nx_marks.specs.declared.mark.Mark.{Mark}

-- the first row aside is joined
pub record Joins {S M : Type 0} (means : S → M) (r : Rules M) (old new : Kept S) : Type 0 where
  pub mark : Mark S
  pub behind : List (Mark S)
  pub are : old.aside ≡ mark ∷ behind
  pub is : new ≡ row_joined means r old mark behind

-- one mark aside, or its row, is joined, or the mark is dropped; where no token was left before a row, it is
-- joined
pub record RejoinsOne {S M : Type 0} (is_state : S → Type 0) (means : S → M) (r : Rules M) (old new : Kept S) : Type 0 where
  pub right : (t : List ℕ) → IsUtf8 t → IsRight is_state means r t old → IsRight is_state means r t new
  pub further : frontier_of old ≤ frontier_of new
  pub joins : (t : List ℕ) (end : ℕ) → IsUtf8 t → WillReach means r t 0 end old → end ≤ frontier_of new
  pub keeps : (t : List ℕ) → IsUtf8 t → IsRight is_state means r t old → KeepsMarks means r t old new
  pub fewer : length new.aside < length old.aside

-- until none is left at the frontier
pub record Rejoins {S M : Type 0} (is_state : S → Type 0) (means : S → M) (r : Rules M) (old new : Kept S) : Type 0 where
  pub right : (t : List ℕ) → IsUtf8 t → IsRight is_state means r t old → IsRight is_state means r t new
  pub further : frontier_of old ≤ frontier_of new
  pub joins : (t : List ℕ) (end : ℕ) → IsUtf8 t → WillReach means r t 0 end old → end ≤ frontier_of new
  pub keeps : (t : List ℕ) → IsUtf8 t → IsRight is_state means r t old → KeepsMarks means r t old new
  pub waits : 0 < old.here.len → new ≡ old
  pub settled : (0 < new.here.len) ⊎ (new.aside ≡ [])
