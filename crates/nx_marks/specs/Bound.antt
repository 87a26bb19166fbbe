-- How many tokens are taken before a row is joined.
use Rattle.std.specs.Prelude.{◌≡◌, ◌⊎◌, ℕ, ◌+◌, ◌<◌, ◌≤◌, List, [], ◌∷◌, length, true}
use Rattle.nx_base.specs.Rules.{Rules, Lexeme}
use Rattle.nx_base.specs.Running.{CutsTo, after_all}
use Rattle.nx_marks.specs.Chain.{Kept, FirstMeans, frontier_of, reach}
use Rattle.nx_marks.specs.Editing.{split}
use Rattle.nx_marks.specs.declared.mark.Mark.{Mark}

-- how far the first row reaches
abbrev pub row_len : {S : Type 0} → List (Mark S) → ℕ
row_len [] = 0
row_len (x ∷ xs) = reach (split true x xs).front

-- so many tokens lead to the first mark aside and to its meaning, and its row ends at a place
pub record WillReach {S M : Type 0} (means : S → M) (r : Rules M) (t : List ℕ) (n end : ℕ) (k : Kept S) : Type 0 where
  pub left : List Lexeme
  pub cuts : CutsTo t (frontier_of k) left (frontier_of k + k.here.len)
  pub first : FirstMeans means (after_all r (means k.here.state) left) k.aside
  pub row : frontier_of k + k.here.len + row_len k.aside ≡ end
  pub count : length left ≡ n

-- and its row ends at the text's end
abbrev pub WillJoin : {S M : Type 0} → (S → M) → Rules M → List ℕ → ℕ → Kept S → Type 0
WillJoin means r t n k = WillReach means r t n (length t) k

-- so many tokens lead there, one at the least, or the frontier is at the row's end, or behind it
abbrev pub ReachesIn : {S M : Type 0} → (S → M) → Rules M → List ℕ → ℕ → ℕ → Kept S → Type 0
ReachesIn means r t n end k = (WillReach means r t n end k × (0 < k.here.len)) ⊎ (end ≤ frontier_of k)
