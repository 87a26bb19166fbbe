-- The last mark at or before a place.
use Rattle.std.specs.Prelude.{◌≡◌, ◌⊎◌, ℕ, ◌+◌, ◌<◌, ◌≤◌, Bool, true, false, List, [], ◌∷◌, ◌++◌, length}
use Rattle.nx_base.specs.Rules.{Rules, Lexeme}
use Rattle.nx_base.specs.Running.{CutsTo, after_all}
use Rattle.nx_base.specs.Text.{IsPlace}
use Rattle.nx_marks.specs.Chain.{Kept, all_of, frontier_of, reach}
use Rattle.nx_marks.specs.declared.mark.Mark.{Mark}

-- the marks up to the frontier, the frontier's if it is one
abbrev pub marks_with : {S : Type 0} → List (Mark S) → Mark S → Bool → List (Mark S)
marks_with front here true = front ++ here ∷ []
marks_with front here false = front

abbrev pub marks_of : {S : Type 0} → Kept S → List (Mark S)
marks_of k = marks_with k.front k.here k.marked

-- a mark lies at the place, at or before `at`, and each later one lies behind `at`
pub record IsLast {S : Type 0} (at place : ℕ) (k : Kept S) (mark : Mark S) : Type 0 where
  pub earlier : List (Mark S)
  pub later : List (Mark S)
  pub behind : List (Mark S)
  pub are : marks_of k ≡ earlier ++ mark ∷ later
  pub all : all_of k ≡ earlier ++ mark ∷ behind
  pub front : (length earlier ≤ length k.front)
  pub here : place ≡ reach earlier
  pub before : place ≤ at
  pub none_later : 0 < length later → at < place + mark.len

-- this mark of the front lies at the place, at or before `at`, and the next one, if there is one, lies behind `at`
pub record LiesInFront {S : Type 0} (at : ℕ) (front : List (Mark S)) (place : ℕ) (mark : Mark S) : Type 0 where
  pub earlier : List (Mark S)
  pub later : List (Mark S)
  pub are : front ≡ earlier ++ mark ∷ later
  pub here : place ≡ reach earlier
  pub before : place ≤ at
  pub next : (later ≡ []) ⊎ (at < place + mark.len)

-- the last mark at or before a place and the frontier, or the start, where the state means what the tokens before it lead to
pub record IsMarkBefore {S M : Type 0} (is_state : S → Type 0) (means : S → M) (r : Rules M) (t : List ℕ)
    (at : ℕ) (k : Kept S) (place : ℕ) (state : S) : Type 0 where
  pub mark : Mark S
  pub last : IsLast at place k mark
  pub same : means state ≡ means mark.state
  pub within : place ≤ frontier_of k
  pub border : IsPlace t place
  pub tokens : List Lexeme
  pub cuts : CutsTo t 0 tokens place
  pub own : is_state state
  pub meaning : means state ≡ after_all r r.first tokens
