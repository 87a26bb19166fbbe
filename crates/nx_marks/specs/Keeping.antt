-- What reading on does to marks: which ones stay, which are new, and which of those aside go.
use Rattle.std.specs.Prelude.{◌≡◌, ◌⊎◌, ℕ, ◌+◌, true, List, [], ◌∷◌, ◌++◌}
use Rattle.nx_base.specs.Rules.{Rules, Lexeme}
use Rattle.nx_base.specs.Running.{CutsTo, after_all}
use Rattle.nx_marks.specs.Before.{marks_of}
use Rattle.nx_marks.specs.Chain.{Kept, frontier_of, is_mark, reach}
use Rattle.nx_marks.specs.Ruling.{is_due}
use Rattle.nx_marks.specs.Tags.{tags_in}
use Rattle.nx_marks.specs.declared.mark.Mark.{Mark}

-- where these marks lie, the first of them at a place
abbrev pub places_from : {S : Type 0} → ℕ → List (Mark S) → List ℕ
places_from place [] = []
places_from place (x ∷ xs) = place ∷ places_from (place + x.len) xs

-- where marks stand up to the frontier
abbrev pub places_of : {S : Type 0} → Kept S → List ℕ
places_of k = places_from 0 (marks_of k)

-- where the first mark aside lies
abbrev pub next_of : {S : Type 0} → Kept S → ℕ
next_of k = frontier_of k + k.here.len

abbrev pub IsAmong : ℕ → List ℕ → Type 0
IsAmong at [] = ⊥
IsAmong at (place ∷ others) = (at ≡ place) ⊎ IsAmong at others

-- the state is right at the place: read from the text's start, the tokens in front of the place lead to what it means
pub record LeadsTo {S M : Type 0} (means : S → M) (r : Rules M) (t : List ℕ) (place : ℕ) (state : S) : Type 0 where
  pub tokens : List Lexeme
  pub cuts : CutsTo t 0 tokens place
  pub meaning : means state ≡ after_all r r.first tokens

-- one of these, the first of them at a place, is a mark and lies there, and tokens lead to it
abbrev pub Stands : {S M : Type 0} → (S → M) → Rules M → List ℕ → ℕ → ℕ → List (Mark S) → Type 0
Stands means r t at place [] = ⊥
Stands means r t at place (x ∷ xs) =
    ((at ≡ place) × (is_mark x ≡ true) × LeadsTo means r t place x.state) ⊎ Stands means r t at (place + x.len) xs

-- by the rule (`is_due`) a mark is to be saved at a place, when the last one stands at `last`: `before` are the tokens in front of that,
-- `since` those between the two
pub record IsDueAt {M : Type 0} (r : Rules M) (t : List ℕ) (last place : ℕ) : Type 0 where
  pub before : List Lexeme
  pub since : List Lexeme
  pub leads : CutsTo t 0 before last
  pub on : CutsTo t last since place
  pub due : is_due r (after_all r (after_all r r.first before) since) (tags_in since) ≡ true

-- there is a reason for a mark at each of these places, the mark before the first of them at `last`: one stood there aside, and was right;
-- or one is due
abbrev pub AreCalledFor : {M : Type 0} → Rules M → List ℕ → (ℕ → Type 0) → ℕ → List ℕ → Type 0
AreCalledFor r t stood last [] = Unit {0}
AreCalledFor r t stood last (place ∷ others) = (stood place ⊎ IsDueAt r t last place) × AreCalledFor r t stood place others

abbrev pub last_of : ℕ → List ℕ → ℕ
last_of place [] = place
last_of place (other ∷ others) = last_of other others

-- none of these marks, the first of them at a place, was given up for nothing: where it stood there is a mark still (`now`), or its state
-- isn't right there any more
abbrev pub AreUsed : {S M : Type 0} → (S → M) → Rules M → List ℕ → List ℕ → ℕ → List (Mark S) → Type 0
AreUsed means r t now place [] = Unit {0}
AreUsed means r t now place (x ∷ xs) =
    (is_mark x ≡ true → IsAmong place now ⊎ (LeadsTo means r t place x.state → ⊥)) × AreUsed means r t now (place + x.len) xs

-- From `old` reading went on to `new`.
--     stay    up to the old frontier marks stand where they stood; `more` are the places of those behind it,
--     due     and for each of these there is a reason
--     aside   of the marks aside the first ones are gone, as many as were read over; the others stay, with their segments,
--     next    and where they lay
--     used    none that is gone was given up for nothing. A state at which only a row ended may always go
pub record KeepsMarks {S M : Type 0} (means : S → M) (r : Rules M) (t : List ℕ) (old new : Kept S) : Type 0 where
  pub more : List ℕ
  pub stay : places_of new ≡ places_of old ++ more
  pub due : AreCalledFor r t (λ at. Stands means r t at (next_of old) old.aside) (last_of 0 (places_of old)) more
  pub gone : List (Mark S)
  pub aside : old.aside ≡ gone ++ new.aside
  pub next : (new.aside ≡ []) ⊎ (next_of new ≡ next_of old + reach gone)
  pub used : AreUsed means r t (places_of new) (next_of old) gone
