-- When marks are right for a text.
use Rattle.std.specs.Prelude.{◌≡◌, ℕ, ◌+◌, ◌≤◌, Bool, true, false, ◌||◌, List, [], ◌∷◌, ◌++◌, length}
use Rattle.std.specs.List.{AllByRecursion}
use Rattle.nx_base.specs.declared.fault.Fault.{Fault}
use Rattle.nx_base.specs.Shifting.{placed}
use Rattle.nx_base.specs.Rules.{Rules, Lexeme, IsWithin}
use Rattle.nx_base.specs.Running.{CutsTo, after_all, faults_along}
use Rattle.nx_marks.specs.Tags.{tags_in}
use Rattle.nx_marks.specs.Ruling.{Sparse}
use Rattle.nx_marks.specs.declared.mark.Mark.{Mark}

-- the state of the first of these marks means m
abbrev pub FirstMeans : {S M : Type 0} → (S → M) → M → List (Mark S) → Type 0
FirstMeans means m [] = ⊥
FirstMeans means m (x ∷ xs) = means x.state ≡ m

-- the segment of a mark at p, whose state means m, is that of these tokens
pub record Segment {M : Type 0} (r : Rules M) (t : List ℕ) (p : ℕ) (m : M)
    (len tags : ℕ) (faults : List Fault) (ks : List Lexeme) : Type 0 where
  pub back : r.back m ≡ 0
  pub cuts : CutsTo t p ks (p + len)
  pub tags_are : tags ≡ tags_in ks
  pub faults_are : faults ≡ faults_along r 0 m ks
  pub sparse : Sparse r m 0 ks

-- where a mark's segment is whole, it is right, and leads to the next mark
abbrev pub Link : {S M : Type 0} → (S → M) → Rules M → List ℕ → ℕ → Bool → Mark S → List (Mark S) → Type 0
Link means r t p false x xs = Unit {0}
Link means r t p true x xs = (ks : List Lexeme) × (Segment r t p (means x.state) x.len x.tags x.faults ks
    × FirstMeans means (after_all r (means x.state) ks) xs)

-- Marks that lie one behind another, the first of them at the byte offset p, each `len` bytes in front of the next. Each state is one of
-- the machine's, and the segment of each whole mark is what the text has there; of the others it is only said how far on the next one
-- lies. The last one ends in the text. A row is a run of whole marks and the next one, the state where it ends
abbrev pub Chain : {S M : Type 0} → (S → Type 0) → (S → M) → Rules M → List ℕ → ℕ → List (Mark S) → Type 0
Chain is_state means r t p [] = p ≤ length t
Chain is_state means r t p (x ∷ xs) = is_state x.state × (Link means r t p x.whole x xs × Chain is_state means r t (p + x.len) xs)

-- whether it is a mark, or only the state at which a row ends
abbrev pub is_mark : {S : Type 0} → Mark S → Bool
is_mark x = x.whole || x.saved

-- all these marks are whole
abbrev pub AreWhole : {S : Type 0} → List (Mark S) → Type 0
AreWhole [] = Unit {0}
AreWhole (x ∷ xs) = (x.whole ≡ true) × AreWhole xs

-- how far these marks reach
abbrev pub reach : {S : Type 0} → List (Mark S) → ℕ
reach [] = 0
reach (x ∷ xs) = x.len + reach xs

-- What is kept of reading a text: a line of marks, and a place on it, the frontier, up to which the text is read.
--     front    the marks up to the frontier, all of them whole; the segment of the last one ends there
--     here     the state at the frontier. It has no segment: `here.len` is a distance, of so many bytes that nobody has read since the
--              edit, from the frontier to the first mark aside. Where none is aside it says nothing. Its tags and faults say nothing
--     marked   whether that state is a mark itself
--     aside    the marks behind the frontier that an edit left: what they say holds once tokens lead to them
pub record Kept (S : Type 0) : Type 0 where
  pub front : List (Mark S)
  pub here : Mark S
  pub marked : Bool
  pub aside : List (Mark S)

abbrev pub frontier_of : {S : Type 0} → Kept S → ℕ
frontier_of k = reach k.front

abbrev pub all_of : {S : Type 0} → Kept S → List (Mark S)
all_of k = k.front ++ k.here ∷ k.aside

-- the states at the frontier and at the first mark aside are the machine's
abbrev pub IsFirst : {S : Type 0} → (S → Type 0) → List (Mark S) → Type 0
IsFirst is_state [] = Unit {0}
IsFirst is_state (x ∷ xs) = is_state x.state

pub record OwnStates {S : Type 0} (is_state : S → Type 0) (k : Kept S) : Type 0 where
  pub here : is_state k.here.state
  pub next : IsFirst is_state k.aside

pub record MarksHold {S M : Type 0} (is_state : S → Type 0) (means : S → M) (r : Rules M) (t : List ℕ) (k : Kept S) : Type 0 where
  pub first : FirstMeans means r.first (all_of k)
  pub chain : Chain is_state means r t 0 (all_of k)
  pub whole : AreWhole k.front
  pub ends : k.here.whole ≡ false

-- the faults of the segments up to the frontier, in their places
abbrev pub faults_in : {S : Type 0} → ℕ → List (Mark S) → List Fault
faults_in p [] = []
faults_in p (x ∷ xs) = placed p x.faults ++ faults_in (p + x.len) xs

-- each fault of a mark lies in its segment
abbrev pub FaultsFit : {S : Type 0} → List (Mark S) → Type 0
FaultsFit [] = Unit {0}
FaultsFit (x ∷ xs) = AllByRecursion (IsWithin x.len) x.faults × FaultsFit xs
