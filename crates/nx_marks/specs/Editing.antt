-- What an edit does to marks.
use Rattle.std.specs.Prelude.{◌≡◌, ◌⊎◌, ℕ, ◌+◌, ◌-◌, ◌≤◌, ◌<◌, nat_lt, Bool, true, false, ◌||◌, List, [], ◌∷◌, ◌++◌, length, if◌then◌else◌}
use Rattle.nx_marks.specs.Chain.{Kept, AreWhole, all_of, frontier_of, is_mark, reach}
use Rattle.nx_marks.specs.declared.mark.Mark.{Mark}

-- where a place lies behind an edit; one in between lies at the end of what was added
abbrev pub place_after : ℕ → ℕ → ℕ → ℕ → ℕ
place_after from to added p = if nat_lt p from then p else from + added + (p - to)

-- a mark there stays
abbrev pub stays : ℕ → ℕ → ℕ → Bool
stays from to p = nat_lt p from || nat_lt to p

-- a segment from p on of this length isn't touched
abbrev pub is_apart : ℕ → ℕ → ℕ → ℕ → Bool
is_apart from to p len = nat_lt (p + len) from || nat_lt to p

-- the place of the first mark that stays, or the end of these marks
abbrev pub first_kept : {S : Type 0} → ℕ → ℕ → ℕ → List (Mark S) → ℕ
first_kept from to p [] = p
first_kept from to p (x ∷ xs) = if stays from to p then p else first_kept from to (p + x.len) xs

-- nothing is known any more of what lies behind it; it is a mark if it was one
abbrev pub broken : {S : Type 0} → Mark S → ℕ → Mark S
broken x len = record { state = x.state; len = len; tags = 0; faults = []; whole = false; saved = is_mark x }

-- a mark at p, the next one that stays at q: its segment stays where it isn't touched
abbrev pub kept_mark : {S : Type 0} → ℕ → ℕ → ℕ → ℕ → Mark S → ℕ → Mark S
kept_mark from to added p x q =
    if is_apart from to p x.len then x else broken x (place_after from to added q - place_after from to added p)

-- the marks that stay, the first of these at p
abbrev pub kept_marks : {S : Type 0} → ℕ → ℕ → ℕ → ℕ → List (Mark S) → List (Mark S)
kept_marks from to added p [] = []
kept_marks from to added p (x ∷ xs) =
    if stays from to p then kept_mark from to added p x (first_kept from to (p + x.len) xs) ∷ kept_marks from to added (p + x.len) xs
    else kept_marks from to added (p + x.len) xs

-- the start always stays
abbrev pub edit_all : {S : Type 0} → ℕ → ℕ → ℕ → List (Mark S) → List (Mark S)
edit_all from to added [] = []
edit_all from to added (x ∷ xs) =
    (if nat_lt (0 + x.len) from then x else broken x (place_after from to added (first_kept from to (0 + x.len) xs)))
    ∷ kept_marks from to added (0 + x.len) xs

-- the front ends before the first mark that isn't whole, and the frontier is there
abbrev pub split : {S : Type 0} → Bool → Mark S → List (Mark S) → Kept S
split marked x [] = record { front = []; here = x; marked = marked; aside = [] }
split marked x (y ∷ ys) =
    if x.whole then (let k = split marked y ys in record k { front = x ∷ k.front })
    else record { front = []; here = x; marked = marked; aside = y ∷ ys }

abbrev pub split_all : {S : Type 0} → Kept S → Bool → List (Mark S) → Kept S
split_all k marked [] = k
split_all k marked (x ∷ xs) = split marked x xs

-- the state at the frontier is no mark where it goes aside: a row ends there
abbrev pub noted : {S : Type 0} → Kept S → Kept S
noted k = record {
  front = k.front;
  here = record { state = k.here.state; len = k.here.len; tags = k.here.tags; faults = k.here.faults; whole = k.here.whole; saved = false };
  marked = k.marked;
  aside = k.aside;
}

abbrev pub edit_noted : {S : Type 0} → ℕ → ℕ → ℕ → Kept S → Kept S
edit_noted from to added k = split_all k (if nat_lt (frontier_of k) from then k.marked else true) (edit_all from to added (all_of k))

-- the marks from the edit on are dropped or go aside; the frontier goes back to the last mark before it, or to the start
abbrev pub edit_kept : {S : Type 0} → ℕ → ℕ → ℕ → Kept S → Kept S
edit_kept from to added k = edit_noted from to added (noted k)

-- an edit behind the frontier changes what is aside, no more
pub record EditBehind {S : Type 0} (from to added : ℕ) (k j : Kept S) : Type 0 where
  pub front : j.front ≡ k.front
  pub state : j.here.state ≡ k.here.state
  pub marked : j.marked ≡ k.marked
  pub aside : j.aside ≡ kept_marks from to added (frontier_of k + k.here.len) k.aside

-- the marks behind the one that an edit leads back to: whole ones, and the state at the frontier
pub record Behind {S : Type 0} (from : ℕ) (k : Kept S) (keep : List (Mark S)) (mark : Mark S) (rest : List (Mark S)) : Type 0 where
  pub marks : List (Mark S)
  pub are : rest ≡ marks ++ k.here ∷ []
  pub whole : AreWhole marks
  pub reaches : reach keep + mark.len + reach marks ≡ frontier_of k
  pub touched : from ≤ reach keep + mark.len

-- an edit at or before the frontier: it goes back to `mark`, the last before the edit or the start, and what stays of the
-- marks behind it is aside, with the rows as they were but for what the edit touched
pub record EditAt {S : Type 0} (from to added : ℕ) (k j : Kept S) : Type 0 where
  pub keep : List (Mark S)
  pub mark : Mark S
  pub rest : List (Mark S)
  pub are : k.front ++ k.here ∷ [] ≡ keep ++ mark ∷ rest
  pub before : (reach keep < from) ⊎ (keep ≡ [])
  pub last : 0 < length rest → from ≤ reach keep + mark.len
  pub front : j.front ≡ keep
  pub state : j.here.state ≡ mark.state
  pub marked : j.marked ≡ true
  pub far : reach keep + j.here.len ≡ place_after from to added (first_kept from to (reach keep + mark.len) (rest ++ k.aside))
  pub aside : j.aside ≡ kept_marks from to added (reach keep + mark.len) (rest ++ k.aside)
  pub behind : 0 < frontier_of k → Behind from k keep mark rest
