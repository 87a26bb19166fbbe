-- Steps of the frontier along the line of marks, which is front, here and aside in a row. On and back over marks (`Moved`, `Follows`,
-- `GoesBack`, `GoesOn`, `ComesBack`) it leaves the line as it is, and only where the line is parted is another place. The others
-- (`PassesNext`, `PassesUpTo`, `TakesNext`, `DropsBetween`, `cut_off`) drop marks, of those aside or at hand.
use Rattle.std.specs.Prelude.{◌≡◌, ◌⊎◌, ℕ, ◌+◌, ◌-◌, ◌^◌, ◌<◌, ◌≤◌, List, [], ◌∷◌, ◌++◌, length, nat_lt, if◌then◌else◌}
use Rattle.nx_marks.specs.Chain.{Kept, all_of, frontier_of, reach}
use Rattle.nx_marks.specs.Editing.{first_kept, kept_marks, place_after, broken, split}
use Rattle.nx_marks.specs.Taking.{let_go}
use Rattle.nx_marks.specs.declared.mark.Mark.{Mark}

-- so much farther from the next mark
abbrev pub farther : {S : Type 0} → Mark S → ℕ → Mark S
farther x len = record { state = x.state; len = x.len + len; tags = x.tags; faults = x.faults; whole = x.whole; saved = x.saved }

-- so many marks on, and one at the least: `more` are those between the old place and the new one
pub record Moved {S : Type 0} (count : ℕ) (old new : Kept S) : Type 0 where
  pub more : List (Mark S)
  pub front : new.front ≡ old.front ++ old.here ∷ more
  pub aside : old.aside ≡ more ++ new.here ∷ new.aside
  pub marked : new.marked ≡ old.marked
  pub many : length more + 1 ≡ count

abbrev pub MovesOn : {S : Type 0} → ℕ → Kept S → Kept S → Type 0
MovesOn count old new = ((count ≡ 0) × (new ≡ old)) ⊎ Moved count old new

-- so many marks back
abbrev pub MovesBack : {S : Type 0} → ℕ → Kept S → Kept S → Type 0
MovesBack count old new = ((count ≡ 0) × (new ≡ old)) ⊎ Moved count new old

-- each of these marks, the first of them at p, lies at or before a place
abbrev pub AreUpTo : {S : Type 0} → ℕ → ℕ → List (Mark S) → Type 0
AreUpTo to p [] = Unit {0}
AreUpTo to p (x ∷ xs) = (p ≤ to) × AreUpTo to (p + x.len) xs

-- the first mark aside goes, and the next one is that much farther from the frontier
pub record PassesNext {S : Type 0} (old new : Kept S) : Type 0 where
  pub mark : Mark S
  pub behind : List (Mark S)
  pub are : old.aside ≡ mark ∷ behind
  pub is : new ≡ record { front = old.front; here = farther old.here mark.len; marked = old.marked; aside = behind }

-- the marks aside that lie less than `count` bytes behind the frontier have gone, or all have: whatever was dropped so far, letting go of
-- the rest leads to the same
pub record PassesUpTo {S : Type 0} (count : ℕ) (old new : Kept S) : Type 0 where
  pub same : let_go count new.here new.front new.marked new.aside ≡ let_go count old.here old.front old.marked old.aside
  pub there : (new.aside ≡ []) ⊎ (count ≤ new.here.len)

-- the mark at hand goes, and the first one aside stands in its place, with its own distance to the next
pub record TakesNext {S : Type 0} (old new : Kept S) : Type 0 where
  pub mark : Mark S
  pub behind : List (Mark S)
  pub are : old.aside ≡ mark ∷ behind
  pub is : new ≡ record { front = old.front; here = mark; marked = old.marked; aside = behind }

-- on to the end of the row that begins with the mark at hand, which is joined: its whole marks are read now
abbrev pub Follows : {S : Type 0} → Kept S → Kept S → Type 0
Follows old new =
    let row = split old.marked old.here old.aside in
    new ≡ record { front = old.front ++ row.front; here = row.here; marked = old.marked; aside = row.aside }

-- the marks aside up to a place go; the first of them lies at `next`, and the first that stays at `place`, unless all went
pub record DropsBetween {S : Type 0} (next to : ℕ) (old new : Kept S) (place : ℕ) : Type 0 where
  pub gone : List (Mark S)
  pub aside : old.aside ≡ gone ++ new.aside
  pub front : new.front ≡ old.front
  pub here : new.here ≡ old.here
  pub marked : new.marked ≡ old.marked
  pub far : place ≡ next + reach gone
  pub between : AreUpTo to next gone
  pub there : (new.aside ≡ []) ⊎ (to < place)

-- back to the last mark before a place, or to the start, so that the place lies in the segment behind it or at its end (`touched`).
-- `passed` are the marks that were passed
pub record GoesBack {S : Type 0} (from : ℕ) (old new : Kept S) : Type 0 where
  pub all : all_of new ≡ all_of old
  pub passed : List (Mark S)
  pub front : old.front ≡ new.front ++ passed
  pub touched : from ≤ frontier_of new + new.here.len
  pub there : (frontier_of new < from) ⊎ (new.front ≡ [])

-- on to the last mark before a place
pub record GoesOn {S : Type 0} (from : ℕ) (old new : Kept S) : Type 0 where
  pub all : all_of new ≡ all_of old
  pub marked : new.marked ≡ old.marked
  pub passed : List (Mark S)
  pub front : new.front ≡ old.front ++ passed
  pub before : frontier_of new < from
  pub there : (new.aside ≡ []) ⊎ (from ≤ frontier_of new + new.here.len)

-- back until so many marks are in front
pub record ComesBack {S : Type 0} (len : ℕ) (old new : Kept S) : Type 0 where
  pub all : all_of new ≡ all_of old
  pub marked : new.marked ≡ old.marked
  pub front : length new.front ≡ len

-- an edit, of the mark at hand, which is the last before it or the start. Where it ends in front of the edit nothing changes; otherwise it
-- is no longer whole, the marks that lie in the edit go, and those behind it stay, as much farther on as the edit moves them
abbrev pub cut_off : {S : Type 0} → ℕ → ℕ → ℕ → Kept S → Kept S
cut_off from to added k =
    if nat_lt (frontier_of k + k.here.len) from then k
    else record {
      front = k.front;
      here = broken k.here (place_after from to added (first_kept from to (frontier_of k + k.here.len) k.aside) - frontier_of k);
      marked = k.marked;
      aside = kept_marks from to added (frontier_of k + k.here.len) k.aside;
    }

-- all places, before and behind an edit, are numbers of the machine
pub record Fits {S : Type 0} (from to added : ℕ) (k : Kept S) : Type 0 where
  pub old : reach (all_of k) < 2 ^ 64
  pub new : from + added + (reach (all_of k) - to) < 2 ^ 64
