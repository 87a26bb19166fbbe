-- What marks in a tree come to.
use Rattle.std.specs.Prelude.{◌≡◌, ℕ, ◌+◌, ◌-◌, ◌*◌, ◌<◌, ◌≤◌, ◌^◌, nat_le, Bool, true, false, ◌&&◌, ◌||◌}
use Rattle.std.specs.Prelude.{List, [], ◌∷◌, ◌++◌, length, Option, None, Some, if◌then◌else◌}
use Rattle.nx_marks.specs.Chain.{reach}
use Rattle.nx_marks.specs.declared.mark.Mark.{Mark}

-- what stands at a root, or the other where there is none
abbrev pub at_root : {X Y : Type 0} → Y → (X → Y) → Option X → Y
at_root y f None = y
at_root y f (Some x) = f x

-- what holds of a root, if there is one
abbrev pub if_root : {X : Type 0} → (X → Type 0) → Option X → Type 0
if_root P None = Unit {0}
if_root P (Some x) = P x

abbrev pub all_whole : {S : Type 0} → List (Mark S) → Bool
all_whole [] = true
all_whole (x ∷ xs) = x.whole && all_whole xs

abbrev pub has_some : {X : Type 0} → List X → Bool
has_some [] = false
has_some (x ∷ xs) = true

-- whether one of them has faults
abbrev pub any_faulty : {S : Type 0} → List (Mark S) → Bool
any_faulty [] = false
any_faulty (x ∷ xs) = has_some x.faults || any_faulty xs

-- what these marks come to, in numbers that fit
pub record Summed {S : Type 0} (marks : List (Mark S)) (count far : ℕ) (whole faulty : Bool) : Type 0 where
  pub counted : count ≡ length marks
  pub reaches : far ≡ reach marks
  pub are_whole : whole ≡ all_whole marks
  pub are_faulty : faulty ≡ any_faulty marks
  pub count_fits : length marks < 2 ^ 32
  pub reach_fits : reach marks < 2 ^ 64

-- of two parts, counted with one more, neither is more than thrice the other
pub record Balanced (front behind : ℕ) : Type 0 where
  pub front_most : front + 1 ≤ 3 * (behind + 1)
  pub behind_most : behind + 1 ≤ 3 * (front + 1)

-- or the second is a little more than that, so that one turn or two make it even
pub record NearlyBalanced (one other : ℕ) : Type 0 where
  pub one_most : one + 1 ≤ 3 * (other + 1)
  pub other_most : 3 * (other + 1) ≤ 13 * (one + 1)

-- what is told at a node of its own mark, those in front of it and those behind it; and these are balanced
pub record IsNode {S : Type 0} (front : List (Mark S)) (mark : Mark S) (behind : List (Mark S)) (count far : ℕ) (whole faulty : Bool) :
    Type 0 where
  pub sums : Summed (front ++ mark ∷ behind) count far whole faulty
  pub balanced : Balanced (length front) (length behind)

-- a mark between those in front of it and those behind it, which are all, and balanced; their numbers fit
pub record Opened {S : Type 0} (all front : List (Mark S)) (mark : Mark S) (behind : List (Mark S)) : Type 0 where
  pub is : all ≡ front ++ mark ∷ behind
  pub counts : length all ≡ length front + 1 + length behind
  pub reaches : reach all ≡ reach front + mark.len + reach behind
  pub count_fits : length all < 2 ^ 32
  pub reach_fits : reach all < 2 ^ 64
  pub balanced : Balanced (length front) (length behind)

-- a mark is put between two parts
pub record IsBetween {S : Type 0} (front : List (Mark S)) (mark : Mark S) (behind all : List (Mark S)) : Type 0 where
  pub is : all ≡ front ++ mark ∷ behind
  pub counts : length all ≡ length front + 1 + length behind
  pub reaches : reach all ≡ reach front + mark.len + reach behind

-- how many of these marks, from the first on, reach no farther than a place
abbrev pub count_up_to : {S : Type 0} → ℕ → List (Mark S) → ℕ
count_up_to at [] = 0
count_up_to at (x ∷ xs) = if nat_le x.len at then 1 + count_up_to (at - x.len) xs else 0

-- how many of these, from the first on, are whole
abbrev pub whole_count : {S : Type 0} → List (Mark S) → ℕ
whole_count [] = 0
whole_count (x ∷ xs) = if x.whole then 1 + whole_count xs else 0

-- so many marks lie in front of this one, which is at the place
pub record IsAt {S : Type 0} (marks : List (Mark S)) (index place : ℕ) (mark : Mark S) : Type 0 where
  pub earlier : List (Mark S)
  pub later : List (Mark S)
  pub are : marks ≡ earlier ++ mark ∷ later
  pub count : length earlier ≡ index
  pub there : place ≡ reach earlier

-- it says that it is no mark, unless it is whole
abbrev pub unsaved : {S : Type 0} → Mark S → Mark S
unsaved x = record { state = x.state; len = x.len; tags = x.tags; faults = x.faults; whole = x.whole; saved = false }
