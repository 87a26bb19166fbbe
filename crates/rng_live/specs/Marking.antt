-- How the conditions that hold are marked: each that is marked wakes those that rest on it, which stand on a list of its own.
use Rattle.std.specs.Prelude.{◌≡◌, ℕ, ◌<◌, ◌≤◌, Bool, true, false, if◌then◌else◌, List, Option, None, Some, slice_get, length}
use Rattle.rng_restrict.specs.Finding.{is_among, with_number}
use Rattle.rng_live.specs.declared.condition.Condition.{Condition}
use Rattle.rng_live.specs.declared.waiting.Waiter.{Waiter}
use Rattle.rng_live.specs.Conditions.{Holds, holds_where, RestsOn}

-- ---- lists of those that wait

-- a number stands on the list that begins at a place
pub data OnList (waiters : List Waiter) : Option ℕ → ℕ → Type 0 where
  on_first : {at : ℕ} {w : Waiter} → slice_get waiters at ≡ Some w → OnList waiters (Some at) w.number
  on_later : {at k : ℕ} {w : Waiter} → slice_get waiters at ≡ Some w → OnList waiters w.before k → OnList waiters (Some at) k

abbrev pub list_in : Option (Option ℕ) → Option ℕ
list_in None = None
list_in (Some list) = list

-- the list of those that rest on the condition of a number
abbrev pub list_of : List (Option ℕ) → ℕ → Option ℕ
list_of lists x = list_in (slice_get lists x)

-- each list begins at a place that there is, and leads to earlier ones
pub record AreOrdered (waiters : List Waiter) (lists : List (Option ℕ)) : Type 0 where
  pub ordered : (at before : ℕ) (w : Waiter) → slice_get waiters at ≡ Some w → w.before ≡ Some before → before < at
  pub begins : (x place : ℕ) → list_of lists x ≡ Some place → place < length waiters

-- a number was put on the list of another
pub record IsNoted (on number : ℕ) (waiters : List Waiter) (lists : List (Option ℕ)) (waiters' : List Waiter)
    (lists' : List (Option ℕ)) : Type 0 where
  pub still_ordered : AreOrdered waiters lists → AreOrdered waiters' lists'
  pub stays : (x k : ℕ) → OnList waiters (list_of lists x) k → OnList waiters' (list_of lists' x) k
  pub added : on < length lists → OnList waiters' (list_of lists' on) number
  pub steady : length lists' ≡ length lists

-- a number was put on the lists of all that its condition rests on
pub record IsNotedAt (number : ℕ) (c : Condition) (waiters : List Waiter) (lists : List (Option ℕ)) (waiters' : List Waiter)
    (lists' : List (Option ℕ)) : Type 0 where
  pub still_ordered : AreOrdered waiters lists → AreOrdered waiters' lists'
  pub stays : (x k : ℕ) → OnList waiters (list_of lists x) k → OnList waiters' (list_of lists' x) k
  pub added : (x : ℕ) → RestsOn c x → x < length lists → OnList waiters' (list_of lists' x) number
  pub steady : length lists' ≡ length lists

-- each of the first so many conditions stands on the lists of all that it rests on
pub record AreListed (conditions : List Condition) (count : ℕ) (waiters : List Waiter) (lists : List (Option ℕ)) : Type 0 where
  pub ordered : AreOrdered waiters lists
  pub listed : (k x : ℕ) (c : Condition) → k < count → slice_get conditions k ≡ Some c → RestsOn c x → x < length conditions
      → OnList waiters (list_of lists x) k
  pub steady : length lists ≡ length conditions

-- ---- marks

-- the numbers that were found, with one more where its condition holds by those
abbrev pub judged_by : ℕ → ℕ → Option Condition → List ℕ → List ℕ
judged_by count number None found = found
judged_by count number (Some c) found = if holds_where (λ i. is_among i found) c then with_number count number found else found

unfoldable pub judged : List Condition → ℕ → ℕ → List ℕ → List ℕ
judged conditions count number found = judged_by count number (slice_get conditions number) found

-- a number was found from a place on
pub record IsFrom (next : ℕ) (found : List ℕ) (x : ℕ) : Type 0 where
  pub place : ℕ
  pub behind : next ≤ place
  pub is : slice_get found place ≡ Some x

-- why a condition may hold by what was found without being found itself: it wasn't judged yet, or one that it rests on will wake it
pub data IsExcused (waiters : List Waiter) (list : Option ℕ) (waking next from : ℕ) (found : List ℕ) (k : ℕ) (c : Condition) : Type 0 where
  not_yet : from ≤ k → IsExcused waiters list waking next from found k c
  will_wake : {x : ℕ} → RestsOn c x → IsFrom next found x → IsExcused waiters list waking next from found k c
  wakes_now : RestsOn c waking → OnList waiters list k → IsExcused waiters list waking next from found k c

-- what was found holds, and what holds by it was found or is excused
pub record AreSettled (conditions : List Condition) (waiters : List Waiter) (list : Option ℕ) (waking next from : ℕ)
    (found : List ℕ) : Type 0 where
  pub only : (k : ℕ) → is_among k found ≡ true → Holds conditions k
  pub excused : (k : ℕ) (c : Condition) → slice_get conditions k ≡ Some c → is_among k found ≡ false
      → holds_where (λ i. is_among i found) c ≡ true
      → IsExcused waiters list waking next from found k c
  pub within : next ≤ length found

-- those on a list were woken
abbrev pub AreWoken : List Condition → List Waiter → Option ℕ → ℕ → List ℕ → List ℕ → Type 0
AreWoken conditions waiters list waking found found' =
    (next from : ℕ) → AreSettled conditions waiters list waking next from found → AreSettled conditions waiters None waking next from found'
