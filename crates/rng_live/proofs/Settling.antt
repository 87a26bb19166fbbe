-- The work list marks exactly the conditions that hold.
use Rattle.std.proofs.Common.{◌≡◌, ℕ, zero, suc, ◌+◌, ◌<◌, ◌≤◌, List, [], ◌∷◌, ◌++◌, length, get_or, Bool, true, false, ◌&&◌, ◌||◌, ◌==◌, Option, Some, None, refl, sym, ap, subst, ◌∙◌, arith, inl, inr, ◌⊎◌, ⊎_elim, true≢false, length-append}
use Rattle.std.specs.Prelude.{slice_get, if◌then◌else◌, replicate}
use Rattle.std.specs.List.{list_any}
use Rattle.std.proofs.lemmas.Bool.{cases_Bool, cases_eq, eqb-true, eq-eqb, or_cases, or_left, or_right, and_from}
use Rattle.std.proofs.lemmas.Option.{slice_get_within, slice_get-get_or, get_or_from_slice_get}
use Rattle.std.proofs.lemmas.List.Folds.{list_any-append, list_any_at}
use Rattle.rng_restrict.specs.Finding.{is_among, with_number, IsMarked}
use Rattle.rng_restrict.proofs.Reached.{stays_without, stays_among, is_added}
use Rattle.rng_live.specs.declared.condition.Condition.{Condition}
use Rattle.rng_live.specs.declared.condition.Condition.TheVariants.{Known, If, Both, Either}
use Rattle.rng_live.specs.declared.waiting.Waiter.{Waiter}
use Rattle.rng_live.specs.Conditions.{Holds, holds_known, holds_if, holds_both, holds_first, holds_second, is_true_at, is_marked, AreHeld, holds_where, RestsOn, rests_if, rests_both_first, rests_both_second, rests_either_first, rests_either_second}
use Rattle.rng_live.specs.Marking.{OnList, on_first, on_later, list_of, AreOrdered, AreListed, judged, judged_by, IsFrom, IsExcused, not_yet, will_wake, wakes_now, AreSettled, AreWoken}
use Rattle.rng_live.proofs.Places.{at_front, at_end, front_or_end}

abbrev among : List ℕ → ℕ → Bool
among found i = is_among i found

split_and : (a b : Bool) → (a && b) ≡ true → (a ≡ true) × (b ≡ true)
split_and true b h = (refl, h)
split_and false b h = absurd (true≢false (sym h))

join_and : (a b : Bool) → a ≡ true → b ≡ true → (a && b) ≡ true
join_and a b h k = rw (h, k) refl

-- ---- tests that agree

pub holds_alike : (f h : ℕ → Bool) → ((i : ℕ) → f i ≡ h i) → (c : Condition) → holds_where f c ≡ holds_where h c
holds_alike f h same (Known b) = refl
holds_alike f h same (If b a) = ap (λ (v : Bool). b && v) (same a)
holds_alike f h same (Both a b) = let x = same a in let y = same b in cc
holds_alike f h same (Either a b) = let x = same a in let y = same b in cc

-- a mark by place
pub mark_is : (marks : List Bool) (i : ℕ) → is_marked marks i ≡ get_or marks i false
mark_is [] i = refl
mark_is (b ∷ marks) zero = refl
mark_is (b ∷ marks) (suc i) = mark_is marks i

pub marked_among : (found : List ℕ) (marks : List Bool) → IsMarked found marks → (i : ℕ) → is_marked marks i ≡ is_among i found
marked_among found marks m i = mark_is marks i ∙ m.same i

-- ---- one number more

among_more : (i n : ℕ) (found : List ℕ) → is_among i (found ++ n ∷ []) ≡ true → (is_among i found ≡ true) ⊎ (n ≡ i)
among_more i n found h = elim (or_cases (is_among i found) ((n == i) || false) (sym (list_any-append (λ m. m == i) found (n ∷ [])) ∙ h)) [
  | inl before ↦ inl before
  | inr last ↦ elim (or_cases (n == i) false last) [ inl same ↦ inr (eqb-true n i same) | inr none ↦ absurd (true≢false (sym none)) ]
]

among_before : (i n : ℕ) (found : List ℕ) → is_among i (found ++ n ∷ []) ≡ false → is_among i found ≡ false
among_before i n found h = elim (cases_Bool (is_among i found)) [
  | inl there ↦ absurd (true≢false (sym (list_any-append (λ m. m == i) found (n ∷ []) ∙ or_left _ _ there) ∙ h))
  | inr none ↦ none
]

among_itself : (n : ℕ) (found : List ℕ) → is_among n (found ++ n ∷ []) ≡ true
among_itself n found = list_any-append (λ m. m == n) found (n ∷ []) ∙ or_right (is_among n found) _ (or_left (n == n) false (eq-eqb n n refl))

-- what holds by one number more held before, or rests on that number
holds_more : (n : ℕ) (found : List ℕ) (c : Condition) → holds_where (among (found ++ n ∷ [])) c ≡ true → (holds_where (among found) c ≡ true) ⊎ RestsOn c n
holds_more n found (Known b) h = inl h
holds_more n found (If b a) h =
    let d = split_and b (is_among a (found ++ n ∷ [])) h in
    elim (among_more a n found d.1) [
      | inl old ↦ inl (join_and b (is_among a found) d.0 old)
      | inr new ↦ inr (subst (λ (x : ℕ). RestsOn (If b a) x) (sym new) rests_if)
    ]
holds_more n found (Both a b) h =
    let d = split_and (is_among a (found ++ n ∷ [])) (is_among b (found ++ n ∷ [])) h in
    elim (among_more a n found d.0) [
      | inl old ↦ elim (among_more b n found d.1) [
        | inl older ↦ inl (join_and (is_among a found) (is_among b found) old older)
        | inr new ↦ inr (subst (λ (x : ℕ). RestsOn (Both a b) x) (sym new) rests_both_second)
      ]
      | inr new ↦ inr (subst (λ (x : ℕ). RestsOn (Both a b) x) (sym new) rests_both_first)
    ]
holds_more n found (Either a b) h = elim (or_cases (is_among a (found ++ n ∷ [])) (is_among b (found ++ n ∷ [])) h) [
  | inl first ↦ elim (among_more a n found first) [
    | inl old ↦ inl (or_left (is_among a found) (is_among b found) old)
    | inr new ↦ inr (subst (λ (x : ℕ). RestsOn (Either a b) x) (sym new) rests_either_first)
  ]
  | inr second ↦ elim (among_more b n found second) [
    | inl old ↦ inl (or_right (is_among a found) (is_among b found) old)
    | inr new ↦ inr (subst (λ (x : ℕ). RestsOn (Either a b) x) (sym new) rests_either_second)
  ]
]

-- ---- reasons

-- what holds by numbers that hold, holds
holds_by : (conditions : List Condition) (found : List ℕ) → ((k : ℕ) → is_among k found ≡ true → Holds conditions k) → (n : ℕ) (c : Condition) → slice_get conditions n ≡ Some c → holds_where (among found) c ≡ true → Holds conditions n
holds_by conditions found only n (Known b) e h = holds_known (e ∙ ap (λ (v : Bool). Some (Known v)) h)
holds_by conditions found only n (If b a) e h =
    let d = split_and b (is_among a found) h in
    holds_if (e ∙ ap (λ (v : Bool). Some (If v a)) d.0) (only a d.1)
holds_by conditions found only n (Both a b) e h = let d = split_and (is_among a found) (is_among b found) h in holds_both e (only a d.0) (only b d.1)
holds_by conditions found only n (Either a b) e h = elim (or_cases (is_among a found) (is_among b found) h) [ inl i ↦ holds_first e (only a i) | inr i ↦ holds_second e (only b i) ]

-- ---- judging

-- a number is judged: nothing changes, where its condition doesn't hold or it was found, or it is found now
data IsJudged (conditions : List Condition) (n : ℕ) (found : List ℕ) : List ℕ → Type 0 where
  found_before : is_among n found ≡ true → IsJudged conditions n found found
  holds_not : ((c : Condition) → slice_get conditions n ≡ Some c → holds_where (among found) c ≡ true → ⊥) → IsJudged conditions n found found
  found_now : {c : Condition} → slice_get conditions n ≡ Some c → holds_where (among found) c ≡ true → IsJudged conditions n found (found ++ n ∷ [])

judged_is : (conditions : List Condition) (n : ℕ) (found : List ℕ) → IsJudged conditions n found (judged conditions (length conditions) n found)
unfolding judged
judged_is conditions n found = go (slice_get conditions n) refl
  where
    added : (c : Condition) → slice_get conditions n ≡ Some c → holds_where (among found) c ≡ true → (b : Bool) → is_among n found ≡ b → IsJudged conditions n found (with_number (length conditions) n found)
    added c e h true there = subst (λ (x : List ℕ). IsJudged conditions n found x) (sym (stays_among (length conditions) n found there)) (found_before there)
    added c e h false new = subst (λ (x : List ℕ). IsJudged conditions n found x) (sym (is_added (length conditions) n found (slice_get_within conditions n c e) new)) (found_now e h)

    by_holds : (c : Condition) → slice_get conditions n ≡ Some c → (b : Bool) → holds_where (among found) c ≡ b → IsJudged conditions n found (if b then with_number (length conditions) n found else found)
    by_holds c e true h = added c e h (is_among n found) refl
    by_holds c e false h = holds_not (λ d f k. let same : d ≡ c = cc in true≢false (sym k ∙ ap (holds_where (among found)) same ∙ h))

    go : (o : Option Condition) → slice_get conditions n ≡ o → IsJudged conditions n found (judged_by (length conditions) n o found)
    go None e = holds_not (λ d f k. let none : None ≡ Some d = sym e ∙ f in cc)
    go (Some c) e = by_holds c e (holds_where (among found) c) refl

-- a number that was found from a place on still was
from_more : {next x : ℕ} {found : List ℕ} (n : ℕ) → IsFrom next found x → IsFrom next (found ++ n ∷ []) x
from_more {x = x} {found = found} n f = record { place = f.place; behind = f.behind; is = at_front found (n ∷ []) f.place x f.is }

from_last : (next n : ℕ) (found : List ℕ) → next ≤ length found → IsFrom next (found ++ n ∷ []) n
from_last next n found h = record { place = length found; behind = h; is = at_end found n }

excused_more : {waiters : List Waiter} {list : Option ℕ} {waking next from : ℕ} {found : List ℕ} {k : ℕ} {c : Condition} (n : ℕ) → IsExcused waiters list waking next from found k c → IsExcused waiters list waking next from (found ++ n ∷ []) k c
excused_more n (not_yet h) = not_yet h
excused_more n (will_wake r f) = will_wake r (from_more n f)
excused_more n (wakes_now r o) = wakes_now r o

-- what a number's judgement leaves open: that number isn't excused any more
record Rejudged (conditions : List Condition) (waiters : List Waiter) (list : Option ℕ) (waking next from n : ℕ) (found : List ℕ) : Type 0 where
  only : (k : ℕ) → is_among k found ≡ true → Holds conditions k
  excused : (k : ℕ) (c : Condition) → slice_get conditions k ≡ Some c → is_among k found ≡ false → holds_where (among found) c ≡ true
      → (k ≡ n → (x : ℕ) × RestsOn c x × IsFrom next found x) × IsExcused waiters list waking next from found k c
  within : next ≤ length found

rejudged : {conditions : List Condition} {waiters : List Waiter} {list : Option ℕ} {waking next from n : ℕ} {found found' : List ℕ} → IsJudged conditions n found found' → AreSettled conditions waiters list waking next from found → Rejudged conditions waiters list waking next from n found'
rejudged {found = found} (found_before there) s = record {
  only = s.only;
  excused = λ k c e new h. (λ same. absurd (true≢false (sym there ∙ ap (λ (x : ℕ). is_among x found) (sym same) ∙ new)), s.excused k c e new h);
  within = s.within;
}
rejudged {conditions = conditions} (holds_not none) s = record {
  only = s.only;
  excused = λ k c e new h. (λ same. absurd (none c (ap (slice_get conditions) (sym same) ∙ e) h), s.excused k c e new h);
  within = s.within;
}
rejudged {conditions = conditions} {next = next} {n = n} {found = found} (found_now {c = d} is holds) s = record {
  only = λ k there. elim (among_more k n found there) [
    | inl old ↦ s.only k old
    | inr new ↦ subst (λ (x : ℕ). Holds conditions x) new (holds_by conditions found s.only n d is holds)
  ];
  excused = λ k c e new h. (
    (λ same. absurd (true≢false (sym (among_itself n found) ∙ ap (λ (x : ℕ). is_among x (found ++ n ∷ [])) (sym same) ∙ new))),
    elim (holds_more n found c h) [
      | inl before ↦ excused_more n (s.excused k c e (among_before k n found new) before)
      | inr rests ↦ will_wake rests (from_last next n found s.within)
    ],
  );
  within = let m = s.within in omega (arith, length-append found (n ∷ []));
}

-- ---- the steps

-- in the order of their numbers
pub settled_first : (conditions : List Condition) (waiters : List Waiter) (found : List ℕ) → found ≡ [] → AreSettled conditions waiters None 0 0 0 found
settled_first conditions waiters found none = record {
  only = λ k there. absurd (true≢false (sym there ∙ ap (is_among k) none));
  excused = λ k c e new h. not_yet (omega arith);
  within = omega arith;
}

pub settled_more : (conditions : List Condition) (waiters : List Waiter) (n : ℕ) (found found' : List ℕ) → found' ≡ judged conditions (length conditions) n found → AreSettled conditions waiters None 0 0 n found → AreSettled conditions waiters None 0 0 (n + 1) found'
settled_more conditions waiters n found found' is s = record {
  only = r.only;
  excused = λ k c e new h. let x = r.excused k c e new h in later k c x.0 x.1;
  within = r.within;
}
  where
    r : Rejudged conditions waiters None 0 0 n n found'
    r = rejudged (subst (λ (y : List ℕ). IsJudged conditions n found y) (sym is) (judged_is conditions n found)) s

    later : (k : ℕ) (c : Condition) → (k ≡ n → (x : ℕ) × RestsOn c x × IsFrom 0 found' x) → IsExcused waiters None 0 0 n found' k c → IsExcused waiters None 0 0 (n + 1) found' k c
    later k c here (will_wake q f) = will_wake q f
    later k c here (wakes_now q o) = elim o [ ]
    later k c here (not_yet h) = elim (cases_eq k n) [
      | inl same ↦ let w = here same in will_wake w.1 w.2
      | inr other ↦ not_yet (omega arith)
    ]

-- the next one that was found wakes those on its list
pub settled_wakes : {conditions : List Condition} {waiters : List Waiter} {lists : List (Option ℕ)} {next number count : ℕ} {found : List ℕ} → AreListed conditions (length conditions) waiters lists → slice_get found next ≡ Some number → number < length conditions
    → count ≡ length conditions → AreSettled conditions waiters None 0 next count found → AreSettled conditions waiters (list_of lists number) number (next + 1) count found
settled_wakes {conditions = conditions} {waiters = waiters} {lists = lists} {next = next} {number = number} {count = count} {found = found} are is inside whole s = record {
  only = s.only;
  excused = λ k c e new h. now k c e (s.excused k c e new h);
  within = let low = slice_get_within found next number is in omega arith;
}
  where
    now : (k : ℕ) (c : Condition) → slice_get conditions k ≡ Some c → IsExcused waiters None 0 next count found k c → IsExcused waiters (list_of lists number) number (next + 1) count found k c
    now k c e (not_yet h) = not_yet h
    now k c e (wakes_now q o) = elim o [ ]
    now k c e (will_wake {x = x} q f) = elim (cases_eq f.place next) [
      | inl same ↦
          let here : Some x ≡ Some number = sym f.is ∙ ap (slice_get found) same ∙ is in
          let this : x ≡ number = cc in
          let rests : RestsOn c number = subst (λ (y : ℕ). RestsOn c y) this q in
          wakes_now rests (are.listed k number c (slice_get_within conditions k c e) e rests inside)
      | inr other ↦
          let low = f.behind in
          will_wake q (record { place = f.place; behind = omega arith; is = f.is })
    ]

-- one on the list is judged
pub woken_one : {conditions : List Condition} {waiters : List Waiter} {at waking next from : ℕ} {w : Waiter} {found found' : List ℕ} → slice_get waiters at ≡ Some w → found' ≡ judged conditions (length conditions) w.number found → AreSettled conditions waiters (Some at) waking next from found → AreSettled conditions waiters w.before waking next from found'
woken_one {conditions = conditions} {waiters = waiters} {at = at} {waking = waking} {next = next} {from = from} {w = w} {found = found} {found' = found'} is more s = record {
  only = r.only;
  excused = λ k c e new h. let x = r.excused k c e new h in later k c x.0 x.1;
  within = r.within;
}
  where
    r : Rejudged conditions waiters (Some at) waking next from w.number found'
    r = rejudged (subst (λ (y : List ℕ). IsJudged conditions w.number found y) (sym more) (judged_is conditions w.number found)) s

    on_rest : (k : ℕ) → OnList waiters (Some at) k → (k ≡ w.number) ⊎ OnList waiters w.before k
    on_rest k (on_first {w = v} e) = let same : v ≡ w = cc in inl (ap (λ (x : Waiter). x.number) same)
    on_rest k (on_later {w = v} e o) = let same : v ≡ w = cc in inr (subst (λ (x : Waiter). OnList waiters x.before k) same o)

    later : (k : ℕ) (c : Condition) → (k ≡ w.number → (x : ℕ) × RestsOn c x × IsFrom next found' x) → IsExcused waiters (Some at) waking next from found' k c → IsExcused waiters w.before waking next from found' k c
    later k c here (not_yet h) = not_yet h
    later k c here (will_wake q f) = will_wake q f
    later k c here (wakes_now q o) = elim (on_rest k o) [
      | inl same ↦ let v = here same in will_wake v.1 v.2
      | inr rest ↦ wakes_now q rest
    ]

-- a list ends where nothing stands at its place
pub woken_end : {conditions : List Condition} {waiters : List Waiter} {at waking next from : ℕ} {found : List ℕ} → slice_get waiters at ≡ None → AreSettled conditions waiters (Some at) waking next from found → AreSettled conditions waiters None waking next from found
woken_end {waiters = waiters} {at = at} {waking = waking} {next = next} {from = from} {found = found} none s = record { only = s.only; excused = λ k c e new h. ended (s.excused k c e new h); within = s.within }
  where
    ended : {k : ℕ} {c : Condition} → IsExcused waiters (Some at) waking next from found k c → IsExcused waiters None waking next from found k c
    ended (not_yet h) = not_yet h
    ended (will_wake q f) = will_wake q f
    ended (wakes_now q (on_first e)) = cc
    ended (wakes_now q (on_later e o)) = cc

-- which number was waking counts for nothing when its list is through
pub woken_all : {conditions : List Condition} {waiters : List Waiter} {waking next from : ℕ} {found : List ℕ} → AreSettled conditions waiters None waking next from found → AreSettled conditions waiters None 0 next from found
woken_all {waiters = waiters} {waking = waking} {next = next} {from = from} {found = found} s = record { only = s.only; excused = λ k c e new h. ended (s.excused k c e new h); within = s.within }
  where
    ended : {k : ℕ} {c : Condition} → IsExcused waiters None waking next from found k c → IsExcused waiters None 0 next from found k c
    ended (not_yet h) = not_yet h
    ended (will_wake q f) = will_wake q f
    ended (wakes_now q o) = elim o [ ]

-- ---- the end

module _ {conditions : List Condition} {waiters : List Waiter} {next count : ℕ} {found : List ℕ} (s : AreSettled conditions waiters None 0 next count found) (end : length found ≤ next) (whole : count ≡ length conditions) where
  none_open : (k : ℕ) (c : Condition) → slice_get conditions k ≡ Some c → holds_where (among found) c ≡ true → is_among k found ≡ true
  none_open k c e h = go (is_among k found) refl
    where
      open_not : IsExcused waiters None 0 next count found k c → ⊥
      open_not (not_yet low) = let inside = slice_get_within conditions k c e in omega arith
      open_not (wakes_now q o) = elim o [ ]
      open_not (will_wake {x = x} q f) = let low = slice_get_within found f.place x f.is in let b = f.behind in omega arith

      go : (b : Bool) → is_among k found ≡ b → is_among k found ≡ true
      go true there = there
      go false new = absurd (open_not (s.excused k c e new h))

  all_found : {k : ℕ} → Holds conditions k → is_among k found ≡ true
  all_found {k = k} (holds_known e) = none_open k (Known true) e refl
  all_found {k = k} (holds_if {a = a} e h) = none_open k (If true a) e (all_found h)
  all_found {k = k} (holds_both {a = a} {b = b} e h i) = none_open k (Both a b) e (join_and (is_among a found) (is_among b found) (all_found h) (all_found i))
  all_found {k = k} (holds_first {a = a} {b = b} e h) = none_open k (Either a b) e (or_left (is_among a found) (is_among b found) (all_found h))
  all_found {k = k} (holds_second {a = a} {b = b} e h) = none_open k (Either a b) e (or_right (is_among a found) (is_among b found) (all_found h))

  pub settled_held : (marks : List Bool) → IsMarked found marks → AreHeld conditions marks
  settled_held marks m = record {
    only = λ k marked. s.only k (sym (marked_among found marks m k) ∙ marked);
    all = λ k h. marked_among found marks m k ∙ all_found h;
  }

-- ---- judging, in the code's cases

pub judged_nothing : (conditions : List Condition) (count n : ℕ) (found : List ℕ) → slice_get conditions n ≡ None → found ≡ judged conditions count n found
unfolding judged
judged_nothing conditions count n found e = sym (ap (λ (o : Option Condition). judged_by count n o found) e)

pub judged_outside : (conditions : List Condition) (count n : ℕ) (found : List ℕ) → count ≤ n → found ≡ judged conditions count n found
unfolding judged
judged_outside conditions count n found h = go (slice_get conditions n)
  where
    by : (b : Bool) → found ≡ (if b then with_number count n found else found)
    by true = sym (stays_without count n found h)
    by false = refl

    go : (o : Option Condition) → found ≡ judged_by count n o found
    go None = refl
    go (Some c) = by (holds_where (among found) c)

pub judged_before : (conditions : List Condition) (count n : ℕ) (found : List ℕ) → is_among n found ≡ true → found ≡ judged conditions count n found
unfolding judged
judged_before conditions count n found h = go (slice_get conditions n)
  where
    by : (b : Bool) → found ≡ (if b then with_number count n found else found)
    by true = sym (stays_among count n found h)
    by false = refl

    go : (o : Option Condition) → found ≡ judged_by count n o found
    go None = refl
    go (Some c) = by (holds_where (among found) c)

pub judged_not : (conditions : List Condition) (count n : ℕ) (found : List ℕ) {c : Condition} → slice_get conditions n ≡ Some c → holds_where (among found) c ≡ false → found ≡ judged conditions count n found
unfolding judged
judged_not conditions count n found e h = sym (ap (λ (o : Option Condition). judged_by count n o found) e ∙ ap (λ (b : Bool). if b then with_number count n found else found) h)

pub judged_now : (conditions : List Condition) (count n : ℕ) (found : List ℕ) {c : Condition} → slice_get conditions n ≡ Some c → holds_where (among found) c ≡ true → n < count → is_among n found ≡ false → found ++ n ∷ [] ≡ judged conditions count n found
unfolding judged
judged_now conditions count n found e h inside new =
    sym (ap (λ (o : Option Condition). judged_by count n o found) e ∙ ap (λ (b : Bool). if b then with_number count n found else found) h ∙ is_added count n found inside new)

-- the same by marks
pub holds_by_marks : {found : List ℕ} {marks : List Bool} {b : Bool} (c : Condition) → IsMarked found marks → holds_where (is_marked marks) c ≡ b → holds_where (among found) c ≡ b
holds_by_marks {found = found} {marks = marks} c m h = sym (holds_alike (is_marked marks) (among found) (marked_among found marks m) c) ∙ h

-- ---- along a list

-- the place where a list begins, and one more; 0 where it is none
abbrev pub list_left : Option ℕ → ℕ
list_left None = zero
list_left (Some place) = suc place

-- those in front of a place of a list were woken
pub record IsWaking (conditions : List Condition) (waiters : List Waiter) (lists : List (Option ℕ)) (number : ℕ) (found : List ℕ) (list : Option ℕ) (found' : List ℕ) : Type 0 where
  pub woken : (next from : ℕ) → AreSettled conditions waiters (list_of lists number) number next from found → AreSettled conditions waiters list number next from found'

pub waking_first : {conditions : List Condition} {waiters : List Waiter} {lists : List (Option ℕ)} {number : ℕ} {found : List ℕ} {list : Option ℕ} → list ≡ list_of lists number → IsWaking conditions waiters lists number found list found
waking_first {conditions = conditions} {waiters = waiters} {number = number} {found = found} e = record { woken = λ next from s. subst (λ (l : Option ℕ). AreSettled conditions waiters l number next from found) (sym e) s }

pub waking_more : {conditions : List Condition} {waiters : List Waiter} {lists : List (Option ℕ)} {number count at : ℕ} {found between found' : List ℕ} {list : Option ℕ} (w : Waiter) → list ≡ Some at → Some w ≡ slice_get waiters at → count ≡ length conditions
    → found' ≡ judged conditions count w.number between → IsWaking conditions waiters lists number found list between → IsWaking conditions waiters lists number found w.before found'
waking_more {conditions = conditions} {waiters = waiters} {number = number} {at = at} {between = between} {found' = found'} w e is whole more k = record {
  woken = λ next from s. woken_one {w = w} (sym is) (more ∙ ap (λ (n : ℕ). judged conditions n w.number between) whole) (subst (λ (l : Option ℕ). AreSettled conditions waiters l number next from between) e (k.woken next from s));
}

pub waking_ends : {conditions : List Condition} {waiters : List Waiter} {lists : List (Option ℕ)} {number at : ℕ} {found found' : List ℕ} {list : Option ℕ} → list ≡ Some at → None ≡ slice_get waiters at → IsWaking conditions waiters lists number found list found' → AreWoken conditions waiters (list_of lists number) number found found'
waking_ends {conditions = conditions} {waiters = waiters} {number = number} {found' = found'} e none k next from s = woken_end (sym none) (subst (λ (l : Option ℕ). AreSettled conditions waiters l number next from found') e (k.woken next from s))

pub waking_whole : {conditions : List Condition} {waiters : List Waiter} {lists : List (Option ℕ)} {number : ℕ} {found found' : List ℕ} {list : Option ℕ} → list ≡ None → IsWaking conditions waiters lists number found list found' → AreWoken conditions waiters (list_of lists number) number found found'
waking_whole {conditions = conditions} {waiters = waiters} {number = number} {found' = found'} e k next from s = subst (λ (l : Option ℕ). AreSettled conditions waiters l number next from found') e (k.woken next from s)

pub list_falls : {waiters : List Waiter} {lists : List (Option ℕ)} {at : ℕ} {list : Option ℕ} (w : Waiter) → AreOrdered waiters lists → list ≡ Some at → Some w ≡ slice_get waiters at → list_left w.before < list_left list
list_falls {waiters = waiters} {at = at} {list = list} w are e is = subst (λ (l : Option ℕ). list_left w.before < list_left l) (sym e) (go w.before refl)
  where
    go : (b : Option ℕ) → w.before ≡ b → list_left b < suc at
    go None f = omega arith
    go (Some before) f = let low = are.ordered at before w (sym is) f in omega arith

holds_within : {conditions : List Condition} {k : ℕ} → Holds conditions k → k < length conditions
holds_within {conditions = conditions} {k = k} (holds_known e) = slice_get_within conditions k (Known true) e
holds_within {conditions = conditions} {k = k} (holds_if {a = a} e h) = slice_get_within conditions k (If true a) e
holds_within {conditions = conditions} {k = k} (holds_both {a = a} {b = b} e h i) = slice_get_within conditions k (Both a b) e
holds_within {conditions = conditions} {k = k} (holds_first {a = a} {b = b} e h) = slice_get_within conditions k (Either a b) e
holds_within {conditions = conditions} {k = k} (holds_second {a = a} {b = b} e h) = slice_get_within conditions k (Either a b) e

-- the next one that was found has woken those on its list
pub next_woken : {conditions : List Condition} {waiters : List Waiter} {lists : List (Option ℕ)} {next number : ℕ} {found found' : List ℕ} → AreListed conditions (length conditions) waiters lists → next < length found → number ≡ get_or found next number
    → AreWoken conditions waiters (list_of lists number) number found found' → AreSettled conditions waiters None 0 next (length conditions) found → AreSettled conditions waiters None 0 (next + 1) (length conditions) found'
next_woken {conditions = conditions} {next = next} {number = number} {found = found} are inside read woken s =
    let at : slice_get found next ≡ Some number = slice_get-get_or found next number inside ∙ ap (λ (x : ℕ). Some x) (sym read) in
    let there : is_among number found ≡ true = among_at found next number at in
    woken_all (woken (next + 1) (length conditions) (settled_wakes are at (holds_within (s.only number there)) refl s))
  where
    among_at : (xs : List ℕ) (k n : ℕ) → slice_get xs k ≡ Some n → is_among n xs ≡ true
    among_at xs k n e =
        let low = slice_get_within xs k n e in
        list_any_at (λ m. m == n) xs k 0 low (eq-eqb (get_or xs k 0) n (get_or_from_slice_get xs k n 0 e))
