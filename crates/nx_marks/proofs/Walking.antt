-- Steps along what is kept.
use Rattle.std.proofs.Common.{◌≡◌, ◌⊎◌, inl, inr, ℕ, ◌+◌, ◌-◌, ◌<◌, ◌≤◌, Bool, true, false, nat_le, List, [], ◌∷◌, ◌++◌, length, take, drop, refl, sym, ap, subst, ◌∙◌, arith, append_assoc}
use Rattle.std.specs.Prelude.{if◌then◌else◌}
use Rattle.std.proofs.lemmas.List.{length-append, append-nil}
use Rattle.std.proofs.lemmas.Bool.Decides.{nat_tests}
use Rattle.nx_marks.specs.Chain.{Kept, all_of, frontier_of, reach}
use Rattle.nx_marks.specs.Tree.{count_up_to}
use Rattle.nx_marks.specs.Walking.{Moved, MovesBack, MovesOn, DropsBetween, GoesBack, GoesOn, ComesBack, AreUpTo}
use Rattle.nx_marks.specs.declared.mark.Mark.{Mark}
use Rattle.nx_marks.proofs.Backs.{reach-append}
use Rattle.nx_marks.proofs.Trees.{count-most, is-empty, is-up-to}

kept_at : {S : Type 0} → List (Mark S) → Mark S → Bool → List (Mark S) → Kept S
kept_at front here marked aside = record { front = front; here = here; marked = marked; aside = aside }

-- ---- several steps

pub moved-all : {S : Type 0} (n : ℕ) (k j : Kept S) → Moved n k j → all_of j ≡ all_of k
moved-all n k j m =
    ap (λ l. l ++ j.here ∷ j.aside) m.front ∙ append_assoc k.front (k.here ∷ m.more) (j.here ∷ j.aside) ∙ ap (λ l. k.front ++ k.here ∷ l) (sym m.aside)

-- the one that lies at the count is where the old place was
pub moved_on : {S : Type 0} (front front' front'' aside within behind more : List (Mark S)) (here here' node node' : Mark S) (marked : Bool) (n : ℕ) →
    aside ≡ within ++ behind → length within ≡ n → within ≡ more ++ node ∷ [] → node' ≡ here → here' ≡ node → front' ≡ front ++ node' ∷ [] → front'' ≡ front' ++ more →
    Moved n (record { front = front; here = here; marked = marked; aside = aside }) (record { front = front''; here = here'; marked = marked; aside = behind })
moved_on front front' front'' aside within behind more here here' node node' marked n a l w s h f g = record {
  more = more;
  front = g ∙ ap (λ x. x ++ more) f ∙ append_assoc front (node' ∷ []) more ∙ ap (λ x. front ++ x ∷ more) s;
  aside = a ∙ ap (λ x. x ++ behind) w ∙ append_assoc more (node ∷ []) behind ∙ ap (λ x. more ++ x ∷ behind) (sym h);
  marked = refl;
  many = (let i = ap length w in let j = length-append more (node ∷ []) in omega arith);
}

pub moved_back : {S : Type 0} (front kept aside aside' single both passed more : List (Mark S)) (here here' node node' : Mark S) (marked : Bool) (n : ℕ) →
    front ≡ kept ++ passed → length kept + n ≡ length front → passed ≡ node ∷ more → node' ≡ here → here' ≡ node → single ≡ node' ∷ [] → both ≡ more ++ single → aside' ≡ both ++ aside →
    Moved n (record { front = kept; here = here'; marked = marked; aside = aside' }) (record { front = front; here = here; marked = marked; aside = aside })
moved_back front kept aside aside' single both passed more here here' node node' marked n f l p s h t b a = record {
  more = more;
  front = f ∙ ap (λ x. kept ++ x) p ∙ ap (λ x. kept ++ x ∷ more) (sym h);
  aside = a ∙ ap (λ x. x ++ aside) (b ∙ ap (λ x. more ++ x) t) ∙ append_assoc more (node' ∷ []) aside ∙ ap (λ x. more ++ x ∷ aside) s;
  marked = refl;
  many = (let i = ap length f in let j = length-append kept passed in let k = ap length p in omega arith);
}

-- ---- how far it goes

-- marks no more than there are up to a place reach no farther
pub up-to-within : {S : Type 0} (at : ℕ) (xs ys : List (Mark S)) → length xs ≤ count_up_to at (xs ++ ys) → reach xs ≤ at
up-to-within at [] ys le = omega arith
up-to-within at (x ∷ xs) ys le = by (nat_le x.len at) refl le (λ h. up-to-within (at - x.len) xs ys h)
  where
    by : (c : Bool) → nat_le x.len at ≡ c → length (x ∷ xs) ≤ (if c then 1 + count_up_to (at - x.len) (xs ++ ys) else 0) → (length xs ≤ count_up_to (at - x.len) (xs ++ ys) → reach xs ≤ at - x.len) → reach (x ∷ xs) ≤ at
    by true e h rest = let n : x.len ≤ at = grind (arith, nat_tests) in let r = rest (omega arith) in omega arith
    by false e h rest = absurd (omega arith)

-- the one behind them reaches farther
pub up-to-next : {S : Type 0} (at : ℕ) (xs : List (Mark S)) (y : Mark S) (ys : List (Mark S)) → count_up_to at (xs ++ y ∷ ys) ≤ length xs → at < reach xs + y.len
up-to-next at [] y ys le = by (nat_le y.len at) refl le
  where
    by : (c : Bool) → nat_le y.len at ≡ c → (if c then 1 + count_up_to (at - y.len) ys else 0) ≤ 0 → at < 0 + y.len
    by true e h = absurd (omega arith)
    by false e h = grind (arith, nat_tests)
up-to-next at (x ∷ xs) y ys le = by (nat_le x.len at) refl le (λ h. up-to-next (at - x.len) xs y ys h)
  where
    by : (c : Bool) → nat_le x.len at ≡ c → (if c then 1 + count_up_to (at - x.len) (xs ++ y ∷ ys) else 0) ≤ length (x ∷ xs) → (count_up_to (at - x.len) (xs ++ y ∷ ys) ≤ length xs → at - x.len < reach xs + y.len) → at < reach (x ∷ xs) + y.len
    by true e h rest = let n : x.len ≤ at = grind (arith, nat_tests) in let r = rest (omega arith) in omega arith
    by false e h rest = let n : at < x.len = grind (arith, nat_tests) in omega arith

-- so many of the front stay: those up to the place before
pub went_back : {S : Type 0} (from kept n : ℕ) (old new : Kept S) → ((from ≡ 0) × (kept ≡ 0)) ⊎ ((0 < from) × (kept ≡ count_up_to (from - 1) old.front)) → n ≡ length old.front - kept → from ≤ frontier_of old → MovesBack n old new → GoesBack from old new
went_back {S = S} from kept n old new k e le (inl same) =
    let all : length old.front ≤ kept = omega (arith, same.0) in
    let P : Kept S → Type 0 = λ i. GoesBack from old i in
    subst P (sym same.1) (record { all = refl; passed = []; front = sym (append-nil old.front); touched = omega arith; there = stays k all })
  where
    stays : ((from ≡ 0) × (kept ≡ 0)) ⊎ ((0 < from) × (kept ≡ count_up_to (from - 1) old.front)) → length old.front ≤ kept → (frontier_of old < from) ⊎ (old.front ≡ [])
    stays (inl z) all = inr (is-empty old.front (omega (arith, z.1)))
    stays (inr z) all =
        let C : List (Mark S) → Type 0 = λ l. length old.front ≤ count_up_to (from - 1) l in
        let r = up-to-within (from - 1) old.front [] (subst C (sym (append-nil old.front)) (omega (arith, z.1))) in
        inl (omega (arith, z.0))
went_back {S = S} from kept n old new k e le (inr m) =
    record {
      all = sym (moved-all n new old m);
      passed = new.here ∷ m.more;
      front = m.front;
      touched = touches k;
      there = before k;
    }
  where
    long : length old.front ≡ length new.front + (length m.more + 1)
    long = let a = ap length m.front in let b = length-append new.front (new.here ∷ m.more) in omega arith

    count : kept ≤ length old.front → length new.front ≡ kept
    count h = omega (arith, long, m.many, e)

    touches : ((from ≡ 0) × (kept ≡ 0)) ⊎ ((0 < from) × (kept ≡ count_up_to (from - 1) old.front)) → from ≤ reach new.front + new.here.len
    touches (inl z) = omega (arith, z.0)
    touches (inr z) =
        let most = count-most (from - 1) old.front in
        let c = count (omega (arith, z.1)) in
        let C : List (Mark S) → Type 0 = λ l. count_up_to (from - 1) l ≤ length new.front in
        let r = up-to-next (from - 1) new.front new.here m.more (subst C m.front (omega (arith, z.1))) in
        omega (arith, z.0)

    before : ((from ≡ 0) × (kept ≡ 0)) ⊎ ((0 < from) × (kept ≡ count_up_to (from - 1) old.front)) → (reach new.front < from) ⊎ (new.front ≡ [])
    before (inl z) = inr (is-empty new.front (let c = count (omega (arith, z.1)) in omega (arith, z.1)))
    before (inr z) =
        let most = count-most (from - 1) old.front in
        let c = count (omega (arith, z.1)) in
        let C : List (Mark S) → Type 0 = λ l. length new.front ≤ count_up_to (from - 1) l in
        let r = up-to-within (from - 1) new.front (new.here ∷ m.more) (subst C m.front (omega (arith, z.1))) in
        inl (omega (arith, z.0))

pub stayed : {S : Type 0} (from : ℕ) (k : Kept S) → frontier_of k < from → from ≤ frontier_of k + k.here.len → GoesOn from k k
stayed from k lt le = record { all = refl; marked = refl; passed = []; front = sym (append-nil k.front); before = lt; there = inr le }

-- so many of those aside were passed: those up to the place before, and one more, if there is one
pub went_on : {S : Type 0} (from next before n : ℕ) (old new : Kept S) → frontier_of old < from → next ≡ frontier_of old + old.here.len → next < from → before ≡ count_up_to (from - 1 - next) old.aside → (n ≤ before + 1) × (n ≤ length old.aside) → (n ≡ length old.aside) ⊎ (n ≡ before + 1) → MovesOn n old new → GoesOn from old new
went_on {S = S} from next before n old new lt e far b le or (inl same) =
    let P : Kept S → Type 0 = λ i. GoesOn from old i in
    subst P (sym same.1) (record { all = refl; marked = refl; passed = []; front = sym (append-nil old.front); before = lt; there = inl (is-empty old.aside (zero or)) })
  where
    zero : (n ≡ length old.aside) ⊎ (n ≡ before + 1) → length old.aside ≤ 0
    zero (inl z) = omega (arith, same.0)
    zero (inr z) = absurd (omega (arith, same.0))
went_on {S = S} from next before n old new lt e far b le or (inr m) =
    record {
      all = moved-all n old new m;
      marked = m.marked;
      passed = old.here ∷ m.more;
      front = m.front;
      before = omega (arith, there, within);
      there = behind or;
    }
  where
    there : reach new.front ≡ next + reach m.more
    there = let r = ap reach m.front in let a = reach-append old.front (old.here ∷ m.more) in omega arith

    within : reach m.more ≤ from - 1 - next
    within =
        let C : List (Mark S) → Type 0 = λ l. length m.more ≤ count_up_to (from - 1 - next) l in
        up-to-within (from - 1 - next) m.more (new.here ∷ new.aside) (subst C m.aside (omega (arith, m.many, le.0)))

    behind : (n ≡ length old.aside) ⊎ (n ≡ before + 1) → (new.aside ≡ []) ⊎ (from ≤ reach new.front + new.here.len)
    behind (inl z) = inl (is-empty new.aside (let l = ap length m.aside in let a = length-append m.more (new.here ∷ new.aside) in omega (arith, m.many)))
    behind (inr z) =
        let C : List (Mark S) → Type 0 = λ l. count_up_to (from - 1 - next) l ≤ length m.more in
        let r = up-to-next (from - 1 - next) m.more new.here new.aside (subst C m.aside (omega (arith, m.many))) in
        inr (omega (arith, there))

pub came_back : {S : Type 0} (len n : ℕ) (old new : Kept S) → n + len ≡ length old.front → MovesBack n old new → ComesBack len old new
came_back {S = S} len n old new e (inl same) =
    let P : Kept S → Type 0 = λ i. ComesBack len old i in
    subst P (sym same.1) (record { all = refl; marked = refl; front = omega (arith, same.0) })
came_back len n old new e (inr m) =
    record {
      all = sym (moved-all n new old m);
      marked = sym m.marked;
      front = (let l = ap length m.front in let a = length-append new.front (new.here ∷ m.more) in omega (arith, m.many));
    }

up_to_counted : {S : Type 0} (to p : ℕ) (xs ys : List (Mark S)) → p ≤ to → length xs ≤ count_up_to (to - p) (xs ++ ys) + 1 → AreUpTo to p xs
up_to_counted to p [] ys le h = tt
up_to_counted to p (x ∷ []) ys le h = (le, tt)
up_to_counted to p (x ∷ y ∷ xs) ys le h = by (nat_le x.len (to - p)) refl h (λ f e. up_to_counted to (p + x.len) (y ∷ xs) ys f e)
  where
    by : (c : Bool) → nat_le x.len (to - p) ≡ c → length (x ∷ y ∷ xs) ≤ (if c then 1 + count_up_to (to - p - x.len) (y ∷ xs ++ ys) else 0) + 1 →
        (p + x.len ≤ to → length (y ∷ xs) ≤ count_up_to (to - (p + x.len)) (y ∷ xs ++ ys) + 1 → AreUpTo to (p + x.len) (y ∷ xs)) → AreUpTo to p (x ∷ y ∷ xs)
    by true e n rest =
        let f : x.len ≤ to - p = is-up-to x.len (to - p) e in
        let same : to - p - x.len ≡ to - (p + x.len) = omega arith in
        let C : ℕ → Type 0 = λ m. length (y ∷ xs) ≤ count_up_to m (y ∷ xs ++ ys) + 1 in
        (le, rest (omega arith) (subst C same (omega arith)))
    by false e n rest = absurd (omega arith)

-- more than are counted reach farther
up-to-beyond : {S : Type 0} (at : ℕ) (xs ys : List (Mark S)) → count_up_to at (xs ++ ys) < length xs → at < reach xs
up-to-beyond at [] ys lt = absurd (omega arith)
up-to-beyond at (x ∷ xs) ys lt = by (nat_le x.len at) refl lt (λ h. up-to-beyond (at - x.len) xs ys h)
  where
    by : (c : Bool) → nat_le x.len at ≡ c → (if c then 1 + count_up_to (at - x.len) (xs ++ ys) else 0) < length (x ∷ xs) → (count_up_to (at - x.len) (xs ++ ys) < length xs → at - x.len < reach xs) → at < reach (x ∷ xs)
    by true e h rest = let n = is-up-to x.len at e in let r = rest (omega arith) in omega arith
    by false e h rest = let n : at < x.len = grind (arith, nat_tests) in omega arith

-- those up to a place go, and one more, if there is one
pub dropped_between : {S : Type 0} (next to n place : ℕ) (old new : Kept S) (gone : List (Mark S)) → next ≤ to → old.aside ≡ gone ++ new.aside → new.front ≡ old.front → new.here ≡ old.here → new.marked ≡ old.marked →
    length gone ≡ n → (n ≤ count_up_to (to - next) old.aside + 1) × (n ≤ length old.aside) → (n ≡ length old.aside) ⊎ (n ≡ count_up_to (to - next) old.aside + 1) → place ≡ next + reach gone → DropsBetween next to old new place
dropped_between {S = S} next to n place old new gone le list f h m long within or far = record {
  gone = gone;
  aside = list;
  front = f;
  here = h;
  marked = m;
  far = far;
  between = (let C : List (Mark S) → Type 0 = λ l. length gone ≤ count_up_to (to - next) l + 1 in up_to_counted to next gone new.aside le (subst C list (omega (arith, within.0))));
  there = by or;
}
  where
    by : (n ≡ length old.aside) ⊎ (n ≡ count_up_to (to - next) old.aside + 1) → (new.aside ≡ []) ⊎ (to < place)
    by (inl all) = inl (is-empty new.aside (let a = ap length list in let b = length-append gone new.aside in omega arith))
    by (inr counted) =
        let C : List (Mark S) → Type 0 = λ l. count_up_to (to - next) l < length gone in
        let r = up-to-beyond (to - next) gone new.aside (subst C list (omega arith)) in
        inr (omega arith)

pub none_between : {S : Type 0} (next to : ℕ) (k : Kept S) → to < next → DropsBetween next to k k next
none_between next to k lt = record { gone = []; aside = refl; front = refl; here = refl; marked = refl; far = omega arith; between = tt; there = inr lt }

-- all items of a list are cut out of it
pub cut_everything : {X : Type 0} (xs : List X) (n : ℕ) → n ≡ length xs → take 0 xs ++ drop n xs ≡ []
cut_everything xs n e = rw e (none xs)
  where
    none : {X : Type 0} (xs : List X) → drop (length xs) xs ≡ []
    none [] = refl
    none (x ∷ xs) = none xs
