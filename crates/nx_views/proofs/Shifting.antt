-- Lists of which the first elements were changed in place.
use Rattle.std.proofs.Common.{◌≡◌, ◌≢◌, ◌∙◌, ℕ, ◌+◌, ◌<◌, ◌≤◌, List, [], ◌∷◌, ◌++◌, length, map, take, set, get_or, suc, inl, inr}
use Rattle.std.proofs.Common.{refl, sym, subst, ap, arith, le_refl, length-set, get_or-set_other, get_or-set_same, take_at}
use Rattle.std.proofs.lemmas.Bool.{cases_lt}
use Rattle.std.proofs.lemmas.List.{get_or_default}

-- the states of the first i are what f makes of what they were, and the others are as they were
pub record ChangedUpTo {X Y : Type 0} (state : X → Y) (f : Y → Y) (old now : List X) (i : ℕ) : Type 0 where
  pub size : length now ≡ length old
  pub done : (k : ℕ) (d : X) → k < i → state (get_or now k d) ≡ f (state (get_or old k d))
  pub rest : (k : ℕ) (d : X) → i ≤ k → get_or now k d ≡ get_or old k d

module _ {X Y : Type 0} (state : X → Y) (f : Y → Y) where
  pub none_changed : (old : List X) → ChangedUpTo state f old old 0
  none_changed old = record { size = refl; done = λ k d low. absurd (omega arith); rest = λ k d le. refl }

  pub one_changed : (old now : List X) (i : ℕ) (x y : X) → i < length now → x ≡ get_or now i x → state y ≡ f (state x)
      → ChangedUpTo state f old now i → ChangedUpTo state f old (set now i y) (i + 1)
  one_changed old now i x y lt read holds h = record {
    size = length-set now i y ∙ h.size;
    done = λ k d low. elim (cases_lt k i) [
      | inl below ↦ (let ne : k ≢ i = omega arith in rw get_or-set_other (h.done k d below))
      | inr past ↦ (let e : i ≡ k = omega arith in subst (λ (j : ℕ). state (get_or (set now i y) j d) ≡ f (state (get_or old j d))) e (here d))
    ];
    rest = λ k d le. (let ne : k ≢ i = omega arith in rw get_or-set_other (h.rest k d (omega arith)));
  }
    where
      here : (d : X) → state (get_or (set now i y) i d) ≡ f (state (get_or old i d))
      here d =
          let is : x ≡ get_or old i d = read ∙ get_or_default now i x d lt ∙ h.rest i d (le_refl i) in
          rw get_or-set_same (holds ∙ ap (λ z. f (state z)) is)

  all_of : (old now : List X) → length now ≡ length old → ((k : ℕ) (d : X) → k < length old → state (get_or now k d) ≡ f (state (get_or old k d)))
      → map state now ≡ map f (map state old)
  all_of [] [] e h = refl
  all_of [] (y ∷ ys) e h = absurd (omega arith)
  all_of (x ∷ xs) [] e h = absurd (omega arith)
  all_of (x ∷ xs) (y ∷ ys) e h =
      let here : state y ≡ f (state x) = h 0 x (omega arith) in
      let others : map state ys ≡ map f (map state xs) = all_of xs ys (omega arith) (λ k d lt. h (suc k) d (omega arith)) in
      cc

  -- where all were changed, and the list is the front of the memory that was lent
  pub all_changed : (old now rest : List X) (n i : ℕ) → n ≡ length now → length now ≤ i → ChangedUpTo state f old now i
      → map state (take n (now ++ rest)) ≡ map f (map state old)
  all_changed old now rest n i e le h =
      let size = h.size in
      ap (map state) (take_at now rest n (sym e)) ∙ all_of old now size (λ k d lt. h.done k d (omega arith))
