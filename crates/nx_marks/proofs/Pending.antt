-- In no mark a text run is pending.
use Rattle.std.proofs.Common.{◌≡◌, ◌⊎◌, inl, inr, ℕ, ◌+◌, ◌-◌, Bool, true, false, ◌||◌, nat_lt, List, [], ◌∷◌, ◌++◌, refl, sym, subst, ◌∙◌}
use Rattle.std.proofs.lemmas.Bool.{false≢true}
use Rattle.std.specs.Prelude.{if◌then◌else◌}
use Rattle.nx_base.specs.Rules.{Rules}
use Rattle.nx_marks.specs.Chain.{Chain, AreWhole, Kept, all_of, is_mark}
use Rattle.nx_marks.specs.Editing.{stays, is_apart, first_kept, broken, kept_mark, kept_marks, edit_all, place_after, split, split_all}
use Rattle.nx_marks.specs.Right.{NonePends, IsRight}
use Rattle.nx_marks.specs.declared.mark.Mark.{Mark}
use Rattle.nx_marks.proofs.Edits.{whole-link}
use Rattle.nx_marks.proofs.Splits.{split-is}

pub or-right : (a b : Bool) → b ≡ true → (a || b) ≡ true
or-right true b e = refl
or-right false b e = e

pub or-left-no : (a b : Bool) → (a || b) ≡ false → a ≡ false
or-left-no true b e = e
or-left-no false b e = refl

pub or-right-no : (a b : Bool) → (a || b) ≡ false → b ≡ false
or-right-no true b e = absurd (cc)
or-right-no false b e = e

pub or-cases : (a b : Bool) → (a || b) ≡ true → (a ≡ true) ⊎ (b ≡ true)
or-cases true b e = inl refl
or-cases false b e = inr e

pub or-none : (a b : Bool) → a ≡ false → (a || b) ≡ b
or-none true b e = absurd (cc)
or-none false b e = refl

module _ {S M : Type 0} (means : S → M) (r : Rules M) where
  abbrev pub Clear : Mark S → Type 0
  Clear x = is_mark x ≡ true → r.back (means x.state) ≡ 0

  pub pends-behind : (xs ys : List (Mark S)) → NonePends means r (xs ++ ys) → NonePends means r ys
  pends-behind [] ys h = h
  pends-behind (x ∷ xs) ys h = pends-behind xs ys h.1

  kept-clear : (from to added p q : ℕ) (x : Mark S) → Clear x → Clear (kept_mark from to added p x q)
  kept-clear from to added p q x h = by (is_apart from to p x.len)
    where
      by : (b : Bool) → Clear (if b then x else broken x (place_after from to added q - place_after from to added p))
      by true = h
      by false = h

  pub pends-kept : (from to added p : ℕ) (xs : List (Mark S)) → NonePends means r xs → NonePends means r (kept_marks from to added p xs)
  pends-kept from to added p [] h = h
  pends-kept from to added p (x ∷ xs) h = by (stays from to p) (pends-kept from to added (p + x.len) xs h.1)
    where
      by : (b : Bool) → NonePends means r (kept_marks from to added (p + x.len) xs) →
          NonePends means r (if b then kept_mark from to added p x (first_kept from to (p + x.len) xs) ∷ kept_marks from to added (p + x.len) xs else kept_marks from to added (p + x.len) xs)
      by true rest = (kept-clear from to added p (first_kept from to (p + x.len) xs) x h.0, rest)
      by false rest = rest

  pub pends-edited : (from to added : ℕ) (xs : List (Mark S)) → NonePends means r xs → NonePends means r (edit_all from to added xs)
  pends-edited from to added [] h = h
  pends-edited from to added (x ∷ xs) h = (by (nat_lt (0 + x.len) from), pends-kept from to added (0 + x.len) xs h.1)
    where
      by : (b : Bool) → Clear (if b then x else broken x (place_after from to added (first_kept from to (0 + x.len) xs)))
      by true = h.0
      by false = h.0

  pub pends-split : (k : Kept S) (marked : Bool) (xs : List (Mark S)) → NonePends means r xs → NonePends means r k.aside → NonePends means r (split_all k marked xs).aside
  pends-split k marked [] h g = g
  pends-split k marked (x ∷ xs) h g =
      let row = split marked x xs in
      let P : List (Mark S) → Type 0 = λ l. NonePends means r l in
      (pends-behind row.front (row.here ∷ row.aside) (subst P (sym (split-is marked x xs)) h)).1

  pends-front : (is_state : S → Type 0) (t : List ℕ) (p : ℕ) (xs ys : List (Mark S)) → AreWhole xs → Chain is_state means r t p (xs ++ ys) → NonePends means r ys → NonePends means r (xs ++ ys)
  pends-front is_state t p [] ys w h g = g
  pends-front is_state t p (x ∷ xs) ys w h g =
      ((λ _. (whole-link means r t p x.whole x (xs ++ ys) w.0 h.1.0).segment.back), pends-front is_state t (p + x.len) xs ys w.1 h.1.1 g)

  -- where the frontier's state says that it is none
  pub pends-all : (is_state : S → Type 0) (t : List ℕ) (k : Kept S) → IsRight is_state means r t k → k.here.saved ≡ false → NonePends means r (all_of k)
  pends-all is_state t k h e =
      pends-front is_state t 0 k.front (k.here ∷ k.aside) h.holds.whole h.holds.chain ((λ yes. absurd (false≢true (sym e ∙ (sym (or-none k.here.whole k.here.saved h.holds.ends) ∙ yes)))), h.rule.saved)
