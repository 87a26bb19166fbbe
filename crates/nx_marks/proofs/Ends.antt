-- Behind an edit the row of the first mark aside ends where the frontier was.
use Rattle.std.proofs.Common.{◌≡◌, inl, inr, ℕ, ◌+◌, ◌-◌, ◌<◌, ◌≤◌, Bool, true, false, ◌||◌, nat_lt, List, [], ◌∷◌, ◌++◌, length, refl, sym, ap, subst, ◌∙◌, arith}
use Rattle.std.proofs.lemmas.List.{append-nil}
use Rattle.std.specs.Prelude.{if◌then◌else◌}
use Rattle.nx_marks.specs.Chain.{AreWhole, reach, Kept, frontier_of}
use Rattle.nx_marks.specs.Editing.{edit_noted, place_after, stays, first_kept, broken, kept_mark, kept_marks, split}
use Rattle.nx_marks.specs.Bound.{row_len}
use Rattle.nx_marks.specs.declared.mark.Mark.{Mark}
use Rattle.nx_marks.proofs.Places.{is_below, is_above, moved-behind, stays-behind}
use Rattle.nx_marks.proofs.Edits.{first-stays}
use Rattle.nx_marks.proofs.Splits.{split-on}
use Rattle.nx_marks.proofs.Rules.{less-or}
use Rattle.nx_marks.proofs.Backs.{edit_at}

row-cons : {S : Type 0} (w : Mark S) (l : List (Mark S)) → w.whole ≡ true → 0 < length l → row_len (w ∷ l) ≡ w.len + row_len l
row-cons w [] e lt = absurd (omega arith)
row-cons {S = S} w (y ∷ ys) e lt = ap (λ (k : Kept S). reach k.front) (split-on true w y ys (split true y ys) e refl)

pub cons-behind : {S : Type 0} (from to added p : ℕ) (x : Mark S) (xs : List (Mark S)) → to < p →
    kept_marks from to added p (x ∷ xs) ≡ kept_mark from to added p x (first_kept from to (p + x.len) xs) ∷ kept_marks from to added (p + x.len) xs
cons-behind from to added p x xs lt = by (stays from to p) (stays-behind from to p lt)
  where
    by : (b : Bool) → b ≡ true →
        (if b then kept_mark from to added p x (first_kept from to (p + x.len) xs) ∷ kept_marks from to added (p + x.len) xs else kept_marks from to added (p + x.len) xs)
        ≡ kept_mark from to added p x (first_kept from to (p + x.len) xs) ∷ kept_marks from to added (p + x.len) xs
    by true e = refl
    by false e = absurd (cc)

pub kept-behind : {S : Type 0} (from to added p q : ℕ) (x : Mark S) → to < p → kept_mark from to added p x q ≡ x
kept-behind from to added p q x lt = by (nat_lt (p + x.len) from) (nat_lt to p) (is_below to p lt)
  where
    by : (a c : Bool) → c ≡ true → (if a || c then x else broken x (place_after from to added q - place_after from to added p)) ≡ x
    by true c f = refl
    by false true f = refl
    by false false f = absurd (cc)

pub gone-between : (from to p : ℕ) → from ≤ p → p ≤ to → stays from to p ≡ false
gone-between from to p a b = by (nat_lt p from) (is_above p from a) (nat_lt to p) (is_above to p b)
  where
    by : (c : Bool) → c ≡ false → (d : Bool) → d ≡ false → (c || d) ≡ false
    by true e d f = absurd (cc)
    by false e true f = absurd (cc)
    by false e false f = refl

some-behind : {S : Type 0} (from to added p : ℕ) (xs : List (Mark S)) (z : Mark S) (zs : List (Mark S)) → to < p → 0 < length (kept_marks from to added p (xs ++ z ∷ zs))
some-behind {S = S} from to added p [] z zs lt = let P : List (Mark S) → Type 0 = λ l. 0 < length l in subst P (sym (cons-behind from to added p z zs lt)) (omega arith)
some-behind {S = S} from to added p (x ∷ xs) z zs lt = let P : List (Mark S) → Type 0 = λ l. 0 < length l in subst P (sym (cons-behind from to added p x (xs ++ z ∷ zs) lt)) (omega arith)

-- whole marks from the edit's first place on, and the state behind them, which lies behind the edit: the first row aside reaches that state
pub row-kept : {S : Type 0} (from to added q e : ℕ) (ws : List (Mark S)) (z : Mark S) → from ≤ to → AreWhole ws → from ≤ q → q + reach ws ≡ e → to < e →
    place_after from to added (first_kept from to q (ws ++ z ∷ [])) + row_len (kept_marks from to added q (ws ++ z ∷ [])) ≡ place_after from to added e
row-kept {S = S} from to added q e [] z le w start at lt =
    let here : q ≡ e = omega arith in
    let behind : to < q = omega arith in
    let P : List (Mark S) → Type 0 = λ l. place_after from to added (first_kept from to q (z ∷ [])) + row_len l ≡ place_after from to added e in
    let first : place_after from to added (first_kept from to q (z ∷ [])) ≡ place_after from to added e = ap (place_after from to added) (first-stays from to q (z ∷ []) (stays-behind from to q behind) ∙ here) in
    subst P (sym (cons-behind from to added q z [] behind)) (omega arith)
row-kept {S = S} from to added q e (x ∷ ws) z le w start at lt =
    let rest : List (Mark S) = ws ++ z ∷ [] in
    let on = row-kept from to added (q + x.len) e ws z le w.1 (omega arith) (omega arith) lt in
    elim (less-or to q) [
      | inl behind ↦
          (let list : kept_marks from to added q (x ∷ rest) ≡ x ∷ kept_marks from to added (q + x.len) rest =
          cons-behind from to added q x rest behind ∙ ap (λ y. y ∷ kept_marks from to added (q + x.len) rest) (kept-behind from to added q (first_kept from to (q + x.len) rest) x behind) in
          let far : to < q + x.len = omega arith in
          let row : row_len (kept_marks from to added q (x ∷ rest)) ≡ x.len + row_len (kept_marks from to added (q + x.len) rest) =
          ap row_len list ∙ row-cons x (kept_marks from to added (q + x.len) rest) w.0 (some-behind from to added (q + x.len) ws z [] far) in
          let first : place_after from to added (first_kept from to q (x ∷ rest)) ≡ from + added + (q - to) = ap (place_after from to added) (first-stays from to q (x ∷ rest) (stays-behind from to q behind)) ∙ moved-behind from to added q start in
          let next : place_after from to added (first_kept from to (q + x.len) rest) ≡ from + added + (q + x.len - to) = ap (place_after from to added) (first-stays from to (q + x.len) rest (stays-behind from to (q + x.len) far)) ∙ moved-behind from to added (q + x.len) (omega arith) in
          omega arith)
      | inr between ↦
          (let P : Bool → Type 0 = λ b. place_after from to added (if b then q else first_kept from to (q + x.len) rest)
          + row_len (if b then kept_mark from to added q x (first_kept from to (q + x.len) rest) ∷ kept_marks from to added (q + x.len) rest else kept_marks from to added (q + x.len) rest) ≡ place_after from to added e in
          subst P (sym (gone-between from to q start between)) on)
    ]

-- where nothing was aside and a mark or the frontier lies behind the edit, the first row aside ends where the frontier was
pub edit_row : {S : Type 0} (from to added : ℕ) (k : Kept S) → from ≤ to → AreWhole k.front → k.here.whole ≡ false → k.aside ≡ [] → to < frontier_of k →
    frontier_of (edit_noted from to added k) + (edit_noted from to added k).here.len + row_len (edit_noted from to added k).aside ≡ place_after from to added (frontier_of k)
edit_row {S = S} from to added k le w ends none lt =
    let j : Kept S = edit_noted from to added k in
    let e = edit_at from to added k le w ends (omega arith) in
    let some : 0 < frontier_of k = omega arith in
    let b = e.behind some in
    let rest : e.rest ++ k.aside ≡ b.marks ++ k.here ∷ [] = ap (λ l. e.rest ++ l) none ∙ append-nil e.rest ∙ b.are in
    let row = row-kept from to added (reach e.keep + e.mark.len) (frontier_of k) b.marks k.here le b.whole b.touched b.reaches lt in
    let R : List (Mark S) → Type 0 = λ l. place_after from to added (first_kept from to (reach e.keep + e.mark.len) l) + row_len (kept_marks from to added (reach e.keep + e.mark.len) l) ≡ place_after from to added (frontier_of k) in
    let done = subst R (sym rest) row in
    let far : frontier_of j + j.here.len ≡ place_after from to added (first_kept from to (reach e.keep + e.mark.len) (e.rest ++ k.aside)) = ap (λ n. n + j.here.len) (ap reach e.front) ∙ e.far in
    ap (λ n. n + row_len j.aside) far ∙ ap (λ l. place_after from to added (first_kept from to (reach e.keep + e.mark.len) (e.rest ++ k.aside)) + row_len l) e.aside ∙ done
