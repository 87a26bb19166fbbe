-- Where an edit leads back to, and what is aside then.
use Rattle.std.proofs.Common.{◌≡◌, ◌⊎◌, inl, inr, ℕ, ◌+◌, ◌-◌, ◌<◌, ◌≤◌, Bool, true, false, nat_lt, List, [], ◌∷◌, ◌++◌, refl, sym, ap, subst, ◌∙◌, arith, append_assoc}
use Rattle.std.specs.Prelude.{if◌then◌else◌}
use Rattle.nx_marks.specs.Chain.{AreWhole, reach, Kept, all_of, frontier_of}
use Rattle.nx_marks.specs.Editing.{place_after, first_kept, broken, kept_marks, edit_all, split_all, edit_noted, EditAt}
use Rattle.nx_marks.specs.declared.mark.Mark.{Mark}
use Rattle.nx_marks.proofs.Places.{is_below, is_above, moved-before, moved-grows}
use Rattle.nx_marks.proofs.Edits.{first-ge}
use Rattle.nx_marks.proofs.Splits.{split-there}
use Rattle.nx_marks.proofs.Fronts.{kept-apart, kept-cons}
use Rattle.nx_marks.proofs.Rules.{kept-broken, less-or}

pub reach-append : {S : Type 0} (xs ys : List (Mark S)) → reach (xs ++ ys) ≡ reach xs + reach ys
reach-append [] ys = omega arith
reach-append (x ∷ xs) ys = let e = reach-append xs ys in omega arith

-- the marks from p on are `keep`, the one whose segment is touched first, and `rest`
record Cut {S : Type 0} (from to added p : ℕ) (xs : List (Mark S)) (z : Mark S) (zs : List (Mark S)) (all : List (Mark S)) : Type 0 where
  keep : List (Mark S)
  mark : Mark S
  rest : List (Mark S)
  are : xs ≡ keep ++ mark ∷ rest
  before : (p + reach keep < from) ⊎ (keep ≡ [])
  touched : from ≤ p + reach keep + mark.len
  len : ℕ
  far : p + reach keep + len ≡ place_after from to added (first_kept from to (p + reach keep + mark.len) (rest ++ z ∷ zs))
  same : all ≡ keep ++ broken mark len ∷ kept_marks from to added (p + reach keep + mark.len) (rest ++ z ∷ zs)
  wholes : AreWhole keep
  others : AreWhole rest

cut-on : {S : Type 0} (from to added p : ℕ) (x : Mark S) (xs : List (Mark S)) (z : Mark S) (zs all : List (Mark S)) → p + x.len < from → x.whole ≡ true → Cut from to added (p + x.len) xs z zs all → Cut from to added p (x ∷ xs) z zs (x ∷ all)
cut-on {S = S} from to added p x xs z zs all lt w g =
    let e : p + x.len + reach g.keep ≡ p + (x.len + reach g.keep) = omega arith in
    let P : ℕ → Type 0 = λ n. n + g.len ≡ place_after from to added (first_kept from to (n + g.mark.len) (g.rest ++ z ∷ zs)) in
    let Q : ℕ → Type 0 = λ n. all ≡ g.keep ++ broken g.mark g.len ∷ kept_marks from to added (n + g.mark.len) (g.rest ++ z ∷ zs) in
    let T : ℕ → Type 0 = λ n. from ≤ n + g.mark.len in
    record {
      keep = x ∷ g.keep;
      mark = g.mark;
      rest = g.rest;
      are = ap (λ l. x ∷ l) g.are;
      before = inl (by g.keep g.before);
      touched = subst T e g.touched;
      len = g.len;
      far = subst P e g.far;
      same = ap (λ l. x ∷ l) (subst Q e g.same);
      wholes = (w, g.wholes);
      others = g.others;
    }
  where
    by : (keep : List (Mark S)) → (p + x.len + reach keep < from) ⊎ (keep ≡ []) → p + (x.len + reach keep) < from
    by keep (inl e) = omega arith
    by keep (inr e) = let n = ap reach e in omega arith

cut-there : {S : Type 0} (from to added p : ℕ) (xs : List (Mark S)) (z : Mark S) (zs : List (Mark S)) → from ≤ to → AreWhole xs → p < from → from ≤ p + reach xs → Cut from to added p xs z zs (kept_marks from to added p (xs ++ z ∷ zs))
cut-there from to added p [] z zs le w lt touched = absurd (omega arith)
cut-there {S = S} from to added p (x ∷ xs) z zs le w lt touched =
    let rest : List (Mark S) = xs ++ z ∷ zs in
    let q : ℕ = first_kept from to (p + x.len) rest in
    let P : List (Mark S) → Type 0 = λ l. Cut from to added p (x ∷ xs) z zs l in
    let Q : Mark S → Type 0 = λ y. Cut from to added p (x ∷ xs) z zs (y ∷ kept_marks from to added (p + x.len) rest) in
    subst P (sym (kept-cons from to added p x rest lt)) (elim (less-or (p + x.len) from) [
      | inl l ↦
          subst Q (sym (kept-apart from to added p q x l))
          (cut-on from to added p x xs z zs (kept_marks from to added (p + x.len) rest) l w.0 (cut-there from to added (p + x.len) xs z zs le w.1 l (omega arith)))
      | inr g ↦
          (let n : ℕ = place_after from to added q - place_after from to added p in
          let e : p + x.len ≡ p + 0 + x.len = omega arith in
          let here = moved-before from to added p lt in
          let ge = first-ge from to (p + x.len) rest in
          let grows = moved-grows from to added p q le (omega arith) in
          let F : ℕ → Type 0 = λ m. p + 0 + n ≡ place_after from to added (first_kept from to m rest) in
          let S2 : ℕ → Type 0 = λ m. broken x n ∷ kept_marks from to added (p + x.len) rest ≡ broken x n ∷ kept_marks from to added m rest in
          subst Q (sym (kept-broken from to added p q x g (omega arith)))
          (record { keep = []; mark = x; rest = xs; are = refl; before = inr refl; touched = omega arith; len = n; far = subst F e (omega arith); same = subst S2 e refl; wholes = tt; others = w.1 }))
    ])

pub start-apart : {S : Type 0} (x : Mark S) (q : ℕ) (a : Bool) → a ≡ true → (if a then x else broken x q) ≡ x
start-apart x q true f = refl
start-apart x q false f = absurd (cc)

pub start-broken : {S : Type 0} (x : Mark S) (q : ℕ) (a : Bool) → a ≡ false → (if a then x else broken x q) ≡ broken x q
start-broken x q true e = absurd (cc)
start-broken x q false e = refl

cut-all : {S : Type 0} (from to added : ℕ) (x : Mark S) (xs : List (Mark S)) (z : Mark S) (zs : List (Mark S)) → from ≤ to → AreWhole (x ∷ xs) → from ≤ reach (x ∷ xs) → Cut from to added 0 (x ∷ xs) z zs (edit_all from to added (x ∷ xs ++ z ∷ zs))
cut-all {S = S} from to added x xs z zs le w touched =
    let rest : List (Mark S) = xs ++ z ∷ zs in
    let n : ℕ = place_after from to added (first_kept from to (0 + x.len) rest) in
    let Q : Mark S → Type 0 = λ y. Cut from to added 0 (x ∷ xs) z zs (y ∷ kept_marks from to added (0 + x.len) rest) in
    elim (less-or (0 + x.len) from) [
      | inl l ↦
          subst Q (sym (start-apart x n (nat_lt (0 + x.len) from) (is_below (0 + x.len) from l)))
          (cut-on from to added 0 x xs z zs (kept_marks from to added (0 + x.len) rest) l w.0 (cut-there from to added (0 + x.len) xs z zs le w.1 l (omega arith)))
      | inr g ↦
          (let e : 0 + x.len ≡ 0 + 0 + x.len = omega arith in
          let F : ℕ → Type 0 = λ m. 0 + 0 + n ≡ place_after from to added (first_kept from to m rest) in
          let S2 : ℕ → Type 0 = λ m. broken x n ∷ kept_marks from to added (0 + x.len) rest ≡ broken x n ∷ kept_marks from to added m rest in
          subst Q (sym (start-broken x n (nat_lt (0 + x.len) from) (is_above (0 + x.len) from g)))
          (record { keep = []; mark = x; rest = xs; are = refl; before = inr refl; touched = omega arith; len = n; far = subst F e (omega arith); same = subst S2 e refl; wholes = tt; others = w.1 }))
    ]

at-cut : {S : Type 0} (from to added : ℕ) (front : List (Mark S)) (here : Mark S) (marked : Bool) (aside : List (Mark S)) (k : Kept S) → Cut from to added 0 front here aside (edit_all from to added (front ++ here ∷ aside)) →
    EditAt from to added (record { front = front; here = here; marked = marked; aside = aside }) (split_all k true (edit_all from to added (front ++ here ∷ aside)))
at-cut {S = S} from to added front here marked aside k g =
    let zero_on : 0 + reach g.keep + g.mark.len ≡ reach g.keep + g.mark.len = omega arith in
    let list : (g.rest ++ here ∷ []) ++ aside ≡ g.rest ++ here ∷ aside = append_assoc g.rest (here ∷ []) aside in
    let there = ap (split_all k true) g.same ∙ split-there true g.keep (broken g.mark g.len) (kept_marks from to added (0 + reach g.keep + g.mark.len) (g.rest ++ here ∷ aside)) k g.wholes refl in
    let P : Kept S → Type 0 = λ j. EditAt from to added (record { front = front; here = here; marked = marked; aside = aside }) j in
    let F : ℕ → Type 0 = λ n. reach g.keep + g.len ≡ place_after from to added (first_kept from to n (g.rest ++ here ∷ aside)) in
    let F2 : List (Mark S) → Type 0 = λ l. reach g.keep + g.len ≡ place_after from to added (first_kept from to (reach g.keep + g.mark.len) l) in
    let zero_len : reach g.keep + g.len ≡ 0 + reach g.keep + g.len = omega arith in
    subst P (sym there) (record {
      keep = g.keep;
      mark = g.mark;
      rest = g.rest ++ here ∷ [];
      are = ap (λ l. l ++ here ∷ []) g.are ∙ append_assoc g.keep (g.mark ∷ g.rest) (here ∷ []);
      before = by g.before;
      last = λ _. (let e = g.touched in omega arith);
      front = refl;
      state = refl;
      marked = refl;
      far = subst F2 (sym list) (subst F zero_on (zero_len ∙ g.far));
      behind = λ some. record {
        marks = g.rest;
        are = refl;
        whole = g.others;
        reaches = (let e = ap reach g.are ∙ reach-append g.keep (g.mark ∷ g.rest) in omega arith);
        touched = (let e = g.touched in omega arith);
      };
      aside = ap (λ n. kept_marks from to added n (g.rest ++ here ∷ aside)) zero_on ∙ ap (kept_marks from to added (reach g.keep + g.mark.len)) (sym list);
    })
  where
    by : (0 + reach g.keep < from) ⊎ (g.keep ≡ []) → (reach g.keep < from) ⊎ (g.keep ≡ [])
    by (inl e) = inl (omega arith)
    by (inr e) = inr e

at-parts : {S : Type 0} (from to added : ℕ) (front : List (Mark S)) (here : Mark S) (marked : Bool) (aside : List (Mark S)) (k : Kept S) → from ≤ to → AreWhole front → here.whole ≡ false → from ≤ reach front →
    EditAt from to added (record { front = front; here = here; marked = marked; aside = aside }) (split_all k true (edit_all from to added (front ++ here ∷ aside)))
at-parts {S = S} from to added [] here marked aside k le w ends touched =
    let n : ℕ = place_after from to added (first_kept from to (0 + here.len) aside) in
    let y : Mark S = broken here n in
    let same : edit_all from to added (here ∷ aside) ≡ y ∷ kept_marks from to added (0 + here.len) aside =
    ap (λ x. x ∷ kept_marks from to added (0 + here.len) aside) (start-broken here n (nat_lt (0 + here.len) from) (is_above (0 + here.len) from (omega arith))) in
    let there = ap (split_all k true) same ∙ split-there true [] y (kept_marks from to added (0 + here.len) aside) k tt refl in
    let P : Kept S → Type 0 = λ j. EditAt from to added (record { front = []; here = here; marked = marked; aside = aside }) j in
    subst P (sym there) (record {
      keep = [];
      mark = here;
      rest = [];
      are = refl;
      before = inr refl;
      last = λ lt. absurd (omega arith);
      front = refl;
      state = refl;
      marked = refl;
      far = omega arith;
      aside = refl;
      behind = λ some. absurd (omega arith);
    })
at-parts from to added (x ∷ xs) here marked aside k le w ends touched = at-cut from to added (x ∷ xs) here marked aside k (cut-all from to added x xs here aside le w touched)

pub edit_at : {S : Type 0} (from to added : ℕ) (k : Kept S) → from ≤ to → AreWhole k.front → k.here.whole ≡ false → from ≤ frontier_of k → EditAt from to added k (edit_noted from to added k)
edit_at {S = S} from to added k le w ends touched =
    let P : Bool → Type 0 = λ b. EditAt from to added k (split_all k (if b then k.marked else true) (edit_all from to added (all_of k))) in
    subst P (sym (is_above (frontier_of k) from touched)) (at-parts from to added k.front k.here k.marked k.aside k le w ends touched)
