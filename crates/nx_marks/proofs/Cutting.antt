-- What an edit does to the marks, step by step.
use Rattle.std.proofs.Common.{◌≡◌, ◌⊎◌, inl, inr, ℕ, ◌+◌, ◌-◌, ◌^◌, ◌<◌, ◌≤◌, Bool, true, false, ◌||◌, nat_lt, List, [], ◌∷◌, ◌++◌, length, refl, sym, ap, subst, ◌∙◌, arith, append_assoc}
use Rattle.std.specs.Prelude.{if◌then◌else◌}
use Rattle.nx_marks.specs.Chain.{Kept, AreWhole, all_of, frontier_of, reach}
use Rattle.nx_marks.specs.Editing.{place_after, stays, first_kept, broken, kept_mark, kept_marks, edit_all, split_all, edit_noted}
use Rattle.nx_marks.specs.Frontier.{FrontierAfterEdit}
use Rattle.nx_marks.specs.Walking.{DropsBetween, GoesBack, GoesOn, ComesBack, AreUpTo, Fits, cut_off}
use Rattle.nx_marks.specs.declared.mark.Mark.{Mark}
use Rattle.nx_marks.proofs.Places.{below, is_below, is_above, moved-behind, stays-behind}
use Rattle.nx_marks.proofs.Edits.{first-stays}
use Rattle.nx_marks.proofs.Splits.{split-there}
use Rattle.nx_marks.proofs.Fronts.{kept-apart, kept-cons, Left, left-all}
use Rattle.nx_marks.proofs.Backs.{start-apart, reach-append}
use Rattle.nx_marks.proofs.Ends.{cons-behind, kept-behind, gone-between}

-- ---- the marks aside

-- marks behind an edit stay as they are
pub all-behind : {S : Type 0} (from to added p : ℕ) (xs : List (Mark S)) → to < p → kept_marks from to added p xs ≡ xs
all-behind from to added p [] lt = refl
all-behind from to added p (x ∷ xs) lt =
    cons-behind from to added p x xs lt
    ∙ ap (λ y. y ∷ kept_marks from to added (p + x.len) xs) (kept-behind from to added p (first_kept from to (p + x.len) xs) x lt)
    ∙ ap (λ l. x ∷ l) (all-behind from to added (p + x.len) xs (omega arith))

-- marks in an edit go
kept-skip : {S : Type 0} (from to added p q : ℕ) (xs ys : List (Mark S)) → from ≤ p → AreUpTo to p xs → p + reach xs ≡ q → kept_marks from to added p (xs ++ ys) ≡ kept_marks from to added q ys
kept-skip from to added p q [] ys le h e = ap (λ n. kept_marks from to added n ys) (omega arith)
kept-skip from to added p q (x ∷ xs) ys le h e =
    let one = gone-between from to p le h.0 in
    let rest = kept-skip from to added (p + x.len) q xs ys (omega arith) h.1 (omega arith) in
    by (stays from to p) one ∙ rest
  where
    by : (b : Bool) → b ≡ false →
        (if b then kept_mark from to added p x (first_kept from to (p + x.len) (xs ++ ys)) ∷ kept_marks from to added (p + x.len) (xs ++ ys) else kept_marks from to added (p + x.len) (xs ++ ys))
        ≡ kept_marks from to added (p + x.len) (xs ++ ys)
    by true f = absurd (cc)
    by false f = refl

first-skip : {S : Type 0} (from to p q : ℕ) (xs ys : List (Mark S)) → from ≤ p → AreUpTo to p xs → p + reach xs ≡ q → first_kept from to p (xs ++ ys) ≡ first_kept from to q ys
first-skip from to p q [] ys le h e = ap (λ n. first_kept from to n ys) (omega arith)
first-skip from to p q (x ∷ xs) ys le h e =
    let one = gone-between from to p le h.0 in
    by (stays from to p) one ∙ first-skip from to (p + x.len) q xs ys (omega arith) h.1 (omega arith)
  where
    by : (b : Bool) → b ≡ false → (if b then p else first_kept from to (p + x.len) (xs ++ ys)) ≡ first_kept from to (p + x.len) (xs ++ ys)
    by true f = absurd (cc)
    by false f = refl

-- behind the marks that go
kept-rest : {S : Type 0} (from to added q : ℕ) (ys : List (Mark S)) → (ys ≡ []) ⊎ (to < q) → (kept_marks from to added q ys ≡ ys) × (first_kept from to q ys ≡ q)
kept-rest {S = S} from to added q ys (inl e) =
    let P : List (Mark S) → Type 0 = λ l. (kept_marks from to added q l ≡ l) × (first_kept from to q l ≡ q) in subst P (sym e) (refl, refl)
kept-rest from to added q ys (inr lt) = (all-behind from to added q ys lt, first-stays from to q ys (stays-behind from to q lt))

kept_at : {S : Type 0} → List (Mark S) → Mark S → Bool → ℕ → List (Mark S) → Kept S
kept_at front here marked len aside = record { front = front; here = broken here len; marked = marked; aside = aside }

cut_is : {S : Type 0} (from to added : ℕ) (k : Kept S) → from ≤ frontier_of k + k.here.len →
    cut_off from to added k ≡ record { front = k.front; here = broken k.here (place_after from to added (first_kept from to (frontier_of k + k.here.len) k.aside) - frontier_of k); marked = k.marked; aside = kept_marks from to added (frontier_of k + k.here.len) k.aside }
cut_is from to added k le = rw (is_above (frontier_of k + k.here.len) from le) refl

pub cut_there : {S : Type 0} (from to added : ℕ) (k d : Kept S) (place len : ℕ) → from ≤ to → from ≤ frontier_of k + k.here.len → Fits from to added k → DropsBetween (frontier_of k + k.here.len) to k d place →
    len ≡ from + added + (place - to) - frontier_of k →
    record { front = d.front; here = broken d.here len; marked = d.marked; aside = d.aside } ≡ cut_off from to added k
unfolding kept_at
cut_there {S = S} from to added k d place len o le fits h long =
    let next : ℕ = frontier_of k + k.here.len in
    let far = h.far in
    let rest = kept-rest from to added place d.aside h.there in
    let kept : kept_marks from to added next k.aside ≡ d.aside =
    ap (kept_marks from to added next) h.aside ∙ kept-skip from to added next place h.gone d.aside le h.between (sym far) ∙ rest.0 in
    let first : first_kept from to next k.aside ≡ place =
    ap (first_kept from to next) h.aside ∙ first-skip from to next place h.gone d.aside le h.between (sym far) ∙ rest.1 in
    let there : place_after from to added (first_kept from to next k.aside) - frontier_of k ≡ len =
    ap (λ n. place_after from to added n - frontier_of k) first ∙ ap (λ n. n - frontier_of k) (moved-behind from to added place (omega arith)) ∙ sym long in
    sym (cut_is from to added k le
    ∙ ap (λ n. kept_at k.front k.here k.marked n (kept_marks from to added next k.aside)) there
    ∙ ap (kept_at k.front k.here k.marked len) kept
    ∙ ap (λ l. kept_at l k.here k.marked len d.aside) (sym h.front)
    ∙ ap (λ (x : Mark S). kept_at d.front x k.marked len d.aside) (sym h.here)
    ∙ ap (λ b. kept_at d.front d.here b len d.aside) (sym h.marked))

-- with what was added all places are numbers of the machine
pub cut_fits : {S : Type 0} (from to added : ℕ) (k d : Kept S) (place : ℕ) → Fits from to added k → DropsBetween (frontier_of k + k.here.len) to k d place → from + added + (place - to) + reach d.aside < 2 ^ 64
cut_fits from to added k d place fits h =
    by h.there
  where
    by : (d.aside ≡ []) ⊎ (to < place) → from + added + (place - to) + reach d.aside < 2 ^ 64
    by (inl none) =
        let all = reach-append k.front (k.here ∷ k.aside) in
        let old = fits.old in
        let new = fits.new in
        let gone = reach-append h.gone d.aside in
        let aside = ap reach h.aside in
        let far = h.far in
        let n = ap reach none in
        omega arith
    by (inr lt) =
        let all = reach-append k.front (k.here ∷ k.aside) in
        let old = fits.old in
        let new = fits.new in
        let gone = reach-append h.gone d.aside in
        let aside = ap reach h.aside in
        let far = h.far in
        omega arith

-- nothing lies behind
pub cut_nothing : {S : Type 0} (from to added : ℕ) (k : Kept S) → frontier_of k + k.here.len < from → k ≡ cut_off from to added k
cut_nothing from to added k lt = rw (is_below (frontier_of k + k.here.len) from lt) refl

-- ---- the whole list

-- marks before an edit, the last of them too, stay as they are
front-kept : {S : Type 0} (from to added p q : ℕ) (xs : List (Mark S)) (z : Mark S) (zs : List (Mark S)) → p + reach xs ≡ q → q < from → kept_marks from to added p (xs ++ z ∷ zs) ≡ xs ++ kept_marks from to added q (z ∷ zs)
front-kept from to added p q [] z zs e lt = ap (λ n. kept_marks from to added n (z ∷ zs)) (omega arith)
front-kept from to added p q (x ∷ xs) z zs e lt =
    kept-cons from to added p x (xs ++ z ∷ zs) (omega arith)
    ∙ ap (λ y. y ∷ kept_marks from to added (p + x.len) (xs ++ z ∷ zs)) (kept-apart from to added p (first_kept from to (p + x.len) (xs ++ z ∷ zs)) x (omega arith))
    ∙ ap (λ l. x ∷ l) (front-kept from to added (p + x.len) q xs z zs (omega arith) lt)

-- the mark at hand, and what is aside
abbrev ending : {S : Type 0} → ℕ → ℕ → ℕ → ℕ → Mark S → List (Mark S) → List (Mark S)
ending from to added p z zs = (if nat_lt (p + z.len) from then z else broken z (place_after from to added (first_kept from to (p + z.len) zs) - p)) ∷ kept_marks from to added (p + z.len) zs

ending-kept : {S : Type 0} (from to added p : ℕ) (z : Mark S) (zs : List (Mark S)) → from ≤ to → p < from → kept_marks from to added p (z ∷ zs) ≡ ending from to added p z zs
ending-kept from to added p z zs o lt =
    kept-cons from to added p z zs lt ∙ ap (λ y. y ∷ kept_marks from to added (p + z.len) zs) (by (nat_lt (p + z.len) from) (nat_lt to p) (is_above to p (omega arith)))
  where
    here : place_after from to added p ≡ p
    here = rw (is_below p from lt) refl

    by : (a b : Bool) → b ≡ false → (if a || b then z else broken z (place_after from to added (first_kept from to (p + z.len) zs) - place_after from to added p))
        ≡ (if a then z else broken z (place_after from to added (first_kept from to (p + z.len) zs) - p))
    by true b e = refl
    by false true e = absurd (cc)
    by false false e = ap (λ n. broken z (place_after from to added (first_kept from to (p + z.len) zs) - n)) here

ending-start : {S : Type 0} (from to added : ℕ) (z : Mark S) (zs : List (Mark S)) → edit_all from to added (z ∷ zs) ≡ ending from to added 0 z zs
ending-start from to added z zs = ap (λ y. y ∷ kept_marks from to added (0 + z.len) zs) (by (nat_lt (0 + z.len) from))
  where
    n : ℕ
    n = place_after from to added (first_kept from to (0 + z.len) zs)

    by : (a : Bool) → (if a then z else broken z (place_after from to added (first_kept from to (0 + z.len) zs))) ≡ (if a then z else broken z (place_after from to added (first_kept from to (0 + z.len) zs) - 0))
    by true = refl
    by false = ap (broken z) (omega arith)

ending-cut : {S : Type 0} (from to added : ℕ) (front : List (Mark S)) (here : Mark S) (marked : Bool) (aside : List (Mark S)) → (aside ≡ []) ⊎ (from ≤ reach front + here.len) →
    all_of (cut_off from to added (record { front = front; here = here; marked = marked; aside = aside })) ≡ front ++ ending from to added (reach front) here aside
ending-cut {S = S} from to added front here marked aside there = by (nat_lt (reach front + here.len) from) refl there
  where
    next : ℕ
    next = reach front + here.len

    k : Kept S
    k = record { front = front; here = here; marked = marked; aside = aside }

    cut : Mark S
    cut = broken here (place_after from to added (first_kept from to (reach front + here.len) aside) - reach front)

    by : (b : Bool) → nat_lt (reach front + here.len) from ≡ b → (aside ≡ []) ⊎ (from ≤ reach front + here.len) →
        all_of (if b then (record { front = front; here = here; marked = marked; aside = aside })
        else record { front = front; here = broken here (place_after from to added (first_kept from to (reach front + here.len) aside) - reach front); marked = marked; aside = kept_marks from to added (reach front + here.len) aside })
        ≡ front ++ (if b then here else broken here (place_after from to added (first_kept from to (reach front + here.len) aside) - reach front)) ∷ kept_marks from to added (reach front + here.len) aside
    by true e (inl none) = let P : List (Mark S) → Type 0 = λ l. front ++ here ∷ l ≡ front ++ here ∷ kept_marks from to added (reach front + here.len) l in subst P (sym none) refl
    by true e (inr le) = absurd (let lt = below (reach front + here.len) from e in omega arith)
    by false e w = refl

-- all marks, edited, are those that were cut off
cut_all : {S : Type 0} (from to added : ℕ) (front : List (Mark S)) (here : Mark S) (marked : Bool) (aside : List (Mark S)) → from ≤ to → (reach front < from) ⊎ (front ≡ []) → (aside ≡ []) ⊎ (from ≤ reach front + here.len) →
    all_of (cut_off from to added (record { front = front; here = here; marked = marked; aside = aside })) ≡ edit_all from to added (front ++ here ∷ aside)
cut_all from to added [] here marked aside o before there = ending-cut from to added [] here marked aside there ∙ sym (ending-start from to added here aside)
cut_all from to added (x ∷ xs) here marked aside o (inr none) there = absurd (let n = ap length none in omega arith)
cut_all from to added (x ∷ xs) here marked aside o (inl lt) there =
    let start : edit_all from to added ((x ∷ xs) ++ here ∷ aside) ≡ x ∷ kept_marks from to added (0 + x.len) (xs ++ here ∷ aside) =
    ap (λ y. y ∷ kept_marks from to added (0 + x.len) (xs ++ here ∷ aside)) (start-apart x (place_after from to added (first_kept from to (0 + x.len) (xs ++ here ∷ aside))) (nat_lt (0 + x.len) from) (is_below (0 + x.len) from (omega arith))) in
    let rest : kept_marks from to added (0 + x.len) (xs ++ here ∷ aside) ≡ xs ++ ending from to added (x.len + reach xs) here aside =
    front-kept from to added (0 + x.len) (x.len + reach xs) xs here aside (omega arith) lt ∙ ap (λ l. xs ++ l) (ending-kept from to added (x.len + reach xs) here aside o lt) in
    ending-cut from to added (x ∷ xs) here marked aside there ∙ sym (start ∙ ap (λ l. x ∷ l) rest)

pub cut_edits : {S : Type 0} (from to added : ℕ) (k : Kept S) → from ≤ to → (frontier_of k < from) ⊎ (k.front ≡ []) → (k.aside ≡ []) ⊎ (from ≤ frontier_of k + k.here.len) →
    all_of (cut_off from to added k) ≡ edit_all from to added (all_of k)
cut_edits from to added k o before there = cut_all from to added k.front k.here k.marked k.aside o before there

cut_front : {S : Type 0} (from to added : ℕ) (k : Kept S) → (cut_off from to added k).front ≡ k.front
cut_front {S = S} from to added k = by (nat_lt (frontier_of k + k.here.len) from)
  where
    by : (b : Bool) → (if b then k else record {
      front = k.front;
      here = broken k.here (place_after from to added (first_kept from to (frontier_of k + k.here.len) k.aside) - frontier_of k);
      marked = k.marked;
      aside = kept_marks from to added (frontier_of k + k.here.len) k.aside;
    }).front ≡ k.front
    by true = refl
    by false = refl

whole-front : {S : Type 0} (xs ys : List (Mark S)) → AreWhole (xs ++ ys) → AreWhole xs
whole-front [] ys w = tt
whole-front (x ∷ xs) ys w = (w.0, whole-front xs ys w.1)

-- the same list, with as many marks in front
record SameParts {S : Type 0} (xs : List (Mark S)) (y : Mark S) (ys : List (Mark S)) (us : List (Mark S)) (v : Mark S) (vs : List (Mark S)) : Type 0 where
  front : xs ≡ us
  here : y ≡ v
  aside : ys ≡ vs

same-parts : {S : Type 0} (xs : List (Mark S)) (y : Mark S) (ys : List (Mark S)) (us : List (Mark S)) (v : Mark S) (vs : List (Mark S)) → length xs ≡ length us → xs ++ y ∷ ys ≡ us ++ v ∷ vs → SameParts xs y ys us v vs
same-parts [] y ys [] v vs n e = record { front = refl; here = cc; aside = cc }
same-parts [] y ys (u ∷ us) v vs n e = absurd (omega arith)
same-parts (x ∷ xs) y ys [] v vs n e = absurd (omega arith)
same-parts (x ∷ xs) y ys (u ∷ us) v vs n e =
    let tail : xs ++ y ∷ ys ≡ us ++ v ∷ vs = cc in
    let head : x ≡ u = cc in
    let rest = same-parts xs y ys us v vs (omega arith) tail in
    record { front = ap (λ l. x ∷ l) rest.front ∙ ap (λ z. z ∷ us) head; here = rest.here; aside = rest.aside }

kept_of : {S : Type 0} → List (Mark S) → Mark S → Bool → List (Mark S) → Kept S
kept_of front here marked aside = record { front = front; here = here; marked = marked; aside = aside }

-- an edit at or before the frontier
pub edited_at : {S : Type 0} (from to added : ℕ) (k g d : Kept S) → from ≤ to → from ≤ frontier_of k → AreWhole k.front → GoesBack from k g → d ≡ cut_off from to added g →
    record { front = d.front; here = d.here; marked = true; aside = d.aside } ≡ edit_noted from to added k
edited_at {S = S} from to added k g d o le w b is =
    let P : Kept S → Type 0 = λ j. record { front = j.front; here = j.here; marked = true; aside = j.aside } ≡ edit_noted from to added k in
    let all : edit_all from to added (all_of k) ≡ all_of (cut_off from to added g) = ap (edit_all from to added) (sym b.all) ∙ sym (cut_edits from to added g o b.there (inr b.touched)) in
    let j : Kept S = cut_off from to added g in
    let form = cut_is from to added g b.touched in
    let ends : j.here.whole ≡ false = ap (λ (i : Kept S). i.here.whole) form in
    let W : List (Mark S) → Type 0 = λ l. AreWhole l in
    let wholes : AreWhole j.front = subst W (sym (cut_front from to added g)) (whole-front g.front b.passed (subst W b.front w)) in
    let there = split-there true j.front j.here j.aside k wholes ends in
    let split : edit_noted from to added k ≡ split_all k true (edit_all from to added (all_of k)) = ap (λ (c : Bool). split_all k (if c then k.marked else true) (edit_all from to added (all_of k))) (is_above (frontier_of k) from le) in
    subst P (sym is) (sym (split ∙ ap (split_all k true) all ∙ there))

-- an edit behind the frontier
pub edited_behind : {S : Type 0} (from to added : ℕ) (k g d m : Kept S) → from ≤ to → frontier_of k < from → AreWhole k.front → k.here.whole ≡ false → GoesOn from k g → d ≡ cut_off from to added g → d.marked ≡ g.marked →
    ComesBack (length k.front) d m → m ≡ edit_noted from to added k
unfolding kept_of
edited_behind {S = S} from to added k g d m o lt w ends b is mark back =
    let l : Left from to added (frontier_of k) k.front k.here k.aside (edit_all from to added (all_of k)) = left-all from to added (frontier_of k) k.front k.here k.aside w ends refl lt in
    let all : all_of m ≡ k.front ++ l.here ∷ kept_marks from to added (frontier_of k + k.here.len) k.aside =
    back.all ∙ ap all_of is ∙ cut_edits from to added g o (inl b.before) b.there ∙ ap (edit_all from to added) b.all ∙ l.same in
    let same = same-parts m.front m.here m.aside k.front l.here (kept_marks from to added (frontier_of k + k.here.len) k.aside) back.front all in
    let there = split-there k.marked k.front l.here (kept_marks from to added (frontier_of k + k.here.len) k.aside) k w l.ends in
    let split : edit_noted from to added k ≡ split_all k k.marked (edit_all from to added (all_of k)) = ap (λ (c : Bool). split_all k (if c then k.marked else true) (edit_all from to added (all_of k))) (is_below (frontier_of k) from lt) in
    let whole : edit_noted from to added k ≡ kept_of k.front l.here k.marked (kept_marks from to added (frontier_of k + k.here.len) k.aside) = split ∙ ap (split_all k k.marked) l.same ∙ there in
    ap (λ f. kept_of f m.here m.marked m.aside) same.front
    ∙ ap (λ h. kept_of k.front h m.marked m.aside) same.here
    ∙ ap (λ b. kept_of k.front l.here b m.aside) (back.marked ∙ mark ∙ b.marked)
    ∙ ap (kept_of k.front l.here k.marked) same.aside
    ∙ sym whole

-- where the frontier lies, whatever was kept
pub front-same : {S : Type 0} (xs us ys vs : List (Mark S)) → length xs ≡ length us → xs ++ ys ≡ us ++ vs → xs ≡ us
front-same [] [] ys vs n e = refl
front-same [] (u ∷ us) ys vs n e = absurd (omega arith)
front-same (x ∷ xs) [] ys vs n e = absurd (omega arith)
front-same (x ∷ xs) (u ∷ us) ys vs n e =
    let tail : xs ++ ys ≡ us ++ vs = cc in
    let head : x ≡ u = cc in
    ap (λ l. x ∷ l) (front-same xs us ys vs (omega arith) tail) ∙ ap (λ z. z ∷ us) head

pub frontier_behind : {S : Type 0} (from : ℕ) (k g d m : Kept S) → frontier_of k < from → GoesOn from k g → d.front ≡ g.front → ComesBack (length k.front) d m → FrontierAfterEdit from (frontier_of k) (frontier_of m)
frontier_behind from k g d m lt b same back = record {
  before = λ _. ap reach (front-same m.front k.front (m.here ∷ m.aside) (b.passed ++ d.here ∷ d.aside) back.front
      (back.all ∙ ap (λ l. l ++ d.here ∷ d.aside) (same ∙ b.front) ∙ append_assoc k.front b.passed (d.here ∷ d.aside)));
  back = λ le. absurd (omega arith);
}

pub frontier_at : {S : Type 0} (from : ℕ) (k g d : Kept S) → from ≤ frontier_of k → GoesBack from k g → d.front ≡ g.front → FrontierAfterEdit from (frontier_of k) (frontier_of d)
frontier_at from k g d le b same = record { before = λ lt. absurd (omega arith); back = λ _. by b.there }
  where
    by : (frontier_of g < from) ⊎ (g.front ≡ []) → (frontier_of d < from) ⊎ (frontier_of d ≡ 0)
    by (inl lt) = inl (let e = ap reach same in omega arith)
    by (inr none) = inr (let e = ap reach same in let n = ap reach none in omega arith)

pub fits_same : {S : Type 0} (from to added : ℕ) (k g : Kept S) → all_of g ≡ all_of k → Fits from to added k → Fits from to added g
fits_same from to added k g all fits =
    let n = ap reach all in
    let old = fits.old in
    let new = fits.new in
    record { old = omega arith; new = omega arith }
