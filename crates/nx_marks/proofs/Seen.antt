-- What is seen of a line where all that is aside is in front of the frontier.
use Rattle.std.proofs.Common.{◌≡◌, ◌⊎◌, inl, inr, ℕ, ◌+◌, ◌-◌, ◌<◌, ◌≤◌, Bool, true, false, List, [], ◌∷◌, ◌++◌, length, refl, sym, ap, subst, ◌∙◌, arith, append_assoc}
use Rattle.std.proofs.lemmas.List.{length-append, append-nil}
use Rattle.nx_marks.specs.Chain.{AreWhole, Kept, all_of, frontier_of, reach}
use Rattle.nx_marks.specs.Editing.{noted, split}
use Rattle.nx_marks.specs.Joined.{but_last, last, seen}
use Rattle.nx_marks.specs.Right.{tags_behind}
use Rattle.nx_marks.specs.Tree.{IsAt, unsaved, whole_count}
use Rattle.nx_marks.specs.Walking.{MovesOn, GoesBack, GoesOn, Follows}
use Rattle.nx_marks.specs.declared.mark.Mark.{Mark}
use Rattle.nx_marks.proofs.Backs.{reach-append}
use Rattle.nx_marks.proofs.Cutting.{front-same}
use Rattle.nx_marks.proofs.Holding.{longer}
use Rattle.nx_marks.proofs.Topping.{tags-last}
use Rattle.nx_marks.proofs.Passing.{split-passed, whole-within}
use Rattle.nx_marks.proofs.Trees.{is-empty}

pub parts : {S : Type 0} (x : Mark S) (ys : List (Mark S)) → but_last x ys ++ last x ys ∷ [] ≡ x ∷ ys
parts x [] = refl
parts x (y ∷ ys) = ap (λ l. x ∷ l) (parts y ys)

-- the list of marks is the same
pub seen-all : {S : Type 0} (joined : Bool) (k : Kept S) → all_of (seen joined k) ≡ all_of k
seen-all false k = refl
seen-all true k = append_assoc k.front (but_last k.here k.aside) (last k.here k.aside ∷ []) ∙ ap (λ l. k.front ++ l) (parts k.here k.aside)

kept_of : {S : Type 0} → List (Mark S) → Mark S → Bool → List (Mark S) → Kept S
kept_of front here marked aside = record { front = front; here = here; marked = marked; aside = aside }

-- where none is aside nothing is joined
pub seen-none : {S : Type 0} (joined : Bool) (k : Kept S) → k.aside ≡ [] → seen joined k ≡ k
unfolding kept_of
seen-none false k e = refl
seen-none {S = S} true k e = by k.aside e
  where
    by : (l : List (Mark S)) → l ≡ [] → seen true (record { front = k.front; here = k.here; marked = k.marked; aside = l }) ≡ record { front = k.front; here = k.here; marked = k.marked; aside = l }
    by [] f = ap (λ xs. kept_of xs k.here k.marked []) (append-nil k.front)
    by (x ∷ xs) f = absurd (let n = ap length f in omega arith)

pub last-behind : {S : Type 0} (x : Mark S) (ys : List (Mark S)) (z : Mark S) → last x (ys ++ z ∷ []) ≡ z
last-behind x [] z = refl
last-behind x (y ∷ ys) z = last-behind y ys z

pub but-last-behind : {S : Type 0} (x : Mark S) (ys : List (Mark S)) (z : Mark S) → but_last x (ys ++ z ∷ []) ≡ x ∷ ys
but-last-behind x [] z = refl
but-last-behind x (y ∷ ys) z = ap (λ l. x ∷ l) (but-last-behind y ys z)

-- all that was aside is passed
pub arrived : {S : Type 0} (old now : Kept S) → MovesOn (length old.aside) old now → now ≡ seen true old
unfolding kept_of
arrived {S = S} old now (inl same) = same.1 ∙ sym (seen-none true old (is-empty old.aside (omega (arith, same.0))))
arrived {S = S} old now (inr m) =
    ap (λ l. kept_of l now.here now.marked now.aside) m.front
    ∙ ap (λ b. kept_of (old.front ++ old.here ∷ m.more) now.here b now.aside) m.marked
    ∙ ap (kept_of (old.front ++ old.here ∷ m.more) now.here old.marked) none
    ∙ ap (λ l. kept_of (old.front ++ l) now.here old.marked []) (sym (ap (but_last old.here) list ∙ but-last-behind old.here m.more now.here))
    ∙ ap (λ x. kept_of (old.front ++ but_last old.here old.aside) x old.marked []) (sym (ap (last old.here) list ∙ last-behind old.here m.more now.here))
  where
    none : now.aside ≡ []
    none = is-empty now.aside (let l = ap length m.aside in let a = length-append m.more (now.here ∷ now.aside) in omega (arith, m.many))

    list : old.aside ≡ m.more ++ now.here ∷ []
    list = m.aside ∙ ap (λ l. m.more ++ now.here ∷ l) none

-- ---- places

-- what is read behind all but one is the last
pub record Ends {S : Type 0} (marks : List (Mark S)) (x : Mark S) (place : ℕ) : Type 0 where
  pub earlier : List (Mark S)
  pub are : marks ≡ earlier ++ x ∷ []
  pub there : place ≡ reach earlier

pub ends-with : {S : Type 0} (marks : List (Mark S)) (n place : ℕ) (x : Mark S) → n + 1 ≡ length marks → IsAt marks n place x → Ends marks x place
ends-with marks n place x e i = record {
  earlier = i.earlier;
  are = i.are ∙ ap (λ l. i.earlier ++ x ∷ l) (is-empty i.later (let a = ap length i.are in let b = length-append i.earlier (x ∷ i.later) in let c = i.count in omega arith));
  there = i.there;
}

pub last-read : {S : Type 0} (here x : Mark S) (marks : List (Mark S)) (place : ℕ) → Ends marks x place → x ≡ last here marks
last-read here x marks place e = sym (ap (last here) e.are ∙ last-behind here e.earlier x)

-- where the last mark lies
pub end-there : {S : Type 0} (k : Kept S) (x : Mark S) (place : ℕ) → Ends k.aside x place → frontier_of k + k.here.len + place ≡ frontier_of (seen true k)
end-there k x place e =
    let a = ap (λ l. reach (k.front ++ l)) (ap (but_last k.here) e.are ∙ but-last-behind k.here e.earlier x) in
    let b = reach-append k.front (k.here ∷ e.earlier) in
    let c = e.there in
    omega arith

-- how many tags lie behind the one before the last
pub tags-alone : {S : Type 0} (front : List (Mark S)) (here : Mark S) (aside : List (Mark S)) → length aside ≡ 1 → here.tags ≡ tags_behind (front ++ but_last here aside)
tags-alone front here [] e = absurd (omega arith)
tags-alone front here (x ∷ []) e = sym (tags-last front here)
tags-alone front here (x ∷ y ∷ ys) e = absurd (omega arith)

pub tags-second : {S : Type 0} (front : List (Mark S)) (here y : Mark S) (aside : List (Mark S)) (n place : ℕ) → n + 2 ≡ length aside → IsAt aside n place y → y.tags ≡ tags_behind (front ++ but_last here aside)
tags-second {S = S} front here y aside n place e i = by i.later (let a = ap length i.are in let b = length-append i.earlier (y ∷ i.later) in let c = i.count in omega arith) i.are
  where
    by : (l : List (Mark S)) → length l ≡ 1 → aside ≡ i.earlier ++ y ∷ l → y.tags ≡ tags_behind (front ++ but_last here aside)
    by [] f g = absurd (omega arith)
    by (z ∷ []) f g =
        let split : aside ≡ (i.earlier ++ y ∷ []) ++ z ∷ [] = g ∙ sym (append_assoc i.earlier (y ∷ []) (z ∷ [])) in
        sym (ap (λ l. tags_behind (front ++ l)) (ap (but_last here) split ∙ but-last-behind here (i.earlier ++ y ∷ []) z)
        ∙ ap tags_behind (sym (append_assoc front (here ∷ i.earlier) (y ∷ [])))
        ∙ tags-last (front ++ here ∷ i.earlier) y)
    by (z ∷ w ∷ ws) f g = absurd (omega arith)

-- the last one is no mark any more
pub noted_last : {S : Type 0} (front : List (Mark S)) (here x y : Mark S) (marked : Bool) (others single old new : List (Mark S)) → old ≡ others ++ x ∷ [] → y ≡ unsaved x → single ≡ y ∷ [] → new ≡ others ++ single →
    seen true (record { front = front; here = here; marked = marked; aside = new }) ≡ noted (seen true (record { front = front; here = here; marked = marked; aside = old }))
unfolding kept_of
noted_last front here x y marked others single old new e u s f =
    let list : new ≡ others ++ unsaved x ∷ [] = f ∙ ap (λ l. others ++ l) (s ∙ ap (λ z. z ∷ []) u) in
    ap (λ l. kept_of (front ++ l) (last here new) marked []) (ap (but_last here) list ∙ but-last-behind here others (unsaved x) ∙ sym (ap (but_last here) e ∙ but-last-behind here others x))
    ∙ ap (λ z. kept_of (front ++ but_last here old) z marked []) (ap (last here) list ∙ last-behind here others (unsaved x) ∙ ap unsaved (sym (ap (last here) e ∙ last-behind here others x)))

-- ---- rows

-- the last of some, and those in front of it
pub record Parted {S : Type 0} (marks : List (Mark S)) : Type 0 where
  pub earlier : List (Mark S)
  pub mark : Mark S
  pub are : marks ≡ earlier ++ mark ∷ []

pub parted_at : {S : Type 0} (xs : List (Mark S)) → 0 < length xs → Parted xs
parted_at [] lt = absurd (omega arith)
parted_at (x ∷ []) lt = record { earlier = []; mark = x; are = refl }
parted_at (x ∷ y ∷ ys) lt = let p = parted_at (y ∷ ys) (omega arith) in record { earlier = x ∷ p.earlier; mark = p.mark; are = ap (λ l. x ∷ l) p.are }

-- all but the last are whole
pub row-follows : {S : Type 0} (front : List (Mark S)) (here : Mark S) (marked : Bool) (aside : List (Mark S)) (whole : ℕ) → here.whole ≡ true → 0 < length aside → whole ≡ whole_count aside → length aside - 1 ≤ whole →
    Follows (record { front = front; here = here; marked = marked; aside = aside }) (seen true (record { front = front; here = here; marked = marked; aside = aside }))
unfolding kept_of
row-follows {S = S} front here marked aside whole w some e le =
    ap (λ l. kept_of (front ++ l) (last here aside) marked []) (ap (but_last here) parted.are ∙ but-last-behind here parted.earlier parted.mark)
    ∙ ap (λ z. kept_of (front ++ here ∷ parted.earlier) z marked []) (ap (last here) parted.are ∙ last-behind here parted.earlier parted.mark)
    ∙ ap (λ (r : Kept S). kept_of (front ++ r.front) r.here marked r.aside) (sym row)
  where
    parted : Parted aside
    parted = parted_at aside some

    wholes : AreWhole parted.earlier
    wholes =
        let C : List (Mark S) → Type 0 = λ l. length parted.earlier ≤ whole_count l in
        let n = longer aside parted.earlier parted.mark parted.are in
        whole-within parted.earlier (parted.mark ∷ []) (subst C parted.are (omega arith))

    row : split marked here aside ≡ kept_of (here ∷ parted.earlier) parted.mark marked []
    row = ap (split marked here) parted.are ∙ split-passed marked here parted.earlier parted.mark [] w wholes (inl refl)

-- ---- before a place

pub back_in_front : {S : Type 0} (joined : Bool) (from : ℕ) (k j : Kept S) → GoesBack from k j → GoesBack from (seen joined k) j
back_in_front false from k j g = g
back_in_front true from k j g = record {
  all = g.all ∙ sym (seen-all true k);
  passed = g.passed ++ but_last k.here k.aside;
  front = ap (λ l. l ++ but_last k.here k.aside) g.front ∙ append_assoc j.front g.passed (but_last k.here k.aside);
  touched = g.touched;
  there = g.there;
}

-- the front up to the last of all is that of the list
same-front : {S : Type 0} (k j : Kept S) → all_of j ≡ all_of k → (seen true j).front ≡ (seen true k).front
same-front k j all =
    let e : (seen true j).front ++ last j.here j.aside ∷ [] ≡ (seen true k).front ++ last k.here k.aside ∷ [] = seen-all true j ∙ all ∙ sym (seen-all true k) in
    let n = ap length e in
    let a = length-append (seen true j).front (last j.here j.aside ∷ []) in
    let b = length-append (seen true k).front (last k.here k.aside ∷ []) in
    front-same (seen true j).front (seen true k).front (last j.here j.aside ∷ []) (last k.here k.aside ∷ []) (omega arith) e

pub on_behind : {S : Type 0} (from : ℕ) (k j : Kept S) → GoesOn from k j → from ≤ frontier_of (seen true k) → GoesBack from (seen true k) j
on_behind from k j g le = record {
  all = g.all ∙ sym (seen-all true k);
  passed = but_last j.here j.aside;
  front = sym (same-front k j g.all);
  touched = by g.there;
  there = inl g.before;
}
  where
    by : (j.aside ≡ []) ⊎ (from ≤ frontier_of j + j.here.len) → from ≤ frontier_of j + j.here.len
    by (inr there) = there
    by (inl none) = absurd (let a = ap (λ (i : Kept _). frontier_of i) (seen-none true j none) in let b = ap reach (same-front k j g.all) in let c = g.before in omega arith)

-- some marks are passed
pub seen-longer : {S : Type 0} (k : Kept S) → 0 < length k.aside → length k.front < length (seen true k).front
seen-longer {S = S} k some = by k.aside some
  where
    by : (l : List (Mark S)) → 0 < length l → length k.front < length (k.front ++ but_last k.here l)
    by [] lt = absurd (omega arith)
    by (y ∷ ys) lt = let n = length-append k.front (but_last k.here (y ∷ ys)) in omega arith

-- behind what is joined nothing is aside
pub nothing-joined : {S : Type 0} (joined : Bool) (k : Kept S) → joined ≡ true → (seen joined k).aside ≡ []
nothing-joined true k e = refl
nothing-joined false k e = absurd (cc)

-- where the next mark isn't at the frontier, or none is left, that is so of what is seen
pub seen-settled : {S : Type 0} (joined : Bool) (k : Kept S) → (0 < k.here.len) ⊎ (k.aside ≡ []) → (0 < (seen joined k).here.len) ⊎ ((seen joined k).aside ≡ [])
seen-settled true k h = inr refl
seen-settled false k h = h
