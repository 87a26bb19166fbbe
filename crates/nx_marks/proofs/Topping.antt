-- The marks of a tree, and the last one apart.
use Rattle.std.proofs.Common.{◌≡◌, ◌⊎◌, inl, inr, ℕ, ◌+◌, ◌-◌, ◌^◌, ◌<◌, ◌≤◌, List, [], ◌∷◌, ◌++◌, length, refl, sym, ap, subst, ◌∙◌, arith, append_assoc}
use Rattle.std.specs.Prelude.{if◌then◌else◌, min, Option, None, Some}
use Rattle.std.specs.Option.{option_to_list}
use Rattle.std.proofs.lemmas.List.{append-nil, length-append}
use Rattle.nx_marks.specs.Before.{LiesInFront}
use Rattle.nx_marks.specs.Chain.{reach}
use Rattle.nx_marks.specs.Right.{tags_behind}
use Rattle.nx_marks.specs.Room.{Reaches}
use Rattle.nx_marks.specs.Tree.{IsAt, count_up_to}
use Rattle.nx_marks.specs.declared.mark.Mark.{Mark}
use Rattle.nx_marks.proofs.Backs.{reach-append}
use Rattle.nx_marks.proofs.Walking.{up-to-next, up-to-within}
use Rattle.nx_marks.proofs.Trees.{fits-up-to, goes-beyond, is-empty}

-- ---- how many reach no farther than a place

one-or-none : (a b : ℕ) → (a ≤ b) ⊎ (b < a)
one-or-none a b = grind arith

counts-on : {S : Type 0} (at : ℕ) (x : Mark S) (xs : List (Mark S)) → x.len ≤ at → count_up_to at (x ∷ xs) ≡ 1 + count_up_to (at - x.len) xs
counts-on at x xs le = ap (λ b. if b then 1 + count_up_to (at - x.len) xs else 0) (fits-up-to x.len at le)

stops-at : {S : Type 0} (at : ℕ) (x : Mark S) (xs : List (Mark S)) → at < x.len → count_up_to at (x ∷ xs) ≡ 0
stops-at at x xs lt = ap (λ b. if b then 1 + count_up_to (at - x.len) xs else 0) (goes-beyond x.len at lt)

-- all that reach no farther
pub counts-all : {S : Type 0} (at : ℕ) (xs : List (Mark S)) → reach xs ≤ at → count_up_to at xs ≡ length xs
counts-all at [] le = refl
counts-all at (x ∷ xs) le = let a = counts-on at x xs (omega arith) in let b = counts-all (at - x.len) xs (omega arith) in omega arith

-- where all are counted, all reach no farther
counted-all : {S : Type 0} (at : ℕ) (xs : List (Mark S)) → length xs ≤ count_up_to at xs → reach xs ≤ at
counted-all at [] le = omega arith
counted-all at (x ∷ xs) le =
    elim (one-or-none x.len at) [
      | inl h ↦ (let a = counts-on at x xs h in let b = counted-all (at - x.len) xs (omega arith) in omega arith)
      | inr h ↦ (let a = stops-at at x xs h in absurd (omega arith))
    ]

counts-but-last : {S : Type 0} (at : ℕ) (xs : List (Mark S)) (y : Mark S) → at < reach xs + y.len → count_up_to at xs ≡ count_up_to at (xs ++ y ∷ [])
counts-but-last at [] y lt = let a = stops-at at y [] (omega arith) in omega arith
counts-but-last at (x ∷ xs) y lt =
    elim (one-or-none x.len at) [
      | inl h ↦ (let a = counts-on at x xs h in let b = counts-on at x (xs ++ y ∷ []) h in let c = counts-but-last (at - x.len) xs y (omega arith) in omega arith)
      | inr h ↦ (let a = stops-at at x xs h in let b = stops-at at x (xs ++ y ∷ []) h in omega arith)
    ]

-- the last one apart isn't counted where it reaches farther
pub counts-below : {S : Type 0} (at far : ℕ) (xs : List (Mark S)) (top : Option (Mark S)) → Reaches (xs ++ option_to_list top) far → at < far → count_up_to at xs ≡ count_up_to at (xs ++ option_to_list top)
counts-below at far xs None r lt = ap (count_up_to at) (sym (append-nil xs))
counts-below at far xs (Some y) r lt = let e = r.reaches in let a = reach-append xs (y ∷ []) in counts-but-last at xs y (omega arith)

-- ---- the last one apart

-- the last mark lies behind all of the tree
pub top-far : {S : Type 0} (far : ℕ) (xs : List (Mark S)) (top : Option (Mark S)) (x y : Mark S) → Reaches (xs ++ option_to_list top) far → top ≡ Some x → y ≡ x → far ≡ reach xs + y.len
top-far {S = S} far xs top x y r e f =
    let P : Option (Mark S) → Type 0 = λ o. far ≡ reach (xs ++ option_to_list o) in
    let a : far ≡ reach (xs ++ x ∷ []) = subst P e r.reaches in
    let b = reach-append xs (x ∷ []) in
    let n = ap (λ (m : Mark S). m.len) f in
    omega arith

with-top : {S : Type 0} (xs : List (Mark S)) (top : Option (Mark S)) (x y : Mark S) → top ≡ Some x → y ≡ x → xs ++ option_to_list top ≡ xs ++ y ∷ []
with-top xs top x y e f = ap (λ o. xs ++ option_to_list o) e ∙ ap (λ m. xs ++ m ∷ []) (sym f)

pub raised : {S : Type 0} (all was xs : List (Mark S)) (top : Option (Mark S)) (x : Mark S) → was ≡ all → xs ++ option_to_list top ≡ was → top ≡ Some x → all ≡ xs ++ x ∷ []
raised all was xs top x are e f = sym are ∙ sym e ∙ with-top xs top x x f refl

pub found_top : {S : Type 0} (at far place : ℕ) (xs all : List (Mark S)) (top : Option (Mark S)) (x y z : Mark S) → xs ++ option_to_list top ≡ all → Reaches (xs ++ option_to_list top) far → top ≡ Some x → y ≡ x → z ≡ x → place ≡ far - y.len → place ≤ at → LiesInFront at all place z
found_top at far place xs all top x y z are r e f h p le = record {
  earlier = xs;
  later = [];
  are = sym are ∙ with-top xs top x z e h;
  here = (let a = top-far far xs top x y r e f in omega arith);
  before = le;
  next = inl refl;
}

pub tags-last : {S : Type 0} (before : List (Mark S)) (x : Mark S) → tags_behind (before ++ x ∷ []) ≡ x.tags
tags-last [] x = refl
tags-last (y ∷ []) x = refl
tags-last (y ∷ z ∷ zs) x = tags-last (z ∷ zs) x

pub top-tags : {S : Type 0} (xs all : List (Mark S)) (top : Option (Mark S)) (x y : Mark S) → xs ++ option_to_list top ≡ all → top ≡ Some x → y ≡ x → y.tags ≡ tags_behind all
top-tags xs all top x y are e f = sym (tags-last xs y) ∙ ap tags_behind (sym (with-top xs top x y e f) ∙ are)

-- ---- a mark of the tree

last-of-all : {S : Type 0} (xs all : List (Mark S)) (top : Option (Mark S)) → xs ++ option_to_list top ≡ all → top ≡ None → xs ≡ all
last-of-all xs all top are e = sym (append-nil xs) ∙ ap (λ o. xs ++ option_to_list o) (sym e) ∙ are

pub tree-tags : {S : Type 0} (xs all : List (Mark S)) (top : Option (Mark S)) (n place : ℕ) (x : Mark S) → xs ++ option_to_list top ≡ all → top ≡ None → n ≡ length xs → (n ≡ 0 → ⊥) → IsAt xs (n - 1) place x → x.tags ≡ tags_behind all
tree-tags xs all top n place x are e len some i =
    let a = i.count in
    let b = length-append i.earlier (x ∷ i.later) in
    let c = ap length i.are in
    let l : i.later ≡ [] = is-empty i.later (omega (arith, some)) in
    sym (tags-last i.earlier x) ∙ ap (λ l. tags_behind (i.earlier ++ x ∷ l)) (sym l) ∙ ap tags_behind (sym i.are ∙ last-of-all xs all top are e)

none-later : {S : Type 0} (xs : List (Mark S)) (index place : ℕ) (x : Mark S) (i : IsAt xs index place x) → index + 1 ≡ length xs → i.later ≡ []
none-later xs index place x i e =
    let a = i.count in
    let b = ap length i.are in
    let c = length-append i.earlier (x ∷ i.later) in
    is-empty i.later (omega arith)

reaches-behind : {S : Type 0} (at index place : ℕ) (xs : List (Mark S)) (x : Mark S) → IsAt xs index place x → count_up_to at xs ≡ index → at < place + x.len
reaches-behind at index place xs x i e =
    let a = i.there in
    let b = ap (count_up_to at) i.are in
    let c = i.count in
    let d = up-to-next at i.earlier x i.later (omega arith) in
    omega arith

lies-within : {S : Type 0} (at index place : ℕ) (xs : List (Mark S)) (x : Mark S) → IsAt xs index place x → index ≤ count_up_to at xs → place ≤ at
lies-within at index place xs x i le =
    let a = i.there in
    let b = ap (count_up_to at) i.are in
    let c = i.count in
    let d = up-to-within at i.earlier (x ∷ i.later) (omega arith) in
    omega arith

-- the last one apart lies behind the place, if there is one
pub found_below : {S : Type 0} (at counted count index place : ℕ) (xs all : List (Mark S)) (top : Option (Mark S)) (x : Mark S) → xs ++ option_to_list top ≡ all → (top ≡ None) ⊎ (at < reach xs) →
    counted ≡ count_up_to at xs → count ≡ length xs → index ≡ min counted (count - 1) → IsAt xs index place x → LiesInFront at all place x
found_below {S = S} at counted count index place xs all top x are apart c n m i = record {
  earlier = i.earlier;
  later = i.later ++ option_to_list top;
  are = sym are ∙ ap (λ l. l ++ option_to_list top) i.are ∙ append_assoc i.earlier (x ∷ i.later) (option_to_list top);
  here = i.there;
  before = lies-within at index place xs x i (omega arith);
  next = by apart (edge counted count index c n m (some i));
}
  where
    some : IsAt xs index place x → 0 < length xs
    some i = let b = ap length i.are in let c = length-append i.earlier (x ∷ i.later) in omega arith

    edge : (counted count index : ℕ) → counted ≡ count_up_to at xs → count ≡ length xs → index ≡ min counted (count - 1) → 0 < length xs → (count_up_to at xs ≡ index) ⊎ ((index + 1 ≡ length xs) × (length xs ≤ count_up_to at xs))
    edge counted count index c n m lt = grind arith

    by : (top ≡ None) ⊎ (at < reach xs) → (count_up_to at xs ≡ index) ⊎ ((index + 1 ≡ length xs) × (length xs ≤ count_up_to at xs)) → (i.later ++ option_to_list top ≡ []) ⊎ (at < place + x.len)
    by a (inl e) = inr (reaches-behind at index place xs x i e)
    by (inl e) (inr w) = inl (ap (λ l. l ++ option_to_list top) (none-later xs index place x i w.0) ∙ ap option_to_list e)
    by (inr lt) (inr w) = let f = counted-all at xs w.1 in absurd (omega arith)

-- ---- the last one goes into the tree, or away

pub settled-far : {S : Type 0} (xs one : List (Mark S)) (top : Option (Mark S)) (x : Mark S) → reach (xs ++ option_to_list top) < 2 ^ 64 → top ≡ Some x → one ≡ x ∷ [] → reach xs + reach one < 2 ^ 64
settled-far xs one top x lt e f =
    let a = ap (λ o. reach (xs ++ option_to_list o)) e in
    let b = reach-append xs (x ∷ []) in
    let c = ap reach f in
    omega arith

-- one more
pub pushed : {S : Type 0} (all xs : List (Mark S)) (x y : Mark S) (far far' : ℕ) {was : List (Mark S)} → Reaches was far → was ≡ all → xs ≡ was → length all + 1 < 2 ^ 32 → y ≡ x → far' ≡ far + y.len → Reaches (xs ++ x ∷ []) far'
pushed {S = S} all xs x y far far' r are e lt f g = record {
  reaches = (let a = r.reaches in let b = ap reach e in let c = reach-append xs (x ∷ []) in let n = ap (λ (m : Mark S). m.len) f in omega arith);
  counted = (let b = ap length (e ∙ are) in let c = length-append xs (x ∷ []) in omega arith);
}
