-- What marks of two parts come to, and where they lie.
use Rattle.std.proofs.Common.{◌≡◌, ℕ, ◌+◌, ◌-◌, ◌<◌, ◌≤◌, ◌*◌, ◌==◌, ◌^◌, Bool, true, false, not, ◌&&◌, ◌||◌, List, [], ◌∷◌, ◌++◌, length, suc, Option, Some, Box, refl, sym, ap, subst, ◌∙◌, ◌⊎◌, inl, inr, arith, append_assoc, length-append}
use Rattle.std.specs.Prelude.{max, nat_le, if◌then◌else◌}
use Rattle.std.specs.declared.alloc.Global.{Global}
use Rattle.std.proofs.Math.Nat.{add_comm, max-eq_left, max-eq_right, mul-le-mul_left, mul-le-mul_right, mul_assoc, mul_comm}
use Rattle.std.proofs.lemmas.Bool.Decides.{nat_tests}
use Rattle.std.proofs.lemmas.Grind.{pow_more}
use Rattle.nx_marks.specs.Chain.{reach}
use Rattle.nx_marks.specs.Tree.{at_root, if_root, Balanced, IsBetween, IsNode, Opened, Summed, all_whole, any_faulty, has_some, count_up_to, whole_count, IsAt}
use Rattle.nx_marks.specs.declared.mark.Mark.{Mark}
use Rattle.nx_marks.specs.declared.tree.Node.{Node}
use Rattle.nx_marks.proofs.Backs.{reach-append}

-- ---- what is known of a tree's marks once its root is a node

opened_by : {S : Type 0} (all l : List (Mark S)) (m : Mark S) (r : List (Mark S)) (count far : ℕ) (whole faulty : Bool) → all ≡ l ++ m ∷ r → IsNode l m r count far whole faulty → Opened all l m r
opened_by all l m r count far whole faulty is node =
    let n = length-append l (m ∷ r) in
    let f = reach-append l (m ∷ r) in
    record { is = is; counts = rw is (omega arith); reaches = rw is (omega arith); count_fits = rw is node.sums.count_fits; reach_fits = rw is node.sums.reach_fits; balanced = node.balanced }

pub at_node : {S : Type 0} {root : Option (Box (Node S) Global)} {all : List (Mark S)} {b : Box (Node S) Global} → at_root [] (λ b. b.value.left ++ b.value.mark ∷ b.value.right) root ≡ all → if_root (λ b. IsNode b.value.left b.value.mark b.value.right b.value.sums.count b.value.sums.reach b.value.sums.whole b.value.sums.faulty) root → root ≡ Some b → Opened all b.value.left b.value.mark b.value.right
at_node {S} {root} {all} {b} view_is node is =
    opened_by _ _ _ _ _ _ _ _
    (sym view_is ∙ ap (λ o. at_root [] (λ b. b.value.left ++ b.value.mark ∷ b.value.right) o) is)
    (subst (λ o. if_root (λ b. IsNode b.value.left b.value.mark b.value.right b.value.sums.count b.value.sums.reach b.value.sums.whole b.value.sums.faulty) o) is node)

-- a root tells what all marks come to
pub sums_at : {S : Type 0} {root : Option (Box (Node S) Global)} {all : List (Mark S)} {b : Box (Node S) Global} → at_root [] (λ b. b.value.left ++ b.value.mark ∷ b.value.right) root ≡ all → if_root (λ b. IsNode b.value.left b.value.mark b.value.right b.value.sums.count b.value.sums.reach b.value.sums.whole b.value.sums.faulty) root → root ≡ Some b → Summed all b.value.sums.count b.value.sums.reach b.value.sums.whole b.value.sums.faulty
sums_at {S} {root} {all} {b} view_is node is =
    let known = subst (λ o. if_root (λ b. IsNode b.value.left b.value.mark b.value.right b.value.sums.count b.value.sums.reach b.value.sums.whole b.value.sums.faulty) o) is node in
    let root_is = ap (λ o. at_root [] (λ b. b.value.left ++ b.value.mark ∷ b.value.right) o) (sym is) ∙ view_is in
    subst (λ l. Summed l b.value.sums.count b.value.sums.reach b.value.sums.whole b.value.sums.faulty) root_is known.sums

-- how far marks reach without some of them

pub reach-parts : {S : Type 0} (l : List (Mark S)) (m : Mark S) (r : List (Mark S)) → reach (l ++ m ∷ r) ≡ reach l + m.len + reach r
reach-parts l m r = let f = reach-append l (m ∷ r) in omega arith

pub length-parts : {S : Type 0} (l : List (Mark S)) (m : Mark S) (r : List (Mark S)) → length (l ++ m ∷ r) ≡ length l + 1 + length r
length-parts l m r = let n = length-append l (m ∷ r) in omega arith

pub fits-without-front : {S : Type 0} (most : ℕ) (l a b : List (Mark S)) (m : Mark S) (r : List (Mark S)) → l ≡ a ++ b → reach (l ++ m ∷ r) < most → reach (b ++ m ∷ r) < most
fits-without-front most l a b m r is fits =
    let e = ap reach is ∙ reach-append a b in
    let f = reach-parts l m r in
    let n = reach-parts b m r in
    omega arith

pub fits-without-end : {S : Type 0} (most : ℕ) (l : List (Mark S)) (m : Mark S) (r a b : List (Mark S)) → r ≡ a ++ b → reach (l ++ m ∷ r) < most → reach (l ++ m ∷ a) < most
fits-without-end most l m r a b is fits =
    let e = ap reach is ∙ reach-append a b in
    let f = reach-parts l m r in
    let n = reach-parts l m a in
    omega arith

-- what two tests come to

pub and-then : {a b v : Bool} → a ≡ true → v ≡ b → v ≡ (a && b)
and-then {a} {b} {v} h e = rw h e

pub and-else : {a v : Bool} (b : Bool) → a ≡ false → v ≡ false → v ≡ (a && b)
and-else {a} {v} b h e = rw h e

pub or-then : {a v : Bool} (b : Bool) → a ≡ true → v ≡ true → v ≡ (a || b)
or-then {a} {v} b h e = rw h e

pub or-else : {a b v : Bool} → a ≡ false → v ≡ b → v ≡ (a || b)
or-else {a} {b} {v} h e = rw h e

pub is-false : (b : Bool) → not b ≡ true → b ≡ false
is-false true e = absurd (cc)
is-false false e = refl

pub is-true : (b : Bool) → not b ≡ false → b ≡ true
is-true true e = refl
is-true false e = absurd (cc)

-- whether all are whole and whether one is faulty

and-assoc : (a b c : Bool) → (a && (b && c)) ≡ ((a && b) && c)
and-assoc true b c = refl
and-assoc false b c = refl

or-assoc : (a b c : Bool) → (a || (b || c)) ≡ ((a || b) || c)
or-assoc true b c = refl
or-assoc false b c = refl

pub whole-append : {S : Type 0} (xs ys : List (Mark S)) → all_whole (xs ++ ys) ≡ (all_whole xs && all_whole ys)
whole-append [] ys = refl
whole-append (x ∷ xs) ys = rw (whole-append xs ys) (and-assoc x.whole (all_whole xs) (all_whole ys))

pub faulty-append : {S : Type 0} (xs ys : List (Mark S)) → any_faulty (xs ++ ys) ≡ (any_faulty xs || any_faulty ys)
faulty-append [] ys = refl
faulty-append (x ∷ xs) ys = rw (faulty-append xs ys) (or-assoc (has_some x.faults) (any_faulty xs) (any_faulty ys))

pub whole-parts : {S : Type 0} (l : List (Mark S)) (m : Mark S) (r : List (Mark S)) (v : Bool) → v ≡ ((all_whole l && m.whole) && all_whole r) → v ≡ all_whole (l ++ m ∷ r)
whole-parts l m r v e = rw (whole-append l (m ∷ r)) (rw (and-assoc (all_whole l) m.whole (all_whole r)) e)

pub faulty-parts : {S : Type 0} (l : List (Mark S)) (m : Mark S) (r : List (Mark S)) (v : Bool) → v ≡ ((any_faulty l || has_some m.faults) || any_faulty r) → v ≡ any_faulty (l ++ m ∷ r)
faulty-parts l m r v e = rw (faulty-append l (m ∷ r)) (rw (or-assoc (any_faulty l) (has_some m.faults) (any_faulty r)) e)

-- what marks and more of them come to
pub summed-with : {S : Type 0} {xs ys all : List (Mark S)} {m n k f g h : ℕ} {a b v d e w : Bool} → Summed xs m f a d → Summed ys n g b e → all ≡ xs ++ ys → length xs + length ys < 2 ^ 32 → reach xs + reach ys < 2 ^ 64 → k ≡ m + n → h ≡ f + g → v ≡ (a && b) → w ≡ (d || e) → Summed all k h v w
summed-with {S} {xs} {ys} {all} s t is count_fits reach_fits counts reaches whole faulty =
    let n = ap length is ∙ length-append xs ys in
    let f = ap reach is ∙ reach-append xs ys in
    record {
      counted = (let a = s.counted in let b = t.counted in omega arith);
      reaches = (let a = s.reaches in let b = t.reaches in omega arith);
      are_whole = rw (is, whole-append xs ys, sym s.are_whole, sym t.are_whole) whole;
      are_faulty = rw (is, faulty-append xs ys, sym s.are_faulty, sym t.are_faulty) faulty;
      count_fits = omega arith;
      reach_fits = omega arith;
    }

has-length : (n : ℕ) → (suc n == 0) ≡ false
has-length n = grind (arith, nat_tests)

pub some-or-none : {X : Type 0} (xs : List X) → has_some xs ≡ not (length xs == 0)
some-or-none [] = refl
some-or-none (x ∷ xs) = rw (has-length (length xs)) refl

-- ---- a mark between others

-- what a mark, those in front of it and those behind it come to
pub node_of : {S : Type 0} (front : List (Mark S)) (m : Mark S) (behind : List (Mark S)) (count far : ℕ) (whole faulty : Bool) → Balanced (length front) (length behind) →
    length front + length behind + 1 < 2 ^ 32 → reach front + m.len + reach behind < 2 ^ 64 → count ≡ length front + 1 + length behind → far ≡ reach front + m.len + reach behind →
    whole ≡ ((all_whole front && m.whole) && all_whole behind) → faulty ≡ ((any_faulty front || has_some m.faults) || any_faulty behind) → IsNode front m behind count far whole faulty
node_of front m behind count far whole faulty balanced count_fits reach_fits counts reaches wholes faults =
    let n = length-append front (m ∷ behind) in
    let f = reach-append front (m ∷ behind) in
    record {
      sums = record {
        counted = omega arith;
        reaches = omega arith;
        are_whole = whole-parts front m behind whole wholes;
        are_faulty = faulty-parts front m behind faulty faults;
        count_fits = omega arith;
        reach_fits = omega arith;
      };
      balanced = balanced;
    }

pub between : {S : Type 0} (front : List (Mark S)) (m : Mark S) (behind : List (Mark S)) → IsBetween front m behind (front ++ m ∷ behind)
between front m behind =
    let n = length-append front (m ∷ behind) in
    let f = reach-append front (m ∷ behind) in
    record { is = refl; counts = omega arith; reaches = omega arith }

and-true : (b : Bool) → b ≡ (b && true)
and-true true = refl
and-true false = refl

or-false : (b : Bool) → b ≡ (b || false)
or-false true = refl
or-false false = refl

-- what one mark comes to
pub summed-one : {S : Type 0} (m : Mark S) (count far : ℕ) (whole faulty : Bool) → m.len < 2 ^ 64 → count ≡ 1 → far ≡ m.len → whole ≡ m.whole → faulty ≡ has_some m.faults → Summed (m ∷ []) count far whole faulty
summed-one m count far whole faulty fits counts reaches wholes faults = record {
  counted = omega arith;
  reaches = omega arith;
  are_whole = wholes ∙ and-true m.whole;
  are_faulty = faults ∙ or-false (has_some m.faults);
  count_fits = omega arith;
  reach_fits = omega arith;
}

-- one more of those behind, where these may be more
pub one-more-behind : (front behind behind' : ℕ) → Balanced front behind → behind + 1 < 3 * (front + 1) → behind' ≡ behind + 1 → Balanced front behind'
one-more-behind front behind behind' b lt is =
    let p = b.front_most in
    let q = b.behind_most in
    record { front_most = omega arith; behind_most = omega arith }

-- ---- how many levels there are

-- one level more than a part has
pub deeper : (d deep part other all : ℕ) → deep ≡ d + 1 → 4 ^ d ≤ 3 ^ d * (part + 1) → part + 1 ≤ 3 * (other + 1) → all ≡ part + 1 + other → 4 ^ deep ≤ 3 ^ deep * (all + 1)
deeper d deep part other all is few most counts =
    let up : 4 ^ (d + 1) ≡ 4 ^ d * 4 = pow_more 4 d in
    let down : 3 ^ (d + 1) ≡ 3 ^ d * 3 = pow_more 3 d in
    let sides : 4 * (part + 1) ≤ 3 * (all + 1) = omega arith in
    let one = mul-le-mul_right 4 few in
    let two = mul-le-mul_left (3 ^ d) sides in
    let turn : 3 ^ d * (part + 1) * 4 ≡ 3 ^ d * (4 * (part + 1)) = mul_assoc (3 ^ d) (part + 1) 4 ∙ ap (λ n. 3 ^ d * n) (mul_comm (part + 1) 4) in
    let back : 3 ^ d * (3 * (all + 1)) ≡ 3 ^ d * 3 * (all + 1) = sym (mul_assoc (3 ^ d) 3 (all + 1)) in
    rw (is, up, down) (omega (arith, one, two, turn, back))

-- two parts, of which the deeper one has a level less
pub levels : (l r all dl dr m deep : ℕ) → 4 ^ dl ≤ 3 ^ dl * (l + 1) → 4 ^ dr ≤ 3 ^ dr * (r + 1) → Balanced l r → all ≡ l + 1 + r → m ≡ max dl dr → deep ≡ 1 + m → 4 ^ deep ≤ 3 ^ deep * (all + 1)
levels l r all dl dr m deep front behind balanced counts larger is =
    elim (lower dl dr) [
      | inl le ↦ deeper dr deep r l all (is ∙ ap (λ n. 1 + n) (larger ∙ max-eq_right le) ∙ add_comm 1 dr) behind balanced.behind_most (counts ∙ turned)
      | inr lt ↦ deeper dl deep l r all (is ∙ ap (λ n. 1 + n) (larger ∙ max-eq_left (omega arith)) ∙ add_comm 1 dl) front balanced.front_most counts
    ]
  where
    lower : (a b : ℕ) → (a ≤ b) ⊎ (b < a)
    lower a b = grind arith

    turned : l + 1 + r ≡ r + 1 + l
    turned = omega arith

-- how many come to a mark, and on

one-more : (b : Bool) (n k : ℕ) → b ≡ true → n + (if b then 1 + k else 0) ≡ n + 1 + k
one-more true n k e = omega arith
one-more false n k e = absurd (cc)

none-more : (b : Bool) (n k : ℕ) → b ≡ false → n + (if b then 1 + k else 0) ≡ n
none-more true n k e = absurd (cc)
none-more false n k e = omega arith

-- how many reach up to a place

pub is-empty : {X : Type 0} (xs : List X) → length xs ≤ 0 → xs ≡ []
is-empty [] le = refl
is-empty (x ∷ xs) le = absurd (omega arith)

pub fits-up-to : (a b : ℕ) → a ≤ b → nat_le a b ≡ true
fits-up-to a b h = grind (arith, nat_tests)

pub goes-beyond : (a b : ℕ) → b < a → nat_le a b ≡ false
goes-beyond a b h = grind (arith, nat_tests)

pub is-up-to : (a b : ℕ) → nat_le a b ≡ true → a ≤ b
is-up-to a b h = grind (arith, nat_tests)

pub count-most : {S : Type 0} (place : ℕ) (xs : List (Mark S)) → count_up_to place xs ≤ length xs
count-most place [] = omega arith
count-most place (x ∷ xs) = by (nat_le x.len place) (count-most (place - x.len) xs)
  where
    by : (b : Bool) → count_up_to (place - x.len) xs ≤ length xs → (if b then 1 + count_up_to (place - x.len) xs else 0) ≤ suc (length xs)
    by true on = omega arith
    by false on = omega arith

pub count-before : {S : Type 0} (place : ℕ) (xs ys : List (Mark S)) → place < reach xs → count_up_to place (xs ++ ys) ≡ count_up_to place xs
count-before place [] ys lt = absurd (omega arith)
count-before place (x ∷ xs) ys lt = by (nat_le x.len place) refl (λ h. count-before (place - x.len) xs ys h)
  where
    by : (b : Bool) → nat_le x.len place ≡ b → (place - x.len < reach xs → count_up_to (place - x.len) (xs ++ ys) ≡ count_up_to (place - x.len) xs) → (if b then 1 + count_up_to (place - x.len) (xs ++ ys) else 0) ≡ (if b then 1 + count_up_to (place - x.len) xs else 0)
    by true e on = let h = is-up-to x.len place e in ap (λ n. 1 + n) (on (omega arith))
    by false e on = refl

pub count-behind : {S : Type 0} (place : ℕ) (xs ys : List (Mark S)) → reach xs ≤ place → count_up_to place (xs ++ ys) ≡ length xs + count_up_to (place - reach xs) ys
count-behind place [] ys le = let e : place - 0 ≡ place = omega arith in rw e (omega arith)
count-behind {S = S} place (x ∷ xs) ys le =
    let h = fits-up-to x.len place (omega arith) in
    let e : place - x.len - reach xs ≡ place - (x.len + reach xs) = omega arith in
    let on = rw e at (count-behind {S = S} (place - x.len) xs ys (omega arith)) in
    rw h (omega arith)

pub count-here : {S : Type 0} (place : ℕ) (xs : List (Mark S)) (m : Mark S) (ys : List (Mark S)) → reach xs ≤ place → place - reach xs < m.len → count_up_to place (xs ++ m ∷ ys) ≡ length xs
count-here place xs m ys le lt = count-behind place xs (m ∷ ys) le ∙ none-more _ _ _ (goes-beyond m.len (place - reach xs) lt)

pub count-on : {S : Type 0} (place : ℕ) (xs : List (Mark S)) (m : Mark S) (ys : List (Mark S)) → reach xs ≤ place → m.len ≤ place - reach xs → count_up_to place (xs ++ m ∷ ys) ≡ length xs + 1 + count_up_to (place - reach xs - m.len) ys
count-on place xs m ys le there = count-behind place xs (m ∷ ys) le ∙ one-more _ _ _ (fits-up-to m.len (place - reach xs) there)

-- how many are whole

pub wholes-most : {S : Type 0} (xs : List (Mark S)) → whole_count xs ≤ length xs
wholes-most [] = omega arith
wholes-most (x ∷ xs) = by x.whole (wholes-most xs)
  where
    by : (b : Bool) → whole_count xs ≤ length xs → (if b then 1 + whole_count xs else 0) ≤ suc (length xs)
    by true on = omega arith
    by false on = omega arith

pub wholes-before : {S : Type 0} (xs ys : List (Mark S)) → all_whole xs ≡ false → whole_count (xs ++ ys) ≡ whole_count xs
wholes-before [] ys h = absurd (cc)
wholes-before (x ∷ xs) ys h = by x.whole h (λ e. wholes-before xs ys e)
  where
    by : (b : Bool) → (b && all_whole xs) ≡ false → (all_whole xs ≡ false → whole_count (xs ++ ys) ≡ whole_count xs) → (if b then 1 + whole_count (xs ++ ys) else 0) ≡ (if b then 1 + whole_count xs else 0)
    by true e on = ap (λ n. 1 + n) (on e)
    by false e on = refl

pub wholes-behind : {S : Type 0} (xs ys : List (Mark S)) → all_whole xs ≡ true → whole_count (xs ++ ys) ≡ length xs + whole_count ys
wholes-behind [] ys h = omega arith
wholes-behind (x ∷ xs) ys h = by x.whole h (λ e. wholes-behind xs ys e)
  where
    by : (b : Bool) → (b && all_whole xs) ≡ true → (all_whole xs ≡ true → whole_count (xs ++ ys) ≡ length xs + whole_count ys) → (if b then 1 + whole_count (xs ++ ys) else 0) ≡ suc (length xs) + whole_count ys
    by true e on = let f = on e in omega arith
    by false e on = absurd (cc)

pub wholes-here : {S : Type 0} (xs : List (Mark S)) (m : Mark S) (ys : List (Mark S)) → all_whole xs ≡ true → m.whole ≡ false → whole_count (xs ++ m ∷ ys) ≡ length xs
wholes-here xs m ys h ends = wholes-behind xs (m ∷ ys) h ∙ none-more _ _ _ ends

pub wholes-on : {S : Type 0} (xs : List (Mark S)) (m : Mark S) (ys : List (Mark S)) → all_whole xs ≡ true → m.whole ≡ true → whole_count (xs ++ m ∷ ys) ≡ length xs + 1 + whole_count ys
wholes-on xs m ys h goes_on = wholes-behind xs (m ∷ ys) h ∙ one-more _ _ _ goes_on

-- where a mark lies

pub lies-behind : {S : Type 0} (xs : List (Mark S)) (m : Mark S) {ys : List (Mark S)} {i p j q : ℕ} {x : Mark S} → IsAt ys i p x → j ≡ length xs + 1 + i → q ≡ reach xs + m.len + p → IsAt (xs ++ m ∷ ys) j q x
lies-behind xs m {ys} {i} {p} {j} {q} {x} a counts reaches =
    let n = length-append xs (m ∷ a.earlier) in
    let r = reach-append xs (m ∷ a.earlier) in
    let c = a.count in
    let t = a.there in
    record {
      earlier = xs ++ m ∷ a.earlier;
      later = a.later;
      are = rw a.are (sym (append_assoc xs (m ∷ a.earlier) (x ∷ a.later)));
      count = omega arith;
      there = omega arith;
    }
