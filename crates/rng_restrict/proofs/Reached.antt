-- The work list finds what the start reaches.
use Rattle.std.specs.Prelude.{◌≡◌, ℕ, suc, ◌+◌, ◌<◌, ◌≤◌, Bool, true, false, not, ◌||◌, ◌&&◌, ◌==◌, nat_lt, if◌then◌else◌, List, [], ◌∷◌, ◌++◌, length, take, get_or, Option, Some, None, slice_get}
use Rattle.std.specs.List.{sum_by}
use Rattle.std.proofs.Common.{refl, sym, ap, ◌∙◌, subst, append_assoc, append-nil, length-append, arith, inl, inr, ◌⊎◌}
use Rattle.std.proofs.Math.Seq.{take-length}
use Rattle.std.proofs.lemmas.Bool.{false≢true, cases_Bool, or_left, or_right, or_cases, and_from, and_right, lt-ltb, le-ltb, eqb-true, eq-eqb}
use Rattle.std.proofs.lemmas.List.{take-append-le, get_or_default}
use Rattle.std.proofs.lemmas.List.Folds.{list_any-append, list_any_more, list_any_at}
use Rattle.std.proofs.lemmas.List.Sums.{sum_by-cons}
use Rattle.std.proofs.lemmas.Option.{slice_get_within}
use Rattle.rng_core.specs.Patterns.{Pattern, Definition, not_allowed, empty, any_text, typed, literal, listed, attribute, ref, one_or_more, choice, group, interleave}
use Rattle.rng_restrict.specs.Standing.{Stands, itself, in_list, in_attribute, in_one_or_more, in_first_choice, in_second_choice, in_first_of_group, in_second_of_group, in_first_of_interleave, in_second_of_interleave}
use Rattle.rng_restrict.specs.Reaching.{IsReached, from_start, from_content}
use Rattle.rng_restrict.specs.Finding.{is_among, with_number, with_references, with_content, IsMarked, HasNumber, AreReached}

-- the second list begins with the first
record Grown (before after : List ℕ) : Type 0 where
  more : List ℕ
  is : after ≡ before ++ more

grown_not : (found : List ℕ) → Grown found found
grown_not found = record { more = []; is = sym (append-nil found) }

grown_twice : {a b c : List ℕ} → Grown a b → Grown b c → Grown a c
grown_twice {a = a} g h = record { more = g.more ++ h.more; is = h.is ∙ ap (λ (xs : List ℕ). xs ++ h.more) g.is ∙ append_assoc a g.more h.more }

still_among : (i : ℕ) {a b : List ℕ} → Grown a b → is_among i a ≡ true → is_among i b ≡ true
still_among i {a = a} g there = ap (is_among i) g.is ∙ list_any-append (λ m. m == i) a g.more ∙ or_left _ _ there

-- a number is added or not, as the test says
grown_if : (test : Bool) (i : ℕ) (found : List ℕ) → Grown found (if test then found ++ i ∷ [] else found)
grown_if true i found = record { more = i ∷ []; is = refl }
grown_if false i found = grown_not found

grown_by_number : (count i : ℕ) (found : List ℕ) → Grown found (with_number count i found)
unfolding with_number
grown_by_number count i found = grown_if (nat_lt i count && not (is_among i found)) i found

grown_by_references : (count : ℕ) (p : Pattern) (found : List ℕ) → Grown found (with_references count p found)
grown_by_references count not_allowed found = grown_not found
grown_by_references count empty found = grown_not found
grown_by_references count any_text found = grown_not found
grown_by_references count (typed type excepts) found = grown_not found
grown_by_references count (literal type text) found = grown_not found
grown_by_references count (listed p) found = grown_by_references count p found
grown_by_references count (attribute class p) found = grown_by_references count p found
grown_by_references count (ref i) found = grown_by_number count i found
grown_by_references count (one_or_more p) found = grown_by_references count p found
grown_by_references count (choice p q) found = grown_twice (grown_by_references count p found) (grown_by_references count q (with_references count p found))
grown_by_references count (group p q) found = grown_twice (grown_by_references count p found) (grown_by_references count q (with_references count p found))
grown_by_references count (interleave p q) found = grown_twice (grown_by_references count p found) (grown_by_references count q (with_references count p found))

is_itself : (i : ℕ) → (i == i) ≡ true
is_itself i = eq-eqb i i refl

same_number : (i j : ℕ) → (i == j) ≡ true → i ≡ j
same_number i j is = eqb-true i j is

-- what is added
pub stays_without : (count i : ℕ) (found : List ℕ) → count ≤ i → with_number count i found ≡ found
unfolding with_number
stays_without count i found outside =
    let out : nat_lt i count ≡ false = le-ltb i count outside in
    ap (λ (b : Bool). if b && not (is_among i found) then found ++ i ∷ [] else found) out

pub stays_among : (count i : ℕ) (found : List ℕ) → is_among i found ≡ true → with_number count i found ≡ found
unfolding with_number
stays_among count i found there =
    let none : (nat_lt i count && not (is_among i found)) ≡ false = and_right _ _ (ap not there) in
    ap (λ (b : Bool). if b then found ++ i ∷ [] else found) none

pub is_added : (count i : ℕ) (found : List ℕ) → i < count → is_among i found ≡ false → with_number count i found ≡ found ++ i ∷ []
unfolding with_number
is_added count i found inside new =
    let test : (nat_lt i count && not (is_among i found)) ≡ true = and_from _ _ (lt-ltb i count inside) (ap not new) in
    ap (λ (b : Bool). if b then found ++ i ∷ [] else found) test

-- a mark that was read says whether the number is there
pub mark_read : (i : ℕ) (found : List ℕ) (seen : List Bool) (mark value : Bool) → i < length seen → IsMarked found seen → mark ≡ get_or seen i mark → mark ≡ value → is_among i found ≡ value
mark_read i found seen mark value inside m read is = sym (m.same i) ∙ get_or_default seen i false mark inside ∙ sym read ∙ is

number_is_there : (count i : ℕ) (found : List ℕ) → i < count → is_among i (with_number count i found) ≡ true
number_is_there count i found inside = elim (cases_Bool (is_among i found)) [
  | inl there ↦ ap (is_among i) (stays_among count i found there) ∙ there
  | inr new ↦ ap (is_among i) (is_added count i found inside new) ∙ list_any-append (λ m. m == i) found (i ∷ []) ∙ or_right (is_among i found) _ (or_left _ _ (is_itself i))
]

-- each reference is there
pub reference_is_there : (count : ℕ) {i : ℕ} {p : Pattern} (found : List ℕ) → i < count → Stands (ref i) p → is_among i (with_references count p found) ≡ true
reference_is_there count {i = i} found inside itself = number_is_there count i found inside
reference_is_there count found inside (in_list s) = reference_is_there count found inside s
reference_is_there count found inside (in_attribute s) = reference_is_there count found inside s
reference_is_there count found inside (in_one_or_more s) = reference_is_there count found inside s
reference_is_there count {i = i} found inside (in_first_choice {p = p} {r = r} s) = still_among i (grown_by_references count r (with_references count p found)) (reference_is_there count found inside s)
reference_is_there count found inside (in_second_choice {p = p} s) = reference_is_there count (with_references count p found) inside s
reference_is_there count {i = i} found inside (in_first_of_group {p = p} {r = r} s) = still_among i (grown_by_references count r (with_references count p found)) (reference_is_there count found inside s)
reference_is_there count found inside (in_second_of_group {p = p} s) = reference_is_there count (with_references count p found) inside s
reference_is_there count {i = i} found inside (in_first_of_interleave {p = p} {r = r} s) = still_among i (grown_by_references count r (with_references count p found)) (reference_is_there count found inside s)
reference_is_there count found inside (in_second_of_interleave {p = p} s) = reference_is_there count (with_references count p found) inside s

-- and nothing else: what is there was there, or is a reference
only_this : (j i : ℕ) (found : List ℕ) → is_among j (found ++ i ∷ []) ≡ true → (is_among j found ≡ true) ⊎ (i ≡ j)
only_this j i found there = elim (or_cases (is_among j found) ((i == j) || false) (sym (list_any-append (λ m. m == j) found (i ∷ [])) ∙ there)) [
  | inl before ↦ inl before
  | inr last ↦ elim (or_cases (i == j) false last) [ inl same ↦ inr (same_number i j same) | inr none ↦ absurd (false≢true none) ]
]

only_if : (test : Bool) (j i : ℕ) (found : List ℕ) → is_among j (if test then found ++ i ∷ [] else found) ≡ true → (is_among j found ≡ true) ⊎ (i ≡ j)
only_if true j i found there = only_this j i found there
only_if false j i found there = inl there

only_number : (count j i : ℕ) (found : List ℕ) → is_among j (with_number count i found) ≡ true → (is_among j found ≡ true) ⊎ Stands (ref j) (ref i)
unfolding with_number
only_number count j i found there = elim (only_if (nat_lt i count && not (is_among i found)) j i found there) [
  | inl before ↦ inl before
  | inr same ↦ inr (let P : ℕ → Type 0 = λ k. Stands (ref k) (ref i) in subst P same itself)
]

of_one : (j : ℕ) (found : List ℕ) {p whole : Pattern} → ((x : Pattern) → Stands x p → Stands x whole) → (is_among j found ≡ true) ⊎ Stands (ref j) p → (is_among j found ≡ true) ⊎ Stands (ref j) whole
of_one j found below (inl before) = inl before
of_one j found below (inr s) = inr (below (ref j) s)

of_two : (j : ℕ) (found middle : List ℕ) {p q whole : Pattern} → ((x : Pattern) → Stands x p → Stands x whole) → ((x : Pattern) → Stands x q → Stands x whole) → (is_among j middle ≡ true → (is_among j found ≡ true) ⊎ Stands (ref j) p) → (is_among j middle ≡ true) ⊎ Stands (ref j) q → (is_among j found ≡ true) ⊎ Stands (ref j) whole
of_two j found middle first second from (inl before) = of_one j found first (from before)
of_two j found middle first second from (inr s) = inr (second (ref j) s)

only_references : (count j : ℕ) (p : Pattern) (found : List ℕ) → is_among j (with_references count p found) ≡ true → (is_among j found ≡ true) ⊎ Stands (ref j) p
only_references count j not_allowed found there = inl there
only_references count j empty found there = inl there
only_references count j any_text found there = inl there
only_references count j (typed type excepts) found there = inl there
only_references count j (literal type text) found there = inl there
only_references count j (listed p) found there = of_one j found (λ x s. in_list s) (only_references count j p found there)
only_references count j (attribute class p) found there = of_one j found (λ x s. in_attribute s) (only_references count j p found there)
only_references count j (ref i) found there = only_number count j i found there
only_references count j (one_or_more p) found there = of_one j found (λ x s. in_one_or_more s) (only_references count j p found there)
only_references count j (choice p q) found there = of_two j found (with_references count p found) (λ x s. in_first_choice s) (λ x s. in_second_choice s) (λ t. only_references count j p found t) (only_references count j q (with_references count p found) there)
only_references count j (group p q) found there = of_two j found (with_references count p found) (λ x s. in_first_of_group s) (λ x s. in_second_of_group s) (λ t. only_references count j p found t) (only_references count j q (with_references count p found) there)
only_references count j (interleave p q) found there = of_two j found (with_references count p found) (λ x s. in_first_of_interleave s) (λ x s. in_second_of_interleave s) (λ t. only_references count j p found t) (only_references count j q (with_references count p found) there)

-- the first so many of the numbers were followed
pub record Spread (start : Pattern) (defs : List Definition) (found : List ℕ) (next : ℕ) : Type 0 where
  pub only : (i : ℕ) (d : Definition) → is_among i found ≡ true → slice_get defs i ≡ Some d → IsReached start defs d
  pub begun : (i : ℕ) → Stands (ref i) start → i < length defs → is_among i found ≡ true
  pub followed : (i j : ℕ) (d : Definition) → is_among i (take next found) ≡ true → slice_get defs i ≡ Some d → Stands (ref j) d.content → j < length defs → is_among j found ≡ true

only_of_start : (start : Pattern) (defs : List Definition) (i : ℕ) (d : Definition) → (is_among i [] ≡ true) ⊎ Stands (ref i) start → slice_get defs i ≡ Some d → IsReached start defs d
only_of_start start defs i d (inl none) there = absurd (false≢true none)
only_of_start start defs i d (inr s) there = from_start s there

pub spread_begins : (start : Pattern) (defs : List Definition) → Spread start defs (with_references (length defs) start []) 0
spread_begins start defs = record {
  only = λ i d among there. only_of_start start defs i d (only_references (length defs) i start [] among) there;
  begun = λ i s inside. reference_is_there (length defs) [] inside s;
  followed = λ i j d among. absurd (false≢true among);
}

-- a definition more is followed
at_place : (found : List ℕ) (next : ℕ) → next < length found → is_among (get_or found next 0) found ≡ true
at_place found next inside = list_any_at (λ m. m == get_or found next 0) found next 0 inside (is_itself (get_or found next 0))

front_stays : (found more : List ℕ) (next : ℕ) → next < length found → take (next + 1) (found ++ more) ≡ take (next + 1) found
front_stays found more next inside = take-append-le (next + 1) found more (omega arith)

spread_over : (start : Pattern) (defs : List Definition) (found : List ℕ) (next : ℕ) (o : Option Definition) → next < length found → slice_get defs (get_or found next 0) ≡ o → Spread start defs found next → Spread start defs (with_content (length defs) o found) (next + 1)
spread_over start defs found next None inside there s = record {
  only = s.only;
  begun = s.begun;
  followed = λ i j d among at_i refers j_inside. elim (or_cases (is_among i (take next found)) (get_or found next 0 == i) (sym (list_any_more (λ m. m == i) found next 0 inside) ∙ among)) [
    | inl before ↦ s.followed i j d before at_i refers j_inside
    | inr last ↦
        let same : get_or found next 0 ≡ i = same_number (get_or found next 0) i last in
        let none : None ≡ Some d = sym there ∙ ap (slice_get defs) same ∙ at_i in
        cc
  ];
}
spread_over start defs found next (Some e) inside there s =
    let g = grown_by_references (length defs) e.content found in
    let reached : IsReached start defs e = s.only (get_or found next 0) e (at_place found next inside) there in
    record {
      only = λ i d among at_i. elim (only_references (length defs) i e.content found among) [
        | inl before ↦ s.only i d before at_i
        | inr refers ↦ from_content reached refers at_i
      ];
      begun = λ i refers i_inside. still_among i g (s.begun i refers i_inside);
      followed = λ i j d among at_i refers j_inside. elim (or_cases (is_among i (take next found)) (get_or found next 0 == i) (sym (list_any_more (λ m. m == i) found next 0 inside) ∙ ap (is_among i) (sym (front_stays found g.more next inside)) ∙ ap (λ (xs : List ℕ). is_among i (take (next + 1) xs)) (sym g.is) ∙ among)) [
        | inl before ↦ still_among j g (s.followed i j d before at_i refers j_inside)
        | inr last ↦
            let same : get_or found next 0 ≡ i = same_number (get_or found next 0) i last in
            let is : Some e ≡ Some d = sym there ∙ ap (slice_get defs) same ∙ at_i in
            let this : d ≡ e = cc in
            let P : Definition → Type 0 = λ x. Stands (ref j) x.content in
            reference_is_there (length defs) found j_inside (subst P this refers)
      ];
    }

pub spread_goes_on : (start : Pattern) (defs : List Definition) (found : List ℕ) (next : ℕ) → next < length found → Spread start defs found next → Spread start defs (with_content (length defs) (slice_get defs (get_or found next 0)) found) (next + 1)
spread_goes_on start defs found next inside s = spread_over start defs found next (slice_get defs (get_or found next 0)) inside refl s

-- where all were followed, they are those that are reached
has_number : (start : Pattern) (defs : List Definition) (found : List ℕ) → Spread start defs found (length found) → (d : Definition) → IsReached start defs d → HasNumber defs found d
has_number start defs found s d (from_start {i = i} refers there) = record {
  number = i;
  among = s.begun i refers (slice_get_within defs i d there);
  there = there;
}
has_number start defs found s d (from_content {i = i} {e = e} reached refers there) =
    let h = has_number start defs found s e reached in
    record {
      number = i;
      among = s.followed h.number i e (ap (is_among h.number) (take-length found) ∙ h.among) h.there refers (slice_get_within defs i d there);
      there = there;
    }

pub spread_ends : (start : Pattern) (defs : List Definition) (found : List ℕ) (next : ℕ) → length found ≤ next → next ≤ length found → Spread start defs found next → AreReached start defs found
spread_ends start defs found next least most s =
    let end : next ≡ length found = omega arith in
    let whole : Spread start defs found (length found) = let P : ℕ → Type 0 = λ n. Spread start defs found n in subst P end s in
    record { only = s.only; all = has_number start defs found whole }

-- the list grows, and never beyond the number of definitions
grown_by_content : (count : ℕ) (o : Option Definition) (found : List ℕ) → Grown found (with_content count o found)
grown_by_content count None found = grown_not found
grown_by_content count (Some d) found = grown_by_references count d.content found

pub still_within : (count next : ℕ) (o : Option Definition) (found : List ℕ) → next < length found → next + 1 ≤ length (with_content count o found)
still_within count next o found inside =
    let g = grown_by_content count o found in
    omega (arith, ap (λ (xs : List ℕ). length xs) g.is, length-append found g.more)

no_more : (b n m sum : ℕ) → b ≤ 1 → n ≤ m → sum ≡ b + n → sum ≤ suc m
no_more b n m sum one least is = omega arith

abbrev one_of : Bool → ℕ
one_of b = if b then 1 else 0

one_at_most : (b : Bool) → one_of b ≤ 1
one_at_most true = omega arith
one_at_most false = omega arith

few_marks : (seen : List Bool) → sum_by one_of seen ≤ length seen
few_marks [] = omega arith
few_marks (b ∷ seen) =
    let sum : sum_by one_of (b ∷ seen) ≡ one_of b + sum_by one_of seen = sum_by-cons one_of b seen in
    no_more (one_of b) (sum_by one_of seen) (length seen) (sum_by one_of (b ∷ seen)) (one_at_most b) (few_marks seen) sum

pub few : (found : List ℕ) (seen : List Bool) → IsMarked found seen → length found ≤ length seen
few found seen m = omega (arith, m.counted, few_marks seen)

-- the steps of the walk, over the values that the code has
pub begun_with : (start : Pattern) (defs : List Definition) (count : ℕ) (none found : List ℕ) → count ≡ length defs → none ≡ [] → found ≡ with_references count start none → Spread start defs found 0
begun_with start defs count none found all is_none is_found =
    let P : List ℕ → Type 0 = λ xs. Spread start defs xs 0 in
    let same : found ≡ with_references (length defs) start [] = is_found ∙ ap (λ (n : ℕ). with_references n start none) all ∙ ap (with_references (length defs) start) is_none in
    subst P (sym same) (spread_begins start defs)

pub gone_on : (start : Pattern) (defs : List Definition) (count next number : ℕ) (found after : List ℕ) → next < length found → count ≡ length defs → number ≡ get_or found next number → after ≡ with_content count (slice_get defs number) found → Spread start defs found next → Spread start defs after (next + 1)
gone_on start defs count next number found after inside all read is_after s =
    let P : List ℕ → Type 0 = λ xs. Spread start defs xs (next + 1) in
    let same : after ≡ with_content (length defs) (slice_get defs (get_or found next 0)) found =
    is_after ∙ ap (λ (n : ℕ). with_content n (slice_get defs number) found) all
    ∙ ap (λ (n : ℕ). with_content (length defs) (slice_get defs n) found) (read ∙ get_or_default found next number 0 inside) in
    subst P (sym same) (spread_goes_on start defs found next inside s)

pub within_after : (defs : List Definition) (count next number : ℕ) (found after : List ℕ) → next < length found → after ≡ with_content count (slice_get defs number) found → next + 1 ≤ length after
within_after defs count next number found after inside is_after =
    let h = still_within count next (slice_get defs number) found inside in
    omega (arith, h, ap (λ (xs : List ℕ). length xs) is_after)
