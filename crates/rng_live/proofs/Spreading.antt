-- Numbers that are found by references: each once, and with those of a pattern all that it refers to.
use Rattle.std.proofs.Common.{◌≡◌, ℕ, suc, ◌+◌, ◌<◌, ◌≤◌, List, [], ◌∷◌, ◌++◌, length, Bool, true, false, ◌&&◌, ◌||◌, ◌==◌, Option, Some, None, refl, sym, ap, subst, ◌∙◌, arith, inl, inr, ◌⊎◌, true≢false}
use Rattle.std.specs.Prelude.{slice_get, nat_lt, get_or}
use Rattle.std.proofs.lemmas.Bool.{cases_Bool, cases_eq, or_cases, or_left, or_right, eqb-true, eq-eqb, ltb-true}
use Rattle.std.proofs.lemmas.Option.{slice_get_within, slice_get-get_or, get_or_from_slice_get}
use Rattle.std.proofs.lemmas.List.Folds.{list_any-append, list_any_at}
use Rattle.rng_core.specs.Patterns.{Pattern, Definition, not_allowed, empty, any_text, typed, literal, listed, attribute, ref, one_or_more, choice, group, interleave}
use Rattle.rng_restrict.specs.Standing.{Stands, itself, in_list, in_attribute, in_one_or_more, in_first_choice, in_second_choice, in_first_of_group, in_second_of_group, in_first_of_interleave, in_second_of_interleave}
use Rattle.rng_restrict.specs.Finding.{is_among, with_number, with_references}
use Rattle.rng_restrict.proofs.Reached.{stays_among, is_added}
use Rattle.rng_live.specs.Pruned.{Reaches, reaches_first, reaches_more, AreOnce}
use Rattle.rng_live.specs.Left.{refs_are}
use Rattle.rng_live.specs.Leaving.{Spread}
use Rattle.rng_live.proofs.Places.{at_front, at_end, front_or_end}
use Rattle.rng_live.proofs.Placing.{among_more}
use Rattle.rng_live.proofs.Lefts.{numbers_stay, AreStill}

split_and : (a b : Bool) → (a && b) ≡ true → (a ≡ true) × (b ≡ true)
split_and true b h = (refl, h)
split_and false b h = absurd (true≢false (sym h))

join_and : (a b : Bool) → a ≡ true → b ≡ true → (a && b) ≡ true
join_and a b h k = rw (h, k) refl

-- ---- a number is among others by its place

pub among_at : (xs : List ℕ) (k n : ℕ) → slice_get xs k ≡ Some n → is_among n xs ≡ true
among_at xs k n e =
    let low = slice_get_within xs k n e in
    list_any_at (λ m. m == n) xs k 0 low (eq-eqb (get_or xs k 0) n (get_or_from_slice_get xs k n 0 e))

-- the place of a number
pub record HasPlace (xs : List ℕ) (n : ℕ) : Type 0 where
  pub place : ℕ
  pub is : slice_get xs place ≡ Some n

pub place_of : (xs : List ℕ) (n : ℕ) → is_among n xs ≡ true → HasPlace xs n
place_of [] n h = absurd (true≢false (sym h))
place_of (x ∷ xs) n h = elim (or_cases (x == n) (is_among n xs) h) [
  | inl same ↦ record { place = 0; is = ap (λ (v : ℕ). Some v) (eqb-true x n same) }
  | inr later ↦ let w = place_of xs n later in record { place = suc w.place; is = w.is }
]

-- ---- one number more

data IsNumbered (count i : ℕ) (found : List ℕ) : List ℕ → Type 0 where
  numbered_before : is_among i found ≡ true → IsNumbered count i found found
  numbered_now : is_among i found ≡ false → IsNumbered count i found (found ++ i ∷ [])

numbered : (count i : ℕ) (found : List ℕ) → i < count → IsNumbered count i found (with_number count i found)
numbered count i found inside = elim (cases_Bool (is_among i found)) [
  | inl there ↦ subst (λ (x : List ℕ). IsNumbered count i found x) (sym (stays_among count i found there)) (numbered_before there)
  | inr new ↦ subst (λ (x : List ℕ). IsNumbered count i found x) (sym (is_added count i found inside new)) (numbered_now new)
]

once_more : (found : List ℕ) (i : ℕ) → is_among i found ≡ false → AreOnce found → AreOnce (found ++ i ∷ [])
once_more found i new o = record {
  once = λ j k x e f. elim (front_or_end found i j x e) [
    | inl old ↦ elim (front_or_end found i k x f) [
      | inl older ↦ o.once j k x old older
      | inr last ↦ absurd (true≢false (sym (among_at found j x old) ∙ ap (λ (v : ℕ). is_among v found) (sym last.1) ∙ new))
    ]
    | inr last ↦ elim (front_or_end found i k x f) [
      | inl old ↦ absurd (true≢false (sym (among_at found k x old) ∙ ap (λ (v : ℕ). is_among v found) (sym last.1) ∙ new))
      | inr end ↦ last.0 ∙ sym end.0
    ]
  ];
}

once_numbered : {count i : ℕ} {found found' : List ℕ} → IsNumbered count i found found' → AreOnce found → AreOnce found'
once_numbered (numbered_before there) o = o
once_numbered {i = i} {found = found} (numbered_now new) o = once_more found i new o

among_numbered : {count i : ℕ} {found found' : List ℕ} → IsNumbered count i found found' → is_among i found' ≡ true
among_numbered (numbered_before there) = there
among_numbered {i = i} {found = found} (numbered_now new) = list_any-append (λ m. m == i) found (i ∷ []) ∙ or_right (is_among i found) _ (or_left (i == i) false (eq-eqb i i refl))

only_numbered : {count i : ℕ} {found found' : List ℕ} (j : ℕ) → IsNumbered count i found found' → is_among j found' ≡ true → (is_among j found ≡ true) ⊎ (i ≡ j)
only_numbered j (numbered_before there) h = inl h
only_numbered {i = i} {found = found} j (numbered_now new) h = among_more j i found h

-- ---- the references of a pattern

abbrev pub below : ℕ → ℕ → Bool
below count i = nat_lt i count

pub once_with : (count : ℕ) (p : Pattern) (found : List ℕ) → refs_are (below count) p ≡ true → AreOnce found → AreOnce (with_references count p found)
once_with count not_allowed found r o = o
once_with count empty found r o = o
once_with count any_text found r o = o
once_with count (typed type excepts) found r o = o
once_with count (literal type text) found r o = o
once_with count (listed p) found r o = once_with count p found r o
once_with count (attribute c p) found r o = once_with count p found r o
once_with count (ref i) found r o = once_numbered (numbered count i found (ltb-true i count r)) o
once_with count (one_or_more p) found r o = once_with count p found r o
once_with count (choice p q) found r o = let d = split_and (refs_are (below count) p) (refs_are (below count) q) r in once_with count q (with_references count p found) d.1 (once_with count p found d.0 o)
once_with count (group p q) found r o = let d = split_and (refs_are (below count) p) (refs_are (below count) q) r in once_with count q (with_references count p found) d.1 (once_with count p found d.0 o)
once_with count (interleave p q) found r o = let d = split_and (refs_are (below count) p) (refs_are (below count) q) r in once_with count q (with_references count p found) d.1 (once_with count p found d.0 o)

pub still_among : {before after : List ℕ} → AreStill before after → (i : ℕ) → is_among i before ≡ true → is_among i after ≡ true
still_among {before = before} {after = after} s i h = let w = place_of before i h in among_at after w.place i (s.still w.place i w.is)

pub with_still : (count : ℕ) (p : Pattern) (found : List ℕ) → AreStill found (with_references count p found)
with_still count p found = record { still = λ k j e. numbers_stay count p found k j e }

pub refs_still : {before after : List ℕ} → AreStill before after → (p : Pattern) → refs_are (λ i. is_among i before) p ≡ true → refs_are (λ i. is_among i after) p ≡ true
refs_still s not_allowed h = refl
refs_still s empty h = refl
refs_still s any_text h = refl
refs_still s (typed type excepts) h = refl
refs_still s (literal type text) h = refl
refs_still s (listed p) h = refs_still s p h
refs_still s (attribute c p) h = refs_still s p h
refs_still s (ref i) h = still_among s i h
refs_still s (one_or_more p) h = refs_still s p h
refs_still {before = before} {after = after} s (choice p q) h = let d = split_and (refs_are (λ i. is_among i before) p) (refs_are (λ i. is_among i before) q) h in join_and _ _ (refs_still s p d.0) (refs_still s q d.1)
refs_still {before = before} {after = after} s (group p q) h = let d = split_and (refs_are (λ i. is_among i before) p) (refs_are (λ i. is_among i before) q) h in join_and _ _ (refs_still s p d.0) (refs_still s q d.1)
refs_still {before = before} {after = after} s (interleave p q) h = let d = split_and (refs_are (λ i. is_among i before) p) (refs_are (λ i. is_among i before) q) h in join_and _ _ (refs_still s p d.0) (refs_still s q d.1)

pub refs_with : (count : ℕ) (p : Pattern) (found : List ℕ) → refs_are (below count) p ≡ true → refs_are (λ i. is_among i (with_references count p found)) p ≡ true
refs_with count not_allowed found r = refl
refs_with count empty found r = refl
refs_with count any_text found r = refl
refs_with count (typed type excepts) found r = refl
refs_with count (literal type text) found r = refl
refs_with count (listed p) found r = refs_with count p found r
refs_with count (attribute c p) found r = refs_with count p found r
refs_with count (ref i) found r = among_numbered (numbered count i found (ltb-true i count r))
refs_with count (one_or_more p) found r = refs_with count p found r
refs_with count (choice p q) found r =
    let d = split_and (refs_are (below count) p) (refs_are (below count) q) r in
    join_and _ _ (refs_still (with_still count q (with_references count p found)) p (refs_with count p found d.0)) (refs_with count q (with_references count p found) d.1)
refs_with count (group p q) found r =
    let d = split_and (refs_are (below count) p) (refs_are (below count) q) r in
    join_and _ _ (refs_still (with_still count q (with_references count p found)) p (refs_with count p found d.0)) (refs_with count q (with_references count p found) d.1)
refs_with count (interleave p q) found r =
    let d = split_and (refs_are (below count) p) (refs_are (below count) q) r in
    join_and _ _ (refs_still (with_still count q (with_references count p found)) p (refs_with count p found d.0)) (refs_with count q (with_references count p found) d.1)

-- what is there was there, or is a reference
of_part : {j : ℕ} (found : List ℕ) {p whole : Pattern} → (Stands (ref j) p → Stands (ref j) whole) → (is_among j found ≡ true) ⊎ Stands (ref j) p → (is_among j found ≡ true) ⊎ Stands (ref j) whole
of_part found up (inl old) = inl old
of_part found up (inr s) = inr (up s)

of_parts : {j : ℕ} (found between : List ℕ) {p q whole : Pattern} → (Stands (ref j) p → Stands (ref j) whole) → (Stands (ref j) q → Stands (ref j) whole) → (is_among j between ≡ true → (is_among j found ≡ true) ⊎ Stands (ref j) p)
    → (is_among j between ≡ true) ⊎ Stands (ref j) q → (is_among j found ≡ true) ⊎ Stands (ref j) whole
of_parts found between up upper from (inl old) = of_part found up (from old)
of_parts found between up upper from (inr s) = inr (upper s)

pub only_with : (count j : ℕ) (p : Pattern) (found : List ℕ) → refs_are (below count) p ≡ true → is_among j (with_references count p found) ≡ true → (is_among j found ≡ true) ⊎ Stands (ref j) p
only_with count j not_allowed found r h = inl h
only_with count j empty found r h = inl h
only_with count j any_text found r h = inl h
only_with count j (typed type excepts) found r h = inl h
only_with count j (literal type text) found r h = inl h
only_with count j (listed p) found r h = of_part found (λ s. in_list s) (only_with count j p found r h)
only_with count j (attribute c p) found r h = of_part found (λ s. in_attribute s) (only_with count j p found r h)
only_with count j (ref i) found r h = elim (only_numbered j (numbered count i found (ltb-true i count r)) h) [
  | inl old ↦ inl old
  | inr same ↦ inr (subst (λ (x : ℕ). Stands (ref x) (ref i)) same itself)
]
only_with count j (one_or_more p) found r h = of_part found (λ s. in_one_or_more s) (only_with count j p found r h)
only_with count j (choice p q) found r h =
    let d = split_and (refs_are (below count) p) (refs_are (below count) q) r in
    of_parts found (with_references count p found) (λ s. in_first_choice s) (λ s. in_second_choice s) (λ k. only_with count j p found d.0 k) (only_with count j q (with_references count p found) d.1 h)
only_with count j (group p q) found r h =
    let d = split_and (refs_are (below count) p) (refs_are (below count) q) r in
    of_parts found (with_references count p found) (λ s. in_first_of_group s) (λ s. in_second_of_group s) (λ k. only_with count j p found d.0 k) (only_with count j q (with_references count p found) d.1 h)
only_with count j (interleave p q) found r h =
    let d = split_and (refs_are (below count) p) (refs_are (below count) q) r in
    of_parts found (with_references count p found) (λ s. in_first_of_interleave s) (λ s. in_second_of_interleave s) (λ k. only_with count j p found d.0 k) (only_with count j q (with_references count p found) d.1 h)

-- ---- the walk

once_none : AreOnce []
once_none = record { once = λ j k i e. absurd (let n : None ≡ Some i = e in cc) }

stands_below : (test : ℕ → Bool) {i : ℕ} {p : Pattern} → Stands (ref i) p → refs_are test p ≡ true → test i ≡ true
stands_below test itself h = h
stands_below test (in_list s) h = stands_below test s h
stands_below test (in_attribute s) h = stands_below test s h
stands_below test (in_one_or_more s) h = stands_below test s h
stands_below test (in_first_choice {p = p} {r = r} s) h = stands_below test s (split_and (refs_are test p) (refs_are test r) h).0
stands_below test (in_second_choice {p = p} {r = r} s) h = stands_below test s (split_and (refs_are test p) (refs_are test r) h).1
stands_below test (in_first_of_group {p = p} {r = r} s) h = stands_below test s (split_and (refs_are test p) (refs_are test r) h).0
stands_below test (in_second_of_group {p = p} {r = r} s) h = stands_below test s (split_and (refs_are test p) (refs_are test r) h).1
stands_below test (in_first_of_interleave {p = p} {r = r} s) h = stands_below test s (split_and (refs_are test p) (refs_are test r) h).0
stands_below test (in_second_of_interleave {p = p} {r = r} s) h = stands_below test s (split_and (refs_are test p) (refs_are test r) h).1

pub ref_passes : (test : ℕ → Bool) (i : ℕ) (p : Pattern) → refs_are test p ≡ true → Stands (ref i) p → test i ≡ true
ref_passes test i p h s = stands_below test s h

pub spread_first : (start : Pattern) (g : List Definition) (numbers : List ℕ) → refs_are (below (length g)) start ≡ true → numbers ≡ with_references (length g) start [] → Spread start g numbers 0
spread_first start g numbers r is = subst (λ (x : List ℕ). Spread start g x 0) (sym is) (record {
  only = λ i h. elim (only_with (length g) i start [] r h) [ inl old ↦ absurd (true≢false (sym old)) | inr s ↦ reaches_first s ];
  within = λ i h. elim (only_with (length g) i start [] r h) [ inl old ↦ absurd (true≢false (sym old)) | inr s ↦ ltb-true i (length g) (ref_passes (below (length g)) i start r s) ];
  begun = refs_with (length g) start [] r;
  followed = λ k i d low. absurd (omega arith);
  once = once_with (length g) start [] r once_none;
})

at_place : (xs : List ℕ) (k : ℕ) → k < length xs → (x : ℕ) × (slice_get xs k ≡ Some x)
at_place xs k inside = (get_or xs k 0, slice_get-get_or xs k 0 inside)

pub spread_more : {start : Pattern} {g : List Definition} {numbers numbers' : List ℕ} {next i : ℕ} {d : Definition} → slice_get numbers next ≡ Some i → slice_get g i ≡ Some d → refs_are (below (length g)) d.content ≡ true
    → numbers' ≡ with_references (length g) d.content numbers → Spread start g numbers next → Spread start g numbers' (next + 1)
spread_more {start = start} {g = g} {numbers = numbers} {numbers' = numbers'} {next = next} {i = i} {d = d} at there r is s = subst (λ (x : List ℕ). Spread start g x (next + 1)) (sym is) (record {
  only = λ j h. elim (only_with (length g) j d.content numbers r h) [ inl old ↦ s.only j old | inr t ↦ reaches_more (s.only i (among_at numbers next i at)) there t ];
  within = λ j h. elim (only_with (length g) j d.content numbers r h) [ inl old ↦ s.within j old | inr t ↦ ltb-true j (length g) (ref_passes (below (length g)) j d.content r t) ];
  begun = refs_still still start s.begun;
  followed = λ k j e low f h. followed k j e low f h;
  once = once_with (length g) d.content numbers r s.once;
})
  where
    still : AreStill numbers (with_references (length g) d.content numbers)
    still = with_still (length g) d.content numbers

    before_at : (k : ℕ) → k < next → (x : ℕ) × (slice_get numbers k ≡ Some x)
    before_at k low = at_place numbers k (let inside = slice_get_within numbers next i at in omega arith)

    low_or_next : (k : ℕ) → k < next + 1 → (k ≡ next) ⊎ (k < next)
    low_or_next k low = elim (cases_eq k next) [ inl same ↦ inl same | inr other ↦ inr (omega arith) ]

    followed : (k j : ℕ) (e : Definition) → k < next + 1 → slice_get (with_references (length g) d.content numbers) k ≡ Some j → slice_get g j ≡ Some e → refs_are (λ x. is_among x (with_references (length g) d.content numbers)) e.content ≡ true
    followed k j e low f h = elim (low_or_next k low) [
      | inl same ↦
          let here : Some j ≡ Some i = sym f ∙ ap (slice_get (with_references (length g) d.content numbers)) same ∙ still.still next i at in
          let this : j ≡ i = cc in
          let that : Some e ≡ Some d = sym h ∙ ap (slice_get g) this ∙ there in
          let it : d ≡ e = cc in
          subst (λ (x : Definition). refs_are (λ y. is_among y (with_references (length g) d.content numbers)) x.content ≡ true) it (refs_with (length g) d.content numbers r)
      | inr before ↦
          let w = before_at k before in
          let here : Some j ≡ Some w.0 = sym f ∙ still.still k w.0 w.1 in
          let this : w.0 ≡ j = cc in
          refs_still still e.content (s.followed k j e before (w.1 ∙ ap (λ (x : ℕ). Some x) this) h)
    ]
