-- The leaves of an unmixed content are attributes and elements, or attributes and one string.
use Rattle.std.proofs.Common.{◌≡◌, ◌≤◌, ℕ, List, [], ◌∷◌, ◌++◌, Bool, true, false, not, ◌&&◌, ◌||◌, refl, sym, ap, ◌∙◌, append-nil, inl, inr, ◌⊎◌}
use Rattle.std.proofs.Common.{arith}
use Rattle.std.specs.Prelude.{nat_le, if◌then◌else◌}
use Rattle.std.proofs.lemmas.Bool.{and_parts, or_parts, cases_Bool, false≢true, leb-true, leb-false}
use Rattle.std.proofs.lemmas.List.Elements.{filter-append, filter_map-append}
use Rattle.rng_core.specs.Patterns.{Pattern, not_allowed, empty, any_text, typed, literal, listed, attribute, ref, one_or_more}
use Rattle.rng_core.specs.Patterns.{choice, group, interleave}
use Rattle.rng_cost.specs.Least.{least}
use Rattle.rng_cost.specs.Leaves.{leaves}
use Rattle.rng_fill.specs.Sorted.{number_of, ref_leaves, takes_string, string_leaves}
use Rattle.rng_fill.specs.Fillable.{has_string_leaf, has_element, are_unmixed, is_unmixed}

-- the leaf of a string comes alone but for attributes, if there is one
pub record AreUnmixed (leaves : List Pattern) : Type 0 where
  pub alone : (p : Pattern) (ps : List Pattern) → string_leaves leaves ≡ p ∷ ps → (ps ≡ []) × (ref_leaves leaves ≡ [])

-- what holds of the side that is taken
by_side : (P : List Pattern → Type 0) (m n : ℕ) (xs ys : List Pattern) → (m ≤ n → P xs) → (n ≤ m → P ys) → P (if nat_le m n then xs else ys)
by_side P m n xs ys first second = go (nat_le m n) refl
  where
    go : (b : Bool) → nat_le m n ≡ b → P (if b then xs else ys)
    go true is = first (leb-true m n is)
    go false is = second (let more = leb-false m n is in omega (arith, more))

no_strings : (costs : List ℕ) (p : Pattern) → has_string_leaf p ≡ false → least costs p ≤ 10000 → string_leaves (leaves costs p) ≡ []
no_strings costs not_allowed none small = absurd (omega (arith, small))
no_strings costs empty none small = refl
no_strings costs any_text none small = refl
no_strings costs (typed type excepts) none small = absurd (false≢true (sym none))
no_strings costs (literal type text) none small = absurd (false≢true (sym none))
no_strings costs (listed p) none small = absurd (false≢true (sym none))
no_strings costs (attribute class p) none small = refl
no_strings costs (ref i) none small = refl
no_strings costs (one_or_more p) none small = no_strings costs p none small
no_strings costs (choice p q) none small =
    let parts = or_parts (has_string_leaf p) (has_string_leaf q) none in
    let P : List Pattern → Type 0 = λ xs. string_leaves xs ≡ [] in
    by_side P (least costs p) (least costs q) (leaves costs p) (leaves costs q)
    (λ less. no_strings costs p parts.0 (omega (arith, less, small))) (λ less. no_strings costs q parts.1 (omega (arith, less, small)))
no_strings costs (group p q) none small =
    let parts = or_parts (has_string_leaf p) (has_string_leaf q) none in
    filter-append takes_string (leaves costs p) (leaves costs q) ∙ ap (λ (t : List Pattern). t ++ string_leaves (leaves costs q))
    (no_strings costs p parts.0 (omega (arith, small)))
    ∙ no_strings costs q parts.1 (omega (arith, small))
no_strings costs (interleave p q) none small =
    let parts = or_parts (has_string_leaf p) (has_string_leaf q) none in
    filter-append takes_string (leaves costs p) (leaves costs q) ∙ ap (λ (t : List Pattern). t ++ string_leaves (leaves costs q))
    (no_strings costs p parts.0 (omega (arith, small)))
    ∙ no_strings costs q parts.1 (omega (arith, small))

no_refs : (costs : List ℕ) (p : Pattern) → has_element p ≡ false → ref_leaves (leaves costs p) ≡ []
no_refs costs not_allowed none = refl
no_refs costs empty none = refl
no_refs costs any_text none = refl
no_refs costs (typed type excepts) none = refl
no_refs costs (literal type text) none = refl
no_refs costs (listed p) none = refl
no_refs costs (attribute class p) none = refl
no_refs costs (ref i) none = absurd (false≢true (sym none))
no_refs costs (one_or_more p) none = no_refs costs p none
no_refs costs (choice p q) none =
    let parts = or_parts (has_element p) (has_element q) none in
    let P : List Pattern → Type 0 = λ xs. ref_leaves xs ≡ [] in
    by_side P (least costs p) (least costs q) (leaves costs p) (leaves costs q) (λ less. no_refs costs p parts.0) (λ less. no_refs costs q parts.1)
no_refs costs (group p q) none =
    let parts = or_parts (has_element p) (has_element q) none in
    filter_map-append number_of (leaves costs p) (leaves costs q) ∙ ap (λ (t : List ℕ). t ++ ref_leaves (leaves costs q)) (no_refs costs p parts.0)
    ∙ no_refs costs q parts.1
no_refs costs (interleave p q) none =
    let parts = or_parts (has_element p) (has_element q) none in
    filter_map-append number_of (leaves costs p) (leaves costs q) ∙ ap (λ (t : List ℕ). t ++ ref_leaves (leaves costs q)) (no_refs costs p parts.0)
    ∙ no_refs costs q parts.1

-- what a test of two sides says
first_has : (s t e f : Bool) → (not (s && (t || f)) && not (t && e)) ≡ true → s ≡ true → (t ≡ false) × (f ≡ false)
first_has true true e f h is = absurd (false≢true h)
first_has true false e true h is = absurd (false≢true h)
first_has true false e false h is = (refl, refl)
first_has false t e f h is = absurd (false≢true is)

second_has : (s t e f : Bool) → (not (s && (t || f)) && not (t && e)) ≡ true → t ≡ true → e ≡ false
second_has s false e f h is = absurd (false≢true is)
second_has s true false f h is = refl
second_has true true true f h is = absurd (false≢true h)
second_has false true true f h is = absurd (false≢true h)

some_none : {p : Pattern} {ps : List Pattern} → [] ≡ p ∷ ps → ⊥
some_none h = cc

nothing_alone : {xs : List Pattern} → string_leaves xs ≡ [] → AreUnmixed xs
nothing_alone none = record { alone = λ p ps is. absurd (some_none (sym none ∙ is)) }

-- two sides in a row
beside : (costs : List ℕ) (p q : Pattern) → are_unmixed p q ≡ true → least costs p ≤ 10000 → least costs q ≤ 10000 → AreUnmixed (leaves costs p)
    → AreUnmixed (leaves costs q)
    → AreUnmixed (leaves costs p ++ leaves costs q)
beside costs p q apart low high first second = elim (cases_Bool (has_string_leaf p)) [
  | inl some ↦
      let others = first_has (has_string_leaf p) (has_string_leaf q) (has_element p) (has_element q) apart some in
      let none = no_strings costs q others.0 high in
      record {
        alone = λ l ls is.
            let w = first.alone l ls (sym (append-nil (string_leaves (leaves costs p)))
            ∙ ap (λ (t : List Pattern). string_leaves (leaves costs p) ++ t) (sym none)
            ∙ sym (filter-append takes_string (leaves costs p) (leaves costs q)) ∙ is) in (
              w.0,
              filter_map-append number_of (leaves costs p) (leaves costs q) ∙ ap (λ (t : List ℕ). t ++ ref_leaves (leaves costs q)) w.1
                  ∙ no_refs costs q others.1,
            );
      }
  | inr stringless ↦
      let none = no_strings costs p stringless low in
      record {
        alone = λ l ls is.
            let here : string_leaves (leaves costs q) ≡ l ∷ ls = ap (λ (t : List Pattern). t ++ string_leaves (leaves costs q)) (sym none)
            ∙ sym (filter-append takes_string (leaves costs p) (leaves costs q)) ∙ is in
            let w = second.alone l ls here in (
              w.0,
              filter_map-append number_of (leaves costs p) (leaves costs q)
                  ∙ ap (λ (t : List ℕ). t ++ ref_leaves (leaves costs q)) (no_refs costs p (element_free (cases_Bool (has_string_leaf q)) here))
                  ∙ w.1,
            );
      }
]
  where
    element_free : {l : Pattern} {ls : List Pattern} → (has_string_leaf q ≡ true) ⊎ (has_string_leaf q ≡ false)
        → string_leaves (leaves costs q) ≡ l ∷ ls → has_element p ≡ false
    element_free (inl some) is = second_has (has_string_leaf p) (has_string_leaf q) (has_element p) (has_element q) apart some
    element_free (inr none) is = absurd (some_none (sym (no_strings costs q none high) ∙ is))

one_alone : (l : Pattern) → ref_leaves (l ∷ []) ≡ [] → string_leaves (l ∷ []) ≡ l ∷ [] → AreUnmixed (l ∷ [])
one_alone l none is = record { alone = λ p ps h. let same : [] ≡ ps = tails (sym is ∙ h) in (sym same, none) }
  where
    tails : {x y : Pattern} {ps qs : List Pattern} → x ∷ ps ≡ y ∷ qs → ps ≡ qs
    tails h = cc

pub unmixed_leaves : (costs : List ℕ) (p : Pattern) → is_unmixed p ≡ true → least costs p ≤ 10000 → AreUnmixed (leaves costs p)
unmixed_leaves costs not_allowed is small = absurd (omega (arith, small))
unmixed_leaves costs empty is small = nothing_alone refl
unmixed_leaves costs any_text is small = nothing_alone refl
unmixed_leaves costs (typed type excepts) is small = one_alone (typed type excepts) refl refl
unmixed_leaves costs (literal type text) is small = one_alone (literal type text) refl refl
unmixed_leaves costs (listed p) is small = one_alone (listed p) refl refl
unmixed_leaves costs (attribute class p) is small = nothing_alone refl
unmixed_leaves costs (ref i) is small = nothing_alone refl
unmixed_leaves costs (one_or_more p) is small = unmixed_leaves costs p is small
unmixed_leaves costs (choice p q) is small =
    let parts = and_parts (is_unmixed p) (is_unmixed q) is in
    let P : List Pattern → Type 0 = λ xs. AreUnmixed xs in
    by_side P (least costs p) (least costs q) (leaves costs p) (leaves costs q)
    (λ less. unmixed_leaves costs p parts.0 (omega (arith, less, small))) (λ less. unmixed_leaves costs q parts.1 (omega (arith, less, small)))
unmixed_leaves costs (group p q) is small =
    let parts = and_parts (are_unmixed p q) (is_unmixed p && is_unmixed q) is in
    let both = and_parts (is_unmixed p) (is_unmixed q) parts.1 in
    beside costs p q parts.0 (omega (arith, small)) (omega (arith, small)) (unmixed_leaves costs p both.0 (omega (arith, small)))
    (unmixed_leaves costs q both.1 (omega (arith, small)))
unmixed_leaves costs (interleave p q) is small =
    let parts = and_parts (are_unmixed p q) (is_unmixed p && is_unmixed q) is in
    let both = and_parts (is_unmixed p) (is_unmixed q) parts.1 in
    beside costs p q parts.0 (omega (arith, small)) (omega (arith, small)) (unmixed_leaves costs p both.0 (omega (arith, small)))
    (unmixed_leaves costs q both.1 (omega (arith, small)))
