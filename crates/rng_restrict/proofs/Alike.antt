-- Which classes stand in a list, however often and in whatever order.
use Rattle.std.specs.Prelude.{◌≡◌, ℕ, Bool, true, false, ◌||◌, List, [], ◌∷◌, ◌++◌, slice_get, get_or, take, length, ◌+◌, ◌<◌, Result, Ok, Err, IfOk}
use Rattle.std.specs.List.{list_any, dedup, dedup_from}
use Rattle.std.specs.List.Sorted.{IsPermutation}
use Rattle.std.proofs.Common.{refl, sym, ap, ◌∙◌, append_assoc, append-nil, eqb, cond, inl, inr}
use Rattle.std.proofs.lemmas.Grind.{take_at_read}
use Rattle.std.proofs.Math.Bool.{or_comm}
use Rattle.std.proofs.lemmas.Bool.{cases_Bool, eqb-true}
use Rattle.std.proofs.lemmas.List.Folds.{list_any-append}
use Rattle.std.proofs.lemmas.List.Sorted.{list_any-IsPermutation}
use Rattle.rng_core.specs.Names.{Class}
use Rattle.rng_core.specs.Patterns.{Definition}
use Rattle.rng_core.specs.declared.name_class.Bearer.TheVariants.{Element}
use Rattle.rng_restrict.specs.Finding.{any_share, share_name, class_at, classes_at, PassAlike}
use Rattle.rng_restrict.proofs.Sides.{both_any}

-- a test that passes one of two equal items is asked once
asked_once : (a b c : Bool) → b ≡ a → (a || c) ≡ (a || (b || c))
asked_once true b c is = refl
asked_once false b c is = ap (λ (t : Bool). t || c) (sym is)

dedup_from_alike : (test : ℕ → Bool) (k : ℕ) (xs : List ℕ) → list_any test (dedup_from eqb k xs) ≡ (test k || list_any test xs)
dedup_from_alike test k [] = refl
dedup_from_alike test k (x ∷ xs) = elim (cases_Bool (eqb x k)) [
  | inl same ↦
      ap (λ (b : Bool). list_any test (cond b (dedup_from eqb k xs) (k ∷ dedup_from eqb x xs))) same
      ∙ dedup_from_alike test k xs
      ∙ asked_once (test k) (test x) (list_any test xs) (ap test (eqb-true x k same))
  | inr other ↦
      ap (λ (b : Bool). list_any test (cond b (dedup_from eqb k xs) (k ∷ dedup_from eqb x xs))) other
      ∙ ap (λ (b : Bool). test k || b) (dedup_from_alike test x xs)
]

dedup_alike : (test : ℕ → Bool) (xs : List ℕ) → list_any test (dedup eqb xs) ≡ list_any test xs
dedup_alike test [] = refl
dedup_alike test (x ∷ xs) = dedup_from_alike test x xs

-- sorted, and each once
pub once_alike : (xs sorted once : List ℕ) → IsPermutation xs sorted → once ≡ dedup eqb sorted → PassAlike once xs
unfolding PassAlike
once_alike xs sorted once moved is test = ap (list_any test) is ∙ dedup_alike test sorted ∙ sym (list_any-IsPermutation test xs sorted moved)

classes_passing : (defs : List Definition) (test : Class → Bool) (numbers : List ℕ) → list_any test (classes_at defs numbers) ≡ list_any (λ i. list_any test (class_at (slice_get defs i))) numbers
classes_passing defs test [] = refl
classes_passing defs test (i ∷ numbers) =
    list_any-append test (class_at (slice_get defs i)) (classes_at defs numbers)
    ∙ ap (λ (b : Bool). list_any test (class_at (slice_get defs i)) || b) (classes_passing defs test numbers)

classes_alike : (defs : List Definition) (xs ys : List ℕ) → PassAlike xs ys → PassAlike (classes_at defs xs) (classes_at defs ys)
unfolding PassAlike
classes_alike defs xs ys same test = classes_passing defs test xs ∙ same (λ i. list_any test (class_at (slice_get defs i))) ∙ sym (classes_passing defs test ys)

pub classes_at-append : (defs : List Definition) (xs ys : List ℕ) → classes_at defs (xs ++ ys) ≡ classes_at defs xs ++ classes_at defs ys
classes_at-append defs [] ys = refl
classes_at-append defs (x ∷ xs) ys =
    ap (λ (cs : List Class). class_at (slice_get defs x) ++ cs) (classes_at-append defs xs ys)
    ∙ sym (append_assoc (class_at (slice_get defs x)) (classes_at defs xs) (classes_at defs ys))

-- one more number
pub classes_one_more : (defs : List Definition) (numbers : List ℕ) (i : ℕ) → classes_at defs (numbers ++ i ∷ []) ≡ classes_at defs numbers ++ class_at (slice_get defs i)
classes_one_more defs numbers i = classes_at-append defs numbers (i ∷ []) ∙ ap (λ (cs : List Class). classes_at defs numbers ++ cs) (append-nil (class_at (slice_get defs i)))

pub alike_same : {A : Type 0} (xs ys : List A) → xs ≡ ys → PassAlike xs ys
unfolding PassAlike
alike_same xs ys same test = ap (list_any test) same

pub none_added : {A : Type 0} (xs : List A) → PassAlike xs (xs ++ [])
none_added xs = alike_same xs (xs ++ []) (sym (append-nil xs))

-- what one part adds, and then another
pub both_added : {A : Type 0} (old a b middle new : List A) → PassAlike middle (old ++ a) → PassAlike new (middle ++ b) → PassAlike new (old ++ (a ++ b))
unfolding PassAlike
both_added old a b middle new first second test =
    second test ∙ list_any-append test middle b ∙ ap (λ (t : Bool). t || list_any test b) (first test)
    ∙ sym (list_any-append test (old ++ a) b) ∙ ap (list_any test) (append_assoc old a b)

-- lists of the same classes share a name with the same
share_alike : (cs ds es fs : List Class) → PassAlike cs es → PassAlike ds fs → any_share Element cs ds ≡ any_share Element es fs
unfolding any_share PassAlike
share_alike cs ds es fs first second =
    both_any (λ c. list_any (λ d. share_name Element c d) ds) (λ c. list_any (λ d. share_name Element c d) fs) cs (λ c. second (λ d. share_name Element c d))
    ∙ first (λ c. list_any (λ d. share_name Element c d) fs)

-- the numbers of a side, each once, have the classes of the side
side_alike : (defs : List Definition) (begun numbers once : List ℕ) (a : List Class) → begun ≡ [] → PassAlike (classes_at defs numbers) (classes_at defs begun ++ a) → PassAlike once numbers → PassAlike (classes_at defs once) a
unfolding PassAlike
side_alike defs begun numbers once a none added same test =
    classes_alike defs once numbers same test ∙ added test ∙ ap (λ (ns : List ℕ). list_any test (classes_at defs ns ++ a)) none

added_alike : (defs : List Definition) (old once middle : List ℕ) (a : List Class) → middle ≡ old ++ once → PassAlike (classes_at defs once) a → PassAlike (classes_at defs middle) (classes_at defs old ++ a)
unfolding PassAlike
added_alike defs old once middle a is same test =
    ap (λ (ns : List ℕ). list_any test (classes_at defs ns)) is ∙ ap (list_any test) (classes_at-append defs old once)
    ∙ list_any-append test (classes_at defs old) (classes_at defs once)
    ∙ ap (λ (t : Bool). list_any test (classes_at defs old) || t) (same test)
    ∙ sym (list_any-append test (classes_at defs old) a)

-- both sides of an interleave, each number once
pub sides_once : (defs : List Definition) (old begun begun_too numbers others once others_once middle new : List ℕ) (a b : List Class) (first second known fault one other : Bool) →
    begun ≡ [] → begun_too ≡ [] →
    (first ≡ one) × PassAlike (classes_at defs numbers) (classes_at defs begun ++ a) →
    (second ≡ other) × PassAlike (classes_at defs others) (classes_at defs begun_too ++ b) →
    PassAlike once numbers → PassAlike others_once others →
    known ≡ (first || second) →
    fault ≡ (known || any_share Element (classes_at defs once) (classes_at defs others_once)) →
    middle ≡ old ++ once → new ≡ middle ++ others_once →
    (fault ≡ (any_share Element a b || (one || other))) × PassAlike (classes_at defs new) (classes_at defs old ++ (a ++ b))
sides_once defs old begun begun_too numbers others once others_once middle new a b first second known fault one other none none_too in_one in_other each each_other is_known is_fault is_middle is_new =
    let one_side : PassAlike (classes_at defs once) a = side_alike defs begun numbers once a none in_one.1 each in
    let other_side : PassAlike (classes_at defs others_once) b = side_alike defs begun_too others others_once b none_too in_other.1 each_other in
    let share : any_share Element (classes_at defs once) (classes_at defs others_once) ≡ any_share Element a b = share_alike (classes_at defs once) (classes_at defs others_once) a b one_side other_side in
    let either : known ≡ (one || other) = is_known ∙ ap (λ (t : Bool). t || second) in_one.0 ∙ ap (λ (t : Bool). one || t) in_other.0 in (
      is_fault ∙ ap (λ (t : Bool). known || t) share ∙ ap (λ (t : Bool). t || any_share Element a b) either ∙ or_comm (one || other) (any_share Element a b),
      both_added (classes_at defs old) a b (classes_at defs middle) (classes_at defs new) (added_alike defs old once middle a is_middle one_side) (added_alike defs middle others_once new b is_new other_side),
    )

-- what adds nothing, and answers of a part
pub none_from : {A E : Type 0} (part : Bool) (xs : List A) (r : Result Bool E) → IfOk r (λ found. found ≡ part) → IfOk r (λ found. (found ≡ part) × PassAlike xs (xs ++ []))
none_from part xs (Ok found) is = (is, none_added xs)
none_from part xs (Err e) is = tt

pub either_is : (fault first second one other : Bool) → fault ≡ (first || second) → first ≡ one → second ≡ other → fault ≡ (one || other)
either_is fault first second one other is is_one is_other = is ∙ ap (λ (t : Bool). t || second) is_one ∙ ap (λ (t : Bool). one || t) is_other

pub number_added : (defs : List Definition) (old new : List ℕ) (i : ℕ) → new ≡ old ++ i ∷ [] → PassAlike (classes_at defs new) (classes_at defs old ++ class_at (slice_get defs i))
number_added defs old new i is = alike_same (classes_at defs new) (classes_at defs old ++ class_at (slice_get defs i)) (ap (classes_at defs) is ∙ classes_one_more defs old i)

-- the class of one more of the numbers was added
pub classes_step : (defs : List Definition) (numbers : List ℕ) (i d : ℕ) (before after : List Class) → i < length numbers → before ≡ classes_at defs (take i numbers) → after ≡ before ++ class_at (slice_get defs (get_or numbers i d)) → after ≡ classes_at defs (take (i + 1) numbers)
classes_step defs numbers i d before after inside begun grown =
    grown ∙ ap (λ (cs : List Class). cs ++ class_at (slice_get defs (get_or numbers i d))) begun
    ∙ sym (classes_one_more defs (take i numbers) (get_or numbers i d))
    ∙ ap (classes_at defs) (sym (take_at_read numbers i d inside).1)
