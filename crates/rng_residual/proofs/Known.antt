-- The definitions that have a name begin a frame.
use Rattle.std.proofs.Common.{◌≡◌, ℕ, zero, suc, ◌+◌, List, [], ◌∷◌, Bool, true, false, refl, sym, subst, Some, arith}
use Rattle.std.specs.Prelude.{IsTrue, slice_get, if◌then◌else◌}
use Rattle.nx_base.specs.declared.name.Name.{Name}
use Rattle.nx_base.specs.Names.{is_xml_name}
use Rattle.nx_base.specs.Trees.{Attribute, no_attributes, no_children, element_first, Event, Leave, attributes_flat, AreWritable}
use Rattle.rng_core.specs.Names.{has_name, covers}
use Rattle.rng_core.specs.Patterns.{Pattern, Definition, not_allowed, empty, any_text, typed, literal, listed, attribute, ref, one_or_more, choice, group, interleave}
use Rattle.rng_core.specs.Matching.{by_element, as_they_stand}
use Rattle.rng_kept.specs.SmallPatterns.{is_not_allowed, choice_of, is_side}
use Rattle.rng_kept.specs.Clean.{Clean, clean_ref, Fine}
use Rattle.rng_kept.specs.Live.{IsStart, one_ref, a_choice, AreLive}
use Rattle.rng_residual.proofs.SmallPatterns.{by_test, and_true, split_none}
use Rattle.rng_kept.specs.Standing.{known_from}
use Rattle.rng_residual.specs.Moves.{KnownIsTold, KnownFramesBegin}
use Rattle.rng_residual.proofs.Cleaning.{fine, fine_none, fine_choice}
use Rattle.rng_residual.proofs.Keeping.{some_choice}
use Rattle.rng_residual.proofs.Samples.{sample}
use Rattle.rng_residual.proofs.Repair.{HaveChars, repair, splits_right}
use Rattle.rng_residual.proofs.Fresh.{attributes_can_be_written, children_written}

-- the element of a name that a definition has
pub named_clean : {g : List Definition} {f b : Bool} (n : Name) (i : ℕ) (d : Definition) → AreLive g → slice_get g i ≡ Some d → IsTrue (has_name d.class n) → Clean g f b (ref i)
named_clean {g = g} n i d live e h =
    let w = sample (live.clean i d e) in
    let r = repair w.matched (live.apart i d e) (split_none w.attributes) no_attributes in
    let x = (and_true (is_xml_name n) (covers d.class n) h).0 in
    let c : HaveChars r.all = subst (λ a. HaveChars a) (sym (splits_right r.split refl)) (r.chars w.chars) in
    clean_ref n r.all w.children
    (element_first x r.distinct w.written.are_children no_children)
    (x, written r.all _ (attributes_can_be_written r.distinct c) (tt, children_written w.children [] (Leave ∷ []) w.written.writable (λ _. (tt, tt))))
    (by_element e h as_they_stand r.matched)
  where
    written : (a : List Attribute) (z : List Event) → AreWritable (attributes_flat a []) → AreWritable z → AreWritable (attributes_flat a z)
    written [] z h k = k
    written (y ∷ a) z h k = (h.0, written a z h.1 k)

-- a choice of elements, or nothing
data IsStartOrNone : Pattern → Type 0 where
  none_there : IsStartOrNone not_allowed
  some_there : {p : Pattern} → IsStart p → IsStartOrNone p

choice_start : (p q : Pattern) → IsStart p → IsStart q → IsStart (choice_of p q)
choice_start p (choice a b) h (a_choice i j) = choice_start (choice_of p a) b (choice_start p a h i) j
choice_start p (ref i) h one_ref =
    by_test (λ r. IsStart r) (is_not_allowed p) (ref i) (if is_not_allowed (ref i) then p else (if is_side (ref i) p then p else choice p (ref i)))
    (λ _. one_ref)
    (λ _. by_test (λ r. IsStart r) (is_side (ref i) p) p (choice p (ref i)) (λ _. h) (λ _. a_choice h one_ref))
choice_start p not_allowed h k = elim k [ ]
choice_start p empty h k = elim k [ ]
choice_start p any_text h k = elim k [ ]
choice_start p (typed t e) h k = elim k [ ]
choice_start p (literal t v) h k = elim k [ ]
choice_start p (listed q) h k = elim k [ ]
choice_start p (attribute c q) h k = elim k [ ]
choice_start p (one_or_more q) h k = elim k [ ]
choice_start p (group a b) h k = elim k [ ]
choice_start p (interleave a b) h k = elim k [ ]

start_with : {p : Pattern} (i : ℕ) → IsStartOrNone p → IsStart (choice_of (ref i) p)
start_with i none_there = one_ref
start_with i (some_there {p = p} h) = choice_start (ref i) p one_ref h

known_start : (ds : List Definition) (n : Name) (i : ℕ) → IsStartOrNone (known_from ds n i)
known_start [] n i = none_there
known_start (d ∷ ds) n i =
    by_test (λ r. IsStartOrNone r) (has_name d.class n) (choice_of (ref i) (known_from ds n (i + 1))) (known_from ds n (i + 1))
    (λ _. some_there (start_with i (known_start ds n (i + 1))))
    (λ _. known_start ds n (i + 1))

-- what stands in a list of definitions stands in another, so many places further on
record StandsAt (g ds : List Definition) (i : ℕ) : Type 0 where
  at : (j : ℕ) (d : Definition) → slice_get ds j ≡ Some d → slice_get g (i + j) ≡ Some d

behind_first : {g ds : List Definition} {d : Definition} {i : ℕ} → StandsAt g (d ∷ ds) i → StandsAt g ds (i + 1)
behind_first {g = g} {i = i} w = record {
  at = λ j d e. let k : i + suc j ≡ i + 1 + j = omega arith in subst (λ m. slice_get g m ≡ Some d) k (w.at (suc j) d e);
}

first_at : {g ds : List Definition} {d : Definition} {i : ℕ} → StandsAt g (d ∷ ds) i → slice_get g i ≡ Some d
first_at {g = g} {d = d} {i = i} w = let k : i + 0 ≡ i = omega arith in subst (λ m. slice_get g m ≡ Some d) k (w.at 0 d refl)

known_fine : {g : List Definition} (ds : List Definition) (n : Name) (i : ℕ) → AreLive g → StandsAt g ds i → Fine g false true (known_from ds n i)
known_fine [] n i live w = fine_none
known_fine {g = g} (d ∷ ds) n i live w =
    by_test (λ r. Fine g false true r) (has_name d.class n) (choice_of (ref i) (known_from ds n (i + 1))) (known_from ds n (i + 1))
    (λ h. fine_choice (ref i) (known_from ds n (i + 1)) (fine (named_clean n i d live (first_at w) h)) (known_fine ds n (i + 1) live (behind_first w)))
    (λ _. known_fine ds n (i + 1) live (behind_first w))

known_some : (ds : List Definition) (n : Name) (i k : ℕ) (d : Definition) → slice_get ds k ≡ Some d → IsTrue (has_name d.class n) → is_not_allowed (known_from ds n i) ≡ false
known_some [] n i k d e h = cc
known_some (x ∷ ds) n i zero d e h =
    let same : x ≡ d = cc in
    let t : has_name x.class n ≡ true = subst (λ (y : Definition). has_name y.class n ≡ true) (sym same) h in
    rw t (some_choice (ref i) (known_from ds n (i + 1)) refl)
known_some (x ∷ ds) n i (suc k) d e h =
    by_test (λ r. is_not_allowed r ≡ false) (has_name x.class n) (choice_of (ref i) (known_from ds n (i + 1))) (known_from ds n (i + 1))
    (λ _. some_choice (ref i) (known_from ds n (i + 1)) refl)
    (λ _. known_some ds n (i + 1) k d e h)

-- a definition of these that has the name
record Found (ds : List Definition) (n : Name) : Type 0 where
  number : ℕ
  definition : Definition
  is : slice_get ds number ≡ Some definition
  named : IsTrue (has_name definition.class n)

start_of : {p : Pattern} → IsStartOrNone p → is_not_allowed p ≡ false → IsStart p
start_of none_there e = cc
start_of (some_there h) e = h

found_at : (ds : List Definition) (n : Name) (i : ℕ) → is_not_allowed (known_from ds n i) ≡ false → Found ds n
found_at [] n i e = cc
found_at (d ∷ ds) n i e = go (has_name d.class n) refl (λ f. found_at ds n (i + 1) f) e
  where
    go : (b : Bool) → has_name d.class n ≡ b → (is_not_allowed (known_from ds n (i + 1)) ≡ false → Found ds n) → is_not_allowed (if b then choice_of (ref i) (known_from ds n (i + 1)) else known_from ds n (i + 1)) ≡ false → Found (d ∷ ds) n
    go true h more e = record { number = 0; definition = d; is = refl; named = h }
    go false h more e = let w = more e in record { number = suc w.number; definition = w.definition; is = w.is; named = w.named }

pub known_is_told : KnownIsTold
known_is_told g n = (
  λ e. let w = found_at g.definitions n 0 e in record { number = w.number; definition = w.definition; is = w.is; named = w.named },
  λ k. known_some g.definitions n 0 k.number k.definition k.is k.named,
)

pub known_frames_begin : KnownFramesBegin
known_frames_begin g n live k =
    let some = known_some g.definitions n 0 k.number k.definition k.is k.named in
    let all : StandsAt g.definitions g.definitions 0 = record { at = λ j d e. let k : j ≡ 0 + j = omega arith in subst (λ m. slice_get g.definitions m ≡ Some d) k e } in
    record {
      start = start_of (known_start g.definitions n 0) some;
      clean = (known_fine g.definitions n 0 live all).clean some;
    }
