-- A map of texts knows their numbers.
use Rattle.std.proofs.Common.{◌≡◌, ℕ, zero, suc, ◌<◌, Bool, true, false, cond, inl, inr, Option, Some, None, List, [], ◌∷◌, ◌++◌, length, length-append, map, refl, ap, subst, sym, ◌∙◌, arith, BTreeMap, Vec, Global, take, slice_get, slice_index_or, ◌⊎◌, ⊎_elim, IfSome, IfNone}
use Rattle.std.specs.BTreeMap.{UpdatesBy, is_at}
use Rattle.std.specs.Cmp.Lexicographic.{slice_cmp, bytes_decides}
use Rattle.std.specs.Map.{KeepsOthers, lookup}
use Rattle.std.specs.Ordering.{nat_cmp, is_eq}
use Rattle.std.specs.Str.{bytes_eq}
use Rattle.std.specs.declared.cmp.Ordering.{Ordering}
use Rattle.std.proofs.lemmas.Bool.{cases_Bool, true≢false}
use Rattle.std.proofs.lemmas.List.{map-append, length-map}
use Rattle.std.proofs.lemmas.Map.Text.{is_eq-slice_cmp}
use Rattle.deriv_memory.specs.Remembered.{AreOnce, IsText}
use Rattle.deriv_memory.specs.Texts.{texts_in, number_at, PutsAt, AreNumbered}

abbrev by_items : Vec ℕ Global → Vec ℕ Global → Ordering
by_items a b = slice_cmp nat_cmp a.items b.items

-- what is found under a text is the text
found_is : (text bytes : List ℕ) → is_eq (slice_cmp nat_cmp text bytes) ≡ true → text ≡ bytes
found_is text bytes found = (bytes_decides text bytes).0 (sym (is_eq-slice_cmp text bytes) ∙ found)

differs : (text other bytes : List ℕ) → bytes_eq text other ≡ false → text ≡ bytes → (t : Bool) → bytes_eq other bytes ≡ t → t ≡ false
differs text other bytes apart same true e =
    let equal : text ≡ other = same ∙ sym ((bytes_decides other bytes).0 e) in
    let both : true ≡ false = sym ((bytes_decides text other).1 equal) ∙ apart in absurd (cc)
differs text other bytes apart same false e = refl

-- after a call that changes one key
pub puts : (old new : BTreeMap (Vec ℕ Global) ℕ) (text : List ℕ) (number : ℕ) →
    UpdatesBy by_items (λ key. slice_cmp nat_cmp text key.items) old new (Some number) → PutsAt text number old new
unfolding KeepsOthers
puts old new text number h other =
    elim (cases_Bool (bytes_eq text other)) [
      | inl e ↦ ap (number_at new) (sym ((bytes_decides text other).0 e)) ∙ h.1 ∙ sym (ap (λ (t : Bool). cond t (Some number) (number_at old other)) e)
      | inr e ↦
          h.3 (λ (key : Vec ℕ Global). is_eq (slice_cmp nat_cmp other key.items))
          (λ x y found. ap (λ n. is_eq (slice_cmp nat_cmp n y.items)) (found_is other x.items found))
          (λ key found. is_eq-slice_cmp other key.items ∙ differs text other key.items e (found_is text key.items found) (bytes_eq other key.items) refl)
          ∙ sym (ap (λ (t : Bool). cond t (Some number) (number_at old other)) e)
    ]

-- no texts
pub none_numbered : (texts : List (List ℕ)) (numbers : BTreeMap (Vec ℕ Global) ℕ) → texts ≡ [] → numbers.entries ≡ [] → AreNumbered texts numbers
none_numbered texts numbers e f = subst (λ (ts : List (List ℕ)). AreNumbered ts numbers) (sym e) (record {
  found = λ text i is. let two : None ≡ Some i = sym (none text numbers.entries f) ∙ is in cc;
  none = λ text is i there. absurd (omega (arith, there.there));
  once = λ i j here there same. absurd (omega (arith, here));
})
  where
    none : (text : List ℕ) (es : List (Vec ℕ Global × ℕ)) → es ≡ [] → lookup (is_at (λ (key : Vec ℕ Global). slice_cmp nat_cmp text key.items)) es ≡ None
    none text es e = ap (lookup (is_at (λ (key : Vec ℕ Global). slice_cmp nat_cmp text key.items))) e

-- ---- one text more

before : (texts : List (List ℕ)) (text : List ℕ) (i : ℕ) → i < length texts → slice_index_or (texts ++ text ∷ []) i [] ≡ slice_index_or texts i []
before [] text i here = absurd (omega (arith, here))
before (t ∷ ts) text zero here = refl
before (t ∷ ts) text (suc i) here = before ts text i (omega (arith, here))

last : (texts : List (List ℕ)) (text : List ℕ) → slice_index_or (texts ++ text ∷ []) (length texts) [] ≡ text
last [] text = refl
last (t ∷ ts) text = last ts text

many : (texts : List (List ℕ)) (text : List ℕ) → length (texts ++ text ∷ []) ≡ suc (length texts)
many texts text = omega (arith, length-append texts (text ∷ []))

pub last_is : (texts : List (List ℕ)) (text : List ℕ) → IsText (texts ++ text ∷ []) text (length texts)
last_is texts text = record { there = omega (arith, many texts text); meaning = last texts text }

stays : (texts : List (List ℕ)) (text other : List ℕ) (i : ℕ) → IsText texts other i → IsText (texts ++ text ∷ []) other i
stays texts text other i is = record { there = omega (arith, many texts text, is.there); meaning = before texts text i is.there ∙ is.meaning }

-- a text of the longer list is one of the shorter, or the last
parts : (texts : List (List ℕ)) (text other : List ℕ) (i : ℕ) → IsText (texts ++ text ∷ []) other i → IsText texts other i ⊎ ((i ≡ length texts) × (text ≡ other))
parts [] text other zero is = inr (refl, is.meaning)
parts [] text other (suc i) is = absurd (omega (arith, is.there))
parts (t ∷ ts) text other zero is = inl (record { there = omega arith; meaning = is.meaning })
parts (t ∷ ts) text other (suc i) is =
    ⊎_elim
    (λ w. inl (record { there = omega (arith, w.there); meaning = w.meaning }))
    (λ w. inr (ap suc w.0, w.1))
    (parts ts text other i (record { there = omega (arith, is.there); meaning = is.meaning }))

module _ (texts : List (List ℕ)) (text : List ℕ) (old new : BTreeMap (Vec ℕ Global) ℕ) (h : AreNumbered texts old)
    (absent : (i : ℕ) → IsText texts text i → ⊥) (p : PutsAt text (length texts) old new) where
  found_more : (other : List ℕ) (i : ℕ) → number_at new other ≡ Some i → IsText (texts ++ text ∷ []) other i
  found_more other i is =
      elim (cases_Bool (bytes_eq text other)) [
        | inl e ↦
            let put : number_at new other ≡ Some (length texts) = p other ∙ ap (λ (t : Bool). cond t (Some (length texts)) (number_at old other)) e in
            let two : Some (length texts) ≡ Some i = sym put ∙ is in
            let same : length texts ≡ i = cc in
            let P : ℕ → Type 0 = λ n. IsText (texts ++ text ∷ []) other n in
            let Q : List ℕ → Type 0 = λ t. IsText (texts ++ text ∷ []) t (length texts) in
            subst P same (subst Q ((bytes_decides text other).0 e) (last_is texts text))
        | inr e ↦
            let kept : number_at new other ≡ number_at old other = p other ∙ ap (λ (t : Bool). cond t (Some (length texts)) (number_at old other)) e in
            stays texts text other i (h.found other i (sym kept ∙ is))
      ]

  none_more : (other : List ℕ) → number_at new other ≡ None → (i : ℕ) → IsText (texts ++ text ∷ []) other i → ⊥
  none_more other is i there =
      elim (cases_Bool (bytes_eq text other)) [
        | inl e ↦
            let put : number_at new other ≡ Some (length texts) = p other ∙ ap (λ (t : Bool). cond t (Some (length texts)) (number_at old other)) e in
            let two : None ≡ Some (length texts) = sym is ∙ put in cc
        | inr e ↦
            let kept : number_at new other ≡ number_at old other = p other ∙ ap (λ (t : Bool). cond t (Some (length texts)) (number_at old other)) e in
            ⊎_elim (λ w. h.none other (sym kept ∙ is) i w)
            (λ w. true≢false (sym ((bytes_decides text other).1 w.1) ∙ e))
            (parts texts text other i there)
      ]

  -- of a text that isn't there, as one of those that are
  not_there : {X : Type 0} (other : List ℕ) (i : ℕ) → IsText texts other i → text ≡ other → X
  not_there other i is same = absurd (absent i (record { there = is.there; meaning = is.meaning ∙ sym same }))

  once_more : AreOnce (texts ++ text ∷ [])
  once_more i j here there same =
      let x = slice_index_or (texts ++ text ∷ []) i [] in
      ⊎_elim
      (λ a. ⊎_elim (λ b. h.once i j a.there b.there (a.meaning ∙ sym b.meaning)) (λ b. not_there x i a b.1)
      (parts texts text x j (record { there = there; meaning = sym same })))
      (λ a. ⊎_elim (λ b. not_there x j b a.1) (λ b. a.0 ∙ sym b.0)
      (parts texts text x j (record { there = there; meaning = sym same })))
      (parts texts text x i (record { there = here; meaning = refl }))

  pub pushed : AreNumbered (texts ++ text ∷ []) new
  pushed = record { found = found_more; none = none_more; once = once_more }

-- ---- texts in their memory

pub texts_pushed : (all : List (Vec ℕ Global)) (text : Vec ℕ Global) → texts_in (all ++ text ∷ []) ≡ texts_in all ++ text.items ∷ []
texts_pushed all text = map-append (λ (t : Vec ℕ Global). t.items) all (text ∷ [])

-- a map that knows the numbers, and the texts with one more at the end
pub one_more : (all after : List (Vec ℕ Global)) (old new : BTreeMap (Vec ℕ Global) ℕ) (it : Vec ℕ Global) (key text : List ℕ) (number : ℕ) →
    AreNumbered (texts_in all) old → ((i : ℕ) → IsText (texts_in all) text i → ⊥) → after ≡ all ++ it ∷ [] → it.items ≡ text → key ≡ text →
    number ≡ length all → PutsAt key number old new → AreNumbered (texts_in after) new
one_more all after old new it key text number h absent is same named size p =
    let P : List (Vec ℕ Global) → Type 0 = λ xs. AreNumbered (texts_in xs) new in
    let Q : List (List ℕ) → Type 0 = λ ts. AreNumbered ts new in
    let R : List ℕ → Type 0 = λ t. AreNumbered (texts_in all ++ t ∷ []) new in
    let S : List ℕ → Type 0 = λ t. PutsAt t number old new in
    let T : ℕ → Type 0 = λ n. PutsAt text n old new in
    let many : number ≡ length (texts_in all) = size ∙ sym (length-map all (λ (t : Vec ℕ Global). t.items)) in
    subst P (sym is) (subst Q (sym (texts_pushed all it)) (subst R (sym same) (pushed (texts_in all) text old new h absent (subst T many (subst S named p)))))

-- entries that stay are the same map
pub same_numbered : (texts : List (List ℕ)) (numbers new : BTreeMap (Vec ℕ Global) ℕ) → AreNumbered texts numbers → new.entries ≡ numbers.entries → AreNumbered texts new
same_numbered texts numbers new h e = record {
  found = λ text i is. h.found text i (sym (ap (lookup (is_at (λ (key : Vec ℕ Global). slice_cmp nat_cmp text key.items))) e) ∙ is);
  none = λ text is i there. h.none text (sym (ap (lookup (is_at (λ (key : Vec ℕ Global). slice_cmp nat_cmp text key.items))) e) ∙ is) i there;
  once = h.once;
}

-- the text of a number
pub text_at : (all : List (Vec ℕ Global)) (n : ℕ) (text : Vec ℕ Global) → slice_get all n ≡ Some text → IsText (texts_in all) text.items n
text_at [] n text e = cc
text_at (t ∷ all) zero text e = let is : t ≡ text = cc in record { there = omega arith; meaning = ap (λ (x : Vec ℕ Global). x.items) is }
text_at (t ∷ all) (suc n) text e = let w = text_at all n text e in record { there = omega (arith, w.there); meaning = w.meaning }

-- what a look-up of a text answers
pub looked_up : (texts : List (List ℕ)) (numbers : BTreeMap (Vec ℕ Global) ℕ) (text : List ℕ) → AreNumbered texts numbers → (r : Option ℕ)
    → r ≡ number_at numbers text → IfSome r (IsText texts text)
looked_up texts numbers text h None e = tt
looked_up texts numbers text h (Some i) e = h.found text i (sym e)

pub looked_up_none : (texts : List (List ℕ)) (numbers : BTreeMap (Vec ℕ Global) ℕ) (text : List ℕ) → AreNumbered texts numbers → (r : Option ℕ)
    → r ≡ number_at numbers text → IfNone r ((i : ℕ) → IsText texts text i → ⊥)
looked_up_none texts numbers text h None e = h.none text (sym e)
looked_up_none texts numbers text h (Some i) e = tt

-- the last of a list taken off again
take_front : (all : List (Vec ℕ Global)) (it : Vec ℕ Global) (n : ℕ) → n ≡ length all → take n (all ++ it ∷ []) ≡ all
take_front [] it zero e = refl
take_front [] it (suc n) e = absurd (omega (arith, e))
take_front (t ∷ all) it zero e = absurd (omega (arith, e))
take_front (t ∷ all) it (suc n) e = ap (λ (ts : List (Vec ℕ Global)). t ∷ ts) (take_front all it n (omega (arith, e)))

pub taken_off : (all after back : List (Vec ℕ Global)) (it : Vec ℕ Global) (n : ℕ) → after ≡ all ++ it ∷ [] → back ≡ take n after → n ≡ length all → back ≡ all
taken_off all after back it n is taken size = taken ∙ ap (λ (ts : List (Vec ℕ Global)). take n ts) is ∙ take_front all it n size
