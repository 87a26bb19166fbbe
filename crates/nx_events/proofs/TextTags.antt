-- Names and values of tags are UTF-8.
use Rattle.std.proofs.Common.{◌≡◌, ℕ, zero, suc, ◌+◌, ◌-◌, ◌<◌, ◌≤◌, Bool, true, false, cond, ◌⊎◌, inl, inr, List, [], ◌∷◌, ◌++◌, length, drop, get_or, refl, ap, sym, subst, ◌∙◌, arith, length-drop}
use Rattle.std.proofs.lemmas.Bool.{cases_lt, eqb-true, and_parts}
use Rattle.std.proofs.lemmas.Bool.Decides.{nat_tests}
use Rattle.std.proofs.lemmas.List.{drop-drop, length-take-le}
use Rattle.std.proofs.lemmas.List.Sums.{passes_at_first}
use Rattle.std.proofs.lemmas.Str.{IsUtf8-drop}
use Rattle.std.specs.Prelude.{slice_index, ◌&&◌, ◌||◌, ◌==◌, not, nat_le}
use Rattle.std.specs.List.{AllByRecursion, position_or_len}
use Rattle.std.specs.Str.{IsUtf8}
use Rattle.nx_base.specs.Characters.{is_space, is_quote}
use Rattle.nx_events.specs.Tags.{is_between, ends_name, written_name, quote_place, value_len, written_value, attribute_len, begins_attribute, attribute_at, front_attribute, front_len, attributes_from, start_name, tag_attributes}
use Rattle.nx_events.specs.declared.reading.Reading.TheVariants.{Value}
use Rattle.nx_events.specs.declared.tag.Attribute.{Attribute}
use Rattle.nx_events.proofs.Texts.{border_at, behind, place_fits, before_text, string_text, space_small}

or_cases : (t u : Bool) → (t || u) ≡ true → (t ≡ true) ⊎ (u ≡ true)
or_cases true u h = inl refl
or_cases false u h = inr h

between_small : (b : ℕ) → is_between b ≡ true → b < 128
between_small b h =
    elim (or_cases (is_space b || b == 47) (b == 62) h) [
      | inl f ↦ elim (or_cases (is_space b) (b == 47) f) [ inl e ↦ space_small b e | inr e ↦ (let same = eqb-true b 47 e in omega arith) ]
      | inr e ↦ (let same = eqb-true b 62 e in omega arith)
    ]

pub name_small : (b : ℕ) → ends_name b ≡ true → b < 128
name_small b h =
    elim (or_cases (is_between b) (b == 61) h) [ inl e ↦ between_small b e | inr e ↦ (let same = eqb-true b 61 e in omega arith) ]

pub quote_small : (b : ℕ) → is_quote b ≡ true → b < 128
quote_small b h = grind (arith, nat_tests)

-- the name at the front, and what is behind it
pub name_text : (bs : List ℕ) → IsUtf8 bs → IsUtf8 (written_name bs)
unfolding written_name
name_text bs u = before_text ends_name bs name_small u

behind_name : (bs : List ℕ) → IsUtf8 bs → IsUtf8 (drop (length (written_name bs)) bs)
unfolding written_name
behind_name bs u =
    let n = position_or_len ends_name bs in
    subst (λ k. IsUtf8 (drop k bs)) (sym (length-take-le n bs (place_fits ends_name bs)))
    (IsUtf8-drop bs n u (border_at bs n (place_fits ends_name bs) (λ lt. name_small (get_or bs n 0) (passes_at_first ends_name bs 0 lt))))

-- what is behind each byte of ASCII is UTF-8
abbrev EndsInAscii : List ℕ → Type 0
EndsInAscii bs = (n : ℕ) → n < length bs → get_or bs n 0 < 128 → IsUtf8 (drop (n + 1) bs)

tail_ends : (b : ℕ) (bs : List ℕ) → EndsInAscii (b ∷ bs) → EndsInAscii bs
tail_ends b bs h n lt low = subst (λ k. IsUtf8 (drop k (b ∷ bs))) (let e : suc n + 1 ≡ suc (n + 1) = omega arith in e) (h (suc n) (omega arith) low)

-- the name and the string of an attribute
abbrev pub AttributeIsText : Attribute → Type 0
AttributeIsText it = IsUtf8 it.name × IsUtf8 it.string

abbrev pub AttributesAreText : List Attribute → Type 0
AttributesAreText all = AllByRecursion AttributeIsText all

fits : (bs : List ℕ) → begins_attribute bs ≡ true → attribute_len bs ≤ length bs
unfolding begins_attribute
fits bs e =
    let t = (and_parts (not (is_between (slice_index bs 0))) (nat_le (attribute_len bs) (length bs)) e).1 in
    grind (arith, nat_tests)

module _ (bs : List ℕ) (u : IsUtf8 bs) (fit : attribute_len bs ≤ length bs) where
  quote_within : quote_place bs < length bs
  unfolding attribute_len
  quote_within = omega (arith, fit)

  quote_low : get_or bs (quote_place bs) 0 < 128
  quote_low = quote_small (get_or bs (quote_place bs) 0) (passes_at_first is_quote bs 0 quote_within)

  value_utf8 : IsUtf8 (drop (quote_place bs + 1) bs)
  value_utf8 = behind bs (quote_place bs) u quote_within quote_low

  value_small : (b : ℕ) → (b == slice_index bs (quote_place bs)) ≡ true → b < 128
  value_small b h = let same = eqb-true b (slice_index bs (quote_place bs)) h in omega (arith, quote_low)

  value_text : IsUtf8 (written_value bs)
  unfolding written_value value_len
  value_text = before_text (λ b. b == slice_index bs (quote_place bs)) (drop (quote_place bs + 1) bs) value_small value_utf8

  behind_attribute : IsUtf8 (drop (attribute_len bs) bs)
  unfolding attribute_len value_len
  behind_attribute =
      let q = quote_place bs in
      let rest = drop (q + 1) bs in
      let v = position_or_len (λ b. b == slice_index bs q) rest in
      let lt : v < length rest = omega (arith, fit, length-drop (q + 1) bs) in
      let low : get_or rest v 0 < 128 = value_small (get_or rest v 0) (passes_at_first (λ b. b == slice_index bs q) rest 0 lt) in
      subst (λ k. IsUtf8 (drop k bs)) (let e : (q + 1) + (v + 1) ≡ q + v + 2 = omega arith in e)
      (subst (λ xs. IsUtf8 xs) (drop-drop (v + 1) (q + 1) bs) (behind rest v value_utf8 lt low))

  front_text : (at : ℕ) → AttributeIsText (attribute_at at bs)
  unfolding attribute_at
  front_text at = (name_text bs u, string_text Value (written_value bs) value_text)

-- where no attribute fits, none fits further on, up to a byte that is a quote
quote_further : (b : ℕ) (bs : List ℕ) → is_quote b ≡ false → quote_place (b ∷ bs) ≡ suc (quote_place bs)
quote_further b bs h = rw h (omega arith)

value_further : (b : ℕ) (bs : List ℕ) → is_quote b ≡ false → value_len (b ∷ bs) ≡ value_len bs
unfolding value_len
value_further b bs h =
    let q = quote_place bs in
    ap (λ k. position_or_len (λ x. x == slice_index (b ∷ bs) k) (drop (k + 1) (b ∷ bs))) (quote_further b bs h)
    ∙ ap (λ k. position_or_len (λ x. x == slice_index bs q) (drop k (b ∷ bs))) (let e : suc q + 1 ≡ suc (q + 1) = omega arith in e)

no_fit_further : (b : ℕ) (bs : List ℕ) → is_quote b ≡ false → length (b ∷ bs) < attribute_len (b ∷ bs) → length bs < attribute_len bs
unfolding attribute_len
no_fit_further b bs h lt = omega (arith, lt, quote_further b bs h, value_further b bs h)

not_quote : (b : ℕ) → 128 ≤ b → is_quote b ≡ false
not_quote b h = grind (arith, nat_tests)

not_between : (b : ℕ) → 128 ≤ b → is_between b ≡ false
not_between b h = by_test (is_between b) refl
  where
    by_test : (t : Bool) → is_between b ≡ t → t ≡ false
    by_test true e = absurd (let low = between_small b e in omega arith)
    by_test false e = refl

no_fit : (b : ℕ) (bs : List ℕ) → 128 ≤ b → begins_attribute (b ∷ bs) ≡ false → length (b ∷ bs) < attribute_len (b ∷ bs)
unfolding begins_attribute
no_fit b bs h e =
    let test : nat_le (attribute_len (b ∷ bs)) (length (b ∷ bs)) ≡ false =
    sym (ap (λ t. not t && nat_le (attribute_len (b ∷ bs)) (length (b ∷ bs))) (not_between b h)) ∙ e in
    grind (arith, nat_tests)

-- the text goes on at a character, or no attribute fits
abbrev GoesOn : ℕ → List ℕ → Type 0
GoesOn n bs = IsUtf8 (drop n bs) ⊎ ((n ≡ 0) × (length bs < attribute_len bs))

both_texts : (xs ys : List Attribute) → AttributesAreText xs → AttributesAreText ys → AttributesAreText (xs ++ ys)
both_texts [] ys h k = k
both_texts (x ∷ xs) ys h k = (h.0, both_texts xs ys h.1 k)

some_len : (xs : List ℕ) → attribute_len xs ≡ suc (attribute_len xs - 1)
unfolding attribute_len
some_len xs = omega arith

module _ (at b : ℕ) (bs : List ℕ) (ends : EndsInAscii (b ∷ bs)) (on : GoesOn 0 (b ∷ bs))
    (more : (n : ℕ) → GoesOn n bs → AttributesAreText (attributes_from n (at + 1) bs)) where
  whole : attribute_len (b ∷ bs) ≤ length (b ∷ bs) → IsUtf8 (b ∷ bs)
  whole fit = elim on [ inl u ↦ u | inr out ↦ absurd (omega (arith, fit, out.1)) ]

  next_goes_on : begins_attribute (b ∷ bs) ≡ false → GoesOn 0 bs
  next_goes_on e =
      elim (cases_lt b 128) [
        | inl low ↦ inl (ends 0 (omega arith) low)
        | inr high ↦ inr (refl, no_fit_further b bs (not_quote b high) (no_fit b bs high e))
      ]

  by_begin : (t : Bool) → begins_attribute (b ∷ bs) ≡ t →
      AttributesAreText (cond t (attribute_at at (b ∷ bs) ∷ []) [] ++ attributes_from (cond t (attribute_len (b ∷ bs)) 1 - 1) (at + 1) bs)
  by_begin true e =
      let fit = fits (b ∷ bs) e in
      let u = whole fit in
      let len : attribute_len (b ∷ bs) ≡ suc (attribute_len (b ∷ bs) - 1) = some_len (b ∷ bs) in (
        front_text (b ∷ bs) u fit at,
        more (attribute_len (b ∷ bs) - 1) (inl (subst (λ k. IsUtf8 (drop k (b ∷ bs))) len (behind_attribute (b ∷ bs) u fit))),
      )
  by_begin false e = more 0 (next_goes_on e)

attributes_text : (n at : ℕ) (bs : List ℕ) → EndsInAscii bs → GoesOn n bs → AttributesAreText (attributes_from n at bs)
unfolding attributes_from front_attribute front_len
attributes_text n at [] ends on = tt
attributes_text (suc n) at (b ∷ bs) ends (inl u) = attributes_text n (at + 1) bs (tail_ends b bs ends) (inl u)
attributes_text (suc n) at (b ∷ bs) ends (inr out) = absurd (omega (arith, out.0))
attributes_text zero at (b ∷ bs) ends on =
    by_begin at b bs ends on (λ n next. attributes_text n (at + 1) bs (tail_ends b bs ends) next) (begins_attribute (b ∷ bs)) refl

pub tag_text : (at : ℕ) (bytes : List ℕ) → IsUtf8 (drop 1 bytes) → AttributesAreText (tag_attributes at bytes)
unfolding tag_attributes
tag_text at bytes u =
    let n = length (start_name bytes) in
    let rest_utf8 : IsUtf8 (drop (1 + n) bytes) = subst (λ xs. IsUtf8 xs) (drop-drop n 1 bytes) (behind_name (drop 1 bytes) u) in
    attributes_text 0 (at + (1 + n)) (drop (1 + n) bytes) (λ k lt low. behind (drop (1 + n) bytes) k rest_utf8 lt low) (inl rest_utf8)
