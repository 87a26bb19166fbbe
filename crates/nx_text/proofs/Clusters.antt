-- Where the clusters of a text begin.
use Rattle.std.proofs.Common.{◌≡◌, ◌∙◌, ◌⊎◌, ◌+◌, ◌-◌, ◌<◌, ℕ, Bool, true, false, List, [], ◌∷◌, ◌++◌, map, reverse, length, take, drop}
use Rattle.std.proofs.Common.{refl, sym, ap, ap₂, subst, arith, append_assoc, append-nil, length-append, inl, inr, zero, suc, take_at}
use Rattle.std.proofs.Common.{drop_at, cond}
use Rattle.std.proofs.lemmas.Bool.{cases_lt}
use Rattle.std.proofs.lemmas.List.{reverse-append, take-append-drop, length-take-le, length-drop}
use Rattle.std.specs.Prelude.{encode_utf8, encode_utf8_all, ◌↔◌}
use Rattle.std.specs.List.{Contains}
use Rattle.std.specs.Str.{chars, IsUtf8}
use Rattle.std.proofs.lemmas.Str.{chars-append, chars_from_encodes, encodes-append, encodes-chars, IsUtf8-take, IsUtf8-drop}
use Rattle.std.proofs.lemmas.Str.{IsUtf8-past_char, IsCharBoundary-start, IsCharBoundary-end, IsCharBoundary-at_seam}
use Rattle.unicode_segmentation.specs.Grapheme.{graphemes, is_grapheme_break}
use Rattle.unicode_segmentation.specs.Segments.{Rule, prepend, cut, segments, with_offsets}
use Rattle.unicode_segmentation.proofs.CursorLemmas.{breaks_at-start, breaks_at-end}
use Rattle.nx_base.specs.Text.{IsPlace}
use Rattle.nx_text.specs.Borders.{IsBorder, cluster_starts}

-- a piece begins at k, where the first begins at n
abbrev pub Starts : ℕ → List (List ℕ) → ℕ → Type 0
Starts n [] k = ⊥
Starts n (p ∷ ps) k = (k ≡ n) ⊎ Starts (n + length p) ps k

-- a piece behind the first begins at k
abbrev pub Later : ℕ → List (List ℕ) → ℕ → Type 0
Later n [] k = ⊥
Later n (p ∷ ps) k = Starts (n + length p) ps k

from_later : (n : ℕ) (ps : List (List ℕ)) (k : ℕ) → Later n ps k → Starts n ps k
from_later n [] k h = h
from_later n (p ∷ ps) k h = inr h

abbrev pub pieces : List (List ℕ) → List (List ℕ)
pieces = map encode_utf8_all

-- the characters of cs in reverse, and then `before`
abbrev pub onto : List ℕ → List ℕ → List ℕ
onto [] before = before
onto (c ∷ cs) before = onto cs (c ∷ before)

onto-reverse : (cs before : List ℕ) → onto cs (reverse before) ≡ reverse (before ++ cs)
onto-reverse [] before = ap reverse (sym (append-nil before))
onto-reverse (c ∷ cs) before =
    ap (onto cs) (sym (reverse-append before (c ∷ []))) ∙ onto-reverse cs (before ++ c ∷ []) ∙ ap reverse (append_assoc before (c ∷ []) cs)

abbrev width : ℕ → ℕ
width c = length (encode_utf8_all (c ∷ []))

starts_moved : (n m : ℕ) (ps : List (List ℕ)) (k : ℕ) → n ≡ m → Starts n ps k → Starts m ps k
starts_moved n m ps k e h = subst (λ (j : ℕ). Starts j ps k) e h

-- a character in front, as a piece of its own or as the front of the first
abbrev attach : Bool → ℕ → List (List ℕ) → List (List ℕ)
attach b c ps = cond b ((c ∷ []) ∷ ps) (prepend (c ∷ []) ps)

begins : (b : Bool) (c n : ℕ) (ps : List (List ℕ)) → Starts n (pieces (attach b c ps)) n
begins true c n ps = inl refl
begins false c n [] = inl refl
begins false c n (p ∷ ps) = inl refl

up : (b : Bool) (c n : ℕ) (ps : List (List ℕ)) (k : ℕ) → Later (n + width c) (pieces ps) k → Later n (pieces (attach b c ps)) k
up true c n ps k h = from_later (n + width c) (pieces ps) k h
up false c n [] k h = absurd h
up false c n (p ∷ ps) k h =
    let sum = length-append (encode_utf8 c) (encode_utf8_all p) in
    let one = length-append (encode_utf8 c) [] in
    starts_moved _ _ (pieces ps) k (omega (arith, sum, one)) h

-- what begins behind the first piece is the front, where that is a piece, or begins behind the front's piece
down : (b : Bool) (c n : ℕ) (ps : List (List ℕ)) (k : ℕ) → Later n (pieces (attach b c ps)) k
    → ((b ≡ true) × (k ≡ n + width c) × (0 < length ps)) ⊎ Later (n + width c) (pieces ps) k
down true c n [] k h = absurd h
down true c n (p ∷ ps) k (inl e) = inl (refl, e, omega arith)
down true c n (p ∷ ps) k (inr h) = inr h
down false c n [] k h = absurd h
down false c n (p ∷ ps) k h =
    let sum = length-append (encode_utf8 c) (encode_utf8_all p) in
    let one = length-append (encode_utf8 c) [] in
    inr (starts_moved _ _ (pieces ps) k (omega (arith, sum, one)) h)

cut_some : (rule : Rule) (before cs after : List ℕ) → 0 < length (cut rule before cs after) → 0 < length cs
unfolding cut
cut_some rule before [] after h = h
cut_some rule before (c ∷ cs) after h = omega arith

-- the rule breaks the characters, k bytes behind the offset n
pub record Broken (rule : Rule) (before cs after : List ℕ) (n k : ℕ) : Type 0 where
  pub xs : List ℕ
  pub ys : List ℕ
  pub parts : cs ≡ xs ++ ys
  pub some : 0 < length ys
  pub offset : k ≡ n + length (encode_utf8_all xs)
  pub breaks : rule (onto xs before) (ys ++ after) ≡ true

breaks_there : (rule : Rule) (before cs after : List ℕ) (n k : ℕ) → Later n (pieces (cut rule before cs after)) k
    → Broken rule before cs after n k
unfolding cut
breaks_there rule before [] after n k h = absurd h
breaks_there rule before (c ∷ cs) after n k h =
    elim (down (rule (c ∷ before) (cs ++ after)) c n (cut rule (c ∷ before) cs after) k h) [
      | inl w ↦ record { xs = c ∷ []; ys = cs; parts = refl; some = cut_some rule (c ∷ before) cs after w.2; offset = w.1; breaks = w.0 }
      | inr l ↦ (
          let r = breaks_there rule (c ∷ before) cs after (n + width c) k l in
          let sum = length-append (encode_utf8 c) (encode_utf8_all r.xs) in
          let one = length-append (encode_utf8 c) [] in
          let place = r.offset in
          record { xs = c ∷ r.xs; ys = r.ys; parts = ap (λ t. c ∷ t) r.parts; some = r.some; offset = omega (arith, sum, one, place); breaks = r.breaks })
    ]

starts_where : (rule : Rule) (before cs after : List ℕ) (n : ℕ) → 0 < length cs → Starts n (pieces (cut rule before cs after)) n
unfolding cut
starts_where rule before [] after n h = absurd (omega arith)
starts_where rule before (c ∷ cs) after n h = begins (rule (c ∷ before) (cs ++ after)) c n (cut rule (c ∷ before) cs after)

begins_there : (rule : Rule) (before xs ys after : List ℕ) (n : ℕ) → 0 < length xs → 0 < length ys
    → rule (onto xs before) (ys ++ after) ≡ true
    → Later n (pieces (cut rule before (xs ++ ys) after)) (n + length (encode_utf8_all xs))
unfolding cut
begins_there rule before [] ys after n some more h = absurd (omega arith)
begins_there rule before (c ∷ []) ys after n some more h =
    let rest = cut rule (c ∷ before) ys after in
    subst (λ (b : Bool). Later n (pieces (attach b c rest)) (n + width c)) (sym h) (starts_where rule (c ∷ before) ys after (n + width c) more)
begins_there rule before (c ∷ (d ∷ xs)) ys after n some more h =
    let sum = length-append (encode_utf8 c) (encode_utf8_all (d ∷ xs)) in
    let one = length-append (encode_utf8 c) [] in
    let e : n + width c + length (encode_utf8_all (d ∷ xs)) ≡ n + length (encode_utf8_all (c ∷ (d ∷ xs))) = omega (arith, sum, one) in
    up (rule (c ∷ before) (((d ∷ xs) ++ ys) ++ after)) c n (cut rule (c ∷ before) ((d ∷ xs) ++ ys) after) _
    (subst (λ (k : ℕ). Later (n + width c) (pieces (cut rule (c ∷ before) ((d ∷ xs) ++ ys) after)) k) e
    (begins_there rule (c ∷ before) (d ∷ xs) ys after (n + width c) (omega arith) more h))

contained : (n : ℕ) (ps : List (List ℕ)) (k : ℕ) → Starts n ps k → Contains (map (λ (x : ℕ × List ℕ). x.0) (with_offsets n ps)) k
unfolding with_offsets
contained n [] k h = absurd h
contained n (p ∷ ps) k (inl e) = (0, omega arith, sym e)
contained n (p ∷ ps) k (inr h) = let c = contained (n + length p) ps k h in let lt = c.1 in (suc c.0, omega arith, c.2)

starts_of : (n : ℕ) (ps : List (List ℕ)) (k : ℕ) → Contains (map (λ (x : ℕ × List ℕ). x.0) (with_offsets n ps)) k → Starts n ps k
unfolding with_offsets
starts_of n [] k (i, lt, e) = absurd (omega arith)
starts_of n (p ∷ ps) k (zero, lt, e) = inl (sym e)
starts_of n (p ∷ ps) k (suc i, lt, e) = inr (starts_of (n + length p) ps k (i, omega arith, e))

chars_some : (bs : List ℕ) → IsUtf8 bs → 0 < length bs → 0 < length (chars bs)
chars_some bs u h = go (chars bs) (encodes-chars bs u)
  where
    go : (cs : List ℕ) → encode_utf8_all cs ≡ bs → 0 < length cs
    go [] e = let none : length bs ≡ 0 = ap length (sym e) in absurd (omega arith)
    go (c ∷ cs) e = omega arith

utf8_rest : (cs rest : List ℕ) → IsUtf8 (encode_utf8_all cs ++ rest) → IsUtf8 rest
utf8_rest [] rest u = u
utf8_rest (c ∷ cs) rest u = utf8_rest cs rest (IsUtf8-past_char _ _ c u (append_assoc (encode_utf8 c) (encode_utf8_all cs) rest))

abbrev rule_true : Rule
rule_true = is_grapheme_break true

module _ (text : List ℕ) (at : ℕ) (u : IsUtf8 text) where
  starts_inside : IsBorder text at → at < length text → Starts 0 (graphemes true text) at
  unfolding segments
  starts_inside is lt = elim (cases_lt 0 at) [
    | inl some ↦ (
        let front = take at text in let back = drop at text in
        let uf = IsUtf8-take text at u is.place in
        let ub = IsUtf8-drop text at u is.place in
        let whole : chars front ++ chars back ≡ chars text = sym (chars-append front back uf) ∙ ap chars (take-append-drop at text) in
        let front_len : length front ≡ at = length-take-le at text is.place.0 in
        let back_len : length back ≡ length text - at = length-drop at text in
        let breaks : rule_true (onto (chars front) []) (chars back ++ []) ≡ true =
        ap₂ rule_true (onto-reverse (chars front) []) (append-nil (chars back)) ∙ is.breaks in
        let there = begins_there rule_true [] (chars front) (chars back) [] 0 (chars_some front uf (omega arith)) (chars_some back ub (omega arith)) breaks in
        let place : 0 + length (encode_utf8_all (chars front)) ≡ at = omega (arith, ap length (encodes-chars front uf)) in
        from_later 0 _ at (subst (λ (k : ℕ). Later 0 (graphemes true text) k) place
        (subst (λ (cs : List ℕ). Later 0 (pieces (cut rule_true [] cs [])) (0 + length (encode_utf8_all (chars front)))) whole there)))
    | inr none ↦ (
        let e : 0 ≡ at = omega arith in
        subst (λ (k : ℕ). Starts 0 (graphemes true text) k) e (starts_where rule_true [] (chars text) [] 0 (chars_some text u (omega arith))))
  ]

  border_at_break : Broken rule_true [] (chars text) [] 0 at → IsBorder text at
  border_at_break r =
      let front = encode_utf8_all r.xs in let back = encode_utf8_all r.ys in
      let whole : text ≡ front ++ back = sym (encodes-chars text u) ∙ ap encode_utf8_all r.parts ∙ encodes-append r.xs r.ys in
      let offset = r.offset in let place : at ≡ length front = omega (arith, offset) in
      let ub : IsUtf8 back = utf8_rest r.xs back (subst IsUtf8 whole u) in
      let is_place : IsPlace text at = subst (IsPlace text) (sym place) (IsCharBoundary-at_seam text front back whole ub) in
      let before : take at text ≡ front = ap (take at) whole ∙ take_at front back at (sym place) in
      let behind : drop at text ≡ back = ap (drop at) whole ∙ drop_at front back at (sym place) in
      let xs : r.xs ≡ chars (take at text) = chars_from_encodes r.xs (take at text) (IsUtf8-take text at u is_place) (sym before) in
      let ys : r.ys ≡ chars (drop at text) = chars_from_encodes r.ys (drop at text) (IsUtf8-drop text at u is_place) (sym behind) in
      record {
        place = is_place;
        breaks = ap₂ rule_true (ap reverse (sym xs) ∙ sym (onto-reverse r.xs [])) (sym ys ∙ sym (append-nil r.ys)) ∙ r.breaks;
      }

  border_at_start : Starts 0 (graphemes true text) at → IsBorder text at
  unfolding segments
  border_at_start h = elim (first_or_later 0 (graphemes true text) at h) [
    | inl e ↦ record { place = subst (IsPlace text) (sym e) (IsCharBoundary-start text u); breaks = sym (breaks_at-start true text at e) }
    | inr l ↦ border_at_break (breaks_there rule_true [] (chars text) [] 0 at l)
  ]
    where
      first_or_later : (n : ℕ) (ps : List (List ℕ)) (k : ℕ) → Starts n ps k → (k ≡ n) ⊎ Later n ps k
      first_or_later n [] k h = absurd h
      first_or_later n (p ∷ ps) k h = h

  pub borders : IsBorder text at ↔ (Contains (cluster_starts text) at ⊎ (at ≡ length text))
  borders = (
    λ is. let low = is.place.0 in elim (cases_lt at (length text)) [
      | inl lt ↦ inl (contained 0 (graphemes true text) at (starts_inside is lt))
      | inr past ↦ inr (omega arith)
    ],
    λ o. elim o [
      | inl c ↦ border_at_start (starts_of 0 (graphemes true text) at c)
      | inr e ↦ record { place = subst (IsPlace text) (sym e) (IsCharBoundary-end text); breaks = sym (breaks_at-end true text at e) }
    ],
  )
