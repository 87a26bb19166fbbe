-- A QName is found by its first colon.
use Rattle.std.proofs.Common.{◌≡◌, ℕ, ◌+◌, ◌<◌, ◌≤◌, Bool, true, false, not, ◌&&◌, eqb, ltb, List, [], ◌∷◌, ◌++◌, length, take, drop, get_or, cond, Some, None, refl, sym, ap, subst, ◌∙◌, arith, inl, inr}
use Rattle.std.specs.List.{prefix_len, position_or_len, before_first, after_first, list_all}
use Rattle.std.specs.Str.{IsUtf8, chars, is_utf8}
use Rattle.std.proofs.lemmas.Bool.{cases_lt, eqb-true, and_parts, and_from, lt-ltb, le-ltb, ltb-true}
use Rattle.std.proofs.lemmas.List.{take_all, take_at, length-append}
use Rattle.std.proofs.lemmas.List.Sums.{split_at_first, passes_at_first}
use Rattle.std.proofs.lemmas.Option.{cond_some}
use Rattle.std.proofs.Math.Seq.{drop-append-add}
use Rattle.std.proofs.lemmas.Str.{chars-append, chars_past_char, encode_ascii, is_utf8-from_IsUtf8, IsUtf8-from_is_utf8, IsUtf8-append, IsUtf8-encode}
use lib.Utf8.{low_scalar}
use Rattle.nx_base.specs.Characters.{is_name, is_nc_name}
use Rattle.nx_base.specs.Names.{is_local}
use Rattle.nx_script.specs.Grammar.{IsGap, IsText}
use Rattle.nx_script.specs.QualifiedNames.{IsQName}
use Rattle.nx_script.specs.Reading.{is_colon, is_qualified, is_qname, text_at, name_at}
use Rattle.nx_script.proofs.Blanks.{chosen, found_step, Pass, prefix_len_is, front_passes}
use Rattle.nx_script.proofs.Texts.{utf8_before, utf8_behind, text_at_is, text_at_takes}

-- ---- an NCName has no colon

no_colon_between : (xs ys : List ℕ) → list_all (λ c. not (eqb c 58)) (xs ++ 58 ∷ ys) ≡ true → ⊥
no_colon_between [] ys h = let e : false ≡ true = h in cc
no_colon_between (x ∷ xs) ys h = no_colon_between xs ys (and_parts (not (eqb x 58)) (list_all (λ c. not (eqb c 58)) (xs ++ 58 ∷ ys)) h).1

colon_text : IsUtf8 (58 ∷ [])
colon_text = subst IsUtf8 (encode_ascii 58 (omega arith)) (IsUtf8-encode 58 (low_scalar 58 (omega arith)))

-- the characters of a text with a colon
chars_with_colon : (front back : List ℕ) → IsUtf8 (front ++ 58 ∷ back) → chars (front ++ 58 ∷ back) ≡ chars front ++ 58 ∷ chars back
chars_with_colon front back u =
    let first = utf8_before front back 58 (omega arith) u in
    let small : 58 < 128 = omega arith in
    let P : List ℕ → Type 0 = λ text. IsUtf8 text in
    let rest : IsUtf8 (58 ∷ back) = colon_behind front back u in
    chars-append front (58 ∷ back) first ∙ ap (λ cs. chars front ++ cs) (chars_past_char (58 ∷ back) back 58 rest (ap (λ cs. cs ++ back) (sym (encode_ascii 58 small))))
  where
    colon_behind : (xs ys : List ℕ) → IsUtf8 (xs ++ 58 ∷ ys) → IsUtf8 (58 ∷ ys)
    colon_behind xs ys h = IsUtf8-append (58 ∷ []) ys colon_text (utf8_behind xs ys 58 (omega arith) h)

-- where the first colon stands, and what stands on both sides
parted : (name : List ℕ) → position_or_len is_colon name < length name → name ≡ before_first is_colon name ++ 58 ∷ after_first is_colon name
parted name inside =
    let colon = eqb-true (get_or name (position_or_len is_colon name) 0) 58 (passes_at_first is_colon name 0 inside) in
    split_at_first is_colon name 0 inside ∙ ap (λ c. before_first is_colon name ++ c ∷ after_first is_colon name) colon

colon_fits : (name : List ℕ) → position_or_len is_colon name < length name → IsUtf8 name → is_nc_name (chars name) ≡ true → ⊥
colon_fits name inside u h =
    let cut = parted name inside in
    let spelled = chars_with_colon (before_first is_colon name) (after_first is_colon name) (subst IsUtf8 cut u) in
    let whole : chars name ≡ chars (before_first is_colon name) ++ 58 ∷ chars (after_first is_colon name) = ap chars cut ∙ spelled in
    no_colon_between (chars (before_first is_colon name)) (chars (after_first is_colon name))
    (subst (λ cs. list_all (λ c. not (eqb c 58)) cs ≡ true) whole (and_parts (is_name (chars name)) (list_all (λ c. not (eqb c 58)) (chars name)) h).1)

pub no_colon : (name : List ℕ) → IsUtf8 name → is_nc_name (chars name) ≡ true → length name ≤ position_or_len is_colon name
no_colon name u h = elim (cases_lt (position_or_len is_colon name) (length name)) [
  | inl inside ↦ absurd (colon_fits name inside u h)
  | inr past ↦ past
]

-- ---- an NCName, as bytes and as a text

pub local_text : (name : List ℕ) → is_local name ≡ true → IsUtf8 name × (is_nc_name (chars name) ≡ true)
local_text name h = let parts = and_parts (is_utf8 name) (is_nc_name (chars name)) h in (IsUtf8-from_is_utf8 name parts.0, parts.1)

text_local : (name : List ℕ) → IsUtf8 name → is_nc_name (chars name) ≡ true → is_local name ≡ true
text_local name u h = and_from (is_utf8 name) (is_nc_name (chars name)) (is_utf8-from_IsUtf8 name u) h

-- ---- where the first colon parts a name

pub qualified_parted : (name prefix local : List ℕ) → position_or_len is_colon name < length name → prefix ≡ before_first is_colon name → local ≡ after_first is_colon name
    → (is_nc_name (chars prefix) && is_nc_name (chars local)) ≡ is_qualified name
unfolding is_qualified
qualified_parted name prefix local inside front back =
    let test : ltb (position_or_len is_colon name) (length name) ≡ true = lt-ltb (position_or_len is_colon name) (length name) inside in
    ap (λ xs. is_nc_name (chars xs) && is_nc_name (chars local)) front
    ∙ ap (λ xs. is_nc_name (chars (before_first is_colon name)) && is_nc_name (chars xs)) back
    ∙ sym (ap (λ (t : Bool). cond t (is_nc_name (chars (before_first is_colon name)) && is_nc_name (chars (after_first is_colon name))) (is_nc_name (chars name))) test)

pub qualified_whole : (name : List ℕ) → position_or_len is_colon name ≡ length name → is_nc_name (chars name) ≡ is_qualified name
unfolding is_qualified
qualified_whole name all =
    let test : ltb (position_or_len is_colon name) (length name) ≡ false = le-ltb (position_or_len is_colon name) (length name) (omega (arith, all)) in
    sym (ap (λ (t : Bool). cond t (is_nc_name (chars (before_first is_colon name)) && is_nc_name (chars (after_first is_colon name))) (is_nc_name (chars name))) test)

-- ---- a QName is found

-- behind an NCName a colon is the first
pub first_colon : (prefix local : List ℕ) → is_local prefix ≡ true → position_or_len is_colon (prefix ++ 58 ∷ local) ≡ length prefix
first_colon prefix local h =
    let p : ℕ → Bool = λ b. not (is_colon b) in
    let text = local_text prefix h in
    let none = no_colon prefix text.0 text.1 in
    let all : Pass p prefix = subst (Pass p) (take_all (prefix_len p prefix) prefix none) (front_passes p prefix) in
    prefix_len_is p prefix (58 ∷ local) all refl

unprefixed_is : (name : List ℕ) → is_local name ≡ true → is_qname name ≡ true
unfolding is_qname is_qualified
unprefixed_is name h =
    let text = local_text name h in
    let none : ltb (position_or_len is_colon name) (length name) ≡ false = le-ltb (position_or_len is_colon name) (length name) (no_colon name text.0 text.1) in
    and_from (is_utf8 name) (is_qualified name) (is_utf8-from_IsUtf8 name text.0)
    (ap (λ (t : Bool). cond t (is_nc_name (chars (before_first is_colon name)) && is_nc_name (chars (after_first is_colon name))) (is_nc_name (chars name))) none ∙ text.1)

pub prefixed_text : (prefix local : List ℕ) → is_local prefix ≡ true → is_local local ≡ true → IsUtf8 (prefix ++ 58 ∷ local)
prefixed_text prefix local h k =
    IsUtf8-append prefix (58 ∷ local) (local_text prefix h).0 (IsUtf8-append (58 ∷ []) local colon_text (local_text local k).0)

prefixed_is : (prefix local : List ℕ) → is_local prefix ≡ true → is_local local ≡ true → is_qname (prefix ++ 58 ∷ local) ≡ true
unfolding is_qname is_qualified
prefixed_is prefix local h k =
    let front = local_text prefix h in
    let back = local_text local k in
    let name = prefix ++ 58 ∷ local in
    let at = first_colon prefix local h in
    let long = length-append prefix (58 ∷ local) in
    let inside : ltb (position_or_len is_colon name) (length name) ≡ true = lt-ltb (position_or_len is_colon name) (length name) (omega (arith, at, long)) in
    let before : before_first is_colon name ≡ prefix = ap (λ n. take n name) at ∙ take_at prefix (58 ∷ local) (length prefix) refl in
    let after : after_first is_colon name ≡ local = ap (λ n. drop (n + 1) name) at ∙ drop-append-add prefix (58 ∷ local) 1 in
    let text = prefixed_text prefix local h k in
    and_from (is_utf8 name) (is_qualified name) (is_utf8-from_IsUtf8 name text)
    (ap (λ (t : Bool). cond t (is_nc_name (chars (before_first is_colon name)) && is_nc_name (chars (after_first is_colon name))) (is_nc_name (chars name))) inside
    ∙ and_from (is_nc_name (chars (before_first is_colon name))) (is_nc_name (chars (after_first is_colon name))) (ap (λ cs. is_nc_name (chars cs)) before ∙ front.1) (ap (λ cs. is_nc_name (chars cs)) after ∙ back.1))

pub qname_is : (name : List ℕ) → IsQName name → is_qname name ≡ true
qname_is name (inl h) = unprefixed_is name h
qname_is name (inr (prefix, local, e, h, k)) = ap is_qname e ∙ prefixed_is prefix local h k

-- ---- what is found is a QName

qualified_takes : (name : List ℕ) → IsUtf8 name → is_qualified name ≡ true → IsQName name
unfolding is_qualified
qualified_takes name u h =
    let before = before_first is_colon name in
    let after = after_first is_colon name in
    elim (chosen (ltb (position_or_len is_colon name) (length name)) (is_nc_name (chars before) && is_nc_name (chars after)) (is_nc_name (chars name)) true h) [
      | inl (test, k) ↦
          let parts = and_parts (is_nc_name (chars before)) (is_nc_name (chars after)) k in
          let cut = parted name (ltb-true (position_or_len is_colon name) (length name) test) in
          let text = subst IsUtf8 cut u in
          inr (before, after, cut, text_local before (utf8_before before after 58 (omega arith) text) parts.0, text_local after (utf8_behind before after 58 (omega arith) text) parts.1)
      | inr (other, k) ↦ inl (text_local name u k)
    ]

pub qname_takes : (name : List ℕ) → is_qname name ≡ true → IsQName name
unfolding is_qname
qname_takes name h =
    let parts = and_parts (is_utf8 name) (is_qualified name) h in
    qualified_takes name (IsUtf8-from_is_utf8 name parts.0) parts.1

-- ---- a QName between quotes behind a gap

pub name_at_is : (gap word rest name : List ℕ) → IsGap gap → IsText word name → IsQName name → name_at (gap ++ word ++ rest) ≡ Some (name, rest)
unfolding name_at
name_at_is gap word rest name g t q = rw (text_at_is gap word rest name g t, qname_is name q) refl

pub name_at_takes : (bytes name rest : List ℕ) → name_at bytes ≡ Some (name, rest)
    → (gap word : List ℕ) × (bytes ≡ gap ++ word ++ rest) × IsGap gap × IsText word name × IsQName name
unfolding name_at
name_at_takes bytes name rest e =
    let step = found_step (text_at bytes) (λ t. cond (is_qname t.0) (Some (t.0, t.1)) None) (name, rest) e in
    let parts = cond_some (is_qname step.0.0) (step.0.0, step.0.1) (name, rest) step.2 in
    let text = text_at_takes bytes step.0.0 step.0.1 step.1 in
    let P : List ℕ × List ℕ → Type 0 = λ found. (gap word : List ℕ) × (bytes ≡ gap ++ word ++ found.1) × IsGap gap × IsText word found.0 × IsQName found.0 in
    subst P parts.1 (text.0, text.1, text.2, text.3, text.4, qname_takes step.0.0 parts.0)
