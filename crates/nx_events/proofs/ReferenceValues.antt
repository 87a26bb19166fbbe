-- What references denote, by their grammar and as it is read.
use Rattle.std.proofs.Common.{◌≡◌, ℕ, suc, ◌+◌, ◌*◌, ◌^◌, ◌<◌, Bool, true, false, cond, inl, inr, Option, Some, None, List, [], ◌∷◌, ◌++◌, length, take, drop, refl, ap, sym, subst, ◌∙◌, arith, append-nil, codes, add-mul, mul_assoc, pow-suc, zero-mul, mul-one, mul_comm}
use Rattle.std.specs.Prelude.{◌&&◌, ◌==◌, nat_eq, slice_index}
use Rattle.std.specs.List.{starts_with}
use Rattle.std.specs.Str.{bytes_eq}
use Rattle.std.specs.Char.{is_ascii_digit, is_ascii_hexdigit, digit_value}
use native.Mathlib.Numerals.{unary_clauses}
use Rattle.std.proofs.lemmas.Bool.{cases_Bool}
use Rattle.std.proofs.lemmas.Slice.Eq.{bytes_eq-Decides}
use Rattle.std.proofs.lemmas.List.{take_at, take_all}
use Rattle.std.proofs.lemmas.Str.{chars-IsAscii, IsUtf8-from_ascii}
use Rattle.nx_base.specs.Characters.{is_char, is_name_start, is_name_char}
use Rattle.nx_base.specs.Form.{Spells}
use Rattle.nx_base.specs.Tags.{name_form}
use Rattle.nx_events.specs.References.{numbered, character_named}
use Rattle.nx_base.specs.CharacterCodes.{char_of_code}
use Rattle.std.specs.Str.Parse.{digits_value, digits_value_after}
use Rattle.nx_events.specs.Words.{word, digit, hexdigit}
use Rattle.nx_events.specs.ReferenceForm.{reference_form, entity, decimal, hexadecimal, HasShape, IsEntity, entities, value_of, Denotes}
use Rattle.nx_events.proofs.FormWords.{AllPass, digit-of_one, hexdigit-of_one, is_small, small_ascii}
use Rattle.nx_events.proofs.ReferenceForms.{Shaped, ByShape, by_name, by_digits, by_hexdigits, no_hash_mark, digit_no_x, digits_shape, hexdigits_shape, some_spells, some_all, name_spells}

-- the number that digits write
fold_value : (base n : ℕ) (digits : List ℕ) → digits_value_after base n digits ≡ n * base ^ length digits + value_of base digits
unfolding value_of
fold_value base n [] =
    let one : base ^ 0 ≡ 1 = simp unary_clauses in
    let same : n * base ^ 0 ≡ n = ap (λ k. n * k) one ∙ mul-one n in
    let none : n ≡ n + 0 = omega arith in
    none ∙ ap (λ k. k + 0) (sym same)
fold_value base n (d ∷ digits) =
    let v = digit_value d in
    let p = base ^ length digits in
    let rest = fold_value base (n * base + v) digits in
    let split : (n * base + v) * p ≡ n * base * p + v * p = add-mul (n * base) v p in
    let grouped : n * base * p ≡ n * (base * p) = mul_assoc n base p in
    let power : base ^ suc (length digits) ≡ base * p = pow-suc base (length digits) ∙ mul_comm p base in
    let whole : n * base ^ suc (length digits) ≡ n * (base * p) = ap (λ k. n * k) power in
    rest ∙ omega arith

pub number_is : (base : ℕ) (digits : List ℕ) → digits_value base digits ≡ value_of base digits
number_is base digits = fold_value base 0 digits ∙ (let e : 0 * base ^ length digits + value_of base digits ≡ value_of base digits = ap (λ k. k + value_of base digits) (zero-mul (base ^ length digits)) ∙ omega arith in e)

-- what a body of such a shape denotes
by_entity : (body : List ℕ) (c : ℕ) → IsEntity entities body c → character_named body ≡ Some c
unfolding character_named
by_entity body c (inl e) = ap character_named e.0 ∙ ap (λ x. Some x) (sym e.1)
by_entity body c (inr (inl e)) = ap character_named e.0 ∙ ap (λ x. Some x) (sym e.1)
by_entity body c (inr (inr (inl e))) = ap character_named e.0 ∙ ap (λ x. Some x) (sym e.1)
by_entity body c (inr (inr (inr (inl e)))) = ap character_named e.0 ∙ ap (λ x. Some x) (sym e.1)
by_entity body c (inr (inr (inr (inr (inl e))))) = ap character_named e.0 ∙ ap (λ x. Some x) (sym e.1)
by_entity body c (inr (inr (inr (inr (inr e))))) = absurd e

named_by_digits : (d : ℕ) (digits : List ℕ) → nat_eq 120 d ≡ false → character_named (35 ∷ d ∷ digits) ≡ char_of_code (digits_value 10 (d ∷ digits))
unfolding character_named numbered
named_by_digits d digits h = ap (λ (t : Bool). cond (t && true) (char_of_code (digits_value 16 digits)) (char_of_code (digits_value 10 (d ∷ digits)))) h

named_by_hexdigits : (digits : List ℕ) → character_named (35 ∷ 120 ∷ digits) ≡ char_of_code (digits_value 16 digits)
unfolding character_named numbered
named_by_hexdigits digits = refl

a_char : (n c : ℕ) → c ≡ n → is_char c ≡ true → char_of_code n ≡ Some c
unfolding char_of_code
a_char n c e h = ap (λ (t : Bool). cond t (Some n) None) (ap is_char (sym e) ∙ h) ∙ ap (λ x. Some x) (sym e)

a_char_only : (n c : ℕ) → char_of_code n ≡ Some c → (c ≡ n) × (is_char c ≡ true)
unfolding char_of_code
a_char_only n c e =
    elim (cases_Bool (is_char n)) [
      | inl h ↦ (let both : Some n ≡ Some c = sym (ap (λ (t : Bool). cond t (Some n) None) h) ∙ e in let same : n ≡ c = cc in (sym same, ap is_char (sym same) ∙ h))
      | inr h ↦ absurd (let bad : None ≡ Some c = sym (ap (λ (t : Bool). cond t (Some n) None) h) ∙ e in cc)
    ]

pub denotes_named : (body : List ℕ) (c : ℕ) → Denotes body c → character_named body ≡ Some c
denotes_named body c (entity e) = by_entity body c e
denotes_named body c (decimal digits e s v h) =
    let all = some_all digit is_ascii_digit digit-of_one digits s in
    ap character_named e ∙ by_digits digits all.0 all.1 ∙ a_char (digits_value 10 digits) c (v ∙ sym (number_is 10 digits)) h
  where
    by_digits : (digits : List ℕ) → 0 < length digits → AllPass is_ascii_digit digits → character_named (35 ∷ digits) ≡ char_of_code (digits_value 10 digits)
    by_digits [] lt all = absurd (omega arith)
    by_digits (d ∷ digits) lt all = named_by_digits d digits (digit_no_x d all.0)
denotes_named body c (hexadecimal digits e s v h) =
    ap character_named e ∙ named_by_hexdigits digits ∙ a_char (digits_value 16 digits) c (v ∙ sym (number_is 16 digits)) h

-- one of a chain of tests
entity_or : (body word : List ℕ) (d c : ℕ) (other : Option ℕ) (P : Type 0) → cond (bytes_eq body word) (Some d) other ≡ Some c →
    (body ≡ word → c ≡ d → P) → (other ≡ Some c → P) → P
entity_or body word d c other P e f g =
    elim (cases_Bool (bytes_eq body word)) [
      | inl h ↦ (let both : Some d ≡ Some c = sym (ap (λ (t : Bool). cond t (Some d) other) h) ∙ e in let same : c ≡ d = cc in f ((bytes_eq-Decides body word).0 h) same)
      | inr h ↦ g (sym (ap (λ (t : Bool). cond t (Some d) other) h) ∙ e)
    ]

no_number : (body : List ℕ) → (slice_index body 0 == 35) ≡ false → numbered body ≡ None
unfolding numbered
no_number body h =
    ap (λ (t : Bool). cond t (char_of_code (digits_value 16 (drop 2 body))) (cond (starts_with nat_eq body (codes "#")) (char_of_code (digits_value 10 (drop 1 body))) None)) (no_hash_mark (120 ∷ []) body h)
    ∙ ap (λ (t : Bool). cond t (char_of_code (digits_value 10 (drop 1 body))) None) (no_hash_mark [] body h)

entity_named : (body : List ℕ) (c : ℕ) → (slice_index body 0 == 35) ≡ false → character_named body ≡ Some c → IsEntity entities body c
unfolding character_named
entity_named body c h e =
    entity_or body (codes "lt") 60 c _ (IsEntity entities body c) e (λ a b. inl (a, b))
    (λ e. entity_or body (codes "gt") 62 c _ (IsEntity entities body c) e (λ a b. inr (inl (a, b)))
    (λ e. entity_or body (codes "amp") 38 c _ (IsEntity entities body c) e (λ a b. inr (inr (inl (a, b))))
    (λ e. entity_or body (codes "apos") 39 c _ (IsEntity entities body c) e (λ a b. inr (inr (inr (inl (a, b)))))
    (λ e. entity_or body (codes "quot") 34 c (numbered body) (IsEntity entities body c) e (λ a b. inr (inr (inr (inr (inl (a, b))))))
    (λ e. absurd (let bad : None ≡ Some c = sym (no_number body h) ∙ e in cc))))))

pub named_denotes : (body : List ℕ) (c : ℕ) → ByShape body → character_named body ≡ Some c → Denotes body c
named_denotes body c (by_name u s h) e = entity (entity_named body c h e)
named_denotes body c (by_digits [] f lt all) e = absurd (omega arith)
named_denotes body c (by_digits (d ∷ digits) f lt all) e =
    let t = a_char_only (digits_value 10 (d ∷ digits)) c (sym (ap character_named f ∙ named_by_digits d digits (digit_no_x d all.0)) ∙ e) in
    decimal (d ∷ digits) f (some_spells digit is_ascii_digit digit-of_one (d ∷ digits) lt all) (t.0 ∙ number_is 10 (d ∷ digits)) t.1
named_denotes body c (by_hexdigits digits f lt all) e =
    let t = a_char_only (digits_value 16 digits) c (sym (ap character_named f ∙ named_by_hexdigits digits) ∙ e) in
    hexadecimal digits f (some_spells hexdigit is_ascii_hexdigit hexdigit-of_one digits lt all) (t.0 ∙ number_is 16 digits) t.1

-- whatever denotes a character has such a shape
word_shape : (c : ℕ) (cs : List ℕ) → AllPass is_small (c ∷ cs) → is_name_start c ≡ true → AllPass is_name_char cs → HasShape (c ∷ cs)
unfolding Spells
word_shape c cs small h all =
    let ascii = small_ascii (c ∷ cs) small in
    record { utf8 = IsUtf8-from_ascii (c ∷ cs) ascii; spelled = inl (subst (λ xs. Spells name_form xs) (sym (chars-IsAscii (c ∷ cs) ascii)) (name_spells c cs h all)) }

entity_shape : (body : List ℕ) (c : ℕ) → IsEntity entities body c → HasShape body
unfolding is_name_start is_name_char
entity_shape body c (inl e) = subst (λ xs. HasShape xs) (sym e.0) (word_shape 108 (116 ∷ []) (refl, (refl, tt)) refl (refl, tt))
entity_shape body c (inr (inl e)) = subst (λ xs. HasShape xs) (sym e.0) (word_shape 103 (116 ∷ []) (refl, (refl, tt)) refl (refl, tt))
entity_shape body c (inr (inr (inl e))) = subst (λ xs. HasShape xs) (sym e.0) (word_shape 97 (109 ∷ 112 ∷ []) (refl, (refl, (refl, tt))) refl (refl, (refl, tt)))
entity_shape body c (inr (inr (inr (inl e)))) = subst (λ xs. HasShape xs) (sym e.0) (word_shape 97 (112 ∷ 111 ∷ 115 ∷ []) (refl, (refl, (refl, (refl, tt)))) refl (refl, (refl, (refl, tt))))
entity_shape body c (inr (inr (inr (inr (inl e))))) = subst (λ xs. HasShape xs) (sym e.0) (word_shape 113 (117 ∷ 111 ∷ 116 ∷ []) (refl, (refl, (refl, (refl, tt)))) refl (refl, (refl, (refl, tt))))
entity_shape body c (inr (inr (inr (inr (inr e))))) = absurd e

shape_from : (n : ℕ) (bytes : List ℕ) → Shaped reference_form n bytes → (body : List ℕ) → n ≡ length body → bytes ≡ body → HasShape body
shape_from n bytes h body e f =
    let whole : h.body ≡ body = whole_is h.body h.rest body (h.size ∙ e) (sym h.is ∙ f) in
    subst (λ xs. HasShape xs) whole (record { utf8 = h.utf8; spelled = h.spelled })
  where
    whole_is : (xs ys zs : List ℕ) → length xs ≡ length zs → xs ++ ys ≡ zs → xs ≡ zs
    whole_is xs ys zs e f = sym (take_at xs ys (length zs) e) ∙ ap (take (length zs)) f ∙ take_all (length zs) zs (omega arith)

pub denotes_shape : (body : List ℕ) (c : ℕ) → Denotes body c → HasShape body
denotes_shape body c (entity e) = entity_shape body c e
denotes_shape body c (decimal digits e s v h) =
    let all = some_all digit is_ascii_digit digit-of_one digits s in
    shape_from (suc (length digits)) (35 ∷ (digits ++ [])) (digits_shape digits [] (suc (length digits)) all.0 all.1 refl) body (ap length (sym e)) (ap (λ xs. 35 ∷ xs) (append-nil digits) ∙ sym e)
denotes_shape body c (hexadecimal digits e s v h) =
    let all = some_all hexdigit is_ascii_hexdigit hexdigit-of_one digits s in
    shape_from (suc (suc (length digits))) (35 ∷ 120 ∷ (digits ++ [])) (hexdigits_shape digits [] (suc (suc (length digits))) all.0 all.1 refl) body (ap length (sym e)) (ap (λ xs. 35 ∷ 120 ∷ xs) (append-nil digits) ∙ sym e)
