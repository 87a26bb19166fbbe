-- What the forms of tags spell, as bytes.
use Rattle.std.proofs.Common.{◌≡◌, ℕ, ◌+◌, ◌<◌, ◌≤◌, Bool, true, false, inl, inr, ◌⊎◌, List, [], ◌∷◌, ◌++◌, length, refl, ap, subst, sym, ◌∙◌, arith}
use Rattle.std.specs.Prelude.{◌==◌, nat_lt}
use Rattle.std.specs.List.{AllByRecursion}
use lib.Utf8.{encode, encodes, scalars}
use Rattle.std.proofs.lemmas.Bool.{cases_lt, or_cases, eqb-true, ltb-true}
use Rattle.std.proofs.lemmas.Bool.Decides.{nat_tests}
use Rattle.std.proofs.lemmas.List.{length-append}
use Rattle.std.proofs.lemmas.Str.{encode_ascii, chars-encodes, len_utf8_bounds, length-encode}
use Rattle.nx_base.specs.Characters.{is_space, is_name_start, is_name_char, is_quote}
use Rattle.nx_base.specs.Form.{Spells}
use Rattle.nx_base.specs.Tags.{name_form}
use Rattle.nx_events.specs.Tags.{ends_name}
use Rattle.nx_events.specs.Spelling.{IsNameByte}
use Rattle.nx_events.specs.SpelledTags.{IsName}
use Rattle.nx_events.proofs.FormWords.{AllPass}
use Rattle.nx_events.proofs.ReferenceForms.{name_all, start_is_name}
use Rattle.nx_events.proofs.Texts.{test_is, space_small}
use Rattle.nx_events.proofs.TextTags.{name_small, quote_small}

-- the bytes of a character that isn't ASCII
high_bytes : (c : ℕ) → 128 ≤ c → AllByRecursion (λ (b : ℕ). 128 ≤ b) (encode c)
unfolding encode
high_bytes c h =
    let P : List ℕ → Type 0 = λ xs. AllByRecursion (λ (b : ℕ). 128 ≤ b) xs in
    test_is P (nat_lt c 128) _ _ (λ e. absurd (let k = ltb-true c 128 e in omega arith))
    (λ _. test_is P (nat_lt c 2048) _ _ (λ _. (omega arith, (omega arith, tt)))
    (λ _. test_is P (nat_lt c 65536) _ _ (λ _. (omega arith, (omega arith, (omega arith, tt)))) (λ _. (omega arith, (omega arith, (omega arith, (omega arith, tt)))))))

-- where no character passes a test of ASCII, no byte does
abbrev pub NonePass : (ℕ → Bool) → List ℕ → Type 0
NonePass p xs = AllByRecursion (λ (b : ℕ). p b ≡ false) xs

none_append : (p : ℕ → Bool) (xs ys : List ℕ) → NonePass p xs → NonePass p ys → NonePass p (xs ++ ys)
none_append p [] ys h k = k
none_append p (x ∷ xs) ys h k = (h.0, none_append p xs ys h.1 k)

high_none : (p : ℕ → Bool) (xs : List ℕ) → ((b : ℕ) → p b ≡ true → b < 128) → AllByRecursion (λ (b : ℕ). 128 ≤ b) xs → NonePass p xs
high_none p [] small h = tt
high_none p (x ∷ xs) small h = (by_test (p x) refl, high_none p xs small h.1)
  where
    by_test : (t : Bool) → p x ≡ t → t ≡ false
    by_test true e = absurd (let low = small x e in let high = h.0 in omega arith)
    by_test false e = refl

pub bytes_none : (p : ℕ → Bool) (cs : List ℕ) → ((b : ℕ) → p b ≡ true → b < 128) → NonePass p cs → NonePass p (encodes cs)
bytes_none p [] small h = tt
bytes_none p (c ∷ cs) small h =
    let rest = bytes_none p cs small h.1 in
    elim (cases_lt c 128) [
      | inl low ↦ subst (λ xs. NonePass p (xs ++ encodes cs)) (sym (encode_ascii c low)) (h.0, rest)
      | inr high ↦ none_append p (encode c) (encodes cs) (high_none p (encode c) small (high_bytes c high)) rest
    ]

-- white space is one byte each
pub spaces_bytes : (cs : List ℕ) → AllPass is_space cs → encodes cs ≡ cs
spaces_bytes [] h = refl
spaces_bytes (c ∷ cs) h = ap (λ xs. xs ++ encodes cs) (encode_ascii c (space_small c h.0)) ∙ ap (λ xs. c ∷ xs) (spaces_bytes cs h.1)

-- no character of a name ends it, or is a quote
ends_one : (c : ℕ) → ends_name c ≡ true → (c ≡ 9) ⊎ ((c ≡ 10) ⊎ ((c ≡ 13) ⊎ ((c ≡ 32) ⊎ ((c ≡ 47) ⊎ ((c ≡ 62) ⊎ (c ≡ 61))))))
unfolding is_space
ends_one c h = grind (arith, nat_tests)

pub no_name_char : (c : ℕ) → ends_name c ≡ true → is_name_char c ≡ false
unfolding is_name_char is_name_start
no_name_char c h =
    elim (ends_one c h) [
      | inl e ↦ ap is_name_char e
      | inr e ↦ elim e [
        | inl e ↦ ap is_name_char e
        | inr e ↦ elim e [
          | inl e ↦ ap is_name_char e
          | inr e ↦ elim e [
            | inl e ↦ ap is_name_char e
            | inr e ↦ elim e [ inl e ↦ ap is_name_char e | inr e ↦ elim e [ inl e ↦ ap is_name_char e | inr e ↦ ap is_name_char e ] ]
          ]
        ]
      ]
    ]

no_quote_char : (c : ℕ) → is_quote c ≡ true → is_name_char c ≡ false
unfolding is_name_char is_name_start
no_quote_char c h =
    elim (or_cases (c == 34) (c == 39) h) [ inl e ↦ ap is_name_char (eqb-true c 34 e) | inr e ↦ ap is_name_char (eqb-true c 39 e) ]

no_char : (p : ℕ → Bool) (c : ℕ) → (p c ≡ true → is_name_char c ≡ false) → is_name_char c ≡ true → p c ≡ false
no_char p c h k = by_test (p c) refl
  where
    by_test : (t : Bool) → p c ≡ t → t ≡ false
    by_test true e = absurd (let bad : true ≡ false = sym k ∙ h e in cc)
    by_test false e = refl

names_none : (p : ℕ → Bool) (cs : List ℕ) → ((c : ℕ) → p c ≡ true → is_name_char c ≡ false) → AllPass is_name_char cs → NonePass p cs
names_none p [] h all = tt
names_none p (c ∷ cs) h all = (no_char p c (h c) all.0, names_none p cs h all.1)

name_bytes : (xs : List ℕ) → NonePass ends_name xs → NonePass is_quote xs → AllByRecursion IsNameByte xs
name_bytes [] h k = tt
name_bytes (x ∷ xs) h k = (record { goes_on = h.0; no_quote = k.0 }, name_bytes xs h.1 k.1)

-- a name's characters, as bytes
pub record NameBytes (name : List ℕ) : Type 0 where
  pub some : 0 < length name
  pub bytes : AllByRecursion IsNameByte name
  pub is_name : IsName name

pub name_is : (cs : List ℕ) → scalars cs ≡ true → Spells name_form cs → NameBytes (encodes cs)
name_is cs ok s =
    let t = name_all cs s in
    let all : AllPass is_name_char cs = subst (λ xs. AllPass is_name_char xs) (sym t.4) (start_is_name t.0 t.2, t.3) in
    let long : length (encodes cs) ≡ length (encode t.0) + length (encodes t.1) = ap (λ xs. length (encodes xs)) t.4 ∙ length-append (encode t.0) (encodes t.1) in
    let one = length-encode t.0 in
    let few = (len_utf8_bounds t.0).0 in
    record {
      some = omega arith;
      bytes = name_bytes (encodes cs) (bytes_none ends_name cs name_small (names_none ends_name cs no_name_char all)) (bytes_none is_quote cs quote_small (names_none is_quote cs no_quote_char all));
      is_name = record { utf8 = (cs, (ok, refl)); spelled = subst (λ xs. Spells name_form xs) (sym (chars-encodes cs ok)) s };
    }
