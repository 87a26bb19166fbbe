-- A text that is clean is so up to a quote, and behind it.
use Rattle.std.proofs.Common.{◌≡◌, ℕ, ◌<◌, append-nil, Bool, true, false, inl, inr, List, [], ◌∷◌, ◌++◌, length, refl, ap, sym, subst, ◌∙◌, arith}
use Rattle.std.specs.Prelude.{◌==◌}
use Rattle.std.specs.Char.{is_ascii_digit, is_ascii_hexdigit}
use lib.Utf8.{encode}
use Rattle.std.proofs.lemmas.Bool.{cases_Bool, eqb-true, eq-eqb}
use Rattle.std.proofs.lemmas.Bool.Decides.{nat_tests}
use Rattle.std.proofs.lemmas.List.{length-append}
use Rattle.std.proofs.lemmas.Str.{encode_ascii}
use Rattle.nx_events.specs.ReferenceForm.{Denotes, entity, decimal, hexadecimal, IsEntity, entities}
use Rattle.nx_base.specs.Characters.{is_quote}
use Rattle.nx_events.proofs.FormWords.{AllPass, digit-of_one, hexdigit-of_one}
use Rattle.nx_events.proofs.ReferenceForms.{some_all}
use Rattle.nx_events.proofs.TagForms.{NonePass, bytes_none}
use Rattle.nx_events.proofs.TextTags.{quote_small}
use Rattle.nx_events.specs.Words.{digit, hexdigit}
use Rattle.nx_document.proofs.CleanTexts.{IsClean, empty, one_char, one_reference}

-- a value up to its quote
record Within (q : ℕ) (front more value rest : List ℕ) : Type 0 where
  left : List ℕ
  value_is : value ≡ front ++ left
  more_is : more ≡ left ++ q ∷ rest

within : (q : ℕ) (front more value rest : List ℕ) → NonePass (λ b. b == q) front → front ++ more ≡ value ++ q ∷ rest → Within q front more value rest
within q [] more value rest h e = record { left = value; value_is = refl; more_is = e }
within q (x ∷ front) more [] rest h e =
    let both : x ∷ (front ++ more) ≡ q ∷ rest = e in
    let same : x ≡ q = cc in
    let bad : true ≡ false = sym (eq-eqb x q same) ∙ h.0 in absurd (cc)
within q (x ∷ front) more (b ∷ value) rest h e =
    let both : x ∷ (front ++ more) ≡ b ∷ (value ++ q ∷ rest) = e in
    let same : x ≡ b = cc in
    let tails : front ++ more ≡ value ++ q ∷ rest = cc in
    let w = within q front more value rest h.1 tails in
    record { left = w.left; value_is = ap (λ y. y ∷ value) (sym same) ∙ ap (λ ys. x ∷ ys) w.value_is; more_is = w.more_is }

none_behind : (p : ℕ → Bool) (xs ys : List ℕ) → NonePass p (xs ++ ys) → NonePass p ys
none_behind p [] ys h = h
none_behind p (x ∷ xs) ys h = none_behind p xs ys h.1

none_both : (p : ℕ → Bool) (xs ys : List ℕ) → NonePass p xs → NonePass p ys → NonePass p (xs ++ ys)
none_both p [] ys h k = k
none_both p (x ∷ xs) ys h k = (h.0, none_both p xs ys h.1 k)

-- no quote stands in what denotes a character
digits_none : (p : ℕ → Bool) (cs : List ℕ) → ((c : ℕ) → p c ≡ true → is_quote c ≡ false) → AllPass p cs → NonePass is_quote cs
digits_none p [] h all = tt
digits_none p (c ∷ cs) h all = (h c all.0, digits_none p cs h all.1)

entity_none : (body : List ℕ) (c : ℕ) → IsEntity entities body c → NonePass is_quote body
entity_none body c (inl e) = subst (λ xs. NonePass is_quote xs) (sym e.0) (refl, (refl, tt))
entity_none body c (inr (inl e)) = subst (λ xs. NonePass is_quote xs) (sym e.0) (refl, (refl, tt))
entity_none body c (inr (inr (inl e))) = subst (λ xs. NonePass is_quote xs) (sym e.0) (refl, (refl, (refl, tt)))
entity_none body c (inr (inr (inr (inl e)))) = subst (λ xs. NonePass is_quote xs) (sym e.0) (refl, (refl, (refl, (refl, tt))))
entity_none body c (inr (inr (inr (inr (inl e))))) = subst (λ xs. NonePass is_quote xs) (sym e.0) (refl, (refl, (refl, (refl, tt))))
entity_none body c (inr (inr (inr (inr (inr e))))) = absurd e

digit_none : (c : ℕ) → is_ascii_digit c ≡ true → is_quote c ≡ false
digit_none c h = grind (arith, nat_tests)

hexdigit_none : (c : ℕ) → is_ascii_hexdigit c ≡ true → is_quote c ≡ false
hexdigit_none c h = grind (arith, nat_tests)

body_none : (body : List ℕ) (c : ℕ) → Denotes body c → NonePass is_quote body
body_none body c (entity e) = entity_none body c e
body_none body c (decimal digits e s v h) =
    subst (λ xs. NonePass is_quote xs) (sym e) (refl, digits_none is_ascii_digit digits digit_none (some_all digit is_ascii_digit digit-of_one digits s).1)
body_none body c (hexadecimal digits e s v h) =
    subst (λ xs. NonePass is_quote xs) (sym e) (refl, (refl, digits_none is_ascii_hexdigit digits hexdigit_none (some_all hexdigit is_ascii_hexdigit hexdigit-of_one digits s).1))

other_than_quote : (q : ℕ) (xs : List ℕ) → is_quote q ≡ true → NonePass is_quote xs → NonePass (λ b. b == q) xs
other_than_quote q [] h k = tt
other_than_quote q (x ∷ xs) h k = (by_test (x == q) refl, other_than_quote q xs h k.1)
  where
    by_test : (t : Bool) → (x == q) ≡ t → t ≡ false
    by_test true e = absurd (let bad : true ≡ false = sym h ∙ ap is_quote (sym (eqb-true x q e)) ∙ k.0 in cc)
    by_test false e = refl

reference_none : (q : ℕ) (body : List ℕ) (c : ℕ) → is_quote q ≡ true → Denotes body c → NonePass (λ b. b == q) (38 ∷ (body ++ 59 ∷ []))
reference_none q body c h d = other_than_quote q (38 ∷ (body ++ 59 ∷ [])) h (refl, none_both is_quote body (59 ∷ []) (body_none body c d) (refl, tt))

char_none : (q c : ℕ) → q < 128 → (c == q) ≡ false → NonePass (λ b. b == q) (encode c)
char_none q c small h = subst (λ xs. NonePass (λ b. b == q) xs) (append-nil (encode c)) (bytes_none (λ b. b == q) (c ∷ []) (λ b e. let same = eqb-true b q e in omega arith) (h, tt))

-- a text that is clean is so up to a quote and behind it
module _ (q : ℕ) (h : is_quote q ≡ true) where
  at_quote : (c : ℕ) (more value rest : List ℕ) → c ≡ q → IsClean more → NonePass (λ b. b == q) value → encode c ++ more ≡ value ++ q ∷ rest → IsClean value × IsClean rest
  at_quote c more [] rest e k n g =
      let both : q ∷ more ≡ q ∷ rest = ap (λ ys. ys ++ more) (sym (encode_ascii q (quote_small q h))) ∙ ap (λ d. encode d ++ more) (sym e) ∙ g in
      let same : more ≡ rest = cc in
      (empty [] refl, subst (λ ys. IsClean ys) same k)
  at_quote c more (b ∷ value) rest e k n g =
      let both : q ∷ more ≡ b ∷ (value ++ q ∷ rest) = ap (λ ys. ys ++ more) (sym (encode_ascii q (quote_small q h))) ∙ ap (λ d. encode d ++ more) (sym e) ∙ g in
      let same : b ≡ q = cc in
      let bad : true ≡ false = sym (eq-eqb b q same) ∙ n.0 in absurd (cc)

  pub value_apart : (xs : List ℕ) → IsClean xs → (value rest : List ℕ) → NonePass (λ b. b == q) value → xs ≡ value ++ q ∷ rest → IsClean value × IsClean rest
  value_apart xs (empty _ e) value rest n g = absurd (let size = ap length (sym e ∙ g) in let more = length-append value (q ∷ rest) in omega arith)
  value_apart xs (one_char _ c more f k e) value rest n g =
      elim (cases_Bool (c == q)) [
        | inl t ↦ at_quote c more value rest (eqb-true c q t) k n (sym e ∙ g)
        | inr t ↦ (let w = within q (encode c) more value rest (char_none q c (quote_small q h) t) (sym e ∙ g) in
            let left : NonePass (λ b. b == q) w.left = none_behind (λ b. b == q) (encode c) w.left (subst (λ ys. NonePass (λ b. b == q) ys) w.value_is n) in
            let both = value_apart more k w.left rest left w.more_is in
            (one_char value c w.left f both.0 w.value_is, both.1))
      ]
  value_apart xs (one_reference _ body c more d k e) value rest n g =
      let front = 38 ∷ (body ++ 59 ∷ []) in
      let w = within q front more value rest (reference_none q body c h d) (sym e ∙ g) in
      let left : NonePass (λ b. b == q) w.left = none_behind (λ b. b == q) front w.left (subst (λ ys. NonePass (λ b. b == q) ys) w.value_is n) in
      let both = value_apart more k w.left rest left w.more_is in
      (one_reference value body c w.left d both.0 w.value_is, both.1)
