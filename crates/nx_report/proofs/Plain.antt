-- What prints as it is, at the front of a text.
use Rattle.std.proofs.Common.{◌≡◌, ℕ, ◌+◌, suc, List, [], ◌∷◌, ◌++◌, take, drop, not, refl, sym, ap, subst, ◌∙◌, arith, inl, inr}
use Rattle.std.specs.Prelude.{if◌then◌else◌, cond}
use Rattle.std.specs.List.{position_or_len}
use Rattle.std.proofs.lemmas.Bool.{cases_Bool}
use Rattle.std.proofs.lemmas.List.{append_assoc}
use Rattle.nx_report.specs.Printed.{is_control, escape, printed, printed_text}

abbrev plain : List ℕ → ℕ
plain text = position_or_len is_control text

plain_first : (text : List ℕ) → printed_text text ≡ take (plain text) text ++ printed_text (drop (plain text) text)
plain_first [] = refl
plain_first (c ∷ text) = elim (cases_Bool (is_control c)) [
  | inl e ↦
      let none : plain (c ∷ text) ≡ 0 = ap (λ b. cond (not b) (1 + plain text) 0) e in
      subst (λ k. printed_text (c ∷ text) ≡ take k (c ∷ text) ++ printed_text (drop k (c ∷ text))) (sym none) refl
  | inr e ↦
      let one : 1 + plain text ≡ suc (plain text) = omega arith in
      let more : plain (c ∷ text) ≡ suc (plain text) = ap (λ b. cond (not b) (1 + plain text) 0) e ∙ one in
      let itself : printed c ≡ c ∷ [] = ap (λ b. if b then escape c else c ∷ []) e in
      subst (λ k. printed_text (c ∷ text) ≡ take k (c ∷ text) ++ printed_text (drop k (c ∷ text))) (sym more)
      (ap (λ p. p ++ printed_text text) itself ∙ ap (λ t. c ∷ t) (plain_first text))
]

pub pushed_plain : (old text : List ℕ) → (old ++ take (position_or_len is_control text) text) ++ printed_text (drop (position_or_len is_control text) text) ≡ old ++ printed_text text
pushed_plain old text =
    append_assoc old (take (plain text) text) (printed_text (drop (plain text) text)) ∙ ap (λ t. old ++ t) (sym (plain_first text))

pub pushed_byte : (old rest : List ℕ) (byte : ℕ) → (old ++ printed byte) ++ printed_text rest ≡ old ++ printed_text (byte ∷ rest)
pushed_byte old rest byte = append_assoc old (printed byte) (printed_text rest)
