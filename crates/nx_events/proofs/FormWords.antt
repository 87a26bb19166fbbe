-- What forms of words, digits and single characters spell.
use Rattle.std.proofs.Common.{◌≡◌, ℕ, zero, suc, ◌+◌, ◌<◌, ◌≤◌, Bool, true, false, inl, inr, ◌⊎◌, rules, List, [], ◌∷◌, ◌++◌, refl, ap, sym, subst, ◌∙◌, arith, codes}
use Rattle.std.specs.Prelude.{◌&&◌, ◌||◌, ◌==◌, nat_lt}
use Rattle.std.specs.List.{AllByRecursion, list_any}
use Rattle.std.specs.Str.{IsAscii, str_eq_ignore_ascii_case}
use Rattle.std.specs.Char.{is_ascii_digit, is_ascii_hexdigit, to_ascii_lowercase, to_ascii_uppercase}
use Rattle.std.proofs.lemmas.Bool.{and_parts, and_from, or_left, or_right, or_cases, eqb-true, ltb-true, eq-eqb, cases_eq}
use Rattle.std.proofs.lemmas.Bool.Decides.{nat_tests}
use Rattle.nx_base.specs.Characters.{is_space}
use Rattle.nx_base.specs.Form.{Set, space, name_start, name_char, only, other_than, has, Form, never, nothing, one, seq, alt, many, joined, Spells}
use Rattle.nx_events.specs.Words.{word, one_of, in_any_case, digit, hexdigit}

-- each of the characters passes
abbrev pub AllPass : (ℕ → Bool) → List ℕ → Type 0
AllPass p cs = AllByRecursion (λ (c : ℕ). p c ≡ true) cs

pub all_pass-append : (p : ℕ → Bool) (cs ds : List ℕ) → AllPass p cs → AllPass p ds → AllPass p (cs ++ ds)
all_pass-append p [] ds h k = k
all_pass-append p (c ∷ cs) ds h k = (h.0, all_pass-append p cs ds h.1 k)

-- a form of single characters: those that pass
pub record OfOne (form : Form) (p : ℕ → Bool) : Type 0 where
  pub to : (cs : List ℕ) → Spells form cs → (c : ℕ) × (p c ≡ true) × (cs ≡ c ∷ [])
  pub from : (c : ℕ) → p c ≡ true → Spells form (c ∷ [])

pub one-of_one : (set : Set) → OfOne (one set) (has set)
unfolding Spells
one-of_one set = record { to = λ cs s. s; from = λ c h. (c, h, refl) }

pub many-to : (form : Form) (p : ℕ → Bool) → OfOne form p → (cs : List ℕ) → Spells (many form) cs → AllPass p cs
unfolding Spells
many-to form p h cs s = subst (λ xs. AllPass p xs) (sym s.2) (parts_pass s.0 s.1)
  where
    parts_pass : (parts : List (List ℕ)) → AllByRecursion (Spells form) parts → AllPass p (joined parts)
    parts_pass [] all = tt
    parts_pass (part ∷ parts) all =
        let t = h.to part all.0 in
        subst (λ xs. AllPass p (xs ++ joined parts)) (sym t.2) (t.1, parts_pass parts all.1)

pub many-from : (form : Form) (p : ℕ → Bool) → OfOne form p → (cs : List ℕ) → AllPass p cs → Spells (many form) cs
unfolding Spells
many-from form p h [] all = ([], tt, refl)
many-from form p h (c ∷ cs) all =
    let t : (parts : List (List ℕ)) × AllByRecursion (Spells form) parts × (cs ≡ joined parts) = many-from form p h cs all.1 in
    ((c ∷ []) ∷ t.0, (h.from c all.0, t.1), ap (λ xs. c ∷ xs) t.2)

-- a word spells itself
pub word-to : (w cs : List ℕ) → Spells (word w) cs → cs ≡ w
unfolding Spells word
word-to [] cs s = s
word-to (d ∷ w) cs s =
    s.4 ∙ ap (λ xs. xs ++ s.1) s.2.2 ∙ ap (λ x. x ∷ s.1) (eqb-true s.2.0 d s.2.1) ∙ ap (λ xs. d ∷ xs) (word-to w s.1 s.3)

pub word-from : (w : List ℕ) → Spells (word w) w
unfolding Spells word
word-from [] = refl
word-from (d ∷ w) = (d ∷ [], w, (d, eq-eqb d d refl, refl), word-from w, refl)

-- one of a list
pub one_of-to : (p : ℕ → Bool) (set cs : List ℕ) → AllPass p set → Spells (one_of set) cs → (c : ℕ) × (p c ≡ true) × (cs ≡ c ∷ [])
unfolding Spells one_of
one_of-to p [] cs h s = absurd s
one_of-to p (d ∷ set) cs h s =
    elim s [ inl t ↦ (t.0, ap p (eqb-true t.0 d t.1) ∙ h.0, t.2) | inr t ↦ one_of-to p set cs h.1 t ]

abbrev among : List ℕ → ℕ → Bool
among set c = list_any (λ d. c == d) set

one_of-from : (set : List ℕ) (c : ℕ) → among set c ≡ true → Spells (one_of set) (c ∷ [])
unfolding Spells one_of
one_of-from [] c h = absurd (let bad : false ≡ true = h in cc)
one_of-from (d ∷ set) c h =
    elim (or_cases (c == d) (among set c) h) [ inl e ↦ inl (c, e, refl) | inr e ↦ inr (one_of-from set c e) ]

-- characters in a row
upto : ℕ → ℕ → List ℕ
upto zero low = []
upto (suc n) low = low ∷ upto n (suc low)

among_range : (n low c : ℕ) → low ≤ c → c < low + n → among (upto n low) c ≡ true
unfolding upto
among_range zero low c h k = absurd (omega arith)
among_range (suc n) low c h k =
    elim (cases_eq c low) [
      | inl e ↦ or_left (c == low) (among (upto n (suc low)) c) (eq-eqb c low e)
      | inr e ↦ or_right (c == low) (among (upto n (suc low)) c) (among_range n (suc low) c (omega arith) (omega arith))
    ]

among_append : (xs ys : List ℕ) (c : ℕ) → (among xs c || among ys c) ≡ true → among (xs ++ ys) c ≡ true
among_append [] ys c h = h
among_append (x ∷ xs) ys c h =
    elim (or_cases (among (x ∷ xs) c) (among ys c) h) [
      | inl e ↦ elim (or_cases (c == x) (among xs c) e) [
        | inl f ↦ or_left (c == x) (among (xs ++ ys) c) f
        | inr f ↦ or_right (c == x) (among (xs ++ ys) c) (among_append xs ys c (or_left (among xs c) (among ys c) f))
      ]
      | inr e ↦ or_right (c == x) (among (xs ++ ys) c) (among_append xs ys c (or_right (among xs c) (among ys c) e))
    ]

digit_bounds : (c : ℕ) → is_ascii_digit c ≡ true → (48 ≤ c) × (c < 58)
digit_bounds c h = (grind (arith, nat_tests), grind (arith, nat_tests))

pub digit-of_one : OfOne digit is_ascii_digit
unfolding upto
digit-of_one = record {
  to = λ cs s. one_of-to is_ascii_digit (codes "0123456789") cs (search rules) s;
  from = λ c h. (let t = digit_bounds c h in one_of-from (codes "0123456789") c (among_range 10 48 c t.0 (omega (arith, t.1))));
}

hexdigit_bounds : (c : ℕ) → is_ascii_hexdigit c ≡ true → ((48 ≤ c) × (c < 58)) ⊎ (((97 ≤ c) × (c < 103)) ⊎ ((65 ≤ c) × (c < 71)))
hexdigit_bounds c h = grind (arith, nat_tests)

pub hexdigit-of_one : OfOne hexdigit is_ascii_hexdigit
unfolding upto
hexdigit-of_one = record {
  to = λ cs s. one_of-to is_ascii_hexdigit (codes "0123456789abcdefABCDEF") cs (search rules) s;
  from = λ c h. one_of-from (codes "0123456789abcdefABCDEF") c (by_bounds c (hexdigit_bounds c h));
}
  where
    by_bounds : (c : ℕ) → ((48 ≤ c) × (c < 58)) ⊎ (((97 ≤ c) × (c < 103)) ⊎ ((65 ≤ c) × (c < 71))) → among (codes "0123456789abcdefABCDEF") c ≡ true
    by_bounds c (inl t) = among_append (upto 10 48) (upto 6 97 ++ upto 6 65) c (or_left _ _ (among_range 10 48 c t.0 (omega (arith, t.1))))
    by_bounds c (inr (inl t)) = among_append (upto 10 48) (upto 6 97 ++ upto 6 65) c (or_right _ _ (among_append (upto 6 97) (upto 6 65) c (or_left _ _ (among_range 6 97 c t.0 (omega (arith, t.1))))))
    by_bounds c (inr (inr t)) = among_append (upto 10 48) (upto 6 97 ++ upto 6 65) c (or_right _ _ (among_append (upto 6 97) (upto 6 65) c (or_right _ _ (among_range 6 65 c t.0 (omega (arith, t.1))))))

-- a letter in either case
case_to : (c d : ℕ) → (to_ascii_lowercase c == to_ascii_lowercase d) ≡ true → (c ≡ to_ascii_lowercase d) ⊎ (c ≡ to_ascii_uppercase d)
case_to c d h = grind (arith, nat_tests)

lower_lower : (d : ℕ) → (to_ascii_lowercase (to_ascii_lowercase d) == to_ascii_lowercase d) ≡ true
lower_lower d = grind (arith, nat_tests)

lower_upper : (d : ℕ) → (to_ascii_lowercase (to_ascii_uppercase d) == to_ascii_lowercase d) ≡ true
lower_upper d = grind (arith, nat_tests)

pub any_case-from : (w cs : List ℕ) → str_eq_ignore_ascii_case cs w ≡ true → Spells (in_any_case w) cs
unfolding Spells in_any_case one_of
any_case-from [] [] h = refl
any_case-from [] (c ∷ cs) h = absurd (let bad : false ≡ true = h in cc)
any_case-from (d ∷ w) [] h = absurd (let bad : false ≡ true = h in cc)
any_case-from (d ∷ w) (c ∷ cs) h =
    let parts = and_parts (to_ascii_lowercase c == to_ascii_lowercase d) (str_eq_ignore_ascii_case cs w) h in
    (c ∷ [], cs, elim (case_to c d parts.0) [ inl e ↦ inl (c, eq-eqb c (to_ascii_lowercase d) e, refl) | inr e ↦ inr (inl (c, eq-eqb c (to_ascii_uppercase d) e, refl)) ], any_case-from w cs parts.1, refl)

pub any_case-to : (w cs : List ℕ) → Spells (in_any_case w) cs → str_eq_ignore_ascii_case cs w ≡ true
unfolding Spells in_any_case one_of
any_case-to [] cs s = ap (λ xs. str_eq_ignore_ascii_case xs []) s
any_case-to (d ∷ w) cs s =
    let rest = any_case-to w s.1 s.3 in
    let P : List ℕ → Type 0 = λ xs. str_eq_ignore_ascii_case xs (d ∷ w) ≡ true in
    let one : (c : ℕ) × (s.0 ≡ c ∷ []) × ((to_ascii_lowercase c == to_ascii_lowercase d) ≡ true) =
    elim s.2 [
      | inl t ↦ (t.0, t.2, ap (λ x. to_ascii_lowercase x == to_ascii_lowercase d) (eqb-true t.0 (to_ascii_lowercase d) t.1) ∙ lower_lower d)
      | inr t ↦ elim t [
        | inl t ↦ (t.0, t.2, ap (λ x. to_ascii_lowercase x == to_ascii_lowercase d) (eqb-true t.0 (to_ascii_uppercase d) t.1) ∙ lower_upper d)
        | inr t ↦ absurd t
      ]
    ] in
    subst P (sym (s.4 ∙ ap (λ xs. xs ++ s.1) one.1)) (and_from (to_ascii_lowercase one.0 == to_ascii_lowercase d) (str_eq_ignore_ascii_case s.1 w) one.2 rest)

-- every character of what a form spells passes, where all of its own do
abbrev pub set_passes : (ℕ → Bool) → Set → Bool
set_passes p space = p 9 && (p 10 && (p 13 && p 32))
set_passes p (only c) = p c
set_passes p _ = false

unfoldable pub form_passes : (ℕ → Bool) → Form → Bool
form_passes p never = true
form_passes p nothing = true
form_passes p (one set) = set_passes p set
form_passes p (seq a b) = form_passes p a && form_passes p b
form_passes p (alt a b) = form_passes p a && form_passes p b
form_passes p (many a) = form_passes p a

space_is : (c : ℕ) → is_space c ≡ true → (c ≡ 9) ⊎ ((c ≡ 10) ⊎ ((c ≡ 13) ⊎ (c ≡ 32)))
unfolding is_space
space_is c h = grind (arith, nat_tests)

set_pass : (p : ℕ → Bool) (set : Set) (c : ℕ) → set_passes p set ≡ true → has set c ≡ true → p c ≡ true
set_pass p space c h k =
    let a = and_parts (p 9) (p 10 && (p 13 && p 32)) h in
    let b = and_parts (p 10) (p 13 && p 32) a.1 in
    let d = and_parts (p 13) (p 32) b.1 in
    elim (space_is c k) [
      | inl e ↦ ap p e ∙ a.0
      | inr e ↦ elim e [ inl e ↦ ap p e ∙ b.0 | inr e ↦ elim e [ inl e ↦ ap p e ∙ d.0 | inr e ↦ ap p e ∙ d.1 ] ]
    ]
set_pass p (only d) c h k = ap p (eqb-true c d k) ∙ h
set_pass p name_start c h k = absurd (let bad : false ≡ true = h in cc)
set_pass p name_char c h k = absurd (let bad : false ≡ true = h in cc)
set_pass p (other_than d e) c h k = absurd (let bad : false ≡ true = h in cc)

pub form_pass : (p : ℕ → Bool) (form : Form) (cs : List ℕ) → form_passes p form ≡ true → Spells form cs → AllPass p cs
unfolding Spells form_passes
form_pass p never cs h s = absurd s
form_pass p nothing cs h s = subst (λ xs. AllPass p xs) (sym s) tt
form_pass p (one set) cs h s = subst (λ xs. AllPass p xs) (sym s.2) (set_pass p set s.0 h s.1, tt)
form_pass p (seq a b) cs h s =
    let parts = and_parts (form_passes p a) (form_passes p b) h in
    subst (λ xs. AllPass p xs) (sym s.4) (all_pass-append p s.0 s.1 (form_pass p a s.0 parts.0 s.2) (form_pass p b s.1 parts.1 s.3))
form_pass p (alt a b) cs h s =
    let parts = and_parts (form_passes p a) (form_passes p b) h in
    elim s [ inl t ↦ form_pass p a cs parts.0 t | inr t ↦ form_pass p b cs parts.1 t ]
form_pass p (many a) cs h s = subst (λ xs. AllPass p xs) (sym s.2) (parts_pass (λ part t. form_pass p a part h t) s.0 s.1)
  where
    parts_pass : ((part : List ℕ) → Spells a part → AllPass p part) → (parts : List (List ℕ)) → AllByRecursion (Spells a) parts → AllPass p (joined parts)
    parts_pass each [] all = tt
    parts_pass each (part ∷ parts) all = all_pass-append p part (joined parts) (each part all.0) (parts_pass each parts all.1)

-- characters of ASCII
abbrev pub is_small : ℕ → Bool
is_small c = nat_lt c 128

pub small_ascii : (cs : List ℕ) → AllPass is_small cs → IsAscii cs
small_ascii [] h i = omega arith
small_ascii (c ∷ cs) h zero = ltb-true c 128 h.0
small_ascii (c ∷ cs) h (suc i) = small_ascii cs h.1 i
