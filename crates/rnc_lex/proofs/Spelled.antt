-- Characters that stand for a letter are read as that letter, and what is read stands there.
use Rattle.std.proofs.Common.{◌≡◌, ◌≢◌, ℕ, zero, suc, ◌+◌, ◌<◌, ◌≤◌, Bool, true, false, cond, eqb, nat_lt, ◌&&◌, List, [], ◌∷◌, ◌++◌, length, get_or, take, drop, Option, Some, None, refl, sym, ap, subst, ◌∙◌, arith, inl, inr, lit<, IsTrue, drop-cons, add-one}
use Rattle.std.proofs.Math.ListN.{replicate}
use Rattle.std.specs.Char.{is_ascii_hexdigit, digit_value}
use Rattle.std.specs.Str.Parse.{digits_value, AllDigits, IsNumeral}
use Rattle.std.specs.List.{prefix_len}
use Rattle.std.proofs.lemmas.Bool.{cases_lt, cases_Bool, eqb-true, eqb-false, ne_eqb, and_parts}
use Rattle.std.proofs.lemmas.Bool.Decides.{nat_tests}
use Rattle.std.proofs.lemmas.List.{append_assoc, length-append, take_at, drop_at, get_or_at, get_or_past, length-replicate, take-append-drop}
use Rattle.std.proofs.lemmas.List.Folds.{length-prefix_len}
use Rattle.nx_base.specs.Characters.{is_char}
use Rattle.rnc_lex.specs.declared.escape.First.{First}
use Rattle.rnc_lex.specs.declared.escape.First.TheVariants as first
use Rattle.rnc_lex.specs.Letters.{BeginsEscape, IsEscape, StandsFor, itself, line_end, escape}
use Rattle.nx_base.specs.CharacterCodes.{char_of_code}
use Rattle.rnc_lex.specs.Reading.{is_x, of_char, escaped, behind_backslash, first_letter}
use Rattle.rnc_lex.proofs.Escapes.{chosen}
use Rattle.rnc_lex.proofs.Prefixes.{Pass, prefix_len_is, front_passes, both, take_front}

-- ---- `x`s and digits

xs_pass : (n : ℕ) → Pass is_x (replicate n 120)
xs_pass zero = tt
xs_pass (suc n) = (refl, xs_pass n)

pass_xs : (cs : List ℕ) → Pass is_x cs → cs ≡ replicate (length cs) 120
pass_xs [] h = refl
pass_xs (c ∷ cs) (h, more) = ap (λ x. x ∷ cs) (eqb-true c 120 h) ∙ ap (λ (t : List ℕ). 120 ∷ t) (pass_xs cs more)

digit_hex : (c : ℕ) → digit_value c < 16 → is_ascii_hexdigit c ≡ true
digit_hex c h = grind (arith, nat_tests)

hex_digit : (c : ℕ) → is_ascii_hexdigit c ≡ true → digit_value c < 16
hex_digit c h = grind (arith, nat_tests)

digits_pass : (digits : List ℕ) → AllDigits 16 digits → Pass is_ascii_hexdigit digits
digits_pass [] h = tt
digits_pass (c ∷ digits) (h, more) = (digit_hex c h, digits_pass digits more)

pass_digits : (digits : List ℕ) → Pass is_ascii_hexdigit digits → AllDigits 16 digits
pass_digits [] h = tt
pass_digits (c ∷ digits) (h, more) = (hex_digit c h, pass_digits digits more)

-- ---- an escape is read

at_end : (front rest : List ℕ) (c : ℕ) → get_or (front ++ c ∷ rest) (length front) 0 ≡ c
at_end front rest c = get_or_at front c rest 0 (length front) refl

nonzero : (n : ℕ) → 0 < n → nat_lt 0 n ≡ true
nonzero n h = grind (arith, nat_tests)

escaped_is : (before : ℕ) (digits rest : List ℕ) → IsNumeral 16 digits → escaped before (digits ++ 125 ∷ rest) ≡ of_char (before + length digits + 1) (char_of_code (digits_value 16 digits))
unfolding escaped
escaped_is before digits rest (some, all) =
    rw (prefix_len_is is_ascii_hexdigit digits (125 ∷ rest) (digits_pass digits all) refl, at_end digits rest 125, nonzero (length digits) some, take_at digits (125 ∷ rest) (length digits) refl) refl

-- behind one `x` or more, and `{`
drop_past : (front rest : List ℕ) (c : ℕ) → drop (length front + 1) (front ++ c ∷ rest) ≡ rest
drop_past front rest c =
    let long = length-append front (c ∷ []) in
    ap (drop (length front + 1)) (sym (append_assoc front (c ∷ []) rest)) ∙ drop_at (front ++ c ∷ []) rest (length front + 1) (omega arith)

backslash_is : (xs inside : List ℕ) → 0 < length xs → Pass is_x xs → behind_backslash (xs ++ 123 ∷ inside) ≡ escaped (length xs + 1) inside
unfolding behind_backslash
backslash_is xs inside some all =
    rw (prefix_len_is is_x xs (123 ∷ inside) all refl, at_end xs inside 123, nonzero (length xs) some, drop_past xs inside 123) refl

shaped : (xs digits rest : List ℕ) → (xs ++ 123 ∷ []) ++ digits ++ 125 ∷ [] ++ rest ≡ xs ++ 123 ∷ (digits ++ 125 ∷ rest)
shaped xs digits rest = append_assoc ((xs ++ 123 ∷ []) ++ digits) (125 ∷ []) rest ∙ append_assoc (xs ++ 123 ∷ []) digits (125 ∷ rest) ∙ append_assoc xs (123 ∷ []) (digits ++ 125 ∷ rest)

shape_len : (xs digits : List ℕ) → length ((xs ++ 123 ∷ []) ++ digits ++ 125 ∷ []) ≡ length xs + 1 + length digits + 1
shape_len xs digits =
    let a = length-append ((xs ++ 123 ∷ []) ++ digits) (125 ∷ []) in
    let b = length-append (xs ++ 123 ∷ []) digits in
    let d = length-append xs (123 ∷ []) in
    omega (arith, a, b, d)

char_is : (c : ℕ) → is_char c ≡ true → char_of_code c ≡ Some c
unfolding char_of_code
char_is c h = rw h refl

behind_slash : (cs : List ℕ) → first_letter 92 cs ≡ behind_backslash cs
unfolding first_letter
behind_slash cs = refl

escape_shaped : (xs digits rest : List ℕ) (c : ℕ) → 0 < length xs → Pass is_x xs → IsNumeral 16 digits → c ≡ digits_value 16 digits → is_char c ≡ true
    → first_letter 92 ((xs ++ 123 ∷ []) ++ digits ++ 125 ∷ [] ++ rest) ≡ first.Letter c false (length ((xs ++ 123 ∷ []) ++ digits ++ 125 ∷ []))
escape_shaped xs digits rest c some all numeral is char =
    behind_slash _ ∙ ap behind_backslash (shaped xs digits rest) ∙ backslash_is xs (digits ++ 125 ∷ rest) some all
    ∙ escaped_is (length xs + 1) digits rest numeral
    ∙ ap (of_char (length xs + 1 + length digits + 1)) (ap char_of_code (sym is) ∙ char_is c char)
    ∙ ap (λ n. first.Letter c false n) (sym (shape_len xs digits))

-- what is read stands for the letter
pub record IsRead (spelled rest : List ℕ) (c : ℕ) (written : Bool) : Type 0 where
  pub s : ℕ
  pub more : List ℕ
  pub spelled_is : spelled ≡ s ∷ more
  pub reads : first_letter s (more ++ rest) ≡ first.Letter c written (length more)

truth : (b : Bool) → IsTrue b → b ≡ true
truth b h = h

escape_read : (spelled rest : List ℕ) (c : ℕ) → IsEscape spelled c → IsRead spelled rest c false
escape_read spelled rest c (more, digits, e, numeral, is, char) =
    let xs : List ℕ = 120 ∷ replicate more 120 in
    record { s = 92; more = (xs ++ 123 ∷ []) ++ digits ++ 125 ∷ []; spelled_is = e; reads = escape_shaped xs digits rest c (omega arith) (refl, xs_pass more) numeral is char }

-- ---- where an escape begins

abbrev opened : List ℕ → Bool
opened cs = nat_lt 0 (prefix_len is_x cs) && eqb (get_or cs (prefix_len is_x cs) 0) 123

begun_opened : (cs : List ℕ) → BeginsEscape (92 ∷ cs) → opened cs ≡ true
begun_opened cs (more, rest, e) =
    let xs : List ℕ = 120 ∷ replicate more 120 in
    let shape : cs ≡ xs ++ 123 ∷ rest = ap (drop 1) e ∙ append_assoc xs (123 ∷ []) rest in
    rw (shape, prefix_len_is is_x xs (123 ∷ rest) (refl, xs_pass more) refl, at_end xs rest 123) (both _ true (nonzero (length xs) (omega arith)) refl)

-- a list is what stands before a place, what stands there, and what follows
pub cut_at : (cs : List ℕ) (n a : ℕ) → 0 < a → eqb (get_or cs n 0) a ≡ true → (n < length cs) × (cs ≡ take n cs ++ a ∷ drop (n + 1) cs)
cut_at cs n a some h =
    let is = eqb-true (get_or cs n 0) a h in
    let lt : n < length cs = elim (cases_lt n (length cs)) [
      | inl less ↦ less
      | inr ge ↦ let past = get_or_past cs n 0 ge in absurd (omega (arith, past, is))
    ] in
    let behind : drop n cs ≡ a ∷ drop (n + 1) cs = rw (add-one n) (drop-cons cs n 0 lt ∙ ap (λ x. x ∷ drop (suc n) cs) is) in
    (lt, sym (take-append-drop n cs) ∙ ap (λ (t : List ℕ). take n cs ++ t) behind)

record OpenedAt (cs : List ℕ) : Type 0 where
  more : ℕ
  counted : prefix_len is_x cs ≡ suc more
  cs_are : cs ≡ (120 ∷ replicate more 120) ++ 123 ∷ drop (prefix_len is_x cs + 1) cs

front_len : (cs : List ℕ) → length (take (prefix_len is_x cs) cs) ≡ prefix_len is_x cs
front_len cs = length-prefix_len is_x cs

opened_at_count : (cs : List ℕ) (n : ℕ) → prefix_len is_x cs ≡ n → opened cs ≡ true → OpenedAt cs
opened_at_count cs zero e h =
    let some = (and_parts (nat_lt 0 (prefix_len is_x cs)) (eqb (get_or cs (prefix_len is_x cs) 0) 123) h).0 in
    let none : nat_lt 0 (prefix_len is_x cs) ≡ false = rw e refl in
    absurd cc
opened_at_count cs (suc more) e h =
    let n = prefix_len is_x cs in
    let stands = (and_parts (nat_lt 0 n) (eqb (get_or cs n 0) 123) h).1 in
    let front : take n cs ≡ 120 ∷ replicate more 120 = pass_xs (take n cs) (front_passes is_x cs) ∙ ap (λ m. replicate m 120) (front_len cs ∙ e) in
    record { more = more; counted = e; cs_are = (cut_at cs n 123 (lit< tt) stands).1 ∙ ap (λ (t : List ℕ). t ++ 123 ∷ drop (n + 1) cs) front }

opened_at : (cs : List ℕ) → opened cs ≡ true → OpenedAt cs
opened_at cs h = opened_at_count cs (prefix_len is_x cs) refl h

opened_begins : (cs : List ℕ) → opened cs ≡ true → BeginsEscape (92 ∷ cs)
opened_begins cs h =
    let at = opened_at cs h in
    let rest = drop (prefix_len is_x cs + 1) cs in
    (at.more, rest, ap (λ (t : List ℕ). 92 ∷ t) (at.cs_are ∙ sym (append_assoc (120 ∷ replicate at.more 120) (123 ∷ []) rest)))

-- ---- what is read stands there

-- what reading says of a character and those behind it
abbrev pub Means : ℕ → List ℕ → First → Type 0
Means c cs (first.Letter d w more) = (more ≤ length cs) × StandsFor (c ∷ take more cs) (drop more cs) d w
Means c cs first.BrokenEscape = BeginsEscape (c ∷ cs) × ((spelled more : List ℕ) (d : ℕ) → c ∷ cs ≡ spelled ++ more → IsEscape spelled d → ⊥)
Means c cs first.NoChar = is_char c ≡ false

no_escape : (cs : List ℕ) → first_letter 92 cs ≡ first.BrokenEscape → (spelled more : List ℕ) (d : ℕ) → 92 ∷ cs ≡ spelled ++ more → IsEscape spelled d → ⊥
no_escape cs broken spelled more d e h =
    let r = escape_read spelled more d h in
    let whole : 92 ∷ cs ≡ r.s ∷ (r.more ++ more) = e ∙ ap (λ (t : List ℕ). t ++ more) r.spelled_is in
    let s_is : 92 ≡ r.s = cc in
    let cs_are : cs ≡ r.more ++ more = ap (drop 1) whole in
    let read : first_letter 92 cs ≡ first.Letter d false (length r.more) = rw (cs_are, s_is) r.reads in
    absurd cc

numeral_front : (inside : List ℕ) → nat_lt 0 (prefix_len is_ascii_hexdigit inside) ≡ true → IsNumeral 16 (take (prefix_len is_ascii_hexdigit inside) inside)
numeral_front inside some =
    let long = length-prefix_len is_ascii_hexdigit inside in
    let positive : 0 < prefix_len is_ascii_hexdigit inside = grind (arith, nat_tests) in
    (omega (arith, long, positive), pass_digits _ (front_passes is_ascii_hexdigit inside))

denoted_char : (number c : ℕ) → char_of_code number ≡ Some c → (c ≡ number) × (is_char c ≡ true)
unfolding char_of_code
denoted_char number c e =
    elim (chosen (is_char number) (Some number) None (Some c) e) [
      | inl (test, k) ↦ let is : c ≡ number = cc in (is, ap is_char is ∙ test)
      | inr (test, k) ↦ absurd cc
    ]

escape_stands : (cs : List ℕ) → opened cs ≡ true → (c : ℕ) → let n = prefix_len is_x cs in let inside = drop (n + 1) cs in let count = prefix_len is_ascii_hexdigit inside in
    nat_lt 0 count && eqb (get_or inside count 0) 125 ≡ true → char_of_code (digits_value 16 (take count inside)) ≡ Some c → Means 92 cs (first.Letter c false (n + 1 + count + 1))
escape_stands cs h c test found =
    let n = prefix_len is_x cs in
    let inside = drop (n + 1) cs in
    let count = prefix_len is_ascii_hexdigit inside in
    let digits = take count inside in
    let rest = drop (count + 1) inside in
    let at = opened_at cs h in
    let xs : List ℕ = 120 ∷ replicate at.more 120 in
    let parts = and_parts (nat_lt 0 count) (eqb (get_or inside count 0) 125) test in
    let whole : cs ≡ (xs ++ 123 ∷ []) ++ digits ++ 125 ∷ [] ++ rest =
    at.cs_are ∙ ap (λ (t : List ℕ). xs ++ 123 ∷ t) (cut_at inside count 125 (lit< tt) parts.1).1 ∙ sym (shaped xs digits rest) in
    let len = shape_len xs digits in
    let xs_len : length xs ≡ suc at.more = length-replicate (suc at.more) 120 in
    let digits_len = length-prefix_len is_ascii_hexdigit inside in
    let counted = at.counted in
    let front = take_front cs ((xs ++ 123 ∷ []) ++ digits ++ 125 ∷ []) rest (n + 1 + count + 1) whole (omega (arith, len, xs_len, digits_len, counted)) in
    let denotes = denoted_char (digits_value 16 digits) c found in
    (front.2, escape (at.more, digits, ap (λ (t : List ℕ). 92 ∷ t) front.0, numeral_front inside parts.0, denotes.0, denotes.1) refl)

denoted_means : (cs : List ℕ) → opened cs ≡ true → (more : ℕ) (found : Option ℕ) → ((c : ℕ) → found ≡ Some c → Means 92 cs (first.Letter c false more)) → (r : First) → first_letter 92 cs ≡ r → of_char more found ≡ r → Means 92 cs r
denoted_means cs h more (Some c) stands r read e = subst (Means 92 cs) e (stands c refl)
denoted_means cs h more None stands r read e = subst (Means 92 cs) e (opened_begins cs h, no_escape cs (read ∙ sym e))

backslash_means : (cs : List ℕ) (r : First) → first_letter 92 cs ≡ r → behind_backslash cs ≡ r → Means 92 cs r
unfolding behind_backslash escaped is_char
backslash_means cs r read e =
    let n = prefix_len is_x cs in
    let inside = drop (n + 1) cs in
    let count = prefix_len is_ascii_hexdigit inside in
    elim (chosen (opened cs) (escaped (n + 1) inside) (first.Letter 92 true 0) r e) [
      | inl (test, k) ↦
          elim (chosen (nat_lt 0 count && eqb (get_or inside count 0) 125) (of_char (n + 1 + count + 1) (char_of_code (digits_value 16 (take count inside)))) first.BrokenEscape r k) [
            | inl (closed, l) ↦ denoted_means cs test (n + 1 + count + 1) (char_of_code (digits_value 16 (take count inside))) (λ c found. escape_stands cs test c closed found) r read l
            | inr (open_, l) ↦ subst (Means 92 cs) l (opened_begins cs test, no_escape cs (read ∙ sym l))
          ]
      | inr (test, k) ↦
          subst (Means 92 cs) k (omega arith, itself refl refl (λ h. absurd (omega arith)) (λ h. let b = begun_opened cs h in absurd cc) refl)
    ]

line_means : (cs : List ℕ) (test : Bool) → eqb (get_or cs 0 0) 10 ≡ test → Means 13 cs (first.Letter 10 true (cond test 1 0))
line_means [] true e = let is = eqb-true 0 10 e in absurd (omega arith)
line_means (c ∷ cs) true e = (omega arith, line_end (inl (ap (λ x. 13 ∷ x ∷ []) (eqb-true c 10 e))) refl refl)
line_means cs false e = (omega arith, line_end (inr (refl, λ more h. let is : eqb (get_or cs 0 0) 10 ≡ true = rw h refl in absurd cc)) refl refl)

pub first_means : (c : ℕ) (cs : List ℕ) (r : First) → first_letter c cs ≡ r → Means c cs r
unfolding first_letter
first_means c cs r e =
    elim (chosen (eqb c 13) (first.Letter 10 true (cond (eqb (get_or cs 0 0) 10) 1 0)) (cond (eqb c 92) (behind_backslash cs) (cond (is_char c) (first.Letter c true 0) first.NoChar)) r e) [
      | inl (test, k) ↦ subst (λ x. Means x cs r) (sym (eqb-true c 13 test)) (subst (Means 13 cs) k (line_means cs (eqb (get_or cs 0 0) 10) refl))
      | inr (line, k) ↦
          elim (chosen (eqb c 92) (behind_backslash cs) (cond (is_char c) (first.Letter c true 0) first.NoChar) r k) [
            | inl (slash, l) ↦ subst (λ x. Means x cs r) (sym (eqb-true c 92 slash)) (backslash_means cs r (behind_slash cs ∙ l) l)
            | inr (slash, l) ↦
                elim (chosen (is_char c) (first.Letter c true 0) first.NoChar r l) [
                  | inl (char, m) ↦
                      subst (Means c cs) m (omega arith, itself refl char (eqb-false c 13 line) (λ (x, y, h). let is : c ≡ 92 = cc in let other = eqb-false c 92 slash in absurd cc) refl)
                  | inr (char, m) ↦ subst (Means c cs) m char
                ]
          ]
    ]

-- ---- what stands there is read

line_end_read : (rest : List ℕ) → ((more : List ℕ) → rest ≢ 10 ∷ more) → first_letter 13 rest ≡ first.Letter 10 true 0
unfolding first_letter
line_end_read [] h = refl
line_end_read (c ∷ rest) h = rw (ne_eqb c 10 (λ e. h rest (ap (λ x. x ∷ rest) e))) refl

itself_read : (c : ℕ) (rest : List ℕ) → is_char c ≡ true → c ≢ 13 → (BeginsEscape (c ∷ rest) → ⊥) → (slash : Bool) → eqb c 92 ≡ slash → first_letter c rest ≡ first.Letter c true 0
unfolding first_letter behind_backslash
itself_read c rest char other none true slash =
    let is = eqb-true c 92 slash in
    let closed : opened rest ≡ false = elim (cases_Bool (opened rest)) [
      | inl begun ↦ absurd (none (subst (λ x. BeginsEscape (x ∷ rest)) (sym is) (opened_begins rest begun)))
      | inr ended ↦ ended
    ] in
    rw (ne_eqb c 13 other, slash, closed) (ap (λ x. first.Letter x true 0) (sym is))
itself_read c rest char other none false slash = rw (ne_eqb c 13 other, slash, char) refl

pub stands_read : (spelled rest : List ℕ) (c : ℕ) (w : Bool) → StandsFor spelled rest c w → IsRead spelled rest c w
unfolding first_letter
stands_read spelled rest c w (itself e char other none written) =
    record { s = c; more = []; spelled_is = e; reads = itself_read c rest char other none (eqb c 92) refl ∙ ap (λ v. first.Letter c v 0) (sym written) }
stands_read spelled rest c w (line_end (inl e) is written) =
    record { s = 13; more = 10 ∷ []; spelled_is = e; reads = rw (is, written) refl }
stands_read spelled rest c w (line_end (inr (e, none)) is written) =
    record { s = 13; more = []; spelled_is = e; reads = line_end_read rest none ∙ rw (is, written) refl }
stands_read spelled rest c w (escape h written) = subst (IsRead spelled rest c) (sym written) (escape_read spelled rest c h)
