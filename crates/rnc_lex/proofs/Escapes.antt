-- Reading an escape from bytes is reading it from characters, since it is ASCII.
use Rattle.std.proofs.Common.{◌≡◌, ℕ, ◌+◌, ◌<◌, Bool, true, false, cond, eqb, nat_lt, ◌&&◌, List, get_or, take, drop, Option, Some, None, refl, sym, ap, subst, ◌∙◌, arith, ◌⊎◌, inl, inr, lit<}
use Rattle.std.specs.Str.{IsUtf8, chars}
use Rattle.std.specs.Char.{is_ascii_hexdigit}
use Rattle.std.specs.Str.Parse.{digits_value}
use Rattle.std.specs.List.{prefix_len}
use Rattle.std.proofs.lemmas.Bool.{eqb-true, and_parts}
use Rattle.std.proofs.lemmas.Bool.Decides.{nat_tests}
use Rattle.nx_base.specs.Characters.{is_char}
use Rattle.rnc_lex.specs.declared.escape.First.TheVariants as first
use Rattle.nx_base.specs.CharacterCodes.{char_of_code}
use Rattle.rnc_lex.specs.Reading.{is_x, of_char, escaped, behind_backslash, first_letter}
use Rattle.rnc_lex.proofs.Ascii.{AsciiFront, ascii_none, ascii_at, ascii_then, at_same, head_same, front_same}

-- a choice, and which side it took
pub chosen : {A : Type 0} (test : Bool) (x y z : A) → cond test x y ≡ z → ((test ≡ true) × (x ≡ z)) ⊎ ((test ≡ false) × (y ≡ z))
chosen true x y z e = inl (refl, e)
chosen false x y z e = inr (refl, e)

-- two choices whose first sides are the same where they are taken
same_choice : {A : Type 0} (test : Bool) (x y z : A) → (test ≡ true → x ≡ y) → cond test x z ≡ cond test y z
same_choice true x y z h = h refl
same_choice false x y z h = refl

hex_low : (c : ℕ) → is_ascii_hexdigit c ≡ true → c < 128
hex_low c h = grind (arith, nat_tests)

x_low : (c : ℕ) → is_x c ≡ true → c < 128
x_low c h = let e = eqb-true c 120 h in omega arith

-- ---- behind the `{`

escaped_same : (before : ℕ) (inside : List ℕ) → IsUtf8 inside → escaped before (chars inside) ≡ escaped before inside
unfolding escaped
escaped_same before inside h =
    let digits = front_same is_ascii_hexdigit hex_low inside h in
    rw (digits.len, at_same 125 inside (prefix_len is_ascii_hexdigit inside) (lit< tt) digits.front, digits.same) refl

-- an escape that stands for a letter ends behind a `}`
denoted : (more before : ℕ) (found : Option ℕ) (d : ℕ) (w : Bool) → of_char before found ≡ first.Letter d w more → more ≡ before
denoted more before None d w e = absurd cc
denoted more before (Some c) d w e = cc

escaped_ends : (before : ℕ) (inside : List ℕ) (d : ℕ) (w : Bool) (more : ℕ) → IsUtf8 inside → escaped before inside ≡ first.Letter d w more → (n : ℕ) × (more ≡ before + n) × AsciiFront n inside
unfolding escaped
escaped_ends before inside d w more h e =
    let count = prefix_len is_ascii_hexdigit inside in
    let digits = front_same is_ascii_hexdigit hex_low inside h in
    elim (chosen (nat_lt 0 count && eqb (get_or inside count 0) 125) (of_char (before + count + 1) (char_of_code (digits_value 16 (take count inside)))) first.BrokenEscape (first.Letter d w more) e) [
      | inl (test, k) ↦
          let close = (and_parts (nat_lt 0 count) (eqb (get_or inside count 0) 125) test).1 in
          let is = denoted more (before + count + 1) (char_of_code (digits_value 16 (take count inside))) d w k in
          (count + 1, omega arith, ascii_at 125 inside count (lit< tt) (lit< tt) digits.front close)
      | inr (test, k) ↦ absurd cc
    ]

-- ---- behind the `\`

backslash_same : (behind : List ℕ) → IsUtf8 behind → behind_backslash (chars behind) ≡ behind_backslash behind
unfolding behind_backslash
backslash_same behind h =
    let xs = prefix_len is_x behind in
    let front = front_same is_x x_low behind h in
    let test = nat_lt 0 xs && eqb (get_or behind xs 0) 123 in
    let other = first.Letter 92 true 0 in
    rw (front.len, at_same 123 behind xs (lit< tt) front.front)
    (same_choice test (escaped (xs + 1) (drop (xs + 1) (chars behind))) (escaped (xs + 1) (drop (xs + 1) behind)) other
    (λ is. let opened = ascii_at 123 behind xs (lit< tt) (lit< tt) front.front (and_parts (nat_lt 0 xs) (eqb (get_or behind xs 0) 123) is).1 in
    ap (escaped (xs + 1)) opened.behind ∙ escaped_same (xs + 1) (drop (xs + 1) behind) opened.utf8))

written_alone : (c d : ℕ) (v w : Bool) (more : ℕ) → first.Letter c v 0 ≡ first.Letter d w more → 0 ≡ more
written_alone c d v w more e = cc

backslash_ends : (behind : List ℕ) (d : ℕ) (w : Bool) (more : ℕ) → IsUtf8 behind → behind_backslash behind ≡ first.Letter d w more → AsciiFront more behind
unfolding behind_backslash
backslash_ends behind d w more h e =
    let xs = prefix_len is_x behind in
    let front = front_same is_x x_low behind h in
    elim (chosen (nat_lt 0 xs && eqb (get_or behind xs 0) 123) (escaped (xs + 1) (drop (xs + 1) behind)) (first.Letter 92 true 0) (first.Letter d w more) e) [
      | inl (test, k) ↦
          let opened = ascii_at 123 behind xs (lit< tt) (lit< tt) front.front (and_parts (nat_lt 0 xs) (eqb (get_or behind xs 0) 123) test).1 in
          let found = escaped_ends (xs + 1) (drop (xs + 1) behind) d w more opened.utf8 k in
          subst (λ n. AsciiFront n behind) (sym found.1) (ascii_then behind (xs + 1) found.0 opened found.2)
      | inr (test, k) ↦ subst (λ n. AsciiFront n behind) (written_alone 92 d true w more k) (ascii_none behind h)
    ]

-- ---- a character and those behind it

pub first_same : (c : ℕ) (behind : List ℕ) → IsUtf8 behind → first_letter c (chars behind) ≡ first_letter c behind
unfolding first_letter
first_same c behind h = rw (head_same 10 behind (lit< tt) h, backslash_same behind h) refl

line_end_alone : (d : ℕ) (w test : Bool) (more : ℕ) (behind : List ℕ) → IsUtf8 behind → eqb (get_or behind 0 0) 10 ≡ test → first.Letter 10 true (cond test 1 0) ≡ first.Letter d w more → AsciiFront more behind
line_end_alone d w true more behind h test e = let one : 1 ≡ more = cc in subst (λ n. AsciiFront n behind) one (ascii_at 10 behind 0 (lit< tt) (lit< tt) (ascii_none behind h) test)
line_end_alone d w false more behind h test e = let none : 0 ≡ more = cc in subst (λ n. AsciiFront n behind) none (ascii_none behind h)

pub first_ends : (c : ℕ) (behind : List ℕ) (d : ℕ) (w : Bool) (more : ℕ) → IsUtf8 behind → first_letter c behind ≡ first.Letter d w more → AsciiFront more behind
unfolding first_letter
first_ends c behind d w more h e =
    elim (chosen (eqb c 13) (first.Letter 10 true (cond (eqb (get_or behind 0 0) 10) 1 0)) (cond (eqb c 92) (behind_backslash behind) (cond (is_char c) (first.Letter c true 0) first.NoChar)) (first.Letter d w more) e) [
      | inl (test, k) ↦ line_end_alone d w (eqb (get_or behind 0 0) 10) more behind h refl k
      | inr (test, k) ↦
          elim (chosen (eqb c 92) (behind_backslash behind) (cond (is_char c) (first.Letter c true 0) first.NoChar) (first.Letter d w more) k) [
            | inl (slash, l) ↦ backslash_ends behind d w more h l
            | inr (slash, l) ↦
                elim (chosen (is_char c) (first.Letter c true 0) first.NoChar (first.Letter d w more) l) [
                  | inl (char, m) ↦ subst (λ n. AsciiFront n behind) (written_alone c d true w more m) (ascii_none behind h)
                  | inr (char, m) ↦ absurd cc
                ]
          ]
    ]
