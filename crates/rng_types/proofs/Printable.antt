-- Texts of printed ASCII characters are plain.
use Rattle.std.specs.Prelude.{◌≡◌, ℕ, zero, suc, ◌≤◌, Bool, true, false, ◌&&◌, nat_le, List, [], ◌∷◌}
use Rattle.std.proofs.Common.{refl, ap, ◌∙◌, arith}
use Rattle.std.proofs.lemmas.Bool.{and_parts, and_from, leb-true, le-leb, not_from_false}
use Rattle.std.proofs.lemmas.Bool.Decides.{nat_tests}
use Rattle.std.proofs.lemmas.Str.{IsUtf8-from_ascii, is_utf8-from_IsUtf8, chars-IsAscii}
use Rattle.std.specs.List.{list_all}
use Rattle.std.specs.Str.{IsAscii}
use Rattle.nx_base.specs.Characters.{is_space, is_char, is_of_chars}
use Rattle.rng_types.specs.Spaces.{is_some_text}
use Rattle.rng_types.proofs.Collapsed.{is_bare}
use Rattle.rng_types.proofs.Plain.{IsPlain}

abbrev pub is_printed : ℕ → Bool
is_printed c = nat_le 33 c && nat_le c 126

pub printed-from : (c : ℕ) → 33 ≤ c → c ≤ 126 → is_printed c ≡ true
printed-from c low high = and_from _ _ (le-leb 33 c low) (le-leb c 126 high)

char_printed : (c : ℕ) → 33 ≤ c → c ≤ 126 → is_char c ≡ true
unfolding is_char
char_printed c low high = grind (arith, nat_tests)

pub printed_no_space : (c : ℕ) → is_printed c ≡ true → is_space c ≡ false
unfolding is_space
printed_no_space c printed =
    let parts = and_parts (nat_le 33 c) (nat_le c 126) printed in
    let low : 33 ≤ c = leb-true 33 c parts.0 in
    grind (arith, nat_tests)

chars_printed : (text : List ℕ) → list_all is_printed text ≡ true → list_all is_char text ≡ true
chars_printed [] all = refl
chars_printed (c ∷ cs) all =
    let parts = and_parts (is_printed c) (list_all is_printed cs) all in
    let bounds = and_parts (nat_le 33 c) (nat_le c 126) parts.0 in
    and_from _ _ (char_printed c (leb-true 33 c bounds.0) (leb-true c 126 bounds.1)) (chars_printed cs parts.1)

pub bare_printed : (text : List ℕ) → list_all is_printed text ≡ true → is_bare text ≡ true
bare_printed [] all = refl
bare_printed (c ∷ cs) all =
    let parts = and_parts (is_printed c) (list_all is_printed cs) all in
    and_from _ _ (not_from_false _ (printed_no_space c parts.0)) (bare_printed cs parts.1)

pub ascii_printed : (text : List ℕ) → list_all is_printed text ≡ true → IsAscii text
ascii_printed [] all i = omega arith
ascii_printed (c ∷ cs) all zero =
    let parts = and_parts (is_printed c) (list_all is_printed cs) all in
    let bounds = and_parts (nat_le 33 c) (nat_le c 126) parts.0 in
    let high : c ≤ 126 = leb-true c 126 bounds.1 in
    omega arith
ascii_printed (c ∷ cs) all (suc i) =
    let parts = and_parts (is_printed c) (list_all is_printed cs) all in
    ascii_printed cs parts.1 i

pub characters_printed : (text : List ℕ) → list_all is_printed text ≡ true → is_of_chars text ≡ true
characters_printed text all =
    let ascii = ascii_printed text all in
    and_from _ _ (is_utf8-from_IsUtf8 text (IsUtf8-from_ascii text ascii)) (ap (list_all is_char) (chars-IsAscii text ascii) ∙ chars_printed text all)

pub plain_printed : (text : List ℕ) → is_some_text text ≡ true → list_all is_printed text ≡ true → IsPlain text
plain_printed text some all = record { characters = characters_printed text all; word = record { some = some; bare = bare_printed text all } }

pub some_cons : (c : ℕ) (cs : List ℕ) → is_some_text (c ∷ cs) ≡ true
some_cons c cs = grind (arith, nat_tests)
