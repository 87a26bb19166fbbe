-- Names that are longer than others: so many letters `a`.
use Rattle.std.proofs.Common.{◌≡◌, ℕ, zero, suc, ◌+◌, ◌<◌, List, [], ◌∷◌, ◌++◌, length, Bool, true, false, refl, ap, ◌∙◌, arith}
use Rattle.std.specs.Prelude.{not, ◌==◌}
use Rattle.std.specs.List.{list_all}
use Rattle.std.specs.Str.{chars, bytes_eq, is_utf8, IsAscii}
use Rattle.std.proofs.lemmas.Bool.{and_from, not_from_false}
use Rattle.std.proofs.lemmas.Str.{is_utf8-from_IsUtf8, IsUtf8-from_ascii, chars-IsAscii}
use Rattle.std.proofs.lemmas.Str.Ascii.{IsAscii-nil, IsAscii-cons}
use Rattle.std.proofs.lemmas.List.{length-replicate}
use Rattle.nx_base.specs.Characters.{is_char, is_name_char, is_name_start, is_nc_name, is_of_chars}
use Rattle.nx_base.specs.Names.{is_namespace, is_local, xmlns_namespace}
use Rattle.nx_complete.specs.Asking.{letters}

pub letters_long : (n : ℕ) → length (letters n) ≡ n
letters_long n = length-replicate n 97

pub one_letter_more : (n : ℕ) → letters n ++ 97 ∷ [] ≡ letters (suc n)
one_letter_more zero = refl
one_letter_more (suc n) = ap (λ (l : List ℕ). 97 ∷ l) (one_letter_more n)

letters_are_ascii : (n : ℕ) → IsAscii (letters n)
letters_are_ascii zero = IsAscii-nil
letters_are_ascii (suc n) = IsAscii-cons 97 (letters n) (omega arith) (letters_are_ascii n)

chars-letters : (n : ℕ) → chars (letters n) ≡ letters n
chars-letters n = chars-IsAscii (letters n) (letters_are_ascii n)

letters_are_utf8 : (n : ℕ) → is_utf8 (letters n) ≡ true
letters_are_utf8 n = is_utf8-from_IsUtf8 (letters n) (IsUtf8-from_ascii (letters n) (letters_are_ascii n))

letters_are_chars : (n : ℕ) → list_all is_char (letters n) ≡ true
unfolding is_char
letters_are_chars zero = refl
letters_are_chars (suc n) = letters_are_chars n

letters_are_name_chars : (n : ℕ) → list_all is_name_char (letters n) ≡ true
unfolding is_name_char is_name_start
letters_are_name_chars zero = refl
letters_are_name_chars (suc n) = letters_are_name_chars n

letters_are_no_colons : (n : ℕ) → list_all (λ c. not (c == 58)) (letters n) ≡ true
letters_are_no_colons zero = refl
letters_are_no_colons (suc n) = letters_are_no_colons n

a_begins_names : is_name_start 97 ≡ true
unfolding is_name_start
a_begins_names = refl

not_xmlns : (n : ℕ) → bytes_eq (letters n) xmlns_namespace ≡ false
not_xmlns zero = refl
not_xmlns (suc n) = refl

pub letters_are_namespace : (n : ℕ) → is_namespace (letters n) ≡ true
letters_are_namespace n =
    let of_chars : is_of_chars (letters n) ≡ true = and_from _ _ (letters_are_utf8 n) (ap (list_all is_char) (chars-letters n) ∙ letters_are_chars n) in
    and_from _ _ of_chars (not_from_false _ (not_xmlns n))

pub letters_are_local : (n : ℕ) → is_local (letters (suc n)) ≡ true
letters_are_local n =
    let name : is_nc_name (letters (suc n)) ≡ true =
    and_from _ _ (and_from _ _ a_begins_names (letters_are_name_chars n)) (letters_are_no_colons (suc n)) in
    and_from _ _ (letters_are_utf8 (suc n)) (ap is_nc_name (chars-letters (suc n)) ∙ name)
