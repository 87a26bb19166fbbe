-- Letters that are longer than all that a class mentions, as a local part and as a namespace.
use Rattle.std.specs.Prelude.{◌≡◌, ◌<◌, ◌+◌, ℕ, zero, suc, true, false, not, List, length, replicate, ◌==◌, codes}
use Rattle.std.proofs.Common.{refl, ap, subst, ◌∙◌, arith}
use Rattle.std.proofs.lemmas.Bool.{and_from, and_right, or_from, false_from_ne_true, not_from_false}
use Rattle.std.proofs.lemmas.Str.{is_utf8-from_IsUtf8, IsUtf8-from_ascii, chars-IsAscii}
use Rattle.std.proofs.lemmas.Str.Ascii.{IsAscii-nil, IsAscii-cons}
use Rattle.std.specs.List.{list_all}
use Rattle.std.specs.Str.{chars, bytes_eq, is_utf8, IsAscii}
use Rattle.nx_base.specs.Characters.{is_char, is_name_start, is_name_char, is_of_chars, is_nc_name}
use Rattle.nx_base.specs.declared.name.Name.{Name}
use Rattle.nx_base.specs.Names.{xmlns_namespace, is_namespace, is_local}
use Rattle.rng_core.specs.Names.{Class, any_name, ns_name, the_name, either, without}
use Rattle.rng_core.proofs.Overlaps.{same_bytes}
use Rattle.rng_kept.specs.Mentioned.{class_mentions, class_mentions_ns}
use Rattle.rng_fill.specs.ClassNames.{longest}

letters_are_ascii : (n : ℕ) → IsAscii (replicate n 97)
letters_are_ascii zero = IsAscii-nil
letters_are_ascii (suc n) = IsAscii-cons 97 (replicate n 97) (omega arith) (letters_are_ascii n)

chars-letters : (n : ℕ) → chars (replicate n 97) ≡ replicate n 97
chars-letters n = chars-IsAscii (replicate n 97) (letters_are_ascii n)

letters_are_utf8 : (n : ℕ) → is_utf8 (replicate n 97) ≡ true
letters_are_utf8 n = is_utf8-from_IsUtf8 (replicate n 97) (IsUtf8-from_ascii (replicate n 97) (letters_are_ascii n))

letters_are_char : (n : ℕ) → list_all is_char (replicate n 97) ≡ true
unfolding is_char
letters_are_char zero = refl
letters_are_char (suc n) = letters_are_char n

letters_are_name_chars : (n : ℕ) → list_all is_name_char (replicate n 97) ≡ true
unfolding is_name_char is_name_start
letters_are_name_chars zero = refl
letters_are_name_chars (suc n) = letters_are_name_chars n

letters_are_no_colons : (n : ℕ) → list_all (λ c. not (c == 58)) (replicate n 97) ≡ true
letters_are_no_colons zero = refl
letters_are_no_colons (suc n) = letters_are_no_colons n

a_begins_names : is_name_start 97 ≡ true
unfolding is_name_start
a_begins_names = refl

pub letters_are_of_chars : (n : ℕ) → is_of_chars (replicate n 97) ≡ true
letters_are_of_chars n = and_from _ _ (letters_are_utf8 n) (ap (list_all is_char) (chars-letters n) ∙ letters_are_char n)

not_xmlns : (n : ℕ) → bytes_eq (replicate n 97) xmlns_namespace ≡ false
not_xmlns zero = refl
not_xmlns (suc n) = refl

pub letters_are_namespace : (n : ℕ) → is_namespace (replicate n 97) ≡ true
letters_are_namespace n = and_from _ _ (letters_are_of_chars n) (not_from_false _ (not_xmlns n))

some_letters_are_local : (n : ℕ) → is_local (replicate (suc n) 97) ≡ true
some_letters_are_local n =
    let name : is_nc_name (replicate (suc n) 97) ≡ true =
    and_from _ _ (and_from _ _ a_begins_names (letters_are_name_chars n)) (letters_are_no_colons (suc n)) in
    and_from _ _ (letters_are_utf8 (suc n)) (ap is_nc_name (chars-letters (suc n)) ∙ name)

pub letters_are_local : (n : ℕ) → is_local (replicate (n + 1) 97) ≡ true
letters_are_local n =
    let more : suc n ≡ n + 1 = omega arith in subst (λ (k : ℕ). is_local (replicate k 97) ≡ true) more (some_letters_are_local n)

-- they declare no namespace
pub letters_declare_none : (n : ℕ) → bytes_eq (replicate n 97) (codes "xmlns") ≡ false
letters_declare_none zero = refl
letters_declare_none (suc n) = refl

-- ---- what is longer isn't mentioned

longer_differs : (a b : List ℕ) → length b < length a → bytes_eq a b ≡ false
longer_differs a b longer = false_from_ne_true _ (λ same. absurd (omega (arith, ap length (same_bytes a b same), longer)))

pub unmentioned_namespace : (c : Class) (ns : List ℕ) → longest c < length ns → class_mentions_ns c ns ≡ false
unmentioned_namespace any_name ns longer = refl
unmentioned_namespace (ns_name of) ns longer = longer_differs ns of longer
unmentioned_namespace (the_name m) ns longer = longer_differs ns m.ns (omega arith)
unmentioned_namespace (either c d) ns longer = or_from _ _ (unmentioned_namespace c ns (omega arith)) (unmentioned_namespace d ns (omega arith))
unmentioned_namespace (without c d) ns longer = or_from _ _ (unmentioned_namespace c ns (omega arith)) (unmentioned_namespace d ns (omega arith))

pub unmentioned_name : (c : Class) (n : Name) → longest c < length n.local → class_mentions c n ≡ false
unmentioned_name any_name n longer = refl
unmentioned_name (ns_name of) n longer = refl
unmentioned_name (the_name m) n longer = and_right _ _ (longer_differs n.local m.local (omega arith))
unmentioned_name (either c d) n longer = or_from _ _ (unmentioned_name c n (omega arith)) (unmentioned_name d n (omega arith))
unmentioned_name (without c d) n longer = or_from _ _ (unmentioned_name c n (omega arith)) (unmentioned_name d n (omega arith))
