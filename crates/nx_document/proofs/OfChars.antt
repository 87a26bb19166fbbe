-- Texts of characters that XML allows, joined and cut.
use Rattle.std.proofs.Common.{◌≡◌, ℕ, ◌<◌, true, List, [], ◌∷◌, ◌++◌, take, drop, refl, ap, sym, subst, ◌∙◌, arith, take-append-drop}
use Rattle.std.specs.Prelude.{◌&&◌}
use Rattle.std.specs.List.{AllByRecursion, list_all}
use Rattle.std.specs.Str.{IsUtf8, IsCharBoundary, chars}
use lib.Utf8.{encode, scalar}
use Rattle.std.proofs.lemmas.Bool.{and_parts, and_from}
use Rattle.std.proofs.lemmas.Bool.Decides.{nat_tests}
use Rattle.std.proofs.lemmas.List.{append-nil}
use Rattle.std.proofs.lemmas.List.Folds.{list_all-append}
use Rattle.std.proofs.lemmas.Str.{IsUtf8-nil, IsUtf8-append, IsUtf8-encode, IsUtf8-take, IsUtf8-drop, is_utf8-from_IsUtf8, chars-nil, chars-encodes, chars-append, encode_ascii}
use Rattle.nx_base.specs.Characters.{is_char, is_of_chars}

pub record OfChars (bytes : List ℕ) : Type 0 where
  pub utf8 : IsUtf8 bytes
  pub each : list_all is_char (chars bytes) ≡ true

pub is_of : (bytes : List ℕ) → OfChars bytes → is_of_chars bytes ≡ true
is_of bytes o = and_from _ _ (is_utf8-from_IsUtf8 bytes o.utf8) o.each

pub of_nothing : OfChars []
of_nothing = record { utf8 = IsUtf8-nil; each = ap (list_all is_char) chars-nil }

joined_chars : (xs ys : List ℕ) → IsUtf8 xs → list_all is_char (chars (xs ++ ys)) ≡ (list_all is_char (chars xs) && list_all is_char (chars ys))
joined_chars xs ys u = ap (list_all is_char) (chars-append xs ys u) ∙ list_all-append is_char (chars xs) (chars ys)

pub of_both : (xs ys : List ℕ) → OfChars xs → OfChars ys → OfChars (xs ++ ys)
of_both xs ys o p = record { utf8 = IsUtf8-append xs ys o.utf8 p.utf8; each = joined_chars xs ys o.utf8 ∙ and_from _ _ o.each p.each }

pub char_scalar : (c : ℕ) → is_char c ≡ true → scalar c ≡ true
unfolding is_char
char_scalar c h = grind (arith, nat_tests)

pub of_one : (c : ℕ) → is_char c ≡ true → OfChars (encode c)
of_one c h =
    let s = char_scalar c h in
    let one : chars (encode c) ≡ c ∷ [] = ap chars (sym (append-nil (encode c))) ∙ chars-encodes (c ∷ []) (and_from (scalar c) true s refl) in
    record { utf8 = IsUtf8-encode c s; each = ap (list_all is_char) one ∙ and_from (is_char c) true h refl }

-- bytes that are characters by themselves
abbrev pub IsPlain : ℕ → Type 0
IsPlain b = (is_char b ≡ true) × (b < 128)

pub of_plain : (bs : List ℕ) → AllByRecursion IsPlain bs → OfChars bs
of_plain [] h = of_nothing
of_plain (b ∷ bs) h =
    of_both (b ∷ []) bs (subst (λ (xs : List ℕ). OfChars xs) (encode_ascii b h.0.1) (of_one b h.0.0)) (of_plain bs h.1)

-- parts of such a text
module _ (bytes : List ℕ) (n : ℕ) (o : OfChars bytes) (border : IsCharBoundary bytes n) where
  parts : (list_all is_char (chars (take n bytes)) ≡ true) × (list_all is_char (chars (drop n bytes)) ≡ true)
  parts =
      and_parts (list_all is_char (chars (take n bytes))) (list_all is_char (chars (drop n bytes)))
      (sym (joined_chars (take n bytes) (drop n bytes) (IsUtf8-take bytes n o.utf8 border)) ∙ ap (λ (xs : List ℕ). list_all is_char (chars xs)) (take-append-drop n bytes) ∙ o.each)

  pub of_take : OfChars (take n bytes)
  of_take = record { utf8 = IsUtf8-take bytes n o.utf8 border; each = parts.0 }

  pub of_drop : OfChars (drop n bytes)
  of_drop = record { utf8 = IsUtf8-drop bytes n o.utf8 border; each = parts.1 }
