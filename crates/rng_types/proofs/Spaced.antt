-- No form of a word fits the empty text, or a text with a space in it.
use Rattle.std.specs.Prelude.{◌≡◌, ℕ, suc, ◌+◌, Bool, true, false, cond, not, ◌==◌, if◌then◌else◌, ◌&&◌, ◌||◌, List, [], ◌∷◌, ◌++◌, take, drop, codes}
use Rattle.std.proofs.Common.{refl, sym, ap, ◌∙◌, arith, add-one, add_comm, inl, inr}
use Rattle.std.proofs.lemmas.Bool.{false≢true, and_left, and_right, and_parts, or_from, false_from_ne_true, and_cases, and_from}
use Rattle.std.specs.List.{list_all, slice_split, onto_first, prefix_len, before_first, after_first}
use Rattle.std.specs.Str.{chars, IsUtf8, bytes_eq}
use Rattle.std.specs.Char.{is_ascii_digit, is_ascii_alphabetic, is_ascii_alphanumeric}
use Rattle.std.specs.Int.{is_in_range}
use Rattle.std.proofs.lemmas.Str.{chars-append}
use Rattle.std.proofs.lemmas.Slice.Eq.{bytes_eq-Decides}
use Rattle.nx_base.specs.Characters.{is_name_start, is_name_char, is_name}
use Rattle.rng_types.specs.Numbers.{is_sign, is_point, unsigned, is_decimal, is_integer}
use Rattle.rng_types.specs.Words.{is_subtag, are_subtags, is_language, is_true, is_false, is_word}
use Rattle.rng_types.specs.declared.kind.Word.{Word}
use Rattle.rng_types.specs.declared.kind.Word.TheVariants.{Name, NcName, NmToken, Language, Boolean, Decimal, Integer}

-- a test of all fails where one element fails
pub all-stops : (p : ℕ → Bool) (xs ys : List ℕ) (c : ℕ) → p c ≡ false → list_all p (xs ++ c ∷ ys) ≡ false
all-stops p [] ys c fails = and_left (p c) (list_all p ys) fails
all-stops p (x ∷ xs) ys c fails = and_right (p x) (list_all p (xs ++ c ∷ ys)) (all-stops p xs ys c fails)

pub chars-space : (rest : List ℕ) → chars (32 ∷ rest) ≡ 32 ∷ chars rest
unfolding chars
chars-space [] = refl
chars-space (b ∷ bs) = refl

pub chars-spaced : (a rest : List ℕ) → IsUtf8 a → chars (a ++ 32 ∷ rest) ≡ chars a ++ 32 ∷ chars rest
chars-spaced a rest utf8 = chars-append a (32 ∷ rest) utf8 ∙ ap (λ (t : List ℕ). chars a ++ t) (chars-space rest)

space_in_no_name : is_name_char 32 ≡ false
unfolding is_name_char is_name_start
space_in_no_name = refl

space_begins_no_name : is_name_start 32 ≡ false
unfolding is_name_start
space_begins_no_name = refl

name-spaced : (xs ys : List ℕ) → is_name (xs ++ 32 ∷ ys) ≡ false
name-spaced [] ys = and_left (is_name_start 32) (list_all is_name_char ys) space_begins_no_name
name-spaced (x ∷ xs) ys = and_right (is_name_start x) (list_all is_name_char (xs ++ 32 ∷ ys)) (all-stops is_name_char xs ys 32 space_in_no_name)

-- what fails in a list fails in a part of it
onto-fails : (p : ℕ → Bool) (x : ℕ) (parts : List (List ℕ)) → list_all (list_all p) parts ≡ false → list_all (list_all p) (onto_first x parts) ≡ false
onto-fails p x [] fails = absurd (false≢true (sym fails))
onto-fails p x (part ∷ parts) fails = elim (and_cases (list_all p part) (list_all (list_all p) parts) fails) [
  | inl first ↦ and_left (p x && list_all p part) (list_all (list_all p) parts) (and_right (p x) (list_all p part) first)
  | inr more ↦ and_right (p x && list_all p part) (list_all (list_all p) parts) more
]

onto-starts : (p : ℕ → Bool) (c : ℕ) (parts : List (List ℕ)) → p c ≡ false → list_all (list_all p) (onto_first c parts) ≡ false
onto-starts p c [] fails = and_left (p c && true) true (and_left (p c) true fails)
onto-starts p c (part ∷ parts) fails = and_left (p c && list_all p part) (list_all (list_all p) parts) (and_left (p c) (list_all p part) fails)

split-case : (p : ℕ → Bool) (b : Bool) (x : ℕ) (parts : List (List ℕ)) → list_all (list_all p) parts ≡ false → list_all (list_all p) (cond b ([] ∷ parts) (onto_first x parts)) ≡ false
split-case p true x parts fails = fails
split-case p false x parts fails = onto-fails p x parts fails

parts-fail : (p separates : ℕ → Bool) (xs ys : List ℕ) (c : ℕ) → p c ≡ false → separates c ≡ false → list_all (list_all p) (slice_split separates (xs ++ c ∷ ys)) ≡ false
parts-fail p separates [] ys c fails inside = rw inside (onto-starts p c (slice_split separates ys) fails)
parts-fail p separates (x ∷ xs) ys c fails inside = split-case p (separates x) x (slice_split separates (xs ++ c ∷ ys)) (parts-fail p separates xs ys c fails inside)

either-case : (a b c : Bool) → (b || c) ≡ true → ((a || b) || c) ≡ true
either-case true b c h = refl
either-case false b c h = h

-- subtags are of letters and digits
letters : (cs : List ℕ) → list_all is_ascii_alphabetic cs ≡ true → list_all is_ascii_alphanumeric cs ≡ true
letters [] all = refl
letters (c ∷ cs) all =
    let parts = and_parts (is_ascii_alphabetic c) (list_all is_ascii_alphabetic cs) all in
    and_from (is_ascii_alphanumeric c) (list_all is_ascii_alphanumeric cs) (either-case (is_in_range 48 57 c) (is_in_range 65 90 c) (is_in_range 97 122 c) parts.0) (letters cs parts.1)

further : (parts : List (List ℕ)) → list_all (is_subtag is_ascii_alphanumeric) parts ≡ true → list_all (list_all is_ascii_alphanumeric) parts ≡ true
further [] all = refl
further (part ∷ parts) all =
    let both = and_parts (is_subtag is_ascii_alphanumeric part) (list_all (is_subtag is_ascii_alphanumeric) parts) all in
    and_from (list_all is_ascii_alphanumeric part) (list_all (list_all is_ascii_alphanumeric) parts) (and_parts (list_all is_ascii_alphanumeric part) _ both.0).0 (further parts both.1)

subtags : (parts : List (List ℕ)) → are_subtags parts ≡ true → list_all (list_all is_ascii_alphanumeric) parts ≡ true
subtags [] all = refl
subtags (part ∷ parts) all =
    let both = and_parts (is_subtag is_ascii_alphabetic part) (list_all (is_subtag is_ascii_alphanumeric) parts) all in
    and_from (list_all is_ascii_alphanumeric part) (list_all (list_all is_ascii_alphanumeric) parts) (letters part (and_parts (list_all is_ascii_alphabetic part) _ both.0).0) (further parts both.1)

language-spaced : (a rest : List ℕ) → is_language (a ++ 32 ∷ rest) ≡ false
language-spaced a rest = false_from_ne_true _ (λ fits. false≢true (sym (parts-fail is_ascii_alphanumeric (λ c. c == 45) a rest 32 refl refl) ∙ subtags (slice_split (λ (c : ℕ). c == 45) (a ++ 32 ∷ rest)) fits))

-- a text that equals one without spaces has none
other-spaced : (a rest wanted : List ℕ) → list_all (λ c. not (c == 32)) wanted ≡ true → bytes_eq (a ++ 32 ∷ rest) wanted ≡ false
other-spaced a rest wanted bare = false_from_ne_true _ (λ same.
    false≢true (sym (all-stops (λ c. not (c == 32)) a rest 32 refl) ∙ ap (list_all (λ c. not (c == 32))) ((bytes_eq-Decides (a ++ 32 ∷ rest) wanted).0 same) ∙ bare))

boolean-spaced : (a rest : List ℕ) → (is_true (a ++ 32 ∷ rest) || is_false (a ++ 32 ∷ rest)) ≡ false
boolean-spaced a rest =
    or_from (is_true (a ++ 32 ∷ rest)) (is_false (a ++ 32 ∷ rest))
    (or_from _ _ (other-spaced a rest (codes "true") refl) (other-spaced a rest (codes "1") refl))
    (or_from _ _ (other-spaced a rest (codes "false") refl) (other-spaced a rest (codes "0") refl))

-- digits around a point
around-case : (b : Bool) (x : ℕ) (rest : List ℕ) (n : ℕ) → is_point x ≡ b → list_all is_ascii_digit rest ≡ false → list_all is_ascii_digit (take n rest ++ drop (n + 1) rest) ≡ false →
    list_all is_ascii_digit (take (cond (not b) (1 + n) 0) (x ∷ rest) ++ drop (cond (not b) (1 + n) 0 + 1) (x ∷ rest)) ≡ false
around-case true x rest n point fails inner = fails
around-case false x rest n other fails inner = rw (add_comm, add-one, add-one) (and_right _ _ (rw add-one at inner))

around-fails : (xs ys : List ℕ) → list_all is_ascii_digit (before_first is_point (xs ++ 32 ∷ ys) ++ after_first is_point (xs ++ 32 ∷ ys)) ≡ false
around-fails [] ys =
    let n : ℕ = prefix_len (λ c. not (is_point c)) ys in
    let step : (1 + n) ≡ suc n = omega arith in
    rw step refl
around-fails (x ∷ xs) ys = around-case (is_point x) x (xs ++ 32 ∷ ys) (prefix_len (λ c. not (is_point c)) (xs ++ 32 ∷ ys)) refl (all-stops is_ascii_digit xs ys 32 refl) (around-fails xs ys)

unsigned-case : (b : Bool) (x : ℕ) (xs ys : List ℕ) (P : List ℕ → Type 0) → ((zs : List ℕ) → P (zs ++ 32 ∷ ys)) → P (if b then xs ++ 32 ∷ ys else x ∷ (xs ++ 32 ∷ ys))
unsigned-case true x xs ys P each = each xs
unsigned-case false x xs ys P each = each (x ∷ xs)

-- what holds of all texts with a space holds of one without its sign
unsigned-spaced : (a rest : List ℕ) (P : List ℕ → Type 0) → ((zs : List ℕ) → P (zs ++ 32 ∷ rest)) → P (unsigned (a ++ 32 ∷ rest))
unsigned-spaced [] rest P each = each []
unsigned-spaced (x ∷ xs) rest P each = unsigned-case (is_sign x) x xs rest P each

decimal-spaced : (a rest : List ℕ) → is_decimal (a ++ 32 ∷ rest) ≡ false
decimal-spaced a rest =
    let P : List ℕ → Type 0 = λ u. list_all is_ascii_digit (before_first is_point u ++ after_first is_point u) ≡ false in
    and_right _ _ (unsigned-spaced a rest P (λ zs. around-fails zs rest))

integer-spaced : (a rest : List ℕ) → is_integer (a ++ 32 ∷ rest) ≡ false
integer-spaced a rest =
    let P : List ℕ → Type 0 = λ u. list_all is_ascii_digit u ≡ false in
    and_right _ _ (unsigned-spaced a rest P (λ zs. all-stops is_ascii_digit zs rest 32 refl))

pub is_word-spaced : (word : Word) (a rest : List ℕ) → IsUtf8 a → is_word word (a ++ 32 ∷ rest) ≡ false
is_word-spaced Name a rest utf8 = rw (chars-spaced a rest utf8) (name-spaced (chars a) (chars rest))
is_word-spaced NcName a rest utf8 = rw (chars-spaced a rest utf8) (and_left _ _ (name-spaced (chars a) (chars rest)))
is_word-spaced NmToken a rest utf8 = rw (chars-spaced a rest utf8) (and_right _ _ (all-stops is_name_char (chars a) (chars rest) 32 space_in_no_name))
is_word-spaced Language a rest utf8 = language-spaced a rest
is_word-spaced Boolean a rest utf8 = boolean-spaced a rest
is_word-spaced Decimal a rest utf8 = decimal-spaced a rest
is_word-spaced Integer a rest utf8 = integer-spaced a rest

pub is_word-empty : (word : Word) → is_word word [] ≡ false
unfolding chars
is_word-empty Name = refl
is_word-empty NcName = refl
is_word-empty NmToken = refl
is_word-empty Language = refl
is_word-empty Boolean = refl
is_word-empty Decimal = refl
is_word-empty Integer = refl
