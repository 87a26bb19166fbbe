-- Letters beyond ASCII, of which there are more than excepts, and words of each length made of one of them.
use Rattle.std.specs.Prelude.{◌≡◌, ℕ, zero, suc, ◌<◌, ◌≤◌, Bool, true, not, ◌==◌, List, [], ◌∷◌, ◌++◌, length, get_or, encode_utf8}
use Rattle.std.proofs.Common.{refl, sym, ap, ◌∙◌, arith}
use Rattle.std.proofs.Math.ListN.{replicate}
use Rattle.std.proofs.lemmas.Bool.{and_parts, and_from, not_from_false, ne_eqb, false_from_ne_true}
use Rattle.std.proofs.lemmas.Bool.Decides.{nat_tests}
use Rattle.std.proofs.lemmas.Grind.{get_or_default_zero}
use Rattle.std.proofs.lemmas.List.Sums.{list_all-from_AllPass}
use Rattle.std.proofs.lemmas.List.Folds.{list_all-append}
use Rattle.std.proofs.lemmas.Str.{chars-nil, chars-encodes, encodes_same, is_utf8-from_IsUtf8, inside_one}
use Rattle.std.proofs.Common.{append-nil}
use Rattle.std.specs.List.{list_all}
use Rattle.std.specs.Str.{chars, IsUtf8, encode_utf8_all, all_scalars}
use Rattle.nx_base.specs.Characters.{is_space, is_char, is_name_start, is_name_char, is_name, is_nc_name}
use Rattle.rng_types.specs.Spaces.{is_some_text}
use Rattle.rng_types.specs.Words.{is_nm_token}
use Rattle.rng_types.proofs.Collapsed.{is_bare}
use Rattle.rng_types.proofs.SplitWords.{space_is_ascii}
use Rattle.rng_types.proofs.Plain.{IsPlain}
use Rattle.rng_types.specs.Giving.{word_of}

-- a letter of names, beyond ASCII
pub record IsLetter (c : ℕ) : Type 0 where
  pub low : 256 ≤ c
  pub high : c < 512

pub char_letter : (c : ℕ) → IsLetter c → is_char c ≡ true
unfolding is_char
char_letter c letter = let low = letter.low in let high = letter.high in grind (arith, nat_tests)

pub start_letter : (c : ℕ) → IsLetter c → is_name_start c ≡ true
unfolding is_name_start
start_letter c letter = let low = letter.low in let high = letter.high in grind (arith, nat_tests)

pub name_letter : (c : ℕ) → IsLetter c → is_name_char c ≡ true
unfolding is_name_char
name_letter c letter = rw (start_letter c letter) refl

scalar_letter : (c : ℕ) → IsLetter c → all_scalars (c ∷ []) ≡ true
scalar_letter c letter = let low = letter.low in let high = letter.high in grind (arith, nat_tests)

all_replicate : (p : ℕ → Bool) (k c : ℕ) → p c ≡ true → list_all p (replicate k c) ≡ true
all_replicate p zero c passes = refl
all_replicate p (suc k) c passes = and_from _ _ passes (all_replicate p k c passes)

scalars_replicate : (k c : ℕ) → IsLetter c → all_scalars (replicate k c) ≡ true
scalars_replicate zero c letter = refl
scalars_replicate (suc k) c letter = and_from _ _ (and_parts _ _ (scalar_letter c letter)).0 (scalars_replicate k c letter)

pub chars-word_of : (k c : ℕ) → IsLetter c → chars (word_of k c) ≡ replicate k c
unfolding word_of
chars-word_of k c letter = chars-encodes (replicate k c) (scalars_replicate k c letter)

pub length-replicate : (k c : ℕ) → length (replicate k c) ≡ k
length-replicate zero c = refl
length-replicate (suc k) c = omega (arith, length-replicate k c)

pub size-word_of : (k c : ℕ) → IsLetter c → length (chars (word_of k c)) ≡ k
size-word_of k c letter = ap length (chars-word_of k c letter) ∙ length-replicate k c

pub utf8-word_of : (k c : ℕ) → IsLetter c → IsUtf8 (word_of k c)
unfolding word_of
utf8-word_of k c letter = (replicate k c, (scalars_replicate k c letter, refl))

-- no byte of it is white space
far_from : (c k d : ℕ) → k < length (encode_utf8 c) → 256 ≤ c → get_or (encode_utf8 c) k d < 128 → ⊥
far_from c k d inside low small =
    let at : get_or (encode_utf8 c) k d ≡ get_or (encode_utf8 c) k 0 = get_or_default_zero (encode_utf8 c) k d inside in
    let same : c ≡ get_or (encode_utf8 c) k 0 = inside_one c [] (encode_utf8 c) k (sym (append-nil (encode_utf8 c))) inside (omega (arith, at)) in
    absurd (omega (arith, at, same))

bare_encode : (c : ℕ) → IsLetter c → is_bare (encode_utf8 c) ≡ true
bare_encode c letter =
    list_all-from_AllPass (λ b. not (is_space b)) (encode_utf8 c)
    (λ k d h. not_from_false _ (false_from_ne_true _ (λ space.
    let small = space_is_ascii (get_or (encode_utf8 c) k d) space in
    let low = letter.low in
    absurd (far_from c k d h low small))))

bare_append : (xs ys : List ℕ) → is_bare xs ≡ true → is_bare ys ≡ true → is_bare (xs ++ ys) ≡ true
bare_append xs ys first second = list_all-append (λ b. not (is_space b)) xs ys ∙ and_from _ _ first second

pub bare-word_of : (k c : ℕ) → IsLetter c → is_bare (word_of k c) ≡ true
unfolding word_of
bare-word_of zero c letter = refl
bare-word_of (suc k) c letter = bare_append (encode_utf8 c) (encode_utf8_all (replicate k c)) (bare_encode c letter) (bare-word_of k c letter)

no_chars : (cs : List ℕ) → chars [] ≡ cs → 1 ≤ length cs → ⊥
no_chars cs is some = let none : length cs ≡ 0 = ap length (sym is ∙ chars-nil) in absurd (omega (arith, none))

some_chars : (text cs : List ℕ) → chars text ≡ cs → 1 ≤ length cs → is_some_text text ≡ true
some_chars [] cs is some = absurd (no_chars cs is some)
some_chars (b ∷ bs) cs is some = grind (arith, nat_tests)

pub plain-word_of : (k c : ℕ) → IsLetter c → 1 ≤ k → IsPlain (word_of k c)
plain-word_of k c letter some = record {
  characters = and_from _ _ (is_utf8-from_IsUtf8 (word_of k c) (utf8-word_of k c letter))
      (ap (list_all is_char) (chars-word_of k c letter) ∙ all_replicate is_char k c (char_letter c letter));
  word = record { some = some_chars (word_of k c) (replicate k c) (chars-word_of k c letter) (omega (arith, length-replicate k c)); bare = bare-word_of k c letter };
}

heads_same : (k c d : ℕ) → replicate (suc k) c ≡ replicate (suc k) d → c ≡ d
heads_same k c d same = cc

replicate_same : (k c d : ℕ) → 1 ≤ k → replicate k c ≡ replicate k d → c ≡ d
replicate_same zero c d some same = absurd (omega arith)
replicate_same (suc k) c d some same = heads_same k c d same

pub apart-word_of : (k c d : ℕ) → 1 ≤ k → word_of k c ≡ word_of k d → c ≡ d
unfolding word_of
apart-word_of k c d some same = replicate_same k c d some (encodes_same (replicate k c) (replicate k d) same)

-- it is a name, and whatever else is made of characters of names
pub token-word_of : (k c : ℕ) → IsLetter c → 1 ≤ k → is_nm_token (chars (word_of k c)) ≡ true
token-word_of k c letter some =
    let cs : List ℕ = replicate k c in
    ap is_nm_token (chars-word_of k c letter)
    ∙ and_from (is_some_text cs) (list_all is_name_char cs) (not_from_false _ (ne_eqb (length cs) 0 (λ none. absurd (omega (arith, none, length-replicate k c))))) (all_replicate is_name_char k c (name_letter c letter))

name_replicate : (k c : ℕ) → IsLetter c → 1 ≤ k → is_name (replicate k c) ≡ true
name_replicate zero c letter some = absurd (omega arith)
name_replicate (suc k) c letter some = and_from _ _ (start_letter c letter) (all_replicate is_name_char k c (name_letter c letter))

pub name-word_of : (k c : ℕ) → IsLetter c → 1 ≤ k → is_name (chars (word_of k c)) ≡ true
name-word_of k c letter some = ap is_name (chars-word_of k c letter) ∙ name_replicate k c letter some

pub nc_name-word_of : (k c : ℕ) → IsLetter c → 1 ≤ k → is_nc_name (chars (word_of k c)) ≡ true
nc_name-word_of k c letter some =
    let low = letter.low in
    let cs : List ℕ = replicate k c in
    ap is_nc_name (chars-word_of k c letter)
    ∙ and_from (is_name cs) (list_all (λ d. not (d == 58)) cs) (name_replicate k c letter some)
    (all_replicate (λ d. not (d == 58)) k c (not_from_false _ (ne_eqb c 58 (λ same. absurd (omega (arith, same))))))
