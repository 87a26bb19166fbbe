-- The words of a detail, one after another.
use Rattle.std.proofs.Common.{◌≡◌, ◌∙◌, ℕ, suc, ◌+◌, ◌<◌, ◌≤◌, Bool, true, false, cond, List, [], ◌∷◌, ◌++◌, length, take, drop, map, refl, sym, ap, arith}
use Rattle.std.specs.Prelude.{nat_lt, codes}
use Rattle.std.proofs.lemmas.List.{length-drop}
use Rattle.nx_report.specs.Lists.{introduced}
use Rattle.nx_report.specs.Names.{quoted_name}
use Rattle.nx_report.specs.Sentences.{lacking}
use Rattle.nx_report.proofs.Listing.{told_from, begun, further}
use Rattle.nx_report.specs.Words.{ends_word, in_braces_behind, word_len, onto, words_in, words, first_word, behind_word, words_behind}

-- a word ends with a space or the text
parted : (in_braces : Bool) (text : List ℕ)
    → words_in in_braces text ≡ take (word_len in_braces text) text ∷ words_behind (drop (word_len in_braces text) text)
parted in_braces [] = refl
parted in_braces (byte ∷ rest) = by (ends_word in_braces byte) (parted (in_braces_behind in_braces byte) rest)
  where
    by : (b : Bool) → (let n = word_len (in_braces_behind in_braces byte) rest in words_in (in_braces_behind in_braces byte) rest ≡ take n rest ∷ words_behind (drop n rest))
        → cond b ([] ∷ words_in false rest) (onto byte (words_in (in_braces_behind in_braces byte) rest))
        ≡ take (cond b 0 (1 + word_len (in_braces_behind in_braces byte) rest)) (byte ∷ rest)
        ∷ words_behind (drop (cond b 0 (1 + word_len (in_braces_behind in_braces byte) rest)) (byte ∷ rest))
    by true more = refl
    by false more =
        let n = word_len (in_braces_behind in_braces byte) rest in
        let one : 1 + n ≡ suc n = omega arith in
        ap (onto byte) more ∙ sym (ap (λ (k : ℕ). take k (byte ∷ rest) ∷ words_behind (drop k (byte ∷ rest))) one)

pub words_are : (text : List ℕ) → words text ≡ first_word text ∷ words_behind (behind_word text)
words_are text = parted false text

pub word_len-le : (in_braces : Bool) (text : List ℕ) → word_len in_braces text ≤ length text
word_len-le in_braces [] = omega arith
word_len-le in_braces (byte ∷ rest) = by (ends_word in_braces byte) (word_len-le (in_braces_behind in_braces byte) rest)
  where
    by : (b : Bool) → word_len (in_braces_behind in_braces byte) rest ≤ length rest
        → cond b 0 (1 + word_len (in_braces_behind in_braces byte) rest) ≤ length (byte ∷ rest)
    by true le = omega arith
    by false le = omega arith

-- names told word by word: the first is written
pub names_begun : (old introduction own text word rest before out : List ℕ) → word ≡ first_word text → rest ≡ behind_word text → before ≡ old ++ introduction
    → out ≡ before ++ quoted_name own word
    → out ++ told_from 0 (map (quoted_name own) (words_behind rest)) ≡ old ++ introduced introduction (map (quoted_name own) (words text))
names_begun old introduction own text word rest before out first behind start is =
    ap (λ (t : List ℕ). t ++ told_from 0 (map (quoted_name own) (words_behind rest))) (is ∙ ap (λ (t : List ℕ). t ++ quoted_name own word) start)
    ∙ begun old introduction (quoted_name own word) (map (quoted_name own) (words_behind rest))
    ∙ ap (λ (ws : List (List ℕ)). old ++ introduced introduction (map (quoted_name own) ws))
    (ap (λ (t : List ℕ). t ∷ words_behind rest) first ∙ ap (λ (t : List ℕ). first_word text ∷ words_behind t) behind ∙ sym (words_are text))

-- one more
pub names_further : (own left names word rest before out whole : List ℕ) (space n : ℕ) → left ≡ space ∷ names → word ≡ first_word names → rest ≡ behind_word names
    → before ++ told_from n (map (quoted_name own) (words_behind left)) ≡ whole → out ≡ before ++ cond (nat_lt n 7) (codes ", " ++ quoted_name own word) []
    → out ++ told_from (n + 1) (map (quoted_name own) (words_behind rest)) ≡ whole
names_further own left names word rest before out whole space n is first behind so_far told =
    let here : map (quoted_name own) (words_behind left) ≡ quoted_name own word ∷ map (quoted_name own) (words_behind rest) =
    ap (λ (t : List ℕ). map (quoted_name own) (words_behind t)) is
    ∙ ap (map (quoted_name own)) (words_are names ∙ sym (ap (λ (t : List ℕ). first_word names ∷ words_behind t) behind) ∙ sym (ap (λ (t : List ℕ). t ∷ words_behind rest) first)) in
    ap (λ (t : List ℕ). t ++ told_from (n + 1) (map (quoted_name own) (words_behind rest))) told
    ∙ further before (quoted_name own word) whole n (map (quoted_name own) (words_behind rest)) (sym (ap (λ (ws : List (List ℕ)). before ++ told_from n ws) here) ∙ so_far)

pub behind_word-le : (text rest : List ℕ) → rest ≡ behind_word text → length rest ≤ length text
behind_word-le text rest is = let same = ap length is ∙ length-drop (word_len false text) text in omega (arith, same)

-- one attribute is lacking, or several
pub lacking_one : (names first rest : List ℕ) → first ≡ first_word names → rest ≡ behind_word names → length rest ≡ 0
    → codes "attribute " ++ quoted_name [] first ≡ lacking (words names)
lacking_one names first rest is behind none =
    sym (ap lacking (words_are names ∙ sym (ap (λ (t : List ℕ). first_word names ∷ words_behind t) behind) ∙ sym (ap (λ (t : List ℕ). t ∷ words_behind rest) is) ∙ alone rest none))
  where
    alone : (rest : List ℕ) → length rest ≡ 0 → first ∷ words_behind rest ≡ first ∷ []
    alone [] none = refl
    alone (space ∷ more) none = absurd (omega (arith, none))

pub lacking_more : (names rest : List ℕ) → rest ≡ behind_word names → 0 < length rest
    → introduced (codes "attributes ") (map (quoted_name []) (words names)) ≡ lacking (words names)
lacking_more names rest behind some =
    let are : words names ≡ first_word names ∷ words_behind rest = words_are names ∙ sym (ap (λ (t : List ℕ). first_word names ∷ words_behind t) behind) in
    ap (λ ws. introduced (codes "attributes ") (map (quoted_name []) ws)) are ∙ by rest some ∙ sym (ap lacking are)
  where
    several : (first : List ℕ) (others : List (List ℕ)) (second : List ℕ) (more : List (List ℕ)) → others ≡ second ∷ more
        → introduced (codes "attributes ") (map (quoted_name []) (first ∷ others)) ≡ lacking (first ∷ others)
    several first others second more is =
        ap (λ ws. introduced (codes "attributes ") (map (quoted_name []) (first ∷ ws))) is ∙ sym (ap (λ ws. lacking (first ∷ ws)) is)

    by : (rest : List ℕ) → 0 < length rest
        → introduced (codes "attributes ") (map (quoted_name []) (first_word names ∷ words_behind rest)) ≡ lacking (first_word names ∷ words_behind rest)
    by [] some = absurd (omega (arith, some))
    by (space ∷ text) some = several (first_word names) (words text) (first_word text) (words_behind (behind_word text)) (words_are text)
