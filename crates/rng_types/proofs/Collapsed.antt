-- Collapsed texts and their words.
use Rattle.std.specs.Prelude.{◌≡◌, ℕ, suc, Bool, true, false, cond, not, ◌==◌, ◌&&◌, List, [], ◌∷◌, ◌++◌, length, take, drop}
use Rattle.std.proofs.Common.{refl, sym, ap, ◌∙◌, subst, arith, inl, inr}
use Rattle.std.proofs.lemmas.Bool.{and_parts, and_from, not-true, not_from_false, cases_eq, ne_eqb}
use Rattle.std.specs.List.{list_all, slice_split, onto_first, filter, join_with_byte, AllByRecursion, All, prefix_len, position_or_len}
use Rattle.std.specs.Str.{IsUtf8}
use Rattle.std.proofs.lemmas.Str.{IsUtf8-take}
use Rattle.std.proofs.lemmas.List.Splits.{slice_split-cons_no, slice_split_none, slice_split_at}
use Rattle.std.proofs.lemmas.List.Sums.{AllPass-from_list_all}
use Rattle.nx_base.specs.Characters.{is_space, is_blank}
use Rattle.rng_types.specs.Spaces.{is_some_text, words, collapsed}
use Rattle.rng_types.specs.Words.{is_word}
use Rattle.rng_types.specs.declared.kind.Word.{Word}
use Rattle.rng_types.proofs.Spaced.{is_word-spaced, is_word-empty}
use Rattle.rng_types.proofs.SplitWords.{words-space, words-found, no_words, utf8-leading, cut_before_space}

-- no white space
abbrev pub is_bare : List ℕ → Bool
is_bare text = list_all (λ c. not (is_space c)) text

-- a word: something, and no white space in it
pub record IsBareWord (word : List ℕ) : Type 0 where
  pub some : is_some_text word ≡ true
  pub bare : is_bare word ≡ true

abbrev AreBare : List (List ℕ) → Type 0
AreBare parts = AllByRecursion (λ part. is_bare part ≡ true) parts

onto-bare : (c : ℕ) (parts : List (List ℕ)) → is_space c ≡ false → AreBare parts → AreBare (onto_first c parts)
onto-bare c [] other all = (and_from (not (is_space c)) true (not_from_false _ other) refl, tt)
onto-bare c (part ∷ parts) other all = (and_from (not (is_space c)) (is_bare part) (not_from_false _ other) all.0, all.1)

split-bare_case : (b : Bool) (c : ℕ) (parts : List (List ℕ)) → is_space c ≡ b → AreBare parts → AreBare (cond b ([] ∷ parts) (onto_first c parts))
split-bare_case true c parts space all = (refl, all)
split-bare_case false c parts other all = onto-bare c parts other all

split-bare : (text : List ℕ) → AreBare (slice_split is_space text)
split-bare [] = (refl, tt)
split-bare (c ∷ cs) = split-bare_case (is_space c) c (slice_split is_space cs) refl (split-bare cs)

kept-case : (b : Bool) (part : List ℕ) (rest : List (List ℕ)) → is_some_text part ≡ b → is_bare part ≡ true → AllByRecursion IsBareWord rest → AllByRecursion IsBareWord (cond b (part ∷ rest) rest)
kept-case true part rest some bare all = (record { some = some; bare = bare }, all)
kept-case false part rest none bare all = all

filter-bare : (parts : List (List ℕ)) → AreBare parts → AllByRecursion IsBareWord (filter is_some_text parts)
filter-bare [] all = tt
filter-bare (part ∷ parts) all = kept-case (is_some_text part) part (filter is_some_text parts) refl all.0 (filter-bare parts all.1)

-- each word of a text is one
pub words-are_bare : (text : List ℕ) → AllByRecursion IsBareWord (words text)
words-are_bare text = filter-bare (slice_split is_space text) (split-bare text)

bare-each : (word : List ℕ) → is_bare word ≡ true → All (λ c. is_space c ≡ false) word
bare-each word bare k d h = not-true _ (AllPass-from_list_all (λ c. not (is_space c)) word bare k d h)

pub space_is_space : is_space 32 ≡ true
unfolding is_space
space_is_space = refl

pub word-alone : (word : List ℕ) → IsBareWord word → words word ≡ word ∷ []
word-alone word is = ap (filter is_some_text) (slice_split_none is_space word (bare-each word is.bare)) ∙ rw is.some refl

pub word-first : (word rest : List ℕ) → IsBareWord word → words (word ++ 32 ∷ rest) ≡ word ∷ words rest
word-first word rest is = ap (filter is_some_text) (slice_split_at is_space word 32 rest (bare-each word is.bare) space_is_space) ∙ rw is.some refl

pub words-joined : (ws : List (List ℕ)) → AllByRecursion IsBareWord ws → words (join_with_byte 32 ws) ≡ ws
words-joined [] all = refl
words-joined (x ∷ []) all = word-alone x all.0
words-joined (x ∷ y ∷ more) all = word-first x (join_with_byte 32 (y ∷ more)) all.0 ∙ ap (λ (ws : List (List ℕ)). x ∷ ws) (words-joined (y ∷ more) all.1)

-- collapsing leaves the words as they are
pub words-collapsed : (text : List ℕ) → words (collapsed text) ≡ words text
words-collapsed text = words-joined (words text) (words-are_bare text)

-- so that collapsed texts are the same where the words are
pub words-from_collapsed : (a b : List ℕ) → collapsed a ≡ collapsed b → words a ≡ words b
words-from_collapsed a b same = sym (words-collapsed a) ∙ ap words same ∙ words-collapsed b

-- the first word of a text is text
pub utf8-first_word : (text word : List ℕ) (more : List (List ℕ)) → IsUtf8 text → words text ≡ word ∷ more → IsUtf8 word
utf8-first_word text word more utf8 is =
    let n : ℕ = prefix_len is_space text in
    let rest : List ℕ = drop n text in
    elim (cases_eq n (length text)) [
      | inl blank ↦ absurd (let none : word ∷ more ≡ [] = sym is ∙ no_words text blank in cc)
      | inr some ↦
          let found = words-found text rest refl some in
          let same : word ≡ take (position_or_len is_space rest) rest = cc in
          subst IsUtf8 (sym same) (IsUtf8-take rest (position_or_len is_space rest) (utf8-leading text utf8) (cut_before_space rest))
    ]

-- a text is blank exactly where it has no word
pub words-blank : (text : List ℕ) → is_blank text ≡ true → words text ≡ []
words-blank [] blank = refl
words-blank (c ∷ cs) blank =
    let parts = and_parts (is_space c) (is_blank cs) blank in
    words-space c cs parts.0 ∙ words-blank cs parts.1

pub not_nothing : {X : Type 0} (x : X) (xs : List X) → x ∷ xs ≡ [] → ⊥
not_nothing x xs none = absurd (let h : suc (length xs) ≡ 0 = ap length none in omega (arith, h))

onto-some : (c : ℕ) (parts : List (List ℕ)) → filter is_some_text (onto_first c parts) ≡ [] → ⊥
onto-some c [] none =
    not_nothing (c ∷ []) [] none
onto-some c (part ∷ parts) none =
    let kept : (suc (length part) == 0) ≡ false = ne_eqb (suc (length part)) 0 (λ same. absurd (omega (arith, same))) in
    not_nothing (c ∷ part) (filter is_some_text parts) (rw kept at none)

blank-case : (b : Bool) (c : ℕ) (cs : List ℕ) → is_space c ≡ b → words (c ∷ cs) ≡ [] → (words cs ≡ [] → is_blank cs ≡ true) → (b && is_blank cs) ≡ true
blank-case true c cs space none before = before (sym (words-space c cs space) ∙ none)
blank-case false c cs other none before = absurd (onto-some c (slice_split is_space cs) (ap (filter is_some_text) (sym (slice_split-cons_no is_space c cs other)) ∙ none))

pub blank-no_words : (text : List ℕ) → words text ≡ [] → is_blank text ≡ true
blank-no_words [] none = refl
blank-no_words (c ∷ cs) none = blank-case (is_space c) c cs refl none (blank-no_words cs)

-- no form of a word fits a text with no word, or with more than one
pub no_word_fits : (text : List ℕ) (form : Word) → words text ≡ [] → is_word form (collapsed text) ≡ false
no_word_fits text form none = rw none (is_word-empty form)

pub two_words_fit_none : (text rest word other : List ℕ) (more : List (List ℕ)) (form : Word) → IsUtf8 text → words text ≡ word ∷ words rest → words rest ≡ other ∷ more → is_word form (collapsed text) ≡ false
two_words_fit_none text rest word other more form utf8 first second =
    rw (first, second) (is_word-spaced form word (join_with_byte 32 (other ∷ more)) (utf8-first_word text word (words rest) utf8 first))
