-- Texts of one token with a given value are told rightly.
use Rattle.std.specs.Borrow.{Bor}
use Rattle.std.specs.Prelude.{◌≡◌, ℕ, Bool, true, false, not, List, [], ◌∷◌, ◌++◌, take, drop, length, Option, None, Some, Result, Ok, Err, IfOk, IsTrue, if◌then◌else◌, MatchOption}
use Rattle.std.proofs.Common.{refl, sym, ap, ◌∙◌, subst, inl, inr}
use Rattle.std.proofs.lemmas.Bool.{and_parts, and_from, and_right, false≢true, cases_eq, not_from_true, false_from_ne_true}
use Rattle.std.proofs.lemmas.List.{take-append-drop}
use Rattle.std.proofs.lemmas.List.Folds.{list_all-append}
use Rattle.std.proofs.lemmas.Str.{IsUtf8-take, IsUtf8-from_is_utf8, is_utf8-from_IsUtf8, chars-append}
use Rattle.std.specs.List.{list_all, join_with_byte, prefix_len, position_or_len, AllByRecursion}
use Rattle.std.specs.Str.{chars, is_utf8, IsUtf8}
use Rattle.std.specs.Ordering.{nat_cmp}
use Rattle.nx_base.specs.Characters.{is_space, is_blank, is_char, is_of_chars}
use Rattle.rng_more_types.specs.declared.more_type.MoreType.{MoreType}
use Rattle.rng_more_types.specs.Spaces.{unspaced}
use Rattle.rng_types.specs.Spaces.{is_some_text, words, collapsed, replaced_char, replaced, normalized}
use Rattle.rng_types.specs.Words.{is_word, has_form, whitespace_of}
use Rattle.rng_types.specs.Facets.{holds, octet_count, meets}
use Rattle.rng_types.specs.Types.{seen_by, Accepts, SameWord, SameOfForm}
use Rattle.rng_types.specs.Members.{is_one_token}
use Rattle.rng_types.specs.OneToken.{IsOneTokenOf, IsOneTokenAnswer, OneTokensExist, tight, token_or_none, one_token_of}
use Rattle.rng_types.specs.declared.kind.Whitespace.{Whitespace}
use Rattle.rng_types.specs.declared.kind.Whitespace.TheVariants.{Preserve, Replace, Collapse}
use Rattle.rng_types.specs.declared.kind.Word.{Word}
use Rattle.rng_types.specs.declared.kind.Word.TheVariants.{Name, NcName, NmToken, Language, Boolean, Decimal, Integer}
use Rattle.rng_types.specs.declared.kind.Form.{Form}
use Rattle.rng_types.specs.declared.kind.Form.TheVariants.{Any, One, Several, More}
use Rattle.rng_types.specs.declared.facet.Facet.{Facet}
use Rattle.rng_types.specs.declared.facet.Facet.TheVariants.{Length, Bound}
use Rattle.rng_types.specs.declared.datatype.Datatype.{Datatype}
use Rattle.rng_types.proofs.Blank.{space-case}
use Rattle.rng_types.proofs.Spaced.{all-stops}
use Rattle.rng_types.proofs.SplitWords.{words-found, no_words, utf8-leading, cut_behind_leading, cut_before_space}
use Rattle.rng_types.proofs.Collapsed.{is_bare, IsBareWord, words-are_bare, words-collapsed, word-alone, words-joined, words-blank, space_is_space, utf8-first_word, not_nothing, no_word_fits, two_words_fit_none}
use Rattle.rng_types.proofs.Plain.{replaced-bare, seen-plain}
use Rattle.rng_types.proofs.Numeric.{typed, all_same}
use Rattle.rng_types.proofs.Spaceless.{bare-unspaced, blank-unspaced, characters-unspaced}
use Rattle.rng_types.proofs.MoreLaws.{IsTight, tight_literal, blank_alike as more_blank_alike}

pub token_word : (text : List ℕ) → is_one_token text ≡ true → IsBareWord text
token_word text token = let parts = and_parts (is_some_text text) (is_bare text) token in record { some = parts.0; bare = parts.1 }

-- the characters of a text's first word are the text's
chars_second : (a b : List ℕ) → IsUtf8 a → list_all is_char (chars (a ++ b)) ≡ true → (list_all is_char (chars a) ≡ true) × (list_all is_char (chars b) ≡ true)
chars_second a b utf8 all =
    and_parts (list_all is_char (chars a)) (list_all is_char (chars b)) (sym (list_all-append is_char (chars a) (chars b)) ∙ ap (list_all is_char) (sym (chars-append a b utf8)) ∙ all)

pub characters_first_word : (text word : List ℕ) (more : List (List ℕ)) → is_of_chars text ≡ true → words text ≡ word ∷ more → is_of_chars word ≡ true
characters_first_word text word more of is =
    let parts = and_parts (is_utf8 text) (list_all is_char (chars text)) of in
    let utf8 = IsUtf8-from_is_utf8 text parts.0 in
    let p : ℕ = prefix_len is_space text in
    let rest : List ℕ = drop p text in
    let n : ℕ = position_or_len is_space rest in
    elim (cases_eq p (length text)) [
      | inl blank ↦ absurd (not_nothing word more (sym is ∙ no_words text blank))
      | inr some ↦
          let found = words-found text rest refl some in
          let same : word ≡ take n rest = cc in
          let split : take p text ++ rest ≡ text = take-append-drop p text in
          let behind = chars_second (take p text) rest (IsUtf8-take text p utf8 (cut_behind_leading text utf8)) (ap (λ (t : List ℕ). list_all is_char (chars t)) split ∙ parts.1) in
          let front : take n rest ++ drop n rest ≡ rest = take-append-drop n rest in
          let first = chars_second (take n rest) (drop n rest) (IsUtf8-take rest n (utf8-leading text utf8) (cut_before_space rest)) (ap (λ (t : List ℕ). list_all is_char (chars t)) front ∙ behind.1) in
          and_from _ _ (is_utf8-from_IsUtf8 word (utf8-first_word text word more utf8 is)) (ap (λ (t : List ℕ). list_all is_char (chars t)) same ∙ first.0)
    ]

-- replacing white space leaves a token only where there was none
bare-replaced : (text : List ℕ) → is_bare (replaced text) ≡ is_bare text
bare-replaced [] = refl
bare-replaced (c ∷ cs) =
    let first : is_space (replaced_char c) ≡ is_space c = space-case (is_space c) c refl in
    rw (first, bare-replaced cs) refl

pub replaced_token : (text : List ℕ) → is_one_token (replaced text) ≡ true → replaced text ≡ text
replaced_token text token =
    let word = token_word (replaced text) token in
    replaced-bare text (sym (bare-replaced text) ∙ word.bare)

seen_characters : (whitespace : Whitespace) (value : List ℕ) → is_of_chars value ≡ true → is_one_token (normalized whitespace value) ≡ true → is_of_chars (normalized whitespace value) ≡ true
seen_characters Preserve value of token = of
seen_characters Replace value of token = ap is_of_chars (replaced_token value token) ∙ of
seen_characters Collapse value of token =
    characters_first_word value (collapsed value) [] of (sym (words-collapsed value) ∙ word-alone (collapsed value) (token_word (collapsed value) token))

same_word_itself : (word : Word) (a : List ℕ) → SameWord word a a
same_word_itself Boolean a = refl
same_word_itself Decimal a = refl
same_word_itself Integer a = refl
same_word_itself Name a = refl
same_word_itself NcName a = refl
same_word_itself NmToken a = refl
same_word_itself Language a = refl

token_found : (type : Datatype) (value : List ℕ) → SameOfForm type.form (seen_by type value) (seen_by type value) → Accepts type value → is_one_token (seen_by type value) ≡ true → IsOneTokenOf type value (seen_by type value)
token_found type value itself accepted token =
    let text : List ℕ = seen_by type value in
    let seen : seen_by type text ≡ text = seen-plain type text (token_word text token) in
    let P : List ℕ → Type 0 = λ t. SameOfForm type.form t text in
    record {
      token = token;
      accepted = record {
        form = ap (has_form type.form) seen ∙ accepted.form;
        facets = ap (λ (t : List ℕ). list_all (meets type.form t) type.facets) seen ∙ accepted.facets;
      };
      same = subst P (sym seen) itself;
    }

-- what has the form of a word is one token
word_case : (value : List ℕ) (word : Word) (ws : List (List ℕ)) → IsUtf8 value → words value ≡ ws → AllByRecursion IsBareWord ws → is_word word (collapsed value) ≡ true → is_one_token (join_with_byte 32 ws) ≡ true
word_case value word [] utf8 is bare fits = absurd (false≢true (sym (no_word_fits value word is) ∙ fits))
word_case value word (w ∷ []) utf8 is bare fits = and_from _ _ bare.0.some bare.0.bare
word_case value word (w ∷ x ∷ more) utf8 is bare fits =
    let rest : List ℕ = join_with_byte 32 (x ∷ more) in
    let behind : words rest ≡ x ∷ more = words-joined (x ∷ more) bare.1 in
    let first : words value ≡ w ∷ words rest = is ∙ ap (λ (ws : List (List ℕ)). w ∷ ws) (sym behind) in
    absurd (false≢true (sym (two_words_fit_none value rest w x more word utf8 first behind) ∙ fits))

word_is_token : (value : List ℕ) (word : Word) → IsUtf8 value → is_word word (collapsed value) ≡ true → is_one_token (collapsed value) ≡ true
word_is_token value word utf8 fits = word_case value word (words value) utf8 refl (words-are_bare value) fits

text_alike : (type : Datatype) (value text : List ℕ) → is_one_token text ≡ true → seen_by type text ≡ seen_by type value → is_one_token (seen_by type value) ≡ true
text_alike type value text token same = ap is_one_token (sym same ∙ seen-plain type text (token_word text token)) ∙ token

-- so that there is none only where the value's text isn't one
abbrev NoOther : Datatype → List ℕ → Type 0
NoOther type value = (text : List ℕ) → is_one_token text ≡ true → SameOfForm type.form (seen_by type text) (seen_by type value) → is_one_token (seen_by type value) ≡ true

answer_case : (b : Bool) (type : Datatype) (value : List ℕ) → is_one_token (seen_by type value) ≡ b → SameOfForm type.form (seen_by type value) (seen_by type value) → NoOther type value → Accepts type value → is_of_chars value ≡ true →
    IsOneTokenAnswer type value (if b then Some (seen_by type value) else None)
answer_case true type value is itself other accepted of = (seen_characters (whitespace_of type.form) value of is, token_found type value itself accepted is)
answer_case false type value is itself other accepted of = λ text utf8 found. false≢true (sym is ∙ other text found.token found.same)

-- the same of dates, times and octets, without the white space inside
met_alike : (more : MoreType) (a b : List ℕ) → octet_count more a ≡ octet_count more b → (facet : Facet) → meets (More more) a facet ≡ meets (More more) b facet
met_alike more a b same (Length relation limit) = ap (λ n. holds relation (nat_cmp n limit)) same
met_alike more a b same (Bound relation limit) = refl

more_found : (more : MoreType) (facets : List Facet) (value : List ℕ) → IsTight more value (unspaced value) → Accepts (typed (More more) facets) value → is_one_token (unspaced value) ≡ true →
    IsOneTokenOf (typed (More more) facets) value (unspaced value)
more_found more facets value is accepted token = record {
  token = token;
  accepted = record {
    form = is.literal;
    facets = all_same (meets (More more) (unspaced value)) (meets (More more) value) (met_alike more (unspaced value) value is.count) facets ∙ accepted.facets;
  };
  same = is.same;
}

token_not_blank : (text : List ℕ) → is_one_token text ≡ true → is_blank text ≡ true → ⊥
token_not_blank text token blank = not_nothing text [] (sym (word-alone text (token_word text token)) ∙ words-blank text blank)

more_case : (b : Bool) (more : MoreType) (facets : List Facet) (value : List ℕ) → is_one_token (unspaced value) ≡ b → Accepts (typed (More more) facets) value → is_of_chars value ≡ true →
    IsOneTokenAnswer (typed (More more) facets) value (if b then Some (unspaced value) else None)
more_case true more facets value is accepted of = (characters-unspaced value of, more_found more facets value (tight_literal more value accepted.form) accepted is)
more_case false more facets value is accepted of = λ text utf8 found.
    let none : is_some_text (unspaced value) ≡ false = false_from_ne_true _ (λ some. false≢true (sym is ∙ and_from _ _ some (bare-unspaced value))) in
    token_not_blank text found.token (more_blank_alike more text value found.accepted.form accepted.form found.same ∙ blank-unspaced value none)

form_case : (form : Form) (facets : List Facet) (value : List ℕ) → Accepts (typed form facets) value → is_of_chars value ≡ true →
    IsOneTokenAnswer (typed form facets) value (token_or_none (tight form (normalized (whitespace_of form) value)))
form_case (Any whitespace) facets value accepted of =
    let type = typed (Any whitespace) facets in
    answer_case (is_one_token (seen_by type value)) type value refl refl (λ text token same. text_alike type value text token same) accepted of
form_case (One word) facets value accepted of =
    let type = typed (One word) facets in
    let utf8 = IsUtf8-from_is_utf8 value (and_parts (is_utf8 value) (list_all is_char (chars value)) of).0 in
    answer_case (is_one_token (collapsed value)) type value refl (same_word_itself word (collapsed value)) (λ text token same. word_is_token value word utf8 accepted.form) accepted of
form_case (Several word) facets value accepted of =
    let type = typed (Several word) facets in
    answer_case (is_one_token (seen_by type value)) type value refl refl (λ text token same. text_alike type value text token same) accepted of
form_case (More more) facets value accepted of = more_case (is_one_token (unspaced value)) more facets value refl accepted of

pub one_tokens_exist : OneTokensExist
one_tokens_exist type value accepted of = form_case type.form type.facets value accepted of

-- what `tight_token` answers
pub solid_token : (text kept : List ℕ) → kept ≡ unspaced text → is_some_text kept ≡ true → Some kept ≡ token_or_none (unspaced text)
solid_token text kept same some =
    let token : is_one_token (unspaced text) ≡ true = and_from _ _ (ap is_some_text (sym same) ∙ some) (bare-unspaced text) in
    rw token (ap (λ (t : List ℕ). Some t) same)

-- what `as_one_token` answers
pub answer_told : {E : Type 0} (result : Result (Option (List ℕ)) E) (type : Datatype) (value : List ℕ) → IfOk result (λ found. found ≡ one_token_of type value) →
    IfOk result (λ found. Accepts type value → IsTrue (is_of_chars value) → IsOneTokenAnswer type value found)
answer_told (Ok found) type value is = λ accepted of.
    let P : Option (List ℕ) → Type 0 = λ answer. IsOneTokenAnswer type value answer in
    subst P (sym is) (one_tokens_exist type value accepted of)
answer_told (Err e) type value is = tt

-- the answers of `lone_word`
pub no_word_no_token : (text : List ℕ) → words text ≡ [] → is_one_token (collapsed text) ≡ false
no_word_no_token text none = ap (λ (ws : List (List ℕ)). is_one_token (join_with_byte 32 ws)) none

pub lone_is_token : (text word rest : List ℕ) → words text ≡ word ∷ words rest → words rest ≡ [] → (is_one_token (collapsed text) ≡ true) × (word ≡ collapsed text)
lone_is_token text word rest first none =
    let is : words text ≡ word ∷ [] = first ∙ ap (λ (ws : List (List ℕ)). word ∷ ws) none in
    let P : List (List ℕ) → Type 0 = λ ws. AllByRecursion IsBareWord ws in
    let bare : AllByRecursion IsBareWord (word ∷ []) = subst P is (words-are_bare text) in
    let same : collapsed text ≡ word = ap (join_with_byte 32) is in
    (ap is_one_token same ∙ and_from _ _ bare.0.some bare.0.bare, sym same)

pub two_no_token : (text word rest other : List ℕ) (more : List (List ℕ)) → words text ≡ word ∷ words rest → words rest ≡ other ∷ more → is_one_token (collapsed text) ≡ false
two_no_token text word rest other more first second =
    let is : words text ≡ word ∷ other ∷ more = first ∙ ap (λ (ws : List (List ℕ)). word ∷ ws) second in
    ap (λ (ws : List (List ℕ)). is_one_token (join_with_byte 32 ws)) is
    ∙ and_right (is_some_text (word ++ 32 ∷ join_with_byte 32 (other ∷ more))) (is_bare (word ++ 32 ∷ join_with_byte 32 (other ∷ more)))
    (all-stops (λ c. not (is_space c)) word (join_with_byte 32 (other ∷ more)) 32 (not_from_true _ space_is_space))

-- a text that is one token is so after replacing, and the other way round
abbrev pub IsToken : Option (Bor (List ℕ)) → List ℕ → Type 0
IsToken found text = MatchOption found (is_one_token text ≡ false) (λ word. (is_one_token text ≡ true) × (word.now ≡ text))

replaced_case : (found : Option (Bor (List ℕ))) (text : List ℕ) → IsToken found text → IsToken found (replaced text)
replaced_case None text none = false_from_ne_true _ (λ token. false≢true (sym none ∙ ap is_one_token (sym (replaced_token text token)) ∙ token))
replaced_case (Some word) text token =
    let same : replaced text ≡ text = replaced-bare text (token_word text token.0).bare in
    (ap is_one_token same ∙ token.0, token.1 ∙ sym same)

pub replaced_answer : (found : Option (Bor (List ℕ))) (whitespace : Whitespace) (text : List ℕ) → whitespace ≡ Replace → IsToken found text → IsToken found (normalized whitespace text)
replaced_answer found whitespace text is token =
    let P : Whitespace → Type 0 = λ w. IsToken found (normalized w text) in
    subst P (sym is) (replaced_case found text token)
