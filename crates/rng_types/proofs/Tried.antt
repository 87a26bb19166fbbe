-- A member is among the texts that are tried, where there is one.
use Rattle.std.specs.Prelude.{◌≡◌, ℕ, zero, suc, ◌+◌, ◌<◌, ◌≤◌, Bool, true, false, not, ◌&&◌, ◌||◌, List, [], ◌∷◌, ◌++◌, length, Option, None, Some, is_some, codes, MatchOption, encode_utf8, replicate}
use Rattle.std.proofs.Common.{subst, refl, sym, ap, ◌∙◌, arith, inl, inr, append_assoc, append-nil}
use Rattle.std.proofs.lemmas.Bool.{and_parts, and_from, or_cases, cases_eq, false≢true}
use Rattle.std.proofs.lemmas.Str.{encode_ascii}
use Rattle.std.specs.Str.{encode_utf8_all}
use Rattle.nx_base.specs.Characters.{is_of_chars}
use Rattle.rng_types.specs.Answers.{is_accepted, is_left}
use Rattle.rng_types.specs.Members.{is_one_token}
use Rattle.rng_types.specs.WellMade.{is_list_word, is_well_made}
use Rattle.rng_types.specs.TextMembers.{allows, least_length, has_length, is_empty_left, has_text, truths}
use Rattle.rng_types.specs.MemberTest.{has_member}
use Rattle.rng_types.specs.Giving.{IsMemberAnswer, is_member, word_of, pad, many, tail, tag, words_asked}
use Rattle.rng_types.specs.declared.kind.Whitespace.{Whitespace}
use Rattle.rng_types.specs.declared.kind.Form.{Form}
use Rattle.rng_types.specs.declared.kind.Form.TheVariants.{Any, One, Several}
use Rattle.rng_types.specs.declared.kind.Word.{Word}
use Rattle.rng_types.specs.declared.kind.Word.TheVariants.{Name, NcName, NmToken, Language, Boolean, Decimal, Integer}
use Rattle.rng_types.specs.declared.facet.Facet.{Facet}
use Rattle.rng_types.specs.declared.facet.Facet.TheVariants.{Length, Bound}
use Rattle.rng_types.specs.declared.datatype.Datatype.{Datatype}
use Rattle.rng_types.specs.declared.datatype.Except.{Except}
use Rattle.rng_types.proofs.Deciding.{accepts_decided, left_decided}
use Rattle.rng_types.proofs.Numeric.{typed}
use Rattle.rng_types.proofs.Beside.{IsLeftText, LeavesOne}
use Rattle.rng_types.proofs.Exist.{members_exist}
use Rattle.rng_types.proofs.Texts.{TakesLetters, letters_one, any_takes, empty_one}
use Rattle.rng_types.proofs.Listed.{TakesNames, names, nc_names, nm_tokens, words_one, language_one}
use Rattle.rng_types.proofs.Allowed.{least_some}
use Rattle.rng_types.proofs.Truths.{truth_one}
use Rattle.rng_types.proofs.Within.{In}

token_out : (b t : Bool) → (not b || t) ≡ true → b ≡ true → t ≡ true
token_out true t h asked = h
token_out false t h asked = absurd (false≢true asked)

token_in : (b t : Bool) → (b ≡ true → t ≡ true) → (not b || t) ≡ true
token_in true t h = h refl
token_in false t h = refl

-- a text that passes is a member, and a member passes
passing : (type : Datatype) (excepts : List Except) (one_token : Bool) (text : List ℕ) → is_member type excepts one_token text ≡ true → IsMemberAnswer type excepts one_token (Some text)
passing type excepts one_token text is =
    let a = and_parts (is_of_chars text) _ is in
    let b = and_parts (is_accepted type text) _ a.1 in
    let c = and_parts (is_left type excepts text) _ b.1 in (
      a.0,
      record {
        accepted = (accepts_decided type text).0 b.0;
        left = (left_decided type text excepts).0 c.0;
        token = λ asked. token_out one_token (is_one_token text) c.1 asked;
      },
    )

passes : (type : Datatype) (excepts : List Except) (one_token : Bool) (text : List ℕ) → IsLeftText is_of_chars type excepts one_token text → is_member type excepts one_token text ≡ true
passes type excepts one_token text w =
    and_from _ _ w.characters (and_from _ _ ((accepts_decided type text).1 w.accepted) (and_from _ _ w.left (token_in one_token (is_one_token text) w.token)))

-- so the first that passes is the answer, and none only where none of them can be a member
pub given : (type : Datatype) (excepts : List Except) (one_token : Bool) (candidate : ℕ → List ℕ) (found : Option (List ℕ)) → is_well_made type ≡ true → length excepts ≤ 129
    → MatchOption found ((i : ℕ) → i < 130 → is_member type excepts one_token (candidate i) ≡ false) (λ text. is_member type excepts one_token text ≡ true)
    → (has_member type excepts one_token ≡ true → LeavesOne type excepts one_token candidate 130) → IsMemberAnswer type excepts one_token found
given type excepts one_token candidate None made few fail one = λ has.
    let w = one ((members_exist type excepts one_token made few).1 has) in
    false≢true (sym (fail w.at w.below) ∙ passes type excepts one_token (candidate w.at) w.is)
given type excepts one_token candidate (Some text) made few is one = passing type excepts one_token text is

-- ---- texts

letters_at : (form : Form) (whitespace : Whitespace) (facets : List Facet) (excepts : List Except) (one_token : Bool) → form ≡ Any whitespace → is_well_made (typed form facets) ≡ true → length excepts ≤ 129 → has_length facets ≡ true
    → LeavesOne (typed form facets) excepts one_token (λ i. word_of (least_length facets) (256 + i)) 130
letters_at form whitespace facets excepts one_token is made few has =
    let P : Form → Type 0 = λ f. is_well_made (typed f facets) ≡ true → LeavesOne (typed f facets) excepts one_token (λ i. word_of (least_length facets) (256 + i)) 130 in
    subst P (sym is) (λ suit. letters_one (Any whitespace) facets excepts one_token (any_takes whitespace) suit few has) made

pub letters_left : (type : Datatype) (whitespace : Whitespace) (excepts : List Except) (one_token : Bool) → type.form ≡ Any whitespace → is_well_made type ≡ true → length excepts ≤ 129 → has_length type.facets ≡ true
    → LeavesOne type excepts one_token (λ i. word_of (least_length type.facets) (256 + i)) 130
letters_left type whitespace excepts one_token is made few has = letters_at type.form whitespace type.facets excepts one_token is made few has

-- where no length from 1 on is allowed, the empty text is left, or one of spaces
empty_case : (whitespace : Whitespace) (facets : List Facet) (excepts : List Except) (one_token : Bool) → is_well_made (typed (Any whitespace) facets) ≡ true → length excepts ≤ 129 → has_length facets ≡ false
    → has_text whitespace (typed (Any whitespace) facets) excepts one_token ≡ true → LeavesOne (typed (Any whitespace) facets) excepts one_token (λ i. pad i []) 130
empty_case whitespace facets excepts one_token suit few none has = elim (or_cases (has_length facets) _ has) [
  | inl some ↦ absurd (false≢true (sym none ∙ some))
  | inr empty ↦ after one_token empty
]
  where
    after : (asked : Bool) → (not asked && (allows facets 0 && is_empty_left whitespace (typed (Any whitespace) facets) excepts)) ≡ true → LeavesOne (typed (Any whitespace) facets) excepts asked (λ i. pad i []) 130
    after true h = absurd (false≢true h)
    after false h = let parts = and_parts (allows facets 0) _ h in empty_one whitespace facets excepts few suit parts.0 parts.1

empty_at : (form : Form) (whitespace : Whitespace) (facets : List Facet) (excepts : List Except) (one_token : Bool) → form ≡ Any whitespace → is_well_made (typed form facets) ≡ true → length excepts ≤ 129 → has_length facets ≡ false
    → has_member (typed form facets) excepts one_token ≡ true → LeavesOne (typed form facets) excepts one_token (λ i. pad i []) 130
empty_at form whitespace facets excepts one_token is made few none has =
    let P : Form → Type 0 = λ f. is_well_made (typed f facets) ≡ true → has_member (typed f facets) excepts one_token ≡ true → LeavesOne (typed f facets) excepts one_token (λ i. pad i []) 130 in
    subst P (sym is) (λ suit some. empty_case whitespace facets excepts one_token suit few none some) made has

pub empty_found : (type : Datatype) (whitespace : Whitespace) (excepts : List Except) (one_token : Bool) → type.form ≡ Any whitespace → is_well_made type ≡ true → length excepts ≤ 129 → has_length type.facets ≡ false
    → has_member type excepts one_token ≡ true → LeavesOne type excepts one_token (λ i. pad i []) 130
empty_found type whitespace excepts one_token is made few none has = empty_at type.form whitespace type.facets excepts one_token is made few none has

-- ---- texts that are made letter by letter

encodes_more : (n c : ℕ) → encode_utf8_all (replicate n c) ++ encode_utf8 c ≡ encode_utf8_all (replicate (suc n) c)
encodes_more zero c = sym (append-nil (encode_utf8 c))
encodes_more (suc n) c = append_assoc (encode_utf8 c) (encode_utf8_all (replicate n c)) (encode_utf8 c) ∙ ap (λ (t : List ℕ). encode_utf8 c ++ t) (encodes_more n c)

pub word_more : (n m c : ℕ) (text more : List ℕ) → m ≡ n + 1 → text ≡ word_of n c → more ≡ text ++ encode_utf8 c → more ≡ word_of m c
unfolding word_of
word_more n m c text more next is so =
    let same : m ≡ suc n = omega (arith, next) in
    so ∙ ap (λ (t : List ℕ). t ++ encode_utf8 c) is ∙ encodes_more n c ∙ ap (λ (k : ℕ). encode_utf8_all (replicate k c)) (sym same)

pub word_none : (c : ℕ) → word_of 0 c ≡ []
unfolding word_of
word_none c = refl

pads_more : (n : ℕ) → pad n [] ++ 32 ∷ [] ≡ pad (suc n) []
unfolding pad
pads_more zero = refl
pads_more (suc n) = ap (λ (t : List ℕ). 32 ∷ t) (pads_more n)

pub pad_more : (n m : ℕ) (text more : List ℕ) → m ≡ n + 1 → text ≡ pad n [] → more ≡ text ++ encode_utf8 32 → more ≡ pad m []
pad_more n m text more next is so =
    let same : m ≡ suc n = omega (arith, next) in
    so ∙ ap (λ (t : List ℕ). t ++ encode_utf8 32) is ∙ ap (λ (t : List ℕ). pad n [] ++ t) (encode_ascii 32 (omega arith)) ∙ pads_more n ∙ ap (λ (k : ℕ). pad k []) (sym same)

pub pad_none : pad 0 [] ≡ []
unfolding pad
pad_none = refl

pads_before : (n : ℕ) (text : List ℕ) → pad n [] ++ text ≡ pad n text
unfolding pad
pads_before zero text = refl
pads_before (suc n) text = ap (λ (t : List ℕ). 32 ∷ t) (pads_before n text)

pub pad_whole : (n : ℕ) (text spaces whole : List ℕ) → spaces ≡ pad n [] → whole ≡ spaces ++ text → whole ≡ pad n text
pad_whole n text spaces whole is so = so ∙ ap (λ (t : List ℕ). t ++ text) is ∙ pads_before n text

-- ---- one after another

-- one more that fails
pub more_fail : (test : List ℕ → Bool) (candidate : ℕ → List ℕ) (n : ℕ) (text : List ℕ) (b : Bool) → ((i : ℕ) → i < n → test (candidate i) ≡ false) → text ≡ candidate n → b ≡ test text → b ≡ false
    → (i : ℕ) → i < n + 1 → test (candidate i) ≡ false
more_fail test candidate n text b before is told fails i below = elim (cases_eq i n) [
  | inl same ↦ ap (λ (k : ℕ). test (candidate k)) same ∙ ap test (sym is) ∙ sym told ∙ fails
  | inr other ↦ before i (omega (arith, below, other))
]

pub one_passes : (test : List ℕ → Bool) (text given : List ℕ) (b : Bool) → given ≡ text → b ≡ test text → b ≡ true → test given ≡ true
one_passes test text given b is told passes = ap test is ∙ sym told ∙ passes

-- the answer of the words of one letter, and that of the empty text and spaces
pub letters_given : (type : Datatype) (whitespace : Whitespace) (excepts : List Except) (one_token : Bool) (count : ℕ) (found : Option (List ℕ)) → type.form ≡ Any whitespace → is_well_made type ≡ true → length excepts ≤ 129
    → has_length type.facets ≡ true → count ≡ least_length type.facets
    → MatchOption found ((i : ℕ) → i < 130 → is_member type excepts one_token (word_of count (256 + i)) ≡ false) (λ text. is_member type excepts one_token text ≡ true)
    → IsMemberAnswer type excepts one_token found
letters_given type whitespace excepts one_token count found is made few has same told =
    given type excepts one_token (λ i. word_of count (256 + i)) found made few told
    (λ some. let P : ℕ → Type 0 = λ k. LeavesOne type excepts one_token (λ i. word_of k (256 + i)) 130 in subst P (sym same) (letters_left type whitespace excepts one_token is made few has))

pub empty_given : (type : Datatype) (whitespace : Whitespace) (excepts : List Except) (one_token : Bool) (found : Option (List ℕ)) → type.form ≡ Any whitespace → is_well_made type ≡ true → length excepts ≤ 129
    → has_length type.facets ≡ false
    → MatchOption found ((i : ℕ) → i < 130 → is_member type excepts one_token (pad i []) ≡ false) (λ text. is_member type excepts one_token text ≡ true)
    → IsMemberAnswer type excepts one_token found
empty_given type whitespace excepts one_token found is made few none told =
    given type excepts one_token (λ i. pad i []) found made few told (λ some. empty_found type whitespace excepts one_token is made few none some)

-- ---- names

-- nothing is a member where the test says so
pub none_given : (type : Datatype) (excepts : List Except) (one_token : Bool) → is_well_made type ≡ true → length excepts ≤ 129 → has_member type excepts one_token ≡ false → IsMemberAnswer type excepts one_token None
none_given type excepts one_token made few none has = false≢true (sym none ∙ (members_exist type excepts one_token made few).1 has)

word_letters : (word : Word) → is_list_word word ≡ true → TakesLetters (One word)
word_letters Name is = names.letters
word_letters NcName is = nc_names.letters
word_letters NmToken is = nm_tokens.letters
word_letters Language is = absurd (false≢true is)
word_letters Boolean is = absurd (false≢true is)
word_letters Decimal is = absurd (false≢true is)
word_letters Integer is = absurd (false≢true is)

word_length : (word : Word) (facets : List Facet) (excepts : List Except) (one_token : Bool) → is_list_word word ≡ true → has_member (typed (One word) facets) excepts one_token ≡ has_length facets
word_length Name facets excepts one_token is = refl
word_length NcName facets excepts one_token is = refl
word_length NmToken facets excepts one_token is = refl
word_length Language facets excepts one_token is = absurd (false≢true is)
word_length Boolean facets excepts one_token is = absurd (false≢true is)
word_length Decimal facets excepts one_token is = absurd (false≢true is)
word_length Integer facets excepts one_token is = absurd (false≢true is)

name_at : (form : Form) (word : Word) (facets : List Facet) (excepts : List Except) (one_token : Bool) → form ≡ One word → is_list_word word ≡ true → is_well_made (typed form facets) ≡ true → length excepts ≤ 129 → has_length facets ≡ true
    → LeavesOne (typed form facets) excepts one_token (λ i. word_of (least_length facets) (256 + i)) 130
name_at form word facets excepts one_token is name made few has =
    let P : Form → Type 0 = λ f. is_well_made (typed f facets) ≡ true → LeavesOne (typed f facets) excepts one_token (λ i. word_of (least_length facets) (256 + i)) 130 in
    subst P (sym is) (λ suit. letters_one (One word) facets excepts one_token (word_letters word name) suit few has) made

pub name_given : (type : Datatype) (word : Word) (excepts : List Except) (one_token : Bool) (count : ℕ) (found : Option (List ℕ)) → type.form ≡ One word → is_list_word word ≡ true → is_well_made type ≡ true → length excepts ≤ 129
    → has_length type.facets ≡ true → count ≡ least_length type.facets
    → MatchOption found ((i : ℕ) → i < 130 → is_member type excepts one_token (word_of count (256 + i)) ≡ false) (λ text. is_member type excepts one_token text ≡ true)
    → IsMemberAnswer type excepts one_token found
name_given type word excepts one_token count found is name made few has same told =
    given type excepts one_token (λ i. word_of count (256 + i)) found made few told
    (λ some. let P : ℕ → Type 0 = λ k. LeavesOne type excepts one_token (λ i. word_of k (256 + i)) 130 in subst P (sym same) (name_at type.form word type.facets excepts one_token is name made few has))

no_name_at : (form : Form) (word : Word) (facets : List Facet) (excepts : List Except) (one_token : Bool) → form ≡ One word → is_list_word word ≡ true → has_length facets ≡ false → has_member (typed form facets) excepts one_token ≡ false
no_name_at form word facets excepts one_token is name none =
    let P : Form → Type 0 = λ f. has_member (typed f facets) excepts one_token ≡ false in
    subst P (sym is) (word_length word facets excepts one_token name ∙ none)

pub no_name_given : (type : Datatype) (word : Word) (excepts : List Except) (one_token : Bool) → type.form ≡ One word → is_list_word word ≡ true → is_well_made type ≡ true → length excepts ≤ 129 → has_length type.facets ≡ false
    → IsMemberAnswer type excepts one_token None
no_name_given type word excepts one_token is name made few none =
    none_given type excepts one_token made few (no_name_at type.form word type.facets excepts one_token is name none)

-- ---- truth values

-- each candidate of a list of literals fails
abbrev pub AllFail : Datatype → List Except → Bool → List ℕ → Type 0
AllFail type excepts one_token text = (i : ℕ) → i < 130 → is_member type excepts one_token (pad i text) ≡ false

truth_at_one : (facets : List Facet) (excepts : List Except) (one_token : Bool) → is_well_made (typed (One Boolean) facets) ≡ true → length excepts ≤ 129 → has_member (typed (One Boolean) facets) excepts one_token ≡ true
    → (text : List ℕ) × (In text truths) × LeavesOne (typed (One Boolean) facets) excepts one_token (λ i. pad i text) 130
truth_at_one [] excepts one_token made few has = truth_one excepts one_token few has
truth_at_one (Length relation limit ∷ facets) excepts one_token made few has = absurd (false≢true made)
truth_at_one (Bound relation limit ∷ facets) excepts one_token made few has = absurd (false≢true made)

fails_all : (type : Datatype) (excepts : List Except) (one_token : Bool) → AllFail type excepts one_token (codes "true") → AllFail type excepts one_token (codes "1") → AllFail type excepts one_token (codes "false")
    → AllFail type excepts one_token (codes "0") → (text : List ℕ) → In text truths → AllFail type excepts one_token text
fails_all type excepts one_token a b c d text (inl same) = let P : List ℕ → Type 0 = λ t. AllFail type excepts one_token t in subst P (sym same) a
fails_all type excepts one_token a b c d text (inr (inl same)) = let P : List ℕ → Type 0 = λ t. AllFail type excepts one_token t in subst P (sym same) b
fails_all type excepts one_token a b c d text (inr (inr (inl same))) = let P : List ℕ → Type 0 = λ t. AllFail type excepts one_token t in subst P (sym same) c
fails_all type excepts one_token a b c d text (inr (inr (inr (inl same)))) = let P : List ℕ → Type 0 = λ t. AllFail type excepts one_token t in subst P (sym same) d
fails_all type excepts one_token a b c d text (inr (inr (inr (inr none)))) = absurd none

truth_found : (form : Form) (facets : List Facet) (excepts : List Except) (one_token : Bool) → form ≡ One Boolean → is_well_made (typed form facets) ≡ true → length excepts ≤ 129 → has_member (typed form facets) excepts one_token ≡ true
    → (text : List ℕ) × (In text truths) × LeavesOne (typed form facets) excepts one_token (λ i. pad i text) 130
truth_found form facets excepts one_token is made few has =
    let P : Form → Type 0 = λ f. is_well_made (typed f facets) ≡ true → has_member (typed f facets) excepts one_token ≡ true
    → (text : List ℕ) × (In text truths) × LeavesOne (typed f facets) excepts one_token (λ i. pad i text) 130 in
    subst P (sym is) (λ suit some. truth_at_one facets excepts one_token suit few some) made has

no_truth_given : (type : Datatype) (excepts : List Except) (one_token : Bool) → type.form ≡ One Boolean → is_well_made type ≡ true → length excepts ≤ 129
    → AllFail type excepts one_token (codes "true") → AllFail type excepts one_token (codes "1") → AllFail type excepts one_token (codes "false") → AllFail type excepts one_token (codes "0")
    → IsMemberAnswer type excepts one_token None
no_truth_given type excepts one_token is made few a b c d has =
    let w = truth_found type.form type.facets excepts one_token is made few ((members_exist type excepts one_token made few).1 has) in
    false≢true (sym (fails_all type excepts one_token a b c d w.0 w.1 w.2.at w.2.below) ∙ passes type excepts one_token (pad w.2.at w.0) w.2.is)

pub some_given : (type : Datatype) (excepts : List Except) (one_token : Bool) (found : Option (List ℕ)) (none : Type 0) → is_some found ≡ true
    → MatchOption found none (λ text. is_member type excepts one_token text ≡ true) → IsMemberAnswer type excepts one_token found
some_given type excepts one_token None none some told = absurd (false≢true some)
some_given type excepts one_token (Some text) none some told = passing type excepts one_token text told

pub none_of : (found : Option (List ℕ)) (none : Type 0) (some : List ℕ → Type 0) → is_some found ≡ false → MatchOption found none some → none
none_of None none some is told = told
none_of (Some x) none some is told = absurd (false≢true (sym is))

-- the answer of the last literal, where the others gave none
pub last_given : (type : Datatype) (excepts : List Except) (one_token : Bool) (found : Option (List ℕ)) → type.form ≡ One Boolean → is_well_made type ≡ true → length excepts ≤ 129
    → AllFail type excepts one_token (codes "true") → AllFail type excepts one_token (codes "1") → AllFail type excepts one_token (codes "false")
    → MatchOption found (AllFail type excepts one_token (codes "0")) (λ text. is_member type excepts one_token text ≡ true) → IsMemberAnswer type excepts one_token found
last_given type excepts one_token None is made few a b c d = no_truth_given type excepts one_token is made few a b c d
last_given type excepts one_token (Some text) is made few a b c told = passing type excepts one_token text told

-- ---- several words

word_names : (word : Word) → is_list_word word ≡ true → TakesNames word
word_names Name is = names
word_names NcName is = nc_names
word_names NmToken is = nm_tokens
word_names Language is = absurd (false≢true is)
word_names Boolean is = absurd (false≢true is)
word_names Decimal is = absurd (false≢true is)
word_names Integer is = absurd (false≢true is)

words_by : (word : Word) (facets : List Facet) (excepts : List Except) (one_token : Bool) → is_well_made (typed (Several word) facets) ≡ true → length excepts ≤ 129 → allows facets (words_asked facets one_token) ≡ true
    → LeavesOne (typed (Several word) facets) excepts one_token (λ i. many (words_asked facets one_token) (word_of 1 (256 + i))) 130
words_by word facets excepts true made few allowed =
    let parts = and_parts (is_list_word word) _ made in
    words_one word facets excepts true 1 (word_names word parts.0) parts.1 few (omega arith) (λ asked. refl) allowed
words_by word facets excepts false made few allowed =
    let parts = and_parts (is_list_word word) _ made in
    words_one word facets excepts false (least_length facets) (word_names word parts.0) parts.1 few (least_some facets) (λ asked. absurd (false≢true asked)) allowed

words_at : (form : Form) (word : Word) (facets : List Facet) (excepts : List Except) (one_token : Bool) → form ≡ Several word → is_well_made (typed form facets) ≡ true → length excepts ≤ 129 → allows facets (words_asked facets one_token) ≡ true
    → LeavesOne (typed form facets) excepts one_token (λ i. many (words_asked facets one_token) (word_of 1 (256 + i))) 130
words_at form word facets excepts one_token is made few allowed =
    let P : Form → Type 0 = λ f. is_well_made (typed f facets) ≡ true → LeavesOne (typed f facets) excepts one_token (λ i. many (words_asked facets one_token) (word_of 1 (256 + i))) 130 in
    subst P (sym is) (λ suit. words_by word facets excepts one_token suit few allowed) made

pub words_given : (type : Datatype) (word : Word) (excepts : List Except) (one_token : Bool) (count : ℕ) (found : Option (List ℕ)) → type.form ≡ Several word → is_well_made type ≡ true → length excepts ≤ 129
    → count ≡ words_asked type.facets one_token → allows type.facets count ≡ true
    → MatchOption found ((i : ℕ) → i < 130 → is_member type excepts one_token (many count (word_of 1 (256 + i))) ≡ false) (λ text. is_member type excepts one_token text ≡ true)
    → IsMemberAnswer type excepts one_token found
words_given type word excepts one_token count found is made few same allowed told =
    given type excepts one_token (λ i. many count (word_of 1 (256 + i))) found made few told
    (λ some. let P : ℕ → Type 0 = λ k. LeavesOne type excepts one_token (λ i. many k (word_of 1 (256 + i))) 130 in
    subst P (sym same) (words_at type.form word type.facets excepts one_token is made few (ap (allows type.facets) (sym same) ∙ allowed)))

words_told : (word : Word) (facets : List Facet) (excepts : List Except) (one_token : Bool) → has_member (typed (Several word) facets) excepts one_token ≡ allows facets (words_asked facets one_token)
words_told word facets excepts true = refl
words_told word facets excepts false = refl

no_words_at : (form : Form) (word : Word) (facets : List Facet) (excepts : List Except) (one_token : Bool) → form ≡ Several word → allows facets (words_asked facets one_token) ≡ false → has_member (typed form facets) excepts one_token ≡ false
no_words_at form word facets excepts one_token is none =
    let P : Form → Type 0 = λ f. has_member (typed f facets) excepts one_token ≡ false in
    subst P (sym is) (words_told word facets excepts one_token ∙ none)

pub no_words_given : (type : Datatype) (word : Word) (excepts : List Except) (one_token : Bool) (count : ℕ) → type.form ≡ Several word → is_well_made type ≡ true → length excepts ≤ 129
    → count ≡ words_asked type.facets one_token → allows type.facets count ≡ false → IsMemberAnswer type excepts one_token None
no_words_given type word excepts one_token count is made few same none =
    none_given type excepts one_token made few (no_words_at type.form word type.facets excepts one_token is (ap (allows type.facets) (sym same) ∙ none))

pub asked_some : (facets : List Facet) (one_token : Bool) → 1 ≤ words_asked facets one_token
asked_some facets true = omega arith
asked_some facets false = least_some facets

many_more : (n : ℕ) (word : List ℕ) → many (suc n) word ++ 32 ∷ word ≡ many (suc (suc n)) word
unfolding many
many_more zero word = refl
many_more (suc n) word = append_assoc word (32 ∷ many (suc n) word) (32 ∷ word) ∙ ap (λ (t : List ℕ). word ++ 32 ∷ t) (many_more n word)

pub many_first : (start text word : List ℕ) → start ≡ [] → text ≡ start ++ word → text ≡ many 1 word
unfolding many
many_first start text word none is = is ∙ ap (λ (t : List ℕ). t ++ word) none

pub words_more : (n m : ℕ) (word text spaced more : List ℕ) → 1 ≤ n → m ≡ n + 1 → text ≡ many n word → spaced ≡ text ++ encode_utf8 32 → more ≡ spaced ++ word → more ≡ many m word
words_more zero m word text spaced more some next is so joined = absurd (omega (arith, some))
words_more (suc n) m word text spaced more some next is so joined =
    let same : m ≡ suc (suc n) = omega (arith, next) in
    joined ∙ ap (λ (t : List ℕ). t ++ word) (so ∙ ap (λ (t : List ℕ). t ++ encode_utf8 32) is ∙ ap (λ (t : List ℕ). many (suc n) word ++ t) (encode_ascii 32 (omega arith)))
    ∙ append_assoc (many (suc n) word) (32 ∷ []) word ∙ many_more n word ∙ ap (λ (k : ℕ). many k word) (sym same)

-- ---- language tags

language_by : (facets : List Facet) (excepts : List Except) (one_token : Bool) → is_well_made (typed (One Language) facets) ≡ true → length excepts ≤ 129 → LeavesOne (typed (One Language) facets) excepts one_token tag 130
language_by [] excepts one_token made few = language_one excepts one_token 130 (omega (arith, few))
language_by (Length relation limit ∷ facets) excepts one_token made few = absurd (false≢true made)
language_by (Bound relation limit ∷ facets) excepts one_token made few = absurd (false≢true made)

language_at : (form : Form) (facets : List Facet) (excepts : List Except) (one_token : Bool) → form ≡ One Language → is_well_made (typed form facets) ≡ true → length excepts ≤ 129 → LeavesOne (typed form facets) excepts one_token tag 130
language_at form facets excepts one_token is made few =
    let P : Form → Type 0 = λ f. is_well_made (typed f facets) ≡ true → LeavesOne (typed f facets) excepts one_token tag 130 in
    subst P (sym is) (λ suit. language_by facets excepts one_token suit few) made

pub language_given : (type : Datatype) (excepts : List Except) (one_token : Bool) (found : Option (List ℕ)) → type.form ≡ One Language → is_well_made type ≡ true → length excepts ≤ 129
    → MatchOption found ((i : ℕ) → i < 130 → is_member type excepts one_token (tag i) ≡ false) (λ text. is_member type excepts one_token text ≡ true) → IsMemberAnswer type excepts one_token found
language_given type excepts one_token found is made few told = given type excepts one_token tag found made few told (λ some. language_at type.form type.facets excepts one_token is made few)

tails_more : (n : ℕ) → tail n ++ 45 ∷ 97 ∷ [] ≡ tail (suc n)
unfolding tail
tails_more zero = refl
tails_more (suc n) = ap (λ (t : List ℕ). 45 ∷ 97 ∷ t) (tails_more n)

tags_more : (n : ℕ) → tag n ++ 45 ∷ 97 ∷ [] ≡ tag (suc n)
unfolding tag
tags_more n = ap (λ (t : List ℕ). 97 ∷ t) (tails_more n)

tag_nothing : tag 0 ≡ 97 ∷ []
unfolding tag tail
tag_nothing = refl

pub tag_first : (start text : List ℕ) → start ≡ [] → text ≡ start ++ encode_utf8 97 → text ≡ tag 0
tag_first start text none is = is ∙ ap (λ (t : List ℕ). t ++ encode_utf8 97) none ∙ encode_ascii 97 (omega arith) ∙ sym tag_nothing

pub tag_more : (n m : ℕ) (text more : List ℕ) → m ≡ n + 1 → text ≡ tag n → more ≡ text ++ 45 ∷ 97 ∷ [] → more ≡ tag m
tag_more n m text more next is so =
    let same : m ≡ suc n = omega (arith, next) in
    so ∙ ap (λ (t : List ℕ). t ++ 45 ∷ 97 ∷ []) is ∙ tags_more n ∙ ap tag (sym same)
