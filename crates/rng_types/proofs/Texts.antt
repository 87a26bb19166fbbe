-- Texts, names and lists of words have a member exactly where their lengths allow one.
use Rattle.std.specs.Prelude.{◌≡◌, ℕ, ◌+◌, ◌<◌, ◌≤◌, Bool, true, false, ◌&&◌, List, [], ◌∷◌, length}
use Rattle.std.proofs.Common.{subst, refl, sym, ap, ◌∙◌, arith, inl, inr}
use Rattle.std.proofs.lemmas.Bool.{and_parts, and_from, not-true, not_from_false, false≢true, false_from_ne_true, cases_lt, or_cases, or_left, or_right, eqb-false}
use Rattle.std.proofs.lemmas.List.{nil_from_length}
use Rattle.std.proofs.lemmas.List.Sums.{sum_by-cons}
use Rattle.std.proofs.lemmas.Str.{chars-nil, encodes-chars, IsUtf8-nil, IsUtf8-from_is_utf8, is_utf8-from_IsUtf8}
use Rattle.std.specs.List.{list_all, join_with_byte, AllByRecursion, sum_by}
use Rattle.std.specs.Str.{chars, bytes_eq, IsUtf8, encode_utf8_all}
use Rattle.nx_base.specs.Characters.{is_char, is_of_chars}
use Rattle.rng_types.specs.Spaces.{is_some_text, words, collapsed, normalized}
use Rattle.rng_types.specs.Words.{has_form}
use Rattle.rng_types.specs.Facets.{meets, size_of}
use Rattle.rng_types.specs.Types.{seen_by, Accepts}
use Rattle.rng_types.specs.Answers.{is_same_value}
use Rattle.rng_types.specs.WellMade.{is_well_made, suits}
use Rattle.rng_types.specs.Members.{is_one_token}
use Rattle.rng_types.specs.Answers.{is_left}
use Rattle.rng_types.specs.TextMembers.{allows, least_length, has_length, is_empty_left, has_text}
use Rattle.rng_types.specs.declared.kind.Whitespace.{Whitespace}
use Rattle.rng_types.specs.declared.kind.Whitespace.TheVariants.{Preserve, Replace, Collapse}
use Rattle.rng_types.specs.declared.kind.Form.{Form}
use Rattle.rng_types.specs.declared.kind.Form.TheVariants.{Any}
use Rattle.rng_types.specs.declared.facet.Relation.{Relation}
use Rattle.rng_types.specs.declared.facet.Facet.{Facet}
use Rattle.rng_types.specs.declared.facet.Facet.TheVariants.{Length, Bound}
use Rattle.rng_types.specs.declared.datatype.Datatype.{Datatype}
use Rattle.rng_types.specs.declared.datatype.Except.{Except}
use Rattle.rng_types.specs.declared.datatype.Except.TheVariants.{Own, BuiltinString, BuiltinToken}
use Rattle.rng_types.proofs.Collapsed.{IsBareWord, words-are_bare}
use Rattle.rng_types.proofs.Lengths.{length-collapsed, length-replaced, utf8-each, spaced}
use Rattle.rng_types.proofs.Plain.{IsPlain, OwnTakesOne, plain_one, same_by, seen-plain}
use Rattle.rng_types.proofs.Numeric.{typed}
use Rattle.rng_types.proofs.Allowed.{has_length-from, least_some, is_on_length, meets-lengths}
use Rattle.rng_types.proofs.Letters.{IsLetter, size-word_of, plain-word_of, apart-word_of}
use Rattle.rng_types.proofs.Padded.{spaced_one, left_spaced, left_spaced_alike}
use Rattle.rng_types.proofs.Beside.{LeavesMember, LeavesText, LeavesOne, one_of}
use Rattle.rng_types.specs.Giving.{word_of, pad}

-- types whose values are texts
pub record IsTextual (type : Datatype) : Type 0 where
  pub same : (a b : List ℕ) → is_same_value type a b ≡ bytes_eq (seen_by type a) (seen_by type b)

own_case : (type : Datatype) (candidate : ℕ → List ℕ) (n : ℕ) → IsTextual type → ((i : ℕ) → i < n → seen_by type (candidate i) ≡ candidate i) → ((i j : ℕ) → i < n → j < n → candidate i ≡ candidate j → i ≡ j) → (except : Except) → OwnTakesOne type candidate n except
own_case type candidate n textual seen apart (Own literal) = record {
  once = λ i j hi hj ti tj. apart i j hi hj
      (sym (seen i hi)
      ∙ same_by (seen_by type (candidate i)) (seen_by type (candidate j)) (seen_by type literal) (sym (textual.same (candidate i) literal) ∙ ti) (sym (textual.same (candidate j) literal) ∙ tj)
      ∙ seen j hj);
}
own_case type candidate n textual seen apart (BuiltinString literal) = tt
own_case type candidate n textual seen apart (BuiltinToken literal) = tt

pub own_each : (type : Datatype) (candidate : ℕ → List ℕ) (n : ℕ) → IsTextual type → ((i : ℕ) → i < n → seen_by type (candidate i) ≡ candidate i) → ((i j : ℕ) → i < n → j < n → candidate i ≡ candidate j → i ≡ j) → (excepts : List Except) → AllByRecursion (OwnTakesOne type candidate n) excepts
own_each type candidate n textual seen apart [] = tt
own_each type candidate n textual seen apart (except ∷ excepts) = (own_case type candidate n textual seen apart except, own_each type candidate n textual seen apart excepts)

pub letter : (i : ℕ) → i < 130 → IsLetter (256 + i)
letter i small = record { low = omega arith; high = omega arith }

-- facets on lengths alone
pub only_lengths : (form : Form) → ((relation : Relation) (limit : List ℕ) → suits form (Bound relation limit) ≡ false) → (facets : List Facet) → list_all (suits form) facets ≡ true → list_all is_on_length facets ≡ true
only_lengths form none [] suit = refl
only_lengths form none (Length relation limit ∷ facets) suit = only_lengths form none facets (and_parts _ _ suit).1
only_lengths form none (Bound relation limit ∷ facets) suit = absurd (false≢true (sym (none relation limit) ∙ (and_parts _ _ suit).0))

-- forms of which each word of letters is one, whose length is that of the characters
pub record TakesLetters (form : Form) : Type 0 where
  pub textual : (facets : List Facet) → IsTextual (typed form facets)
  pub fits : (k c : ℕ) → IsLetter c → 1 ≤ k → has_form form (word_of k c) ≡ true
  pub size : (text : List ℕ) → size_of form text ≡ length (chars text)
  pub bounds : (relation : Relation) (limit : List ℕ) → suits form (Bound relation limit) ≡ false

pub letters_one : (form : Form) (facets : List Facet) (excepts : List Except) (one_token : Bool) → TakesLetters form → list_all (suits form) facets ≡ true → length excepts ≤ 129 → has_length facets ≡ true
    → LeavesOne (typed form facets) excepts one_token (λ i. word_of (least_length facets) (256 + i)) 130
letters_one form facets excepts one_token takes suit few has =
    let type = typed form facets in
    let k : ℕ = least_length facets in
    let some : 1 ≤ k = least_some facets in
    let candidate : ℕ → List ℕ = λ i. word_of k (256 + i) in
    let plain : (i : ℕ) → i < 130 → IsPlain (candidate i) = λ i small. plain-word_of k (256 + i) (letter i small) some in
    let seen : (i : ℕ) → i < 130 → seen_by type (candidate i) ≡ candidate i = λ i small. seen-plain type (candidate i) (plain i small).word in
    let apart : (i j : ℕ) → i < 130 → j < 130 → candidate i ≡ candidate j → i ≡ j = λ i j hi hj same. omega (arith, apart-word_of k (256 + i) (256 + j) some same) in
    let sized : (i : ℕ) → i < 130 → size_of form (candidate i) ≡ k = λ i small. takes.size (candidate i) ∙ size-word_of k (256 + i) (letter i small) in
    plain_one type excepts one_token candidate 130 plain
    (λ i small. record {
      form = ap (has_form form) (seen i small) ∙ takes.fits k (256 + i) (letter i small) some;
      facets = ap (λ (t : List ℕ). list_all (meets form t) facets) (seen i small) ∙ meets-lengths form (candidate i) facets (only_lengths form takes.bounds facets suit) ∙ ap (allows facets) (sized i small) ∙ has;
    })
    apart (own_each type candidate 130 (takes.textual facets) seen apart excepts) (omega arith)

pub letters_member : (form : Form) (facets : List Facet) (excepts : List Except) (one_token : Bool) → TakesLetters form → list_all (suits form) facets ≡ true → length excepts ≤ 129 → has_length facets ≡ true → LeavesMember (typed form facets) excepts one_token
letters_member form facets excepts one_token takes suit few has = one_of (letters_one form facets excepts one_token takes suit few has)

-- the length of a member is allowed
pub allowed_size : (form : Form) (facets : List Facet) (text : List ℕ) → TakesLetters form → list_all (suits form) facets ≡ true → Accepts (typed form facets) text → allows facets (length (chars (seen_by (typed form facets) text))) ≡ true
allowed_size form facets text takes suit accepted =
    let seen : List ℕ = seen_by (typed form facets) text in
    ap (allows facets) (sym (takes.size seen)) ∙ sym (meets-lengths form seen facets (only_lengths form takes.bounds facets suit)) ∙ accepted.facets

-- any texts
pub any_takes : (whitespace : Whitespace) → TakesLetters (Any whitespace)
any_takes whitespace = record {
  textual = λ facets. record { same = λ a b. refl };
  fits = λ k c letter some. refl;
  size = λ text. refl;
  bounds = λ relation limit. refl;
}

empty_text : (text : List ℕ) → IsUtf8 text → length (chars text) ≡ 0 → text ≡ []
empty_text text utf8 none = sym (encodes-chars text utf8) ∙ ap encode_utf8_all (nil_from_length (chars text) none)

some_not_empty : (text : List ℕ) → is_some_text text ≡ true → text ≡ [] → ⊥
some_not_empty text some none = absurd (eqb-false (length text) 0 (not-true _ some) (ap length none))

some_length : (text : List ℕ) → IsUtf8 text → is_some_text text ≡ true → 0 < length (chars text)
some_length text utf8 some =
    elim (cases_lt 0 (length (chars text))) [
      | inl long ↦ long
      | inr short ↦ absurd (some_not_empty text some (empty_text text utf8 (let none : length (chars text) ≡ 0 = omega arith in none)))
    ]

-- a word of a text has a character
empty_words : (ws : List (List ℕ)) → AllByRecursion IsUtf8 ws → AllByRecursion IsBareWord ws → sum_by spaced ws < 2 → ws ≡ []
empty_words [] utf8 bare small = refl
empty_words (word ∷ more) utf8 bare small =
    let some : 0 < length (chars word) = some_length word utf8.0 bare.0.some in
    absurd (omega (arith, some, sum_by-cons spaced word more, small))

empty_collapsed : (text : List ℕ) → IsUtf8 text → length (chars (collapsed text)) ≡ 0 → collapsed text ≡ []
empty_collapsed text utf8 none =
    ap (join_with_byte 32) (empty_words (words text) (utf8-each (words text) text utf8 refl) (words-are_bare text) (omega (arith, length-collapsed text utf8, none)))

empty_left : (whitespace : Whitespace) (facets : List Facet) (excepts : List Except) (text : List ℕ) → IsUtf8 text → length (chars (normalized whitespace text)) ≡ 0 → is_left (typed (Any whitespace) facets) excepts text ≡ true →
    is_empty_left whitespace (typed (Any whitespace) facets) excepts ≡ true
empty_left Preserve facets excepts text utf8 none left = ap (is_left (typed (Any Preserve) facets) excepts) (sym (empty_text text utf8 none)) ∙ left
empty_left Replace facets excepts text utf8 none left = ap (is_left (typed (Any Replace) facets) excepts) (sym (empty_text text utf8 (sym (length-replaced text utf8) ∙ none))) ∙ left
empty_left Collapse facets excepts text utf8 none left =
    let type = typed (Any Collapse) facets in
    let same : collapsed text ≡ [] = empty_collapsed text utf8 none in
    left_spaced_alike type [] text (sym same) (sym same) excepts ∙ left_spaced type text excepts left

token_not_empty : (whitespace : Whitespace) (facets : List Facet) (text : List ℕ) → IsUtf8 text → is_one_token text ≡ true → length (chars (normalized whitespace text)) ≡ 0 → ⊥
token_not_empty whitespace facets text utf8 token none =
    let parts = and_parts (is_some_text text) _ token in
    let word : IsBareWord text = record { some = parts.0; bare = parts.1 } in
    let seen = seen-plain (typed (Any whitespace) facets) text word in
    some_not_empty text parts.0 (empty_text text utf8 (ap (λ (t : List ℕ). length (chars t)) (sym seen) ∙ none))

pub text_complete : (whitespace : Whitespace) (facets : List Facet) (excepts : List Except) (one_token : Bool) → list_all (suits (Any whitespace)) facets ≡ true → LeavesText (typed (Any whitespace) facets) excepts one_token → has_text whitespace (typed (Any whitespace) facets) excepts one_token ≡ true
text_complete whitespace facets excepts one_token suit member =
    let text : List ℕ = member.0 in
    let is = member.1 in
    let utf8 : IsUtf8 text = IsUtf8-from_is_utf8 text is.characters in
    let k : ℕ = length (chars (normalized whitespace text)) in
    let allowed : allows facets k ≡ true = allowed_size (Any whitespace) facets text (any_takes whitespace) suit is.accepted in
    elim (cases_lt k 1) [
      | inl short ↦
          let none : k ≡ 0 = omega arith in
          let plain : one_token ≡ false = false_from_ne_true one_token (λ asked. token_not_empty whitespace facets text utf8 (is.token asked) none) in
          or_right (has_length facets) _ (and_from _ _ (not_from_false one_token plain) (and_from _ _ (ap (allows facets) (sym none) ∙ allowed) (empty_left whitespace facets excepts text utf8 none is.left)))
      | inr long ↦ or_left (has_length facets) _ (has_length-from facets k long allowed)
    ]

pub characters_nil : is_of_chars [] ≡ true
characters_nil = and_from _ _ (is_utf8-from_IsUtf8 [] IsUtf8-nil) (ap (list_all is_char) chars-nil)

empty_accepted : (whitespace : Whitespace) (facets : List Facet) → normalized whitespace [] ≡ [] → list_all (suits (Any whitespace)) facets ≡ true → allows facets 0 ≡ true → Accepts (typed (Any whitespace) facets) []
empty_accepted whitespace facets seen suit allowed = record {
  form = refl;
  facets = ap (λ (t : List ℕ). list_all (meets (Any whitespace) t) facets) seen ∙ meets-lengths (Any whitespace) [] facets (only_lengths (Any whitespace) (λ relation limit. refl) facets suit) ∙ ap (λ (cs : List ℕ). allows facets (length cs)) chars-nil ∙ allowed;
}

pub empty_one : (whitespace : Whitespace) (facets : List Facet) (excepts : List Except) → length excepts ≤ 129 → list_all (suits (Any whitespace)) facets ≡ true → allows facets 0 ≡ true → is_empty_left whitespace (typed (Any whitespace) facets) excepts ≡ true
    → LeavesOne (typed (Any whitespace) facets) excepts false (λ i. pad i []) 130
unfolding pad
empty_one Preserve facets excepts few suit allowed left =
    record { at = 0; below = omega arith; is = record { characters = characters_nil; accepted = empty_accepted Preserve facets refl suit allowed; left = left; token = λ asked. absurd (false≢true asked) } }
empty_one Replace facets excepts few suit allowed left =
    record { at = 0; below = omega arith; is = record { characters = characters_nil; accepted = empty_accepted Replace facets refl suit allowed; left = left; token = λ asked. absurd (false≢true asked) } }
empty_one Collapse facets excepts few suit allowed left = spaced_one (typed (Any Collapse) facets) refl excepts [] 130 (omega (arith, few)) characters_nil (empty_accepted Collapse facets refl suit allowed) left

pub text_sound : (whitespace : Whitespace) (facets : List Facet) (excepts : List Except) (one_token : Bool) → list_all (suits (Any whitespace)) facets ≡ true → length excepts ≤ 129 → has_text whitespace (typed (Any whitespace) facets) excepts one_token ≡ true → LeavesMember (typed (Any whitespace) facets) excepts one_token
text_sound whitespace facets excepts true suit few has =
    elim (or_cases (has_length facets) false has) [
      | inl some ↦ letters_member (Any whitespace) facets excepts true (any_takes whitespace) suit few some
      | inr none ↦ absurd (false≢true none)
    ]
text_sound whitespace facets excepts false suit few has =
    elim (or_cases (has_length facets) (allows facets 0 && is_empty_left whitespace (typed (Any whitespace) facets) excepts) has) [
      | inl some ↦ letters_member (Any whitespace) facets excepts false (any_takes whitespace) suit few some
      | inr empty ↦ (let parts = and_parts (allows facets 0) _ empty in one_of (empty_one whitespace facets excepts few suit parts.0 parts.1))
    ]

empty_normalized : (whitespace : Whitespace) → normalized whitespace [] ≡ []
empty_normalized Preserve = refl
empty_normalized Replace = refl
empty_normalized Collapse = refl

empty_accepted_at : (form : Form) (facets : List Facet) (whitespace : Whitespace) → form ≡ Any whitespace → is_well_made (typed form facets) ≡ true → allows facets 0 ≡ true → Accepts (typed form facets) []
empty_accepted_at form facets whitespace is made allowed =
    let P : Form → Type 0 = λ f. is_well_made (typed f facets) ≡ true → Accepts (typed f facets) [] in
    subst P (sym is) (λ made'. empty_accepted whitespace facets (empty_normalized whitespace) made' allowed) made

pub text_empty_accepted : (type : Datatype) (whitespace : Whitespace) → type.form ≡ Any whitespace → is_well_made type ≡ true → allows type.facets 0 ≡ true → Accepts type []
text_empty_accepted type whitespace is made allowed = empty_accepted_at type.form type.facets whitespace is made allowed
