-- Dates, times and octets: what their literals and values are, as types need it.
use Rattle.std.specs.Prelude.{◌≡◌, ℕ, suc, ◌<◌, ◌≤◌, true, List, length, Some, unwrap_or}
use Rattle.std.proofs.Common.{refl, sym, ap, ◌∙◌, subst, arith}
use Rattle.std.proofs.lemmas.Bool.{false≢true}
use Rattle.std.proofs.lemmas.Bool.Decides.{nat_tests}
use Rattle.nx_base.specs.Characters.{is_blank}
use Rattle.rng_more_types.specs.declared.more_type.MoreType.{MoreType}
use Rattle.rng_more_types.specs.declared.more_type.MoreType.TheVariants.{Date, Time, DateTime, GYear, GYearMonth, HexBinary, Base64Binary}
use Rattle.rng_more_types.specs.Spaces.{unspaced}
use Rattle.rng_more_types.specs.MoreTypes.{is_literal, is_same, HaveSameValue, octets_of}
use Rattle.rng_more_types.specs.Laws.{is_octets, candidate, octets_of_candidate}
use Rattle.rng_types.specs.Spaces.{is_some_text}
use Rattle.rng_types.specs.Facets.{octet_count}
use Rattle.rng_more_types.proofs.Decided.{literal_decided, same_symmetric, same_transitive, same_octets}
use Rattle.rng_more_types.proofs.Blank.{blank_is_empty, empty_is_blank, same_are_blank_alike}
use Rattle.rng_more_types.proofs.Around.{unspaced_is_same}
use Rattle.rng_more_types.proofs.Candidates.{candidates_are_literals, candidates_differ}
use Rattle.rng_types.proofs.MoreSame.{same_decided, is_one}
use Rattle.rng_types.proofs.Plain.{IsPlain}
use Rattle.rng_types.proofs.Printable.{plain_printed}
use Rattle.rng_types.proofs.Spaceless.{white_only_is_blank, unspaced-blank}

pub blank_alike : (more : MoreType) (a b : List ℕ) → is_literal more a ≡ true → is_literal more b ≡ true → HaveSameValue more a b → is_blank a ≡ is_blank b
blank_alike more a b first second same =
    sym (white_only_is_blank a) ∙ same_are_blank_alike more a b (is_one more a first) (is_one more b second) same ∙ white_only_is_blank b

-- octets are none exactly where the text is blank
counted : (more : MoreType) (text : List ℕ) → is_octets more ≡ true → octet_count more text ≡ 0 → octets_of more text ≡ Some 0
counted Date text octets none = absurd (false≢true octets)
counted Time text octets none = absurd (false≢true octets)
counted DateTime text octets none = absurd (false≢true octets)
counted GYear text octets none = absurd (false≢true octets)
counted GYearMonth text octets none = absurd (false≢true octets)
counted HexBinary text octets none = ap (λ n. Some n) none
counted Base64Binary text octets none = ap (λ n. Some n) none

pub blank_by_count : (more : MoreType) (text : List ℕ) → is_octets more ≡ true → is_literal more text ≡ true → octet_count more text ≡ 0 → is_blank text ≡ true
blank_by_count more text octets is none = sym (white_only_is_blank text) ∙ empty_is_blank more text (is_one more text is) (counted more text octets none)

pub blank_literal : (more : MoreType) (text : List ℕ) → is_octets more ≡ true → is_blank text ≡ true → (is_literal more text ≡ true) × (octet_count more text ≡ 0)
blank_literal more text octets blank =
    let is = blank_is_empty more text octets (white_only_is_blank text ∙ blank) in
    ((literal_decided more text).1 is.0, ap (λ found. unwrap_or found 0) is.1)

-- and blank texts have one value
blanks_same : (more : MoreType) (a b : List ℕ) → is_octets more ≡ true → is_blank a ≡ true → is_blank b ≡ true → HaveSameValue more a b
blanks_same more a b octets first second =
    let one = (unspaced_is_same more a (blank_is_empty more a octets (white_only_is_blank a ∙ first)).0).1 in
    let other = (unspaced_is_same more b (blank_is_empty more b octets (white_only_is_blank b ∙ second)).0).1 in
    let P : List ℕ → Type 0 = λ t. HaveSameValue more a t in
    same_transitive more a (unspaced b) b
    (subst P (unspaced-blank a first ∙ sym (unspaced-blank b second)) one) (same_symmetric more b (unspaced b) other)

pub same_through_blank : (more : MoreType) (a b c : List ℕ) → is_octets more ≡ true → is_blank a ≡ true → is_blank b ≡ true → is_same more a c ≡ true → is_same more b c ≡ true
same_through_blank more a b c octets first second same =
    (same_decided more b c).1 (same_transitive more b a c (blanks_same more b a octets second first) ((same_decided more a c).0 same))

-- a literal without its white space is one of the same value
pub record IsTight (more : MoreType) (text tight : List ℕ) : Type 0 where
  pub literal : is_literal more tight ≡ true
  pub count : octet_count more tight ≡ octet_count more text
  pub same : HaveSameValue more tight text

pub tight_literal : (more : MoreType) (text : List ℕ) → is_literal more text ≡ true → IsTight more text (unspaced text)
tight_literal more text is =
    let told = unspaced_is_same more text (is_one more text is) in
    let back = same_symmetric more text (unspaced text) told.1 in
    record {
      literal = (literal_decided more (unspaced text)).1 told.0;
      count = ap (λ found. unwrap_or found 0) (same_octets more (unspaced text) text back);
      same = back;
    }

-- literals that are one token, no two of the same value
pub record AreApart (more : MoreType) (candidates : ℕ → List ℕ) : Type 0 where
  pub plain : (i : ℕ) → i < 130 → IsPlain (candidates i)
  pub literal : (i : ℕ) → i < 130 → is_literal more (candidates i) ≡ true
  pub apart : (i j : ℕ) → i < 130 → j < 130 → is_same more (candidates i) (candidates j) ≡ true → i ≡ j

some_by_length : (text : List ℕ) → 1 ≤ length text → is_some_text text ≡ true
some_by_length text some = grind (arith, nat_tests)

-- there are as many of each type, and of each number of octets
pub apart_at : (more : MoreType) (n : ℕ) → AreApart more (candidate more n)
apart_at more n = record {
  plain = λ i small. let is = candidates_are_literals more n i small in plain_printed (candidate more n i) (some_by_length (candidate more n i) is.some) is.printed;
  literal = λ i small. (literal_decided more (candidate more n i)).1 (candidates_are_literals more n i small).accepted;
  apart = λ i j hi hj same. candidates_differ more n i j hi hj ((same_decided more (candidate more n i) (candidate more n j)).0 same);
}

octets_told : (more : MoreType) (n : ℕ) → is_octets more ≡ true → octets_of_candidate more n ≡ Some (suc n)
octets_told Date n octets = absurd (false≢true octets)
octets_told Time n octets = absurd (false≢true octets)
octets_told DateTime n octets = absurd (false≢true octets)
octets_told GYear n octets = absurd (false≢true octets)
octets_told GYearMonth n octets = absurd (false≢true octets)
octets_told HexBinary n octets = refl
octets_told Base64Binary n octets = refl

pub count_at : (more : MoreType) (n i : ℕ) → is_octets more ≡ true → i < 130 → octet_count more (candidate more n i) ≡ suc n
count_at more n i octets small = ap (λ found. unwrap_or found 0) ((candidates_are_literals more n i small).octets ∙ octets_told more n octets)
