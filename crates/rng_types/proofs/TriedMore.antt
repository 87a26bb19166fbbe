-- A number, a date, a time or octets are among the texts that are tried, where there are any.
use Rattle.std.specs.Prelude.{◌≡◌, ℕ, suc, ◌<◌, ◌≤◌, Bool, true, false, not, ◌&&◌, List, [], length, Option, None, Some, MatchOption}
use Rattle.std.proofs.Common.{refl, sym, ap, ◌∙◌, subst, arith, inl, inr}
use Rattle.std.proofs.lemmas.Bool.{and_parts, and_left, or_cases, false≢true, false_from_ne_true}
use Rattle.std.specs.Str.{is_utf8}
use Rattle.nx_base.specs.Characters.{is_of_chars}
use Rattle.rng_more_types.specs.declared.more_type.MoreType.{MoreType}
use Rattle.rng_more_types.specs.declared.more_type.MoreType.TheVariants.{Date, Time, DateTime, GYear, GYearMonth, HexBinary, Base64Binary}
use Rattle.rng_more_types.specs.Laws.{is_octets, candidate}
use Rattle.rng_types.specs.Numbers.{is_decimal, is_integer, number_of}
use Rattle.rng_types.specs.NumberMembers.{is_number_left, has_integer, has_decimal}
use Rattle.rng_types.specs.WellMade.{is_well_made}
use Rattle.rng_types.specs.TextMembers.{allows, least_length, has_length, is_left_spaced, has_octets}
use Rattle.rng_types.specs.MemberTest.{has_more, has_member}
use Rattle.rng_types.specs.Giving.{IsMemberAnswer, is_member, pad, zeroed}
use Rattle.rng_types.specs.declared.kind.Form.{Form}
use Rattle.rng_types.specs.declared.kind.Form.TheVariants.{One, More}
use Rattle.rng_types.specs.declared.kind.Word.TheVariants.{Decimal, Integer}
use Rattle.rng_types.specs.declared.facet.Facet.{Facet}
use Rattle.rng_types.specs.declared.datatype.Datatype.{Datatype}
use Rattle.rng_types.specs.declared.datatype.Except.{Except}
use Rattle.rng_types.proofs.Numeric.{typed, number_one}
use Rattle.rng_types.proofs.Parted.{decimal_zeroed, integer_zeroed}
use Rattle.rng_types.proofs.Decimals.{decimals_numeric, decimal_bounds}
use Rattle.rng_types.proofs.Whole.{integers_numeric, integer_bounds}
use Rattle.rng_types.proofs.Comparing.{decimal_from_integer}
use Rattle.rng_types.proofs.MoreMembers.{dates_one, octets_one, pad_one}
use Rattle.rng_types.proofs.Beside.{LeavesOne}
use Rattle.rng_types.proofs.Tried.{given, none_given}

-- what holds of a type of that form
by_form : (type : Datatype) (form : Form) (P : Datatype → Type 0) → type.form ≡ form → P (typed form type.facets) → P type
by_form type form P is holds = let Q : Form → Type 0 = λ f. P (typed f type.facets) in subst Q (sym is) holds

made_as : (type : Datatype) (form : Form) → type.form ≡ form → is_well_made type ≡ true → is_well_made (typed form type.facets) ≡ true
made_as type form is made = ap (λ f. is_well_made (typed f type.facets)) (sym is) ∙ made

-- what the tries of these texts find
abbrev pub Tried : Datatype → List Except → Bool → (ℕ → List ℕ) → Option (List ℕ) → Type 0
Tried type excepts one_token candidate found =
    MatchOption found ((i : ℕ) → i < 130 → is_member type excepts one_token (candidate i) ≡ false) (λ text. is_member type excepts one_token text ≡ true)

pub none_said : (found : Option (List ℕ)) (none : Type 0) (some : List ℕ → Type 0) → found ≡ None → MatchOption found none some → none
none_said found none some is told = let P : Option (List ℕ) → Type 0 = λ o. MatchOption o none some in subst P is told

pub some_said : (found : Option (List ℕ)) (text : List ℕ) (none : Type 0) (some : List ℕ → Type 0) → found ≡ Some text → MatchOption found none some → some text
some_said found text none some is told = let P : Option (List ℕ) → Type 0 = λ o. MatchOption o none some in subst P is told

-- ---- numbers

pub decimal_given : (type : Datatype) (excepts : List Except) (one_token : Bool) (literal : List ℕ) (found : Option (List ℕ)) → type.form ≡ One Decimal → is_well_made type ≡ true → length excepts ≤ 129 →
    is_decimal literal ≡ true → is_number_left type.facets excepts (number_of literal) ≡ true → Tried type excepts one_token (λ i. zeroed i literal) found → IsMemberAnswer type excepts one_token found
decimal_given type excepts one_token literal found is made few decimal left told =
    let suit = made_as type (One Decimal) is made in
    let one = number_one Decimal type.facets excepts one_token (number_of literal) (λ i. zeroed i literal) 130 decimals_numeric (decimal_zeroed literal decimal) (decimal_bounds type.facets suit) left (omega (arith, few)) in
    given type excepts one_token (λ i. zeroed i literal) found made few told (λ has. by_form type (One Decimal) (λ t. LeavesOne t excepts one_token (λ i. zeroed i literal) 130) is one)

pub integer_given : (type : Datatype) (excepts : List Except) (one_token : Bool) (literal : List ℕ) (found : Option (List ℕ)) → type.form ≡ One Integer → is_well_made type ≡ true → length excepts ≤ 129 →
    is_integer literal ≡ true → is_number_left type.facets excepts (number_of literal) ≡ true → Tried type excepts one_token (λ i. zeroed i literal) found → IsMemberAnswer type excepts one_token found
integer_given type excepts one_token literal found is made few integer left told =
    let suit = made_as type (One Integer) is made in
    let one = number_one Integer type.facets excepts one_token (number_of literal) (λ i. zeroed i literal) 130 integers_numeric (integer_zeroed literal (decimal_from_integer literal integer) integer)
    (integer_bounds type.facets suit) left (omega (arith, few)) in
    given type excepts one_token (λ i. zeroed i literal) found made few told (λ has. by_form type (One Integer) (λ t. LeavesOne t excepts one_token (λ i. zeroed i literal) 130) is one)

pub no_decimal_given : (type : Datatype) (excepts : List Except) (one_token : Bool) → type.form ≡ One Decimal → is_well_made type ≡ true → length excepts ≤ 129 → has_decimal type.facets excepts ≡ false → IsMemberAnswer type excepts one_token None
no_decimal_given type excepts one_token is made few none = none_given type excepts one_token made few (by_form type (One Decimal) (λ t. has_member t excepts one_token ≡ false) is none)

pub no_integer_given : (type : Datatype) (excepts : List Except) (one_token : Bool) → type.form ≡ One Integer → is_well_made type ≡ true → length excepts ≤ 129 → has_integer type.facets excepts ≡ false → IsMemberAnswer type excepts one_token None
no_integer_given type excepts one_token is made few none = none_given type excepts one_token made few (by_form type (One Integer) (λ t. has_member t excepts one_token ≡ false) is none)

-- ---- dates, times and octets

pub date_given : (type : Datatype) (more : MoreType) (excepts : List Except) (one_token : Bool) (found : Option (List ℕ)) → type.form ≡ More more → is_octets more ≡ false → is_well_made type ≡ true → length excepts ≤ 129 →
    Tried type excepts one_token (candidate more 0) found → IsMemberAnswer type excepts one_token found
date_given type more excepts one_token found is date made few told =
    let one = dates_one more type.facets excepts one_token date (made_as type (More more) is made) few in
    given type excepts one_token (candidate more 0) found made few told (λ has. by_form type (More more) (λ t. LeavesOne t excepts one_token (candidate more 0) 130) is one)

pub octets_given : (type : Datatype) (more : MoreType) (excepts : List Except) (one_token : Bool) (n : ℕ) (found : Option (List ℕ)) → type.form ≡ More more → is_octets more ≡ true → is_well_made type ≡ true → length excepts ≤ 129 →
    has_length type.facets ≡ true → suc n ≡ least_length type.facets → Tried type excepts one_token (candidate more n) found → IsMemberAnswer type excepts one_token found
octets_given type more excepts one_token n found is octets made few has least told =
    let one = octets_one more type.facets excepts one_token n octets (made_as type (More more) is made) few has least in
    given type excepts one_token (candidate more n) found made few told (λ some. by_form type (More more) (λ t. LeavesOne t excepts one_token (candidate more n) 130) is one)

more_octets : (more : MoreType) (type : Datatype) (excepts : List Except) (one_token : Bool) → is_octets more ≡ true → has_more more type excepts one_token ≡ has_octets type excepts one_token
more_octets Date type excepts one_token octets = absurd (false≢true octets)
more_octets Time type excepts one_token octets = absurd (false≢true octets)
more_octets DateTime type excepts one_token octets = absurd (false≢true octets)
more_octets GYear type excepts one_token octets = absurd (false≢true octets)
more_octets GYearMonth type excepts one_token octets = absurd (false≢true octets)
more_octets HexBinary type excepts one_token octets = refl
more_octets Base64Binary type excepts one_token octets = refl

blank_case : (more : MoreType) (facets : List Facet) (excepts : List Except) (one_token : Bool) → is_octets more ≡ true → is_well_made (typed (More more) facets) ≡ true → length excepts ≤ 129 → has_length facets ≡ false →
    has_octets (typed (More more) facets) excepts one_token ≡ true → LeavesOne (typed (More more) facets) excepts one_token (λ i. pad i []) 130
blank_case more facets excepts one_token octets suit few none has = elim (or_cases (has_length facets) _ has) [
  | inl some ↦ absurd (false≢true (sym none ∙ some))
  | inr empty ↦ after one_token empty
]
  where
    after : (asked : Bool) → (not asked && (allows facets 0 && is_left_spaced (typed (More more) facets) excepts [])) ≡ true → LeavesOne (typed (More more) facets) excepts asked (λ i. pad i []) 130
    after true h = absurd (false≢true h)
    after false h = let parts = and_parts (allows facets 0) _ h in pad_one more facets excepts 130 octets suit (omega (arith, few)) parts.0 parts.1

pub blank_given : (type : Datatype) (more : MoreType) (excepts : List Except) (one_token : Bool) (found : Option (List ℕ)) → type.form ≡ More more → is_octets more ≡ true → is_well_made type ≡ true → length excepts ≤ 129 →
    has_length type.facets ≡ false → Tried type excepts one_token (λ i. pad i []) found → IsMemberAnswer type excepts one_token found
blank_given type more excepts one_token found is octets made few none told =
    let suit = made_as type (More more) is made in
    given type excepts one_token (λ i. pad i []) found made few told
    (λ has. by_form type (More more) (λ t. LeavesOne t excepts one_token (λ i. pad i []) 130) is
    (blank_case more type.facets excepts one_token octets suit few none
    (sym (more_octets more (typed (More more) type.facets) excepts one_token octets) ∙ ap (λ f. has_member (typed f type.facets) excepts one_token) (sym is) ∙ has)))

-- bytes that aren't UTF-8 are no member
pub no_member_in : (type : Datatype) (excepts : List Except) (one_token : Bool) (bytes : List ℕ) → (is_utf8 bytes ≡ true → ⊥) → is_member type excepts one_token bytes ≡ false
no_member_in type excepts one_token bytes bad = and_left (is_of_chars bytes) _ (and_left (is_utf8 bytes) _ (false_from_ne_true _ bad))
