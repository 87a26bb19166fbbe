-- Integers have a member exactly where one of the numbers asked for is left.
use Rattle.std.specs.Prelude.{◌≡◌, ℕ, suc, ◌+◌, ◌^◌, ◌<◌, ◌≤◌, ℤ, pos, negsuc, neg_ℤ, ◌+ℤ◌, ◌-ℤ◌, ◌≤ℤ◌, ◌<ℤ◌, Bool, true, false, List, [], ◌∷◌, length, map, Option, None, Some}
use Rattle.std.proofs.Common.{refl, sym, ap, ◌∙◌, arith, subst, inl, inr}
use Rattle.std.proofs.Math.Nat.{pow-le-pow_right}
use Rattle.std.proofs.lemmas.Bool.{and_parts, and_from, leb-true, false≢true, cases_lt}
use Rattle.std.proofs.lemmas.Int.{ints}
use Rattle.std.specs.List.{list_all, AllByRecursion}
use Rattle.rng_types.specs.Spaces.{collapsed}
use Rattle.rng_types.specs.Numbers.{Number, number_of, times, unsigned}
use Rattle.rng_types.specs.NumberMembers.{is_number_bound, Limit, limit_over, over, takes_number, is_number_left, lower_end, has_integer_from, has_integer}
use Rattle.rng_types.specs.WellMade.{suits}
use Rattle.rng_types.specs.Giving.{extended, is_limit_within}
use Rattle.rng_types.specs.declared.kind.Word.TheVariants.{Integer}
use Rattle.rng_types.specs.declared.kind.Form.TheVariants.{One}
use Rattle.rng_types.specs.declared.facet.Facet.{Facet}
use Rattle.rng_types.specs.declared.facet.Facet.TheVariants.{Length, Bound}
use Rattle.rng_types.specs.declared.datatype.Except.{Except}
use Rattle.rng_types.proofs.Comparing.{decimal_from_integer}
use Rattle.rng_types.proofs.LeftOver.{TakesOne, one_left, Found, found, some_from}
use Rattle.rng_types.proofs.Literals.{whole_text, integer-whole_text, number-whole_text, plain-whole_text, apart-whole_text, places-integer, Digits-integer}
use Rattle.rng_types.proofs.Digits.{value-lt, digits_value-value}
use Rattle.rng_types.proofs.Apart.{digits-integer}
use Rattle.rng_types.proofs.Raised.{end_whole}
use Rattle.rng_types.proofs.Parted.{far_below_is}
use Rattle.rng_types.proofs.Room.{length-unsigned, most_length, limits_within}
use Rattle.rng_types.proofs.Scaled.{is_met, takes_one_number}
use Rattle.rng_types.proofs.Ends.{IsAbove, between, Reaches, reaches, met_below}
use Rattle.rng_types.proofs.Numeric.{typed, IsNumeric, Literals, number_member, member_number, IsWithin, met_facets, left-over}
use Rattle.rng_types.proofs.Beside.{LeavesMember, LeavesText}

-- of more numbers over one power of ten than excepts, apart from one another, each of which meets the bounds, one is left
each_takes_one : (s : ℕ) (candidate : ℕ → ℤ) (n : ℕ) → ((i j : ℕ) → candidate i ≡ candidate j → i ≡ j) → (excepts : List Except) → AllByRecursion (λ except. TakesOne (λ i. takes_number (over s (candidate i)) except) n) excepts
each_takes_one s candidate n apart [] = tt
each_takes_one s candidate n apart (except ∷ excepts) = (takes_one_number s candidate n apart except, each_takes_one s candidate n apart excepts)

pub number_left : (s : ℕ) (facets : List Facet) (excepts : List Except) (candidate : ℕ → ℤ) → AllByRecursion (IsWithin s) facets → ((i j : ℕ) → candidate i ≡ candidate j → i ≡ j) →
    ((i : ℕ) → i < length excepts + 1 → list_all (is_met (candidate i)) (map (limit_over s) facets) ≡ true) → Found (λ i. is_number_left facets excepts (over s (candidate i))) (length excepts + 1)
number_left s facets excepts candidate within apart met =
    let n : ℕ = length excepts + 1 in
    let left = one_left excepts (λ except i. takes_number (over s (candidate i)) except) n (each_takes_one s candidate n apart excepts) (omega arith) in
    record { at = left.at; below = left.below; passes = and_from _ _ (met_facets s (candidate left.at) facets within ∙ met left.at left.below) left.free }

-- the bounds of an integer type
within_case : (facet : Facet) → suits (One Integer) facet ≡ true → IsWithin 0 facet
within_case (Length relation limit) suit = absurd (false≢true suit)
within_case (Bound relation limit) suit = omega (arith, places-integer limit suit)

pub within_zero : (facets : List Facet) → list_all (suits (One Integer)) facets ≡ true → AllByRecursion (IsWithin 0) facets
within_zero [] suit = tt
within_zero (facet ∷ facets) suit = let parts = and_parts _ _ suit in (within_case facet parts.0, within_zero facets parts.1)

bound_case : (facet : Facet) → suits (One Integer) facet ≡ true → is_number_bound facet ≡ true
bound_case (Length relation limit) suit = absurd (false≢true suit)
bound_case (Bound relation limit) suit = decimal_from_integer limit suit

pub integer_bounds : (facets : List Facet) → list_all (suits (One Integer)) facets ≡ true → list_all is_number_bound facets ≡ true
integer_bounds [] suit = refl
integer_bounds (facet ∷ facets) suit = let parts = and_parts _ _ suit in and_from _ _ (bound_case facet parts.0) (integer_bounds facets parts.1)

pub integers_numeric : IsNumeric Integer
integers_numeric = record { same = λ a b. refl; decimal = decimal_from_integer }

integer_literals : (negative : Bool) (d : ℕ) → Literals Integer (record { negative = negative; digits = d; places = 0 }) (whole_text negative d)
integer_literals negative d = record {
  plain = plain-whole_text negative d;
  fits = integer-whole_text negative d;
  number = number-whole_text negative d;
  apart = apart-whole_text negative d;
}

integer_member : (facets : List Facet) (excepts : List Except) (one_token : Bool) (v : ℤ) → list_all is_number_bound facets ≡ true → is_number_left facets excepts (over 0 v) ≡ true → LeavesMember (typed (One Integer) facets) excepts one_token
integer_member facets excepts one_token (pos d) bounds left = number_member Integer facets excepts one_token _ (whole_text false d) integers_numeric (integer_literals false d) bounds left
integer_member facets excepts one_token (negsuc d) bounds left = number_member Integer facets excepts one_token _ (whole_text true (suc d)) integers_numeric (integer_literals true (suc d)) bounds left

member_integer : (facets : List Facet) (excepts : List Except) (one_token : Bool) → list_all is_number_bound facets ≡ true → (member : LeavesText (typed (One Integer) facets) excepts one_token) →
    is_number_left facets excepts (over 0 (times (number_of (collapsed member.0)) 1)) ≡ true
member_integer facets excepts one_token bounds member =
    let x = number_of (collapsed member.0) in
    let whole : x.places ≡ 0 = places-integer (collapsed member.0) member.1.accepted.form in
    ap (λ s. is_number_left facets excepts (over s (times x 1))) (sym whole)
    ∙ sym (left-over facets excepts x) ∙ member_number Integer facets excepts one_token integers_numeric bounds member

-- how far a number is above another
pub record Distance (low v : ℤ) : Type 0 where
  pub steps : ℕ
  pub is : v ≡ low +ℤ pos steps

distance_by : (low v d : ℤ) → d ≡ v -ℤ low → low ≤ℤ v → Distance low v
distance_by low v (pos k) is above = record { steps = k; is = omega (arith, ints) }
distance_by low v (negsuc k) is above = absurd (omega (arith, ints))

pub distance : (low v : ℤ) → low ≤ℤ v → Distance low v
distance low v above = distance_by low v (v -ℤ low) refl above

integer_found : (end : Option ℤ) (facets : List Facet) (excepts : List Except) (v : ℤ) → list_all (suits (One Integer)) facets ≡ true → lower_end (map (limit_over 0) facets) ≡ end → Reaches end v →
    is_number_left facets excepts (over 0 v) ≡ true → has_integer_from end facets excepts ≡ true
integer_found None facets excepts v suit is reach left = refl
integer_found (Some low) facets excepts v suit is reach left =
    let limits : List Limit = map (limit_over 0) facets in
    let within = within_zero facets suit in
    let far = distance low v reach in
    let test : ℕ → Bool = λ i. is_number_left facets excepts (over 0 (low +ℤ pos i)) in
    elim (cases_lt far.steps (length excepts + 2)) [
      | inl near ↦ some_from test (length excepts + 2) far.steps near (ap (λ w. is_number_left facets excepts (over 0 w)) (sym far.is) ∙ left)
      | inr beyond ↦
          let met_v : list_all (is_met v) limits ≡ true = sym (met_facets 0 v facets within) ∙ (and_parts _ _ left).0 in
          let candidate : ℕ → ℤ = λ i. low +ℤ pos (i + 1) in
          let apart : (i j : ℕ) → candidate i ≡ candidate j → i ≡ j = λ i j same. omega (arith, ints, same) in
          let above : (i : ℕ) → IsAbove (lower_end limits) (candidate i) = λ i.
          let h : low <ℤ (low +ℤ pos (i + 1)) = omega (arith, ints) in
          let P : Option ℤ → Type 0 = λ o. IsAbove o (low +ℤ pos (i + 1)) in
          subst P (sym is) h in
          let below : (i : ℕ) → i < length excepts + 1 → candidate i ≤ℤ v = λ i h. omega (arith, ints, far.is) in
          let met : (i : ℕ) → i < length excepts + 1 → list_all (is_met (candidate i)) limits ≡ true = λ i h. between limits v (candidate i) met_v (above i) (below i h) in
          let left = number_left 0 facets excepts candidate within apart met in
          some_from test (length excepts + 2) (left.at + 1) (omega (arith, left.below)) left.passes
    ]

pub integer_complete : (facets : List Facet) (excepts : List Except) (one_token : Bool) → list_all (suits (One Integer)) facets ≡ true → LeavesText (typed (One Integer) facets) excepts one_token → has_integer facets excepts ≡ true
integer_complete facets excepts one_token suit member =
    let v : ℤ = times (number_of (collapsed member.0)) 1 in
    let left = member_integer facets excepts one_token (integer_bounds facets suit) member in
    let met : list_all (is_met v) (map (limit_over 0) facets) ≡ true = sym (met_facets 0 v facets (within_zero facets suit)) ∙ (and_parts _ _ left).0 in
    integer_found (lower_end (map (limit_over 0) facets)) facets excepts v suit refl (reaches (map (limit_over 0) facets) v met) left

-- a number that is left
pub record NumberLeft (s : ℕ) (facets : List Facet) (excepts : List Except) : Type 0 where
  pub number : ℤ
  pub left : is_number_left facets excepts (over s number) ≡ true

-- far below all bounds, where each is an upper one
above_far : (b : Bool) (d k m : ℕ) (z : ℤ) → z ≡ times (record { negative = b; digits = d; places = 0 }) 1 → d < 10 ^ k → k ≤ m → neg_ℤ (pos (10 ^ (m + 3))) <ℤ z
above_far true d k m z is small more = let h : 10 ^ k ≤ 10 ^ (m + 3) = pow-le-pow_right (omega arith) (omega (arith, more)) in omega (arith, ints, is, small, h)
above_far false d k m z is small more = let h : 10 ^ k ≤ 10 ^ (m + 3) = pow-le-pow_right (omega arith) (omega (arith, more)) in omega (arith, ints, is, small, h)

far_case : (k : ℕ) (facet : Facet) → suits (One Integer) facet ≡ true → is_limit_within k facet ≡ true → neg_ℤ (pos (10 ^ (k + 3))) <ℤ (limit_over 0 facet).at
far_case k (Length relation limit) suit within = absurd (false≢true suit)
far_case k (Bound relation limit) suit within =
    let digits = Digits-integer limit suit in
    let short : length limit ≤ k = leb-true (length limit) k within in
    let small : (number_of limit).digits < 10 ^ length (unsigned limit) = rw (digits-integer limit suit ∙ digits_value-value digits) (value-lt digits) in
    above_far (number_of limit).negative (number_of limit).digits (length (unsigned limit)) k (limit_over 0 (Bound relation limit)).at (end_whole limit) small (omega (arith, length-unsigned limit, short))

far_each : (k : ℕ) (w : ℤ) (facets : List Facet) → list_all (suits (One Integer)) facets ≡ true → list_all (is_limit_within k) facets ≡ true → w ≤ℤ neg_ℤ (pos (10 ^ (k + 3))) → AllByRecursion (λ limit. w <ℤ limit.at) (map (limit_over 0) facets)
far_each k w [] suit within far = tt
far_each k w (facet ∷ facets) suit within far =
    let parts = and_parts _ _ suit in
    let more = and_parts (is_limit_within k facet) (list_all (is_limit_within k) facets) within in
    (let h = far_case k facet parts.0 more.0 in omega (arith, ints, far, h), far_each k w facets parts.1 more.1 far)

abbrev far_number : ℕ → ℕ → Number
far_number k i = record { negative = true; digits = 10 ^ (k + 3) + i; places = 0 }

pub left_far_below : (k : ℕ) (facets : List Facet) (excepts : List Except) → list_all (suits (One Integer)) facets ≡ true → list_all (is_limit_within k) facets ≡ true → length excepts ≤ 129 → lower_end (map (limit_over 0) facets) ≡ None →
    Found (λ i. is_number_left facets excepts (number_of (extended (45 ∷ 49 ∷ []) k i))) 130
left_far_below k facets excepts suit within few none =
    let limits : List Limit = map (limit_over 0) facets in
    let candidate : ℕ → ℤ = λ i. times (far_number k i) 1 in
    let apart : (i j : ℕ) → candidate i ≡ candidate j → i ≡ j = λ i j same. omega (arith, ints, same) in
    let left = number_left 0 facets excepts candidate (within_zero facets suit) apart
    (λ i inside. met_below limits (candidate i) none (far_each k (candidate i) facets suit within (omega (arith, ints)))) in
    record {
      at = left.at;
      below = omega (arith, left.below, few);
      passes = ap (is_number_left facets excepts) (far_below_is k left.at (omega (arith, left.below, few))).number ∙ left-over facets excepts (far_number k left.at) ∙ left.passes;
    }

integer_left : (end : Option ℤ) (facets : List Facet) (excepts : List Except) → list_all (suits (One Integer)) facets ≡ true → length excepts ≤ 129 → lower_end (map (limit_over 0) facets) ≡ end → has_integer_from end facets excepts ≡ true → NumberLeft 0 facets excepts
integer_left None facets excepts suit few is has =
    let k : ℕ = most_length facets in
    let left = left_far_below k facets excepts suit (limits_within facets) few is in
    let number = (far_below_is k left.at (omega (arith, left.below))).number in
    record { number = times (far_number k left.at) 1; left = sym (left-over facets excepts (far_number k left.at)) ∙ ap (is_number_left facets excepts) (sym number) ∙ left.passes }
integer_left (Some low) facets excepts suit few is has =
    let some = found (λ i. is_number_left facets excepts (over 0 (low +ℤ pos i))) (length excepts + 2) has in
    record { number = low +ℤ pos some.at; left = some.passes }

pub integer_sound : (facets : List Facet) (excepts : List Except) (one_token : Bool) → list_all (suits (One Integer)) facets ≡ true → length excepts ≤ 129 → has_integer facets excepts ≡ true → LeavesMember (typed (One Integer) facets) excepts one_token
integer_sound facets excepts one_token suit few has =
    let left = integer_left (lower_end (map (limit_over 0) facets)) facets excepts suit few refl has in
    integer_member facets excepts one_token left.number (integer_bounds facets suit) left.left
