-- Decimals have a member exactly where their bounds leave room, or a bound is left.
use Rattle.std.specs.Prelude.{◌≡◌, ℕ, ◌+◌, ◌≤◌, ℤ, ◌≤ℤ◌, Bool, true, false, not, ◌&&◌, ◌||◌, List, [], ◌∷◌, length}
use Rattle.std.proofs.Common.{refl, sym, ap, ◌∙◌, arith, inl, inr}
use Rattle.std.proofs.lemmas.Bool.{and_parts, and_from, false≢true, or_cases, or_left, or_right, or_parts, cases_Bool, not-false}
use Rattle.std.proofs.lemmas.Int.{ints}
use Rattle.std.specs.List.{list_all, list_any}
use Rattle.std.specs.Ordering.{is_lt}
use Rattle.rng_types.specs.Spaces.{collapsed}
use Rattle.rng_types.specs.Numbers.{Number, number_of, compared, is_decimal}
use Rattle.rng_types.specs.NumberMembers.{is_number_bound, limit_over, over, is_number_met, is_number_left, is_lower, is_upper, leaves_room, has_room, is_limit_left, has_decimal}
use Rattle.rng_types.specs.WellMade.{suits}
use Rattle.rng_types.specs.Giving.{zeroed, pointed, extended}
use Rattle.rng_types.specs.declared.kind.Word.TheVariants.{Decimal}
use Rattle.rng_types.specs.declared.kind.Form.TheVariants.{One}
use Rattle.rng_types.specs.declared.facet.Relation.{Relation}
use Rattle.rng_types.specs.declared.facet.Relation.TheVariants.{Exactly, AtLeast, AtMost, Above, Below}
use Rattle.rng_types.specs.declared.facet.Facet.{Facet}
use Rattle.rng_types.specs.declared.facet.Facet.TheVariants.{Length, Bound}
use Rattle.rng_types.specs.declared.datatype.Except.{Except}
use Rattle.rng_types.proofs.Scaled.{is_met, met-over}
use Rattle.rng_types.proofs.Ends.{Says, met_says, lower_says}
use Rattle.rng_types.proofs.Numeric.{typed, IsNumeric, number_member, member_number, IsWithin}
use Rattle.rng_types.proofs.Parted.{decimal_zeroed, extended_is}
use Rattle.rng_types.proofs.Beyond.{chosen, base_left}
use Rattle.rng_types.proofs.Room.{scaled, left-scaled, not_less_at, most_places, within_most, most_length, limits_within, within_limits}
use Rattle.rng_types.proofs.Within.{In, all_at, any_from, each_at, failing, passing}
use Rattle.rng_types.proofs.Beside.{LeavesMember, LeavesText}

bound_case : (facet : Facet) → suits (One Decimal) facet ≡ true → is_number_bound facet ≡ true
bound_case (Length relation limit) suit = absurd (false≢true suit)
bound_case (Bound relation limit) suit = suit

pub decimal_bounds : (facets : List Facet) → list_all (suits (One Decimal)) facets ≡ true → list_all is_number_bound facets ≡ true
decimal_bounds [] suit = refl
decimal_bounds (facet ∷ facets) suit = let parts = and_parts _ _ suit in and_from _ _ (bound_case facet parts.0) (decimal_bounds facets parts.1)

pub decimals_numeric : IsNumeric Decimal
decimals_numeric = record { same = λ a b. refl; decimal = λ text decimal. decimal }

-- a literal of a number that is left gives a member
pub left_member : (facets : List Facet) (excepts : List Except) (one_token : Bool) (text : List ℕ) → list_all is_number_bound facets ≡ true → is_decimal text ≡ true → is_number_left facets excepts (number_of text) ≡ true → LeavesMember (typed (One Decimal) facets) excepts one_token
left_member facets excepts one_token text bounds decimal left =
    number_member Decimal facets excepts one_token (number_of text) (λ i. zeroed i text) decimals_numeric (decimal_zeroed text decimal) bounds left

-- bounds without room between them meet in one number
upper_says : (relation : Relation) (v z : ℤ) → Says relation v z → is_upper relation ≡ true → v ≤ℤ z
upper_says Exactly v z says upper = omega (arith, ints)
upper_says AtLeast v z says upper = absurd (false≢true upper)
upper_says AtMost v z says upper = says
upper_says Above v z says upper = absurd (false≢true upper)
upper_says Below v z says upper = omega (arith, ints)

pub record IsPinned (relation other : Relation) (x y : Number) : Type 0 where
  pub lower : is_lower relation ≡ true
  pub upper : is_upper other ≡ true
  pub not_less : is_lt (compared x y) ≡ false

pinned_parts : (relation other : Relation) (x y : Number) → (not (is_lower relation && is_upper other) || is_lt (compared x y)) ≡ false → IsPinned relation other x y
pinned_parts relation other x y none =
    let sides = or_parts _ _ none in
    let both = and_parts (is_lower relation) (is_upper other) (not-false _ sides.0) in
    record { lower = both.0; upper = both.1; not_less = sides.1 }

pinned_left : (facets : List Facet) (excepts : List Except) (x : Number) → list_all is_number_bound facets ≡ true → is_number_left facets excepts x ≡ true → (f g : Facet) → In f facets → In g facets → leaves_room f g ≡ false → is_limit_left facets excepts f ≡ true
pinned_left facets excepts x bounds left (Length relation limit) g in_f in_g none = absurd (false≢true (sym none))
pinned_left facets excepts x bounds left (Bound relation limit) (Length other length) in_f in_g none = absurd (false≢true (sym none))
pinned_left facets excepts x bounds left (Bound relation limit) (Bound other length) in_f in_g none =
    let s : ℕ = x.places + most_places facets in
    let within = within_most s facets bounds (omega arith) in
    let low : (number_of limit).places ≤ s = each_at (IsWithin s) (Bound relation limit) facets within in_f in
    let high : (number_of length).places ≤ s = each_at (IsWithin s) (Bound other length) facets within in_g in
    let pinned = pinned_parts relation other (number_of limit) (number_of length) none in
    let w : ℤ = scaled s x in
    let left_w : is_number_left facets excepts (over s w) ≡ true = left-scaled s facets excepts x (omega arith) ∙ left in
    let met = (and_parts (list_all (is_number_met (over s w)) facets) _ left_w).0 in
    let met_f : is_met w (limit_over s (Bound relation limit)) ≡ true = sym (met-over s w relation limit low) ∙ all_at (is_number_met (over s w)) (Bound relation limit) facets met in_f in
    let met_g : is_met w (limit_over s (Bound other length)) ≡ true = sym (met-over s w other length high) ∙ all_at (is_number_met (over s w)) (Bound other length) facets met in_g in
    let above : scaled s (number_of limit) ≤ℤ w = lower_says relation w (scaled s (number_of limit)) ((met_says w (limit_over s (Bound relation limit))).0 met_f) pinned.lower in
    let below : w ≤ℤ scaled s (number_of length) = upper_says other w (scaled s (number_of length)) ((met_says w (limit_over s (Bound other length))).0 met_g) pinned.upper in
    let tight : scaled s (number_of length) ≤ℤ scaled s (number_of limit) = not_less_at s (number_of limit) (number_of length) low high pinned.not_less in
    let same : scaled s (number_of limit) ≡ w = omega (arith, ints, above, below, tight) in
    sym (left-scaled s facets excepts (number_of limit) low) ∙ ap (λ v. is_number_left facets excepts (over s v)) same ∙ left_w

pub decimal_complete : (facets : List Facet) (excepts : List Except) (one_token : Bool) → list_all (suits (One Decimal)) facets ≡ true → LeavesText (typed (One Decimal) facets) excepts one_token → has_decimal facets excepts ≡ true
decimal_complete facets excepts one_token suit member =
    let bounds = decimal_bounds facets suit in
    let x = number_of (collapsed member.0) in
    let left = member_number Decimal facets excepts one_token decimals_numeric bounds member in
    elim (cases_Bool (has_room facets)) [
      | inl room ↦ or_left _ _ room
      | inr none ↦
          let lower = failing (λ f. list_all (leaves_room f) facets) facets none in
          let upper = failing (leaves_room lower.item) facets lower.is in
          or_right _ _ (any_from (is_limit_left facets excepts) lower.item facets lower.inside
          (pinned_left facets excepts x bounds left lower.item upper.item lower.inside upper.inside upper.is))
    ]

limit_member : (facets : List Facet) (excepts : List Except) (one_token : Bool) → list_all is_number_bound facets ≡ true → (facet : Facet) → is_number_bound facet ≡ true → is_limit_left facets excepts facet ≡ true → LeavesMember (typed (One Decimal) facets) excepts one_token
limit_member facets excepts one_token bounds (Length relation limit) bound left = absurd (false≢true left)
limit_member facets excepts one_token bounds (Bound relation limit) bound left = left_member facets excepts one_token limit bounds bound left

pub decimal_sound : (facets : List Facet) (excepts : List Except) (one_token : Bool) → list_all (suits (One Decimal)) facets ≡ true → length excepts ≤ 129 → has_decimal facets excepts ≡ true → LeavesMember (typed (One Decimal) facets) excepts one_token
decimal_sound facets excepts one_token suit few has =
    let bounds = decimal_bounds facets suit in
    elim (or_cases (has_room facets) (list_any (is_limit_left facets excepts) facets) has) [
      | inl room ↦
          let k : ℕ = most_length facets in
          let within = within_limits k facets bounds (limits_within facets) in
          let base = chosen k facets bounds within room in
          let left = base_left k facets excepts base.base within few base.is in
          left_member facets excepts one_token (extended (pointed base.base) k (left.at + 1)) bounds (extended_is base.base k (left.at + 1) base.is.decimal (omega (arith, left.below))).decimal left.passes
      | inr some ↦
          let limit = passing (is_limit_left facets excepts) facets some in
          limit_member facets excepts one_token bounds limit.item (all_at is_number_bound limit.item facets bounds limit.inside) limit.is
    ]
