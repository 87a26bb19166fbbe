-- Whether a number is left between bounds, beside excepts.
use Rattle.std.specs.Prelude.{ℕ, zero, suc, ◌+◌, ◌-◌, ◌^◌, ℤ, pos, negsuc, ◌+ℤ◌, Bool, true, false, ◌||◌, not, ◌&&◌}
use Rattle.std.specs.Prelude.{if◌then◌else◌, List, [], ◌∷◌, length, map, Option, None, Some}
use Rattle.std.specs.List.{list_all, list_any}
use Rattle.std.specs.Int.{int_max}
use Rattle.std.specs.Str.{is_utf8}
use Rattle.std.specs.Ordering.{is_lt}
use Rattle.rng_types.specs.Spaces.{collapsed}
use Rattle.rng_types.specs.Numbers.{Number, number_of, times, compared, is_decimal, is_integer}
use Rattle.rng_types.specs.Facets.{holds}
use Rattle.rng_types.specs.Answers.{is_same_number}
use Rattle.rng_types.specs.declared.facet.Relation.{Relation}
use Rattle.rng_types.specs.declared.facet.Relation.TheVariants.{Exactly, AtLeast, AtMost, Above, Below}
use Rattle.rng_types.specs.declared.facet.Facet.{Facet}
use Rattle.rng_types.specs.declared.facet.Facet.TheVariants.{Length, Bound}
use Rattle.rng_types.specs.declared.datatype.Except.{Except}
use Rattle.rng_types.specs.declared.datatype.Except.TheVariants.{Own, BuiltinString, BuiltinToken}

-- one of the numbers below this one passes the test
abbrev pub some_below : (ℕ → Bool) → ℕ → Bool
some_below test zero = false
some_below test (suc n) = test n || some_below test n

-- an except of the type's own values takes the number away
abbrev pub takes_number : Number → Except → Bool
takes_number x (Own literal) = is_same_number x (number_of (collapsed literal))
takes_number x (BuiltinString literal) = false
takes_number x (BuiltinToken literal) = false

-- a number meets a bound
abbrev pub is_number_met : Number → Facet → Bool
is_number_met x (Length relation limit) = false
is_number_met x (Bound relation limit) = holds relation (compared x (number_of limit))

-- a number of the type that no except takes away. Each number has literals without end, by zeros at its start, so that
-- excepts of other kinds never take all of them
abbrev pub is_number_left : List Facet → List Except → Number → Bool
is_number_left facets excepts x = list_all (is_number_met x) facets && list_all (λ except. not (takes_number x except)) excepts

-- a whole number over that power of ten
abbrev pub over : ℕ → ℤ → Number
over places (pos n) = record { negative = false; digits = n; places = places }
over places (negsuc n) = record { negative = true; digits = suc n; places = places }

-- a bound as a whole number over that power of ten, which is to be no smaller than the bound's own
pub record Limit : Type 0 where
  pub relation : Relation
  pub at : ℤ

abbrev pub limit_over : ℕ → Facet → Limit
limit_over places (Length relation limit) = record { relation = relation; at = pos limit }
limit_over places (Bound relation limit) =
    record { relation = relation; at = times (number_of limit) (10 ^ (places - (number_of limit).places)) }

abbrev pub is_lower : Relation → Bool
is_lower Exactly = true
is_lower AtLeast = true
is_lower AtMost = false
is_lower Above = true
is_lower Below = false

abbrev pub is_upper : Relation → Bool
is_upper Exactly = true
is_upper AtLeast = false
is_upper AtMost = true
is_upper Above = false
is_upper Below = true

-- the greatest lower end, if there is one
abbrev pub greatest : ℤ → Option ℤ → ℤ
greatest z None = z
greatest z (Some y) = int_max z y

abbrev pub raised : Option ℤ → Limit → Option ℤ
raised end limit = if is_lower limit.relation then Some (greatest limit.at end) else end

abbrev pub lower_end : List Limit → Option ℤ
lower_end [] = None
lower_end (limit ∷ limits) = raised (lower_end limits) limit

-- a whole number is left: always where nothing bounds it below, otherwise one of the first behind the greatest lower end
abbrev pub has_integer_from : Option ℤ → List Facet → List Except → Bool
has_integer_from None facets excepts = true
has_integer_from (Some low) facets excepts = some_below (λ i. is_number_left facets excepts (over 0 (low +ℤ pos i))) (length excepts + 2)

abbrev pub has_integer : List Facet → List Except → Bool
has_integer facets excepts = has_integer_from (lower_end (map (limit_over 0) facets)) facets excepts

-- a lower bound and an upper bound leave room between them
abbrev pub leaves_room : Facet → Facet → Bool
leaves_room (Length relation limit) facet = true
leaves_room (Bound relation limit) (Length other length) = true
leaves_room (Bound relation limit) (Bound other end) =
    not (is_lower relation && is_upper other) || is_lt (compared (number_of limit) (number_of end))

abbrev pub has_room : List Facet → Bool
has_room facets = list_all (λ lower. list_all (leaves_room lower) facets) facets

abbrev pub is_limit_left : List Facet → List Except → Facet → Bool
is_limit_left facets excepts (Length relation limit) = false
is_limit_left facets excepts (Bound relation limit) = is_number_left facets excepts (number_of limit)

-- a number is left: always where there is room between bounds, since there are numbers without end between any two; otherwise
-- only one number can meet them, which is a bound itself
abbrev pub has_decimal : List Facet → List Except → Bool
has_decimal facets excepts = has_room facets || list_any (is_limit_left facets excepts) facets

-- a bound by a decimal literal
abbrev pub is_number_bound : Facet → Bool
is_number_bound (Length relation limit) = false
is_number_bound (Bound relation limit) = is_decimal limit

-- an except of the type's own values is a decimal literal
abbrev pub is_decimal_except : Except → Bool
is_decimal_except (Own literal) = is_utf8 literal && is_decimal (collapsed literal)
is_decimal_except (BuiltinString literal) = true
is_decimal_except (BuiltinToken literal) = true

-- an except of the type's own values is an integer's literal
abbrev pub is_integer_except : Except → Bool
is_integer_except (Own literal) = is_utf8 literal && is_integer (collapsed literal)
is_integer_except (BuiltinString literal) = true
is_integer_except (BuiltinToken literal) = true
