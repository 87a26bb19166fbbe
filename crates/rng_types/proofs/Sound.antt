-- What well made types of numbers have, and sound excepts beside them.
use Rattle.std.specs.Prelude.{◌≡◌, true, List, [], ◌∷◌}
use Rattle.std.proofs.Common.{refl, sym, ap, ◌∙◌, subst}
use Rattle.std.proofs.lemmas.Bool.{and_parts, and_from}
use Rattle.std.specs.List.{list_all}
use Rattle.std.specs.Str.{is_utf8}
use Rattle.rng_types.specs.Spaces.{collapsed}
use Rattle.rng_types.specs.Numbers.{is_decimal, is_integer}
use Rattle.rng_types.specs.Answers.{is_accepted}
use Rattle.rng_types.specs.WellMade.{suits, is_form, is_well_made, is_sound_except}
use Rattle.rng_types.specs.NumberMembers.{is_number_bound, is_decimal_except, is_integer_except}
use Rattle.rng_types.specs.declared.kind.Word.TheVariants.{Decimal, Integer}
use Rattle.rng_types.specs.declared.kind.Form.{Form}
use Rattle.rng_types.specs.declared.kind.Form.TheVariants.{One}
use Rattle.rng_types.specs.declared.facet.Facet.{Facet}
use Rattle.rng_types.specs.declared.datatype.Datatype.{Datatype}
use Rattle.rng_types.specs.declared.datatype.Except.{Except}
use Rattle.rng_types.specs.declared.datatype.Except.TheVariants.{Own, BuiltinString, BuiltinToken}
use Rattle.rng_types.proofs.Numeric.{typed}
use Rattle.rng_types.proofs.Decimals.{decimal_bounds}

pub suits_form : (type : Datatype) (form : Form) → type.form ≡ form → is_well_made type ≡ true → list_all (suits form) type.facets ≡ true
suits_form type form is made = ap (λ f. list_all (suits f) type.facets) (sym is) ∙ (and_parts (is_form type.form) (list_all (suits type.form) type.facets) made).1

pub bounds_decimal : (type : Datatype) → type.form ≡ One Decimal → is_well_made type ≡ true → list_all is_number_bound type.facets ≡ true
bounds_decimal type is made = decimal_bounds type.facets (suits_form type (One Decimal) is made)

decimal_case : (facets : List Facet) (except : Except) → is_sound_except (typed (One Decimal) facets) except ≡ true → is_decimal_except except ≡ true
decimal_case facets (Own literal) sound =
    let parts = and_parts (is_utf8 literal) (is_accepted (typed (One Decimal) facets) literal) sound in
    and_from _ _ parts.0 (and_parts (is_decimal (collapsed literal)) _ parts.1).0
decimal_case facets (BuiltinString literal) sound = refl
decimal_case facets (BuiltinToken literal) sound = refl

decimal_each : (facets : List Facet) (excepts : List Except) → list_all (is_sound_except (typed (One Decimal) facets)) excepts ≡ true → list_all is_decimal_except excepts ≡ true
decimal_each facets [] sound = refl
decimal_each facets (except ∷ excepts) sound = let parts = and_parts _ _ sound in and_from _ _ (decimal_case facets except parts.0) (decimal_each facets excepts parts.1)

integer_case : (facets : List Facet) (except : Except) → is_sound_except (typed (One Integer) facets) except ≡ true → is_integer_except except ≡ true
integer_case facets (Own literal) sound =
    let parts = and_parts (is_utf8 literal) (is_accepted (typed (One Integer) facets) literal) sound in
    and_from _ _ parts.0 (and_parts (is_integer (collapsed literal)) _ parts.1).0
integer_case facets (BuiltinString literal) sound = refl
integer_case facets (BuiltinToken literal) sound = refl

integer_each : (facets : List Facet) (excepts : List Except) → list_all (is_sound_except (typed (One Integer) facets)) excepts ≡ true → list_all is_integer_except excepts ≡ true
integer_each facets [] sound = refl
integer_each facets (except ∷ excepts) sound = let parts = and_parts _ _ sound in and_from _ _ (integer_case facets except parts.0) (integer_each facets excepts parts.1)

pub excepts_decimal : (type : Datatype) (excepts : List Except) → type.form ≡ One Decimal → list_all (is_sound_except type) excepts ≡ true → list_all is_decimal_except excepts ≡ true
excepts_decimal type excepts is sound =
    let P : Form → Type 0 = λ form. list_all (is_sound_except (typed form type.facets)) excepts ≡ true in
    decimal_each type.facets excepts (subst P is sound)

pub excepts_integer : (type : Datatype) (excepts : List Except) → type.form ≡ One Integer → list_all (is_sound_except type) excepts ≡ true → list_all is_integer_except excepts ≡ true
excepts_integer type excepts is sound =
    let P : Form → Type 0 = λ form. list_all (is_sound_except (typed form type.facets)) excepts ≡ true in
    integer_each type.facets excepts (subst P is sound)
