-- The types of the tables, with params, are made as they should be.
use Rattle.std.specs.Prelude.{◌≡◌, ℕ, Bool, true, false, ◌&&◌, if◌then◌else◌, List, [], ◌∷◌, ◌++◌, Option, None, Some, Ok, Err, cond}
use Rattle.std.proofs.Common.{subst, refl, sym, ap, ◌∙◌}
use Rattle.std.proofs.lemmas.Bool.{and_parts, and_from, false≢true}
use Rattle.std.proofs.lemmas.List.Folds.{list_all-append}
use Rattle.std.specs.List.{list_all, filter_map, find, cons_option}
use Rattle.std.specs.Option.{option_and_then}
use Rattle.std.specs.Str.{bytes_eq, is_utf8}
use Rattle.std.specs.Str.Parse.{digits_value}
use Rattle.rng_types.specs.Spaces.{collapsed}
use Rattle.rng_types.specs.Numbers.{has_few_digits}
use Rattle.rng_types.specs.Words.{is_word}
use Rattle.rng_types.specs.Table.{TypeRow, builtin_types, schema_types, schema_library, type_named}
use Rattle.rng_types.specs.Naming.{param_relation, is_length, is_bound, facet_with, facet_of, is_taken, is_literal, range_of, type_with, type_of_found}
use Rattle.rng_types.specs.WellMade.{suits, is_form, is_well_made}
use Rattle.rng_types.specs.MemberTest.{NamedAreWellMade}
use Rattle.rng_types.specs.declared.kind.Word.TheVariants.{Name, NcName, NmToken, Language, Boolean, Decimal, Integer}
use Rattle.rng_types.specs.declared.kind.Form.{Form}
use Rattle.rng_types.specs.declared.kind.Form.TheVariants.{Any, One, Several, More}
use Rattle.rng_types.specs.declared.kind.Takes.{Takes}
use Rattle.rng_types.specs.declared.kind.Takes.TheVariants.{Nothing, Lengths, Bounds}
use Rattle.rng_types.specs.declared.facet.Relation.{Relation}
use Rattle.rng_types.specs.declared.facet.Relation.TheVariants.{Exactly}
use Rattle.rng_types.specs.declared.facet.Facet.{Facet}
use Rattle.rng_types.specs.declared.facet.Facet.TheVariants.{Length, Bound}
use Rattle.rng_types.specs.declared.datatype.Datatype.{Datatype}
use Rattle.rng_types.specs.declared.datatype.Param.{Param}
use Rattle.rng_types.specs.declared.fault.TypeFault.{TypeFault}

-- the form goes with the facets that the type takes
abbrev goes_with : Takes → Form → Bool
goes_with Nothing form = true
goes_with Lengths form = suits form (Length Exactly 0)
goes_with Bounds (Any whitespace) = false
goes_with Bounds (One Name) = false
goes_with Bounds (One NcName) = false
goes_with Bounds (One NmToken) = false
goes_with Bounds (One Language) = false
goes_with Bounds (One Boolean) = false
goes_with Bounds (One Decimal) = true
goes_with Bounds (One Integer) = true
goes_with Bounds (Several word) = false
goes_with Bounds (More more) = false

abbrev is_fine : TypeRow → Bool
is_fine row = is_form row.form && (list_all (suits row.form) (range_of row) && goes_with row.takes row.form)

builtin_fine : list_all is_fine builtin_types ≡ true
builtin_fine = refl

schema_fine : list_all is_fine schema_types ≡ true
schema_fine = refl

module _ {X : Type 0} where
  -- what is found passes
  abbrev Passes : (X → Bool) → Option X → Type 0
  Passes p None = Unit {0}
  Passes p (Some x) = p x ≡ true

  find_case : (p : X → Bool) (b : Bool) (x : X) (rest : Option X) → p x ≡ true → Passes p rest → Passes p (cond b (Some x) rest)
  find_case p true x rest first more = first
  find_case p false x rest first more = more

  find_passes : (p test : X → Bool) (xs : List X) → list_all p xs ≡ true → Passes p (find test xs)
  find_passes p test [] all = tt
  find_passes p test (x ∷ xs) all = let parts = and_parts (p x) (list_all p xs) all in find_case p (test x) x (find test xs) parts.0 (find_passes p test xs parts.1)

named_case : (b c : Bool) (first second : Option TypeRow) → Passes is_fine first → Passes is_fine second → Passes is_fine (if b then first else (if c then second else None))
named_case true c first second one two = one
named_case false true first second one two = two
named_case false false first second one two = tt

named_fine : (library name : List ℕ) → Passes is_fine (type_named library name)
named_fine library name =
    named_case (bytes_eq library []) (bytes_eq library schema_library) (find (λ row. bytes_eq row.name name) builtin_types) (find (λ row. bytes_eq row.name name) schema_types)
    (find_passes is_fine (λ row. bytes_eq row.name name) builtin_types builtin_fine) (find_passes is_fine (λ row. bytes_eq row.name name) schema_types schema_fine)

-- the facet of a param suits
length_suits : (form : Form) (relation : Relation) (limit : ℕ) → suits form (Length Exactly 0) ≡ true → suits form (Length relation limit) ≡ true
length_suits (Any whitespace) relation limit fine = refl
length_suits (One Name) relation limit fine = refl
length_suits (One NcName) relation limit fine = refl
length_suits (One NmToken) relation limit fine = refl
length_suits (One Language) relation limit fine = absurd (false≢true fine)
length_suits (One Boolean) relation limit fine = absurd (false≢true fine)
length_suits (One Decimal) relation limit fine = absurd (false≢true fine)
length_suits (One Integer) relation limit fine = absurd (false≢true fine)
length_suits (Several word) relation limit fine = refl
length_suits (More more) relation limit fine = fine

bound_suits : (form : Form) (relation : Relation) (value : List ℕ) → goes_with Bounds form ≡ true → is_bound form value ≡ true → suits form (Bound relation (collapsed value)) ≡ true
bound_suits (Any whitespace) relation value fine bound = absurd (false≢true fine)
bound_suits (One Name) relation value fine bound = absurd (false≢true fine)
bound_suits (One NcName) relation value fine bound = absurd (false≢true fine)
bound_suits (One NmToken) relation value fine bound = absurd (false≢true fine)
bound_suits (One Language) relation value fine bound = absurd (false≢true fine)
bound_suits (One Boolean) relation value fine bound = absurd (false≢true fine)
bound_suits (One Decimal) relation value fine bound = (and_parts (is_word Decimal (collapsed value)) (has_few_digits (collapsed value)) (and_parts (is_utf8 value) _ bound).1).0
bound_suits (One Integer) relation value fine bound = (and_parts (is_word Integer (collapsed value)) (has_few_digits (collapsed value)) (and_parts (is_utf8 value) _ bound).1).0
bound_suits (Several word) relation value fine bound = absurd (false≢true fine)
bound_suits (More more) relation value fine bound = absurd (false≢true fine)

some_if : (form : Form) (b : Bool) (facet : Facet) → (b ≡ true → suits form facet ≡ true) → Passes (suits form) (if b then Some facet else None)
some_if form true facet suit = suit refl
some_if form false facet suit = tt

with_suits : (takes : Takes) (form : Form) (relation : Relation) (value : List ℕ) → goes_with takes form ≡ true → Passes (suits form) (facet_with takes form relation value)
with_suits Nothing form relation value fine = tt
with_suits Lengths form relation value fine = some_if form (is_length value) (Length relation (digits_value 10 value)) (λ is. length_suits form relation (digits_value 10 value) fine)
with_suits Bounds form relation value fine = some_if form (is_bound form value) (Bound relation (collapsed value)) (λ is. bound_suits form relation value fine is)

facet_case : (row : TypeRow) (param : Param) (relation : Option Relation) → goes_with row.takes row.form ≡ true → Passes (suits row.form) (option_and_then (λ r. facet_with row.takes row.form r param.value) relation)
facet_case row param None fine = tt
facet_case row param (Some relation) fine = with_suits row.takes row.form relation param.value fine

kept_case : (form : Form) (found : Option Facet) (facets : List Facet) → Passes (suits form) found → list_all (suits form) facets ≡ true → list_all (suits form) (cons_option found facets) ≡ true
kept_case form None facets suit all = all
kept_case form (Some facet) facets suit all = and_from _ _ suit all

params_suit : (row : TypeRow) (params : List Param) → goes_with row.takes row.form ≡ true → list_all (suits row.form) (filter_map (facet_of row) params) ≡ true
params_suit row [] fine = refl
params_suit row (param ∷ params) fine = kept_case row.form (facet_of row param) (filter_map (facet_of row) params) (facet_case row param (param_relation row.takes param.name) fine) (params_suit row params fine)

row_made : (row : TypeRow) (params : List Param) → is_fine row ≡ true → is_well_made (type_with row params) ≡ true
row_made row params fine =
    let parts = and_parts (is_form row.form) _ fine in
    let more = and_parts (list_all (suits row.form) (range_of row)) (goes_with row.takes row.form) parts.1 in
    and_from _ _ parts.0 (list_all-append (suits row.form) (range_of row) (filter_map (facet_of row) params) ∙ and_from _ _ more.0 (params_suit row params more.1))

answer_case : (taken literal : Bool) (made type : Datatype) (first second : TypeFault) → is_well_made made ≡ true → (if taken then (if literal then Ok made else Err first) else Err second) ≡ Ok type → is_well_made type ≡ true
answer_case true true made type first second fine is = let same : made ≡ type = cc in ap is_well_made (sym same) ∙ fine
answer_case true false made type first second fine is = absurd (cc)
answer_case false literal made type first second fine is = absurd (cc)

found_made : (found : Option TypeRow) (params : List Param) (type : Datatype) → Passes is_fine found → type_of_found found params ≡ Ok type → is_well_made type ≡ true
found_made None params type fine is = absurd (cc)
found_made (Some row) params type fine is = answer_case (list_all (is_taken row) params) (list_all (is_literal row) params) (type_with row params) type _ _ (row_made row params fine) is

pub named_are_well_made : NamedAreWellMade
named_are_well_made library name params type is = found_made (type_named library name) params type (named_fine library name) is

row_fine : (row : TypeRow) (library name : List ℕ) → Some row ≡ type_named library name → is_fine row ≡ true
row_fine row library name is = let P : Option TypeRow → Type 0 = λ found. Passes is_fine found in subst P (sym is) (named_fine library name)

pub facets_made : (row : TypeRow) (library name : List ℕ) (params : List Param) (facets : List Facet) → Some row ≡ type_named library name → facets ≡ range_of row ++ filter_map (facet_of row) params →
    is_well_made (record { form = row.form; facets = facets }) ≡ true
facets_made row library name params facets is same =
    ap (λ (fs : List Facet). is_well_made (let type : Datatype = record { form = row.form; facets = fs } in type)) same ∙ row_made row params (row_fine row library name is)
