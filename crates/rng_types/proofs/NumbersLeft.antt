-- Literals of numbers that are left.
use Rattle.std.specs.Prelude.{◌≡◌, ℕ, ◌+◌, ◌<◌, ◌≤◌, ℤ, true, false, ◌⊎◌, List, [], ◌∷◌, ◌++◌, length, map, take, get_or, None}
use Rattle.std.proofs.Common.{refl, sym, ap, ◌∙◌, subst, arith, inl, inr}
use Rattle.std.proofs.lemmas.Bool.{and_parts, and_from, false≢true}
use Rattle.std.proofs.lemmas.List.{take_more, take_all}
use Rattle.std.proofs.lemmas.List.Sums.{AllPass-from_list_all}
use Rattle.std.proofs.lemmas.List.Folds.{list_all-append}
use Rattle.std.specs.List.{list_all}
use Rattle.rng_types.specs.Numbers.{number_of, times, is_decimal, is_integer}
use Rattle.rng_types.specs.Offsets.{whole_number}
use Rattle.rng_types.specs.NumberMembers.{is_number_bound, is_decimal_except, is_integer_except, is_number_met, is_number_left, is_limit_left, limit_over, lower_end, over, has_room}
use Rattle.rng_types.specs.WellMade.{suits}
use Rattle.rng_types.specs.Giving.{pointed, extended, is_limit_within}
use Rattle.rng_types.specs.declared.kind.Form.TheVariants.{One}
use Rattle.rng_types.specs.declared.kind.Word.TheVariants.{Integer}
use Rattle.rng_types.specs.declared.facet.Relation.{Relation}
use Rattle.rng_types.specs.declared.facet.Facet.{Facet}
use Rattle.rng_types.specs.declared.facet.Facet.TheVariants.{Length, Bound}
use Rattle.rng_types.specs.declared.datatype.Except.{Except}
use Rattle.rng_types.specs.declared.datatype.Except.TheVariants.{Own, BuiltinString, BuiltinToken}
use Rattle.rng_types.proofs.Comparing.{decimal_from_integer}
use Rattle.rng_types.proofs.Literals.{places-integer}
use Rattle.rng_types.proofs.Numeric.{left-over}
use Rattle.rng_types.proofs.Parted.{extended_is, far_below_is}
use Rattle.rng_types.proofs.Raised.{decimal_literal}
use Rattle.rng_types.proofs.Room.{within_limits, limit_within_more, limits_within_more}
use Rattle.rng_types.proofs.Whole.{left_far_below}
use Rattle.rng_types.proofs.Beyond.{From, chosen, first_met, base_left}
use Rattle.rng_types.proofs.Within.{In}

-- a whole number that is left, by its literal
pub plus_left : (facets : List Facet) (excepts : List Except) (text : List ℕ) (z : ℤ) → is_integer text ≡ true → whole_number text ≡ z → is_number_left facets excepts (over 0 z) ≡ true → is_number_left facets excepts (number_of text) ≡ true
plus_left facets excepts text z integer is left =
    left-over facets excepts (number_of text) ∙ ap (λ s. is_number_left facets excepts (over s (times (number_of text) 1))) (places-integer text integer)
    ∙ ap (λ v. is_number_left facets excepts (over 0 v)) is ∙ left

-- excepts of an integer type are decimal literals
wider_case : (except : Except) → is_integer_except except ≡ true → is_decimal_except except ≡ true
wider_case (Own literal) is = decimal_literal literal is
wider_case (BuiltinString literal) is = refl
wider_case (BuiltinToken literal) is = refl

pub decimal_excepts : (excepts : List Except) → list_all is_integer_except excepts ≡ true → list_all is_decimal_except excepts ≡ true
decimal_excepts [] are = refl
decimal_excepts (except ∷ excepts) are =
    let parts = and_parts (is_integer_except except) (list_all is_integer_except excepts) are in
    and_from _ _ (wider_case except parts.0) (decimal_excepts excepts parts.1)

-- one of the numbers far below is left
pub far_decimal : (text base : List ℕ) (k i : ℕ) → base ≡ 45 ∷ 49 ∷ [] → text ≡ extended base k i → i < 130 → is_decimal text ≡ true
far_decimal text base k i minus is small =
    let same : text ≡ extended (45 ∷ 49 ∷ []) k i = is ∙ ap (λ (t : List ℕ). extended t k i) minus in
    ap is_decimal same ∙ decimal_from_integer (extended (45 ∷ 49 ∷ []) k i) (far_below_is k i (omega (arith, small))).integer

pub far_integer : (text base : List ℕ) (k i : ℕ) → base ≡ 45 ∷ 49 ∷ [] → text ≡ extended base k i → i < 130 → is_integer text ≡ true
far_integer text base k i minus is small = ap is_integer (is ∙ ap (λ (t : List ℕ). extended t k i) minus) ∙ (far_below_is k i (omega (arith, small))).integer

pub far_left : (k : ℕ) (facets : List Facet) (excepts : List Except) → list_all (suits (One Integer)) facets ≡ true → list_all (is_limit_within k) facets ≡ true → length excepts ≤ 129 → lower_end (map (limit_over 0) facets) ≡ None →
    ((i : ℕ) → i < 130 → is_number_left facets excepts (number_of (extended (45 ∷ 49 ∷ []) k i)) ≡ false) → ⊥
far_left k facets excepts suit within few none fail =
    let left = left_far_below k facets excepts suit within few none in
    false≢true (sym (fail left.at left.below) ∙ left.passes)

-- just beyond a literal none is left, if all bounds are met there
abbrev pub FailsBeyond : List Facet → List Except → ℕ → List ℕ → Type 0
FailsBeyond facets excepts k base = list_all (is_number_met (number_of (extended (pointed base) k 1))) facets ≡ true → (i : ℕ) → i < 130 → is_number_left facets excepts (number_of (extended (pointed base) k (i + 1))) ≡ false

-- so there is no room
pub no_room : (k : ℕ) (facets : List Facet) (excepts : List Except) → list_all is_number_bound facets ≡ true → list_all (is_limit_within k) facets ≡ true → length excepts ≤ 129 → has_room facets ≡ true →
    FailsBeyond facets excepts k (48 ∷ []) → FailsBeyond facets excepts k (45 ∷ 48 ∷ []) → ((relation : Relation) (limit : List ℕ) → In (Bound relation limit) facets → FailsBeyond facets excepts k limit) → ⊥
no_room k facets excepts bounds short few room plus minus each =
    let within = within_limits k facets bounds short in
    let base = chosen k facets bounds within room in
    let left = base_left k facets excepts base.base within few base.is in
    false≢true (sym (fails base.base base.from (first_met k facets base.base within base.is) left.at left.below) ∙ left.passes)
  where
    fails : (base : List ℕ) → From base facets → FailsBeyond facets excepts k base
    fails base (inl same) = let P : List ℕ → Type 0 = λ t. FailsBeyond facets excepts k t in subst P (sym same) plus
    fails base (inr (inl same)) = let P : List ℕ → Type 0 = λ t. FailsBeyond facets excepts k t in subst P (sym same) minus
    fails base (inr (inr some)) = each some.0 base some.1

-- one facet more
in_append : {X : Type 0} (x y : X) (xs : List X) → In x (xs ++ y ∷ []) → In x xs ⊎ (x ≡ y)
in_append x y [] (inl same) = inr same
in_append x y [] (inr none) = absurd none
in_append x y (z ∷ xs) (inl same) = inl (inl same)
in_append x y (z ∷ xs) (inr more) = elim (in_append x y xs more) [ inl before ↦ inl (inr before) | inr same ↦ inr same ]

next_taken : (facets : List Facet) (index : ℕ) (facet : Facet) → index < length facets → facet ≡ get_or facets index facet → take (index + 1) facets ≡ take index facets ++ facet ∷ []
next_taken facets index facet inside is = take_more facets index facet inside ∙ ap (λ f. take index facets ++ f ∷ []) (sym is)

pub none_in : (facets : List Facet) (excepts : List Except) (k : ℕ) → (relation : Relation) (limit : List ℕ) → In (Bound relation limit) (take 0 facets) → FailsBeyond facets excepts k limit
none_in facets excepts k relation limit inside = absurd inside

pub one_facet_more : (facets : List Facet) (excepts : List Except) (k index : ℕ) (facet : Facet) (tried : List ℕ) → index < length facets → facet ≡ get_or facets index facet →
    ((relation : Relation) (limit : List ℕ) → In (Bound relation limit) (take index facets) → FailsBeyond facets excepts k limit) → ((relation : Relation) (limit : List ℕ) → facet ≡ Bound relation limit → tried ≡ limit) →
    FailsBeyond facets excepts k tried → (relation : Relation) (limit : List ℕ) → In (Bound relation limit) (take (index + 1) facets) → FailsBeyond facets excepts k limit
one_facet_more facets excepts k index facet tried inside is before limits fails relation limit among =
    let P : List Facet → Type 0 = λ fs. In (Bound relation limit) fs in
    elim (in_append (Bound relation limit) facet (take index facets) (subst P (next_taken facets index facet inside is) among)) [
      | inl earlier ↦ before relation limit earlier
      | inr here ↦ (let Q : List ℕ → Type 0 = λ t. FailsBeyond facets excepts k t in subst Q (limits relation limit (sym here)) fails)
    ]

pub all_taken : (facets : List Facet) (excepts : List Except) (k index : ℕ) → length facets ≤ index → ((relation : Relation) (limit : List ℕ) → In (Bound relation limit) (take index facets) → FailsBeyond facets excepts k limit) →
    (relation : Relation) (limit : List ℕ) → In (Bound relation limit) facets → FailsBeyond facets excepts k limit
all_taken facets excepts k index all each relation limit inside =
    let P : List Facet → Type 0 = λ fs. In (Bound relation limit) fs in
    each relation limit (subst P (sym (take_all index facets all)) inside)

pub fails_as : (facets : List Facet) (excepts : List Except) (k : ℕ) (base wanted : List ℕ) → base ≡ wanted → FailsBeyond facets excepts k base → FailsBeyond facets excepts k wanted
fails_as facets excepts k base wanted same fails = let P : List ℕ → Type 0 = λ t. FailsBeyond facets excepts k t in subst P same fails

-- what holds of all facets holds of one
pub bound_at : (facets : List Facet) (index : ℕ) (facet : Facet) → list_all is_number_bound facets ≡ true → index < length facets → facet ≡ get_or facets index facet → is_number_bound facet ≡ true
bound_at facets index facet bounds inside is = ap is_number_bound is ∙ AllPass-from_list_all is_number_bound facets bounds index facet inside

pub longer : (facets : List Facet) (index : ℕ) (facet : Facet) (n m k : ℕ) → index < length facets → facet ≡ get_or facets index facet → n ≤ k → m ≤ k → list_all (is_limit_within n) (take index facets) ≡ true → is_limit_within m facet ≡ true →
    list_all (is_limit_within k) (take (index + 1) facets) ≡ true
longer facets index facet n m k inside is more other before here =
    ap (list_all (is_limit_within k)) (next_taken facets index facet inside is) ∙ list_all-append (is_limit_within k) (take index facets) (facet ∷ [])
    ∙ and_from _ _ (limits_within_more n k (take index facets) more before) (and_from _ _ (limit_within_more m k facet other here) refl)

-- the limit of a bound
pub limit_decimal : (facet : Facet) (limit : List ℕ) → is_number_bound facet ≡ true → ((relation : Relation) (text : List ℕ) → facet ≡ Bound relation text → limit ≡ text) → is_decimal limit ≡ true
limit_decimal (Length relation length) limit bound is = absurd (false≢true bound)
limit_decimal (Bound relation text) limit bound is = ap is_decimal (is relation text refl) ∙ bound

pub limit_left : (facets : List Facet) (excepts : List Except) (facet : Facet) (limit : List ℕ) → ((relation : Relation) (text : List ℕ) → facet ≡ Bound relation text → limit ≡ text) → is_limit_left facets excepts facet ≡ true →
    is_number_left facets excepts (number_of limit) ≡ true
limit_left facets excepts (Length relation length) limit is left = absurd (false≢true left)
limit_left facets excepts (Bound relation text) limit is left = ap (λ (t : List ℕ). is_number_left facets excepts (number_of t)) (is relation text refl) ∙ left

pub beyond_decimal : (text whole base : List ℕ) (k n : ℕ) → is_decimal base ≡ true → whole ≡ pointed base → text ≡ extended whole k n → n < 1000 → is_decimal text ≡ true
beyond_decimal text whole base k n decimal point is small = ap is_decimal (is ∙ ap (λ (t : List ℕ). extended t k n) point) ∙ (extended_is base k n decimal small).decimal

pub beyond_text : (text whole base : List ℕ) (k n : ℕ) → whole ≡ pointed base → text ≡ extended whole k n → text ≡ extended (pointed base) k n
beyond_text text whole base k n point is = is ∙ ap (λ (t : List ℕ). extended t k n) point

pub far_text : (text base : List ℕ) (k i : ℕ) → base ≡ 45 ∷ 49 ∷ [] → text ≡ extended base k i → text ≡ extended (45 ∷ 49 ∷ []) k i
far_text text base k i minus is = is ∙ ap (λ (t : List ℕ). extended t k i) minus
