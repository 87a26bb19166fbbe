-- Numbers that are left, and their literals as members.
use Rattle.std.specs.Prelude.{◌≡◌, ℕ, suc, ◌*◌, ◌^◌, ◌<◌, ◌≤◌, ℤ, Bool, true, false, not, List, [], ◌∷◌, length, map}
use Rattle.std.proofs.Common.{refl, sym, ap, ◌∙◌, arith}
use Rattle.std.proofs.lemmas.Bool.{and_parts, and_from, not-true, not_from_false, false≢true}
use Rattle.std.specs.List.{list_all, AllByRecursion}
use Rattle.std.specs.Ordering.{int_cmp, int_eq}
use Rattle.rng_types.specs.Spaces.{collapsed}
use Rattle.rng_types.specs.Numbers.{Number, number_of, times, compared, is_decimal}
use Rattle.rng_types.specs.Words.{is_word}
use Rattle.rng_types.specs.Facets.{meets}
use Rattle.rng_types.specs.Types.{seen_by}
use Rattle.rng_types.specs.Answers.{is_same_number, is_same_word, is_same_value, is_taken_away}
use Rattle.rng_types.specs.NumberMembers.{is_number_bound, limit_over, over, is_number_met, takes_number, is_number_left}
use Rattle.rng_types.specs.Answers.{is_left}
use Rattle.rng_types.specs.declared.kind.Word.{Word}
use Rattle.rng_types.specs.declared.kind.Form.{Form}
use Rattle.rng_types.specs.declared.kind.Form.TheVariants.{One}
use Rattle.rng_types.specs.declared.facet.Facet.{Facet}
use Rattle.rng_types.specs.declared.facet.Facet.TheVariants.{Length, Bound}
use Rattle.rng_types.specs.declared.datatype.Datatype.{Datatype}
use Rattle.rng_types.specs.declared.datatype.Except.{Except}
use Rattle.rng_types.specs.declared.datatype.Except.TheVariants.{Own, BuiltinString, BuiltinToken}
use Rattle.rng_types.proofs.Plain.{IsPlain, OwnTakesOne, plain_one, seen-plain}
use Rattle.rng_types.proofs.Scaled.{is_met, met-over, times-product, places-over}
use Rattle.rng_types.proofs.Beside.{LeavesMember, LeavesText, LeavesOne, one_of}

abbrev pub typed : Form → List Facet → Datatype
typed form facets = record { form = form; facets = facets }

module _ {X : Type 0} where
  pub all_same : (p q : X → Bool) → ((x : X) → p x ≡ q x) → (xs : List X) → list_all p xs ≡ list_all q xs
  all_same p q same [] = refl
  all_same p q same (x ∷ xs) = rw (same x, all_same p q same xs) refl

meets-number : (word : Word) (text : List ℕ) (facet : Facet) → is_decimal text ≡ true → is_number_bound facet ≡ true → meets (One word) text facet ≡ is_number_met (number_of text) facet
meets-number word text (Length relation limit) decimal bound = absurd (false≢true bound)
meets-number word text (Bound relation limit) decimal bound = rw (decimal, bound) refl

pub meets-numbers : (word : Word) (text : List ℕ) (facets : List Facet) → is_decimal text ≡ true → list_all is_number_bound facets ≡ true → list_all (meets (One word) text) facets ≡ list_all (is_number_met (number_of text)) facets
meets-numbers word text [] decimal bounds = refl
meets-numbers word text (facet ∷ facets) decimal bounds =
    let parts = and_parts (is_number_bound facet) (list_all is_number_bound facets) bounds in
    rw (meets-number word text facet decimal parts.0, meets-numbers word text facets decimal parts.1) refl

-- words of the form are compared as numbers
pub record IsNumeric (word : Word) : Type 0 where
  pub same : (a b : List ℕ) → is_same_word word a b ≡ is_same_number (number_of a) (number_of b)
  pub decimal : (text : List ℕ) → is_word word text ≡ true → is_decimal text ≡ true

-- literals of one number, apart from one another
pub record Literals (word : Word) (x : Number) (candidate : ℕ → List ℕ) : Type 0 where
  pub plain : (i : ℕ) → IsPlain (candidate i)
  pub fits : (i : ℕ) → is_word word (candidate i) ≡ true
  pub number : (i : ℕ) → number_of (candidate i) ≡ x
  pub apart : (i j : ℕ) → candidate i ≡ candidate j → i ≡ j

own_case : (word : Word) (facets : List Facet) (x : Number) (candidate : ℕ → List ℕ) (n : ℕ) → IsNumeric word → Literals word x candidate → (except : Except) → takes_number x except ≡ false → OwnTakesOne (typed (One word) facets) candidate n except
own_case word facets x candidate n numeric are (Own literal) spared = record {
  once = λ i j hi hj ti tj. absurd (
      let seen : seen_by (typed (One word) facets) (candidate i) ≡ candidate i = seen-plain (typed (One word) facets) (candidate i) (are.plain i).word in
      let value : is_same_value (typed (One word) facets) (candidate i) literal ≡ takes_number x (Own literal) =
      ap (λ (t : List ℕ). is_same_word word t (collapsed literal)) seen ∙ numeric.same (candidate i) (collapsed literal) ∙ ap (λ y. is_same_number y (number_of (collapsed literal))) (are.number i) in
      false≢true (sym spared ∙ sym value ∙ ti));
}
own_case word facets x candidate n numeric are (BuiltinString literal) spared = tt
own_case word facets x candidate n numeric are (BuiltinToken literal) spared = tt

own_each : (word : Word) (facets : List Facet) (x : Number) (candidate : ℕ → List ℕ) (n : ℕ) → IsNumeric word → Literals word x candidate → (excepts : List Except) → list_all (λ except. not (takes_number x except)) excepts ≡ true → AllByRecursion (OwnTakesOne (typed (One word) facets) candidate n) excepts
own_each word facets x candidate n numeric are [] spared = tt
own_each word facets x candidate n numeric are (except ∷ excepts) spared =
    let parts = and_parts _ _ spared in
    (own_case word facets x candidate n numeric are except (not-true _ parts.0), own_each word facets x candidate n numeric are excepts parts.1)

-- a number that is left has a literal that is left
pub number_one : (word : Word) (facets : List Facet) (excepts : List Except) (one_token : Bool) (x : Number) (candidate : ℕ → List ℕ) (n : ℕ) → IsNumeric word → Literals word x candidate → list_all is_number_bound facets ≡ true →
    is_number_left facets excepts x ≡ true → length excepts < n → LeavesOne (typed (One word) facets) excepts one_token candidate n
number_one word facets excepts one_token x candidate n numeric are bounds left more =
    let type = typed (One word) facets in
    let parts = and_parts (list_all (is_number_met x) facets) (list_all (λ except. not (takes_number x except)) excepts) left in
    let seen : (i : ℕ) → seen_by type (candidate i) ≡ candidate i = λ i. seen-plain type (candidate i) (are.plain i).word in
    let met : (i : ℕ) → list_all (meets (One word) (candidate i)) facets ≡ true =
    λ i. meets-numbers word (candidate i) facets (numeric.decimal (candidate i) (are.fits i)) bounds ∙ ap (λ y. list_all (is_number_met y) facets) (are.number i) ∙ parts.0 in
    plain_one type excepts one_token candidate n
    (λ i hi. are.plain i)
    (λ i hi. record {
      form = ap (is_word word) (seen i) ∙ are.fits i;
      facets = ap (λ (t : List ℕ). list_all (meets (One word) t) facets) (seen i) ∙ met i;
    })
    (λ i j hi hj same. are.apart i j same)
    (own_each word facets x candidate n numeric are excepts parts.1) more

pub number_member : (word : Word) (facets : List Facet) (excepts : List Except) (one_token : Bool) (x : Number) (candidate : ℕ → List ℕ) → IsNumeric word → Literals word x candidate → list_all is_number_bound facets ≡ true →
    is_number_left facets excepts x ≡ true → LeavesMember (typed (One word) facets) excepts one_token
number_member word facets excepts one_token x candidate numeric are bounds left =
    one_of (number_one word facets excepts one_token x candidate (suc (length excepts)) numeric are bounds left (omega arith))

-- a member's number is left
spared_case : (word : Word) (facets : List Facet) (text : List ℕ) → IsNumeric word → (except : Except) → is_taken_away (typed (One word) facets) text except ≡ false → takes_number (number_of (collapsed text)) except ≡ false
spared_case word facets text numeric (Own literal) spared = sym (numeric.same (collapsed text) (collapsed literal)) ∙ spared
spared_case word facets text numeric (BuiltinString literal) spared = refl
spared_case word facets text numeric (BuiltinToken literal) spared = refl

spared_each : (word : Word) (facets : List Facet) (text : List ℕ) → IsNumeric word → (excepts : List Except) → is_left (typed (One word) facets) excepts text ≡ true → list_all (λ except. not (takes_number (number_of (collapsed text)) except)) excepts ≡ true
spared_each word facets text numeric [] left = refl
spared_each word facets text numeric (except ∷ excepts) left =
    let parts = and_parts _ _ left in
    and_from _ _ (not_from_false _ (spared_case word facets text numeric except (not-true _ parts.0))) (spared_each word facets text numeric excepts parts.1)

pub member_number : (word : Word) (facets : List Facet) (excepts : List Except) (one_token : Bool) → IsNumeric word → list_all is_number_bound facets ≡ true → (member : LeavesText (typed (One word) facets) excepts one_token) → is_number_left facets excepts (number_of (collapsed member.0)) ≡ true
member_number word facets excepts one_token numeric bounds member =
    let text : List ℕ = collapsed member.0 in
    let decimal = numeric.decimal text member.1.accepted.form in
    and_from _ _ (sym (meets-numbers word text facets decimal bounds) ∙ member.1.accepted.facets) (spared_each word facets member.0 numeric excepts member.1.left)

-- numbers over one power of ten: the same answers as for whole numbers
abbrev pub IsWithin : ℕ → Facet → Type 0
IsWithin s (Length relation limit) = ⊥
IsWithin s (Bound relation limit) = (number_of limit).places ≤ s

met_facet : (s : ℕ) (w : ℤ) (facet : Facet) → IsWithin s facet → is_number_met (over s w) facet ≡ is_met w (limit_over s facet)
met_facet s w (Length relation limit) within = absurd within
met_facet s w (Bound relation limit) within = met-over s w relation limit within

pub met_facets : (s : ℕ) (w : ℤ) (facets : List Facet) → AllByRecursion (IsWithin s) facets → list_all (is_number_met (over s w)) facets ≡ list_all (is_met w) (map (limit_over s) facets)
met_facets s w [] within = refl
met_facets s w (facet ∷ facets) within = rw (met_facet s w facet within.0, met_facets s w facets within.1) refl

-- a number as a whole number over its own power of ten
pub times-over : (x : Number) (k : ℕ) → times x k ≡ times (over x.places (times x 1)) k
times-over x k = let same : k ≡ 1 * k = omega arith in ap (times x) same ∙ times-product x.places x 1 k

compared-over : (x y : Number) → compared x y ≡ compared (over x.places (times x 1)) y
compared-over x y =
    ap (λ z. int_cmp z (times y (10 ^ x.places))) (times-over x (10 ^ y.places))
    ∙ ap (λ n. int_cmp (times (over x.places (times x 1)) (10 ^ y.places)) (times y (10 ^ n))) (sym (places-over x.places (times x 1)))

pub met-same : (x : Number) (facet : Facet) → is_number_met x facet ≡ is_number_met (over x.places (times x 1)) facet
met-same x (Length relation limit) = refl
met-same x (Bound relation limit) = rw (compared-over x (number_of limit)) refl

takes-same : (x : Number) (except : Except) → takes_number x except ≡ takes_number (over x.places (times x 1)) except
takes-same x (Own literal) =
    let y = number_of (collapsed literal) in
    ap (λ z. int_eq z (times y (10 ^ x.places))) (times-over x (10 ^ y.places))
    ∙ ap (λ n. int_eq (times (over x.places (times x 1)) (10 ^ y.places)) (times y (10 ^ n))) (sym (places-over x.places (times x 1)))
takes-same x (BuiltinString literal) = refl
takes-same x (BuiltinToken literal) = refl

pub left-over : (facets : List Facet) (excepts : List Except) (x : Number) → is_number_left facets excepts x ≡ is_number_left facets excepts (over x.places (times x 1))
left-over facets excepts x =
    let y = over x.places (times x 1) in
    let met : list_all (is_number_met x) facets ≡ list_all (is_number_met y) facets = all_same (is_number_met x) (is_number_met y) (met-same x) facets in
    let spared : list_all (λ except. not (takes_number x except)) excepts ≡ list_all (λ except. not (takes_number y except)) excepts =
    all_same (λ except. not (takes_number x except)) (λ except. not (takes_number y except)) (λ except. ap not (takes-same x except)) excepts in
    rw (met, spared) refl
