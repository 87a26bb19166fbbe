-- The answers whether types and excepts are the same are right.
use Rattle.std.specs.Prelude.{◌≡◌, ℕ, zero, suc, true, ◌==◌, List, [], ◌∷◌, IsTrue, ◌↔◌}
use Rattle.std.proofs.Common.{refl, sym, ap, ◌∙◌, subst}
use Rattle.std.proofs.lemmas.Bool.{and_parts, and_from, false≢true}
use Rattle.std.specs.Str.{bytes_eq}
use Rattle.std.specs.Cmp.Lexicographic.{bytes_decides}
use Rattle.std.proofs.lemmas.Bool.Decides.{Decides-eqb}
use Rattle.rng_types.specs.Equality.{whitespace_number, word_number, more_type_number, relation_number, same_form, same_facet, same_facets, same_datatype, same_except, same_excepts, EqualityIsDecided}
use Rattle.rng_more_types.specs.declared.more_type.MoreType.{MoreType}
use Rattle.rng_more_types.specs.declared.more_type.MoreType.TheVariants.{Date, Time, DateTime, GYear, GYearMonth, HexBinary, Base64Binary}
use Rattle.rng_types.specs.declared.kind.Whitespace.{Whitespace}
use Rattle.rng_types.specs.declared.kind.Whitespace.TheVariants.{Preserve, Replace, Collapse}
use Rattle.rng_types.specs.declared.kind.Word.{Word}
use Rattle.rng_types.specs.declared.kind.Word.TheVariants.{Name, NcName, NmToken, Language, Boolean, Decimal, Integer}
use Rattle.rng_types.specs.declared.kind.Form.{Form}
use Rattle.rng_types.specs.declared.kind.Form.TheVariants.{Any, One, Several, More}
use Rattle.rng_types.specs.declared.facet.Relation.{Relation}
use Rattle.rng_types.specs.declared.facet.Relation.TheVariants.{Exactly, AtLeast, AtMost, Above, Below}
use Rattle.rng_types.specs.declared.facet.Facet.{Facet}
use Rattle.rng_types.specs.declared.facet.Facet.TheVariants.{Length, Bound}
use Rattle.rng_types.specs.declared.datatype.Datatype.{Datatype}
use Rattle.rng_types.specs.declared.datatype.Except.{Except}
use Rattle.rng_types.specs.declared.datatype.Except.TheVariants.{Own, BuiltinString, BuiltinToken}

-- each number has one of them
whitespace_at : ℕ → Whitespace
whitespace_at zero = Preserve
whitespace_at (suc zero) = Replace
whitespace_at (suc (suc n)) = Collapse

word_at : ℕ → Word
word_at zero = Name
word_at (suc zero) = NcName
word_at (suc (suc zero)) = NmToken
word_at (suc (suc (suc zero))) = Language
word_at (suc (suc (suc (suc zero)))) = Boolean
word_at (suc (suc (suc (suc (suc zero))))) = Decimal
word_at (suc (suc (suc (suc (suc (suc n)))))) = Integer

more_type_at : ℕ → MoreType
more_type_at zero = Date
more_type_at (suc zero) = Time
more_type_at (suc (suc zero)) = DateTime
more_type_at (suc (suc (suc zero))) = GYear
more_type_at (suc (suc (suc (suc zero)))) = GYearMonth
more_type_at (suc (suc (suc (suc (suc zero))))) = HexBinary
more_type_at (suc (suc (suc (suc (suc (suc n)))))) = Base64Binary

relation_at : ℕ → Relation
relation_at zero = Exactly
relation_at (suc zero) = AtLeast
relation_at (suc (suc zero)) = AtMost
relation_at (suc (suc (suc zero))) = Above
relation_at (suc (suc (suc (suc n)))) = Below

whitespace_back : (a : Whitespace) → whitespace_at (whitespace_number a) ≡ a
unfolding whitespace_at
whitespace_back Preserve = refl
whitespace_back Replace = refl
whitespace_back Collapse = refl

word_back : (a : Word) → word_at (word_number a) ≡ a
unfolding word_at
word_back Name = refl
word_back NcName = refl
word_back NmToken = refl
word_back Language = refl
word_back Boolean = refl
word_back Decimal = refl
word_back Integer = refl

more_type_back : (a : MoreType) → more_type_at (more_type_number a) ≡ a
unfolding more_type_at
more_type_back Date = refl
more_type_back Time = refl
more_type_back DateTime = refl
more_type_back GYear = refl
more_type_back GYearMonth = refl
more_type_back HexBinary = refl
more_type_back Base64Binary = refl

relation_back : (a : Relation) → relation_at (relation_number a) ≡ a
unfolding relation_at
relation_back Exactly = refl
relation_back AtLeast = refl
relation_back AtMost = refl
relation_back Above = refl
relation_back Below = refl

same_number : (m n : ℕ) → (m == n) ≡ true → m ≡ n
same_number m n same = (Decides-eqb m n).0 same

number_itself : (n : ℕ) → (n == n) ≡ true
number_itself n = (Decides-eqb n n).1 refl

same_whitespace : (a b : Whitespace) → (whitespace_number a == whitespace_number b) ≡ true → a ≡ b
same_whitespace a b same = sym (whitespace_back a) ∙ ap whitespace_at (same_number _ _ same) ∙ whitespace_back b

same_word : (a b : Word) → (word_number a == word_number b) ≡ true → a ≡ b
same_word a b same = sym (word_back a) ∙ ap word_at (same_number _ _ same) ∙ word_back b

same_more_type : (a b : MoreType) → (more_type_number a == more_type_number b) ≡ true → a ≡ b
same_more_type a b same = sym (more_type_back a) ∙ ap more_type_at (same_number _ _ same) ∙ more_type_back b

same_relation : (a b : Relation) → (relation_number a == relation_number b) ≡ true → a ≡ b
same_relation a b same = sym (relation_back a) ∙ ap relation_at (same_number _ _ same) ∙ relation_back b

form_sound : (a b : Form) → same_form a b ≡ true → a ≡ b
form_sound (Any a) (Any b) same = ap (λ x. Any x) (same_whitespace a b same)
form_sound (Any a) b same = absurd (false≢true same)
form_sound (One a) (One b) same = ap (λ x. One x) (same_word a b same)
form_sound (One a) b same = absurd (false≢true same)
form_sound (Several a) (Several b) same = ap (λ x. Several x) (same_word a b same)
form_sound (Several a) b same = absurd (false≢true same)
form_sound (More a) (More b) same = ap (λ x. More x) (same_more_type a b same)
form_sound (More a) b same = absurd (false≢true same)

form_itself : (a : Form) → same_form a a ≡ true
form_itself (Any a) = number_itself (whitespace_number a)
form_itself (One a) = number_itself (word_number a)
form_itself (Several a) = number_itself (word_number a)
form_itself (More a) = number_itself (more_type_number a)

both_length : (r s : Relation) (m n : ℕ) → r ≡ s → m ≡ n → Length r m ≡ Length s n
both_length r s m n one other = cc

both_bound : (r s : Relation) (a b : List ℕ) → r ≡ s → a ≡ b → Bound r a ≡ Bound s b
both_bound r s a b one other = cc

facet_sound : (a b : Facet) → same_facet a b ≡ true → a ≡ b
facet_sound (Length r m) (Length s n) same =
    let parts = and_parts ((relation_number r == relation_number s)) (m == n) same in
    both_length r s m n (same_relation r s parts.0) (same_number m n parts.1)
facet_sound (Length r m) b same = absurd (false≢true same)
facet_sound (Bound r a) (Bound s b) same =
    let parts = and_parts ((relation_number r == relation_number s)) (bytes_eq a b) same in
    both_bound r s a b (same_relation r s parts.0) ((bytes_decides a b).0 parts.1)
facet_sound (Bound r a) b same = absurd (false≢true same)

facet_itself : (a : Facet) → same_facet a a ≡ true
facet_itself (Length r m) = and_from _ _ (number_itself (relation_number r)) (number_itself m)
facet_itself (Bound r a) = and_from _ _ (number_itself (relation_number r)) ((bytes_decides a a).1 refl)

both_cons : {A : Type 0} (a b : A) (more others : List A) → a ≡ b → more ≡ others → a ∷ more ≡ b ∷ others
both_cons a b more others one other = cc

facets_sound : (a b : List Facet) → same_facets a b ≡ true → a ≡ b
facets_sound [] [] same = refl
facets_sound [] (b ∷ others) same = absurd (false≢true same)
facets_sound (a ∷ more) [] same = absurd (false≢true same)
facets_sound (a ∷ more) (b ∷ others) same =
    let parts = and_parts (same_facet a b) (same_facets more others) same in
    both_cons a b more others (facet_sound a b parts.0) (facets_sound more others parts.1)

facets_itself : (a : List Facet) → same_facets a a ≡ true
facets_itself [] = refl
facets_itself (a ∷ more) = and_from _ _ (facet_itself a) (facets_itself more)

abbrev record_of : Form → List Facet → Datatype
record_of form facets = record { form = form; facets = facets }

type_of_parts : (form other : Form) (facets others : List Facet) → form ≡ other → facets ≡ others → record_of form facets ≡ record_of other others
type_of_parts form other facets others one two =
    let first : record_of form facets ≡ record_of other facets = ap (λ f. record_of f facets) one in
    first ∙ ap (λ (fs : List Facet). record_of other fs) two

datatype_sound : (a b : Datatype) → same_datatype a b ≡ true → a ≡ b
datatype_sound a b same =
    let parts = and_parts (same_form a.form b.form) (same_facets a.facets b.facets) same in
    type_of_parts a.form b.form a.facets b.facets (form_sound a.form b.form parts.0) (facets_sound a.facets b.facets parts.1)

datatype_itself : (a : Datatype) → same_datatype a a ≡ true
datatype_itself a = and_from _ _ (form_itself a.form) (facets_itself a.facets)

except_sound : (a b : Except) → same_except a b ≡ true → a ≡ b
except_sound (Own a) (Own b) same = ap (λ x. Own x) ((bytes_decides a b).0 same)
except_sound (Own a) b same = absurd (false≢true same)
except_sound (BuiltinString a) (BuiltinString b) same = ap (λ x. BuiltinString x) ((bytes_decides a b).0 same)
except_sound (BuiltinString a) b same = absurd (false≢true same)
except_sound (BuiltinToken a) (BuiltinToken b) same = ap (λ x. BuiltinToken x) ((bytes_decides a b).0 same)
except_sound (BuiltinToken a) b same = absurd (false≢true same)

except_itself : (a : Except) → same_except a a ≡ true
except_itself (Own a) = (bytes_decides a a).1 refl
except_itself (BuiltinString a) = (bytes_decides a a).1 refl
except_itself (BuiltinToken a) = (bytes_decides a a).1 refl

excepts_sound : (a b : List Except) → same_excepts a b ≡ true → a ≡ b
excepts_sound [] [] same = refl
excepts_sound [] (b ∷ others) same = absurd (false≢true same)
excepts_sound (a ∷ more) [] same = absurd (false≢true same)
excepts_sound (a ∷ more) (b ∷ others) same =
    let parts = and_parts (same_except a b) (same_excepts more others) same in
    both_cons a b more others (except_sound a b parts.0) (excepts_sound more others parts.1)

excepts_itself : (a : List Except) → same_excepts a a ≡ true
excepts_itself [] = refl
excepts_itself (a ∷ more) = and_from _ _ (except_itself a) (excepts_itself more)

pub datatypes_decided : (a b : Datatype) → IsTrue (same_datatype a b) ↔ (a ≡ b)
datatypes_decided a b = (
  λ same. datatype_sound a b same,
  λ is. let P : Datatype → Type 0 = λ t. same_datatype a t ≡ true in subst P is (datatype_itself a),
)

pub excepts_decided : (a b : List Except) → IsTrue (same_excepts a b) ↔ (a ≡ b)
excepts_decided a b = (
  λ same. excepts_sound a b same,
  λ is. let P : List Except → Type 0 = λ xs. same_excepts a xs ≡ true in subst P is (excepts_itself a),
)

pub equality_is_decided : EqualityIsDecided
equality_is_decided = (λ a b. datatypes_decided a b, λ a b. excepts_decided a b)
