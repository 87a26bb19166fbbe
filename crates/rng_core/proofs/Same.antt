-- The answers whether classes and patterns are put together alike are right.
use Rattle.std.specs.Prelude.{◌≡◌, Bool, true, false, List, IsTrue, ◌↔◌}
use Rattle.std.proofs.Common.{refl, sym, ap, ◌∙◌, subst}
use Rattle.std.proofs.lemmas.Bool.{and_parts, and_from, false≢true}
use Rattle.std.proofs.lemmas.Bool.Decides.{Decides-eqb}
use Rattle.std.specs.Str.{bytes_eq}
use Rattle.nx_base.specs.declared.name.Name.{Name}
use Rattle.nx_base.specs.Names.{same_name}
use Rattle.rng_types.specs.Equality.{same_datatype, same_excepts}
use Rattle.rng_types.specs.declared.datatype.Datatype.{Datatype}
use Rattle.rng_types.specs.declared.datatype.Except.{Except}
use Rattle.rng_types.proofs.Same.{datatypes_decided, excepts_decided}
use Rattle.rng_core.specs.Names.{Class, any_name, ns_name, the_name, either, without}
use Rattle.rng_core.specs.Patterns.{Pattern, not_allowed, empty, any_text, typed, literal, listed, attribute, ref, one_or_more, choice, group, interleave}
use Rattle.rng_core.specs.Equality.{same_class, same_pattern, EqualityIsDecided}
use Rattle.rng_core.proofs.Overlaps.{same_fields, same_bytes}
use Rattle.rng_core.proofs.Parts.{same_to_itself}

-- two values that are the same in each part
module _ {A B C : Type 0} where
  both : (f : A → B → C) (a c : A) (b d : B) → a ≡ c → b ≡ d → f a b ≡ f c d
  both f a c b d one other = ap (λ x. f x b) one ∙ ap (λ y. f c y) other

names_same : (n m : Name) → same_name n m ≡ true → n ≡ m
names_same n m same =
    let parts = and_parts (bytes_eq n.ns m.ns) (bytes_eq n.local m.local) same in
    same_fields n m (same_bytes n.ns m.ns parts.0) (same_bytes n.local m.local parts.1)

class_sound : (c d : Class) → same_class c d ≡ true → c ≡ d
class_sound any_name any_name same = refl
class_sound any_name d same = absurd (false≢true same)
class_sound (ns_name a) (ns_name b) same = ap (λ x. ns_name x) (same_bytes a b same)
class_sound (ns_name a) d same = absurd (false≢true same)
class_sound (the_name n) (the_name m) same = ap (λ x. the_name x) (names_same n m same)
class_sound (the_name n) d same = absurd (false≢true same)
class_sound (either a b) (either c d) same =
    let parts = and_parts (same_class b d) (same_class a c) same in
    both (λ x y. either x y) a c b d (class_sound a c parts.1) (class_sound b d parts.0)
class_sound (either a b) d same = absurd (false≢true same)
class_sound (without a b) (without c d) same =
    let parts = and_parts (same_class a c) (same_class b d) same in
    both (λ x y. without x y) a c b d (class_sound a c parts.0) (class_sound b d parts.1)
class_sound (without a b) d same = absurd (false≢true same)

class_itself : (c : Class) → same_class c c ≡ true
class_itself any_name = refl
class_itself (ns_name a) = same_to_itself a
class_itself (the_name n) = and_from _ _ (same_to_itself n.ns) (same_to_itself n.local)
class_itself (either a b) = and_from _ _ (class_itself b) (class_itself a)
class_itself (without a b) = and_from _ _ (class_itself a) (class_itself b)

pattern_sound : (p q : Pattern) → same_pattern p q ≡ true → p ≡ q
pattern_sound not_allowed not_allowed same = refl
pattern_sound not_allowed q same = absurd (false≢true same)
pattern_sound empty empty same = refl
pattern_sound empty q same = absurd (false≢true same)
pattern_sound any_text any_text same = refl
pattern_sound any_text q same = absurd (false≢true same)
pattern_sound (typed a excepts) (typed b others) same =
    let parts = and_parts (same_datatype a b) (same_excepts excepts others) same in
    both (λ x y. typed x y) a b excepts others ((datatypes_decided a b).0 parts.0) ((excepts_decided excepts others).0 parts.1)
pattern_sound (typed a excepts) q same = absurd (false≢true same)
pattern_sound (literal a text) (literal b other) same =
    let parts = and_parts (same_datatype a b) (bytes_eq text other) same in
    both (λ x y. literal x y) a b text other ((datatypes_decided a b).0 parts.0) (same_bytes text other parts.1)
pattern_sound (literal a text) q same = absurd (false≢true same)
pattern_sound (listed p) (listed q) same = ap (λ x. listed x) (pattern_sound p q same)
pattern_sound (listed p) q same = absurd (false≢true same)
pattern_sound (attribute c p) (attribute d q) same =
    let parts = and_parts (same_class c d) (same_pattern p q) same in
    both (λ x y. attribute x y) c d p q (class_sound c d parts.0) (pattern_sound p q parts.1)
pattern_sound (attribute c p) q same = absurd (false≢true same)
pattern_sound (ref i) (ref j) same = ap (λ x. ref x) ((Decides-eqb i j).0 same)
pattern_sound (ref i) q same = absurd (false≢true same)
pattern_sound (one_or_more p) (one_or_more q) same = ap (λ x. one_or_more x) (pattern_sound p q same)
pattern_sound (one_or_more p) q same = absurd (false≢true same)
pattern_sound (choice p q) (choice r s) same =
    let parts = and_parts (same_pattern q s) (same_pattern p r) same in
    both (λ x y. choice x y) p r q s (pattern_sound p r parts.1) (pattern_sound q s parts.0)
pattern_sound (choice p q) r same = absurd (false≢true same)
pattern_sound (group p q) (group r s) same =
    let parts = and_parts (same_pattern q s) (same_pattern p r) same in
    both (λ x y. group x y) p r q s (pattern_sound p r parts.1) (pattern_sound q s parts.0)
pattern_sound (group p q) r same = absurd (false≢true same)
pattern_sound (interleave p q) (interleave r s) same =
    let parts = and_parts (same_pattern q s) (same_pattern p r) same in
    both (λ x y. interleave x y) p r q s (pattern_sound p r parts.1) (pattern_sound q s parts.0)
pattern_sound (interleave p q) r same = absurd (false≢true same)

pattern_itself : (p : Pattern) → same_pattern p p ≡ true
pattern_itself not_allowed = refl
pattern_itself empty = refl
pattern_itself any_text = refl
pattern_itself (typed a excepts) = and_from _ _ ((datatypes_decided a a).1 refl) ((excepts_decided excepts excepts).1 refl)
pattern_itself (literal a text) = and_from _ _ ((datatypes_decided a a).1 refl) (same_to_itself text)
pattern_itself (listed p) = pattern_itself p
pattern_itself (attribute c p) = and_from _ _ (class_itself c) (pattern_itself p)
pattern_itself (ref i) = (Decides-eqb i i).1 refl
pattern_itself (one_or_more p) = pattern_itself p
pattern_itself (choice p q) = and_from _ _ (pattern_itself q) (pattern_itself p)
pattern_itself (group p q) = and_from _ _ (pattern_itself q) (pattern_itself p)
pattern_itself (interleave p q) = and_from _ _ (pattern_itself q) (pattern_itself p)

pub classes_decided : (c d : Class) → IsTrue (same_class c d) ↔ (c ≡ d)
classes_decided c d = (
  λ same. class_sound c d same,
  λ is. let P : Class → Type 0 = λ x. same_class c x ≡ true in subst P is (class_itself c),
)

pub patterns_decided : (p q : Pattern) → IsTrue (same_pattern p q) ↔ (p ≡ q)
patterns_decided p q = (
  λ same. pattern_sound p q same,
  λ is. let P : Pattern → Type 0 = λ x. same_pattern p x ≡ true in subst P is (pattern_itself p),
)

pub equality_is_decided : EqualityIsDecided
equality_is_decided = (λ c d. classes_decided c d, λ p q. patterns_decided p q)

-- a call that tells the same is the answer
answer : (found test : Bool) → (found ≡ true → test ≡ true) → (test ≡ true → found ≡ true) → found ≡ test
answer true test to from = sym (to refl)
answer false true to from = from refl
answer false false to from = refl

pub datatype_answer : (a b : Datatype) (found : Bool) → (IsTrue found ↔ (a ≡ b)) → found ≡ same_datatype a b
datatype_answer a b found is = answer found (same_datatype a b) (λ t. (datatypes_decided a b).1 (is.0 t)) (λ t. is.1 ((datatypes_decided a b).0 t))

pub excepts_answer : (a b : List Except) (found : Bool) → (IsTrue found ↔ (a ≡ b)) → found ≡ same_excepts a b
excepts_answer a b found is = answer found (same_excepts a b) (λ t. (excepts_decided a b).1 (is.0 t)) (λ t. is.1 ((excepts_decided a b).0 t))

pub class_told : (c d : Class) (found : Bool) → found ≡ same_class c d → IsTrue found ↔ (c ≡ d)
class_told c d found is = (λ t. (classes_decided c d).0 (sym is ∙ t), λ e. is ∙ (classes_decided c d).1 e)

pub pattern_told : (p q : Pattern) (found : Bool) → found ≡ same_pattern p q → IsTrue found ↔ (p ≡ q)
pattern_told p q found is = (λ t. (patterns_decided p q).0 (sym is ∙ t), λ e. is ∙ (patterns_decided p q).1 e)
