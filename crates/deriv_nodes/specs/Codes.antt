-- A code of patterns: by it a proof tells two of them apart. Nothing that runs uses it.
use Rattle.std.specs.Prelude.{◌≡◌, ℕ, List, eqb, false}
use Rattle.std.proofs.Common.{refl, sym, ap, ◌∙◌}
use Rattle.std.proofs.lemmas.Bool.{false≢true}
use Rattle.std.proofs.lemmas.Bool.Decides.{Decides-eqb}
use Rattle.std.specs.Coded.{Coded, coded_ℕ, coded_list}
use base.Stored.{Gv, gnil, gnum, gcons, num}
use Rattle.rng_core.specs.Names.{Class, any_name, ns_name, the_name, either, without}
use Rattle.rng_core.proofs.Overlaps.{same_fields}
use Rattle.rng_core.specs.Patterns.{Pattern, not_allowed, empty, any_text, typed, literal, listed, attribute, ref}
use Rattle.rng_core.specs.Patterns.{one_or_more, choice, group, interleave}
use Rattle.rng_types.specs.contracts.datatype.Datatype as type
use Rattle.rng_types.specs.contracts.datatype.Except as except

-- two parts behind a mark that tells the form
abbrev pair : Gv → Gv → Gv → Gv
pair mark a b = gcons mark (gcons a b)

-- the number of the form
abbrev mark_of : Gv → ℕ
mark_of gnil = 0
mark_of (gnum n) = 0
mark_of (gcons mark rest) = num mark

pub different : (m n : ℕ) → eqb m n ≡ false → m ≡ n → ⊥
different m n apart is = false≢true (sym apart ∙ (Decides-eqb m n).1 is)

abbrev bytes : Coded (List ℕ)
bytes = coded_list coded_ℕ

pub both : {A B C : Type 0} (f : A → B → C) (a c : A) (b d : B) → a ≡ c → b ≡ d → f a b ≡ f c d
both f a c b d one other = ap (λ x. f x b) one ∙ ap (λ y. f c y) other

abbrev class_code : Class → Gv
class_code any_name = pair (gnum 0) gnil gnil
class_code (ns_name ns) = pair (gnum 1) (bytes.code ns) gnil
class_code (the_name n) = pair (gnum 2) (bytes.code n.ns) (bytes.code n.local)
class_code (either a b) = pair (gnum 3) (class_code a) (class_code b)
class_code (without a b) = pair (gnum 4) (class_code a) (class_code b)

class_told : (c d : Class) → class_code c ≡ class_code d → c ≡ d
class_told any_name any_name e = refl
class_told (ns_name a) (ns_name b) e = ap (λ x. ns_name x) (bytes.inj a b (cc))
class_told (the_name n) (the_name m) e = ap (λ x. the_name x) (same_fields n m (bytes.inj n.ns m.ns (cc)) (bytes.inj n.local m.local (cc)))
class_told (either a b) (either c d) e = both (λ x y. either x y) a c b d (class_told a c (cc)) (class_told b d (cc))
class_told (without a b) (without c d) e = both (λ x y. without x y) a c b d (class_told a c (cc)) (class_told b d (cc))
class_told c d e = absurd (different (mark_of (class_code c)) (mark_of (class_code d)) refl (ap mark_of e))

abbrev code_of : Pattern → Gv
code_of not_allowed = pair (gnum 0) gnil gnil
code_of empty = pair (gnum 1) gnil gnil
code_of any_text = pair (gnum 2) gnil gnil
code_of (typed datatype excepts) = pair (gnum 3) (type.the_row.coded.code datatype) ((coded_list except.the_row.coded).code excepts)
code_of (literal datatype text) = pair (gnum 4) (type.the_row.coded.code datatype) (bytes.code text)
code_of (listed p) = pair (gnum 5) (code_of p) gnil
code_of (attribute class p) = pair (gnum 6) (class_code class) (code_of p)
code_of (ref i) = pair (gnum 7) (gnum i) gnil
code_of (one_or_more p) = pair (gnum 8) (code_of p) gnil
code_of (choice p q) = pair (gnum 9) (code_of p) (code_of q)
code_of (group p q) = pair (gnum 10) (code_of p) (code_of q)
code_of (interleave p q) = pair (gnum 11) (code_of p) (code_of q)

pub told : (p q : Pattern) → code_of p ≡ code_of q → p ≡ q
told not_allowed not_allowed e = refl
told empty empty e = refl
told any_text any_text e = refl
told (typed a excepts) (typed b others) e =
    both (λ x y. typed x y) a b excepts others (type.the_row.coded.inj a b (cc)) ((coded_list except.the_row.coded).inj excepts others (cc))
told (literal a text) (literal b other) e =
    both (λ x y. literal x y) a b text other (type.the_row.coded.inj a b (cc)) (bytes.inj text other (cc))
told (listed p) (listed q) e = ap (λ x. listed x) (told p q (cc))
told (attribute c p) (attribute d q) e = both (λ x y. attribute x y) c d p q (class_told c d (cc)) (told p q (cc))
told (ref i) (ref j) e = let same : gnum i ≡ gnum j = cc in ap (λ g. ref (num g)) same
told (one_or_more p) (one_or_more q) e = ap (λ x. one_or_more x) (told p q (cc))
told (choice p q) (choice r s) e = both (λ x y. choice x y) p r q s (told p r (cc)) (told q s (cc))
told (group p q) (group r s) e = both (λ x y. group x y) p r q s (told p r (cc)) (told q s (cc))
told (interleave p q) (interleave r s) e = both (λ x y. interleave x y) p r q s (told p r (cc)) (told q s (cc))
told p q e = absurd (different (mark_of (code_of p)) (mark_of (code_of q)) refl (ap mark_of e))

abbrev pub pattern_code : Coded Pattern
pattern_code = record { code = code_of; inj = told }
