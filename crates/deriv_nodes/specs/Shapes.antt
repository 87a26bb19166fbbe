-- Shapes told apart by three numbers.
use Rattle.std.specs.Prelude.{◌≡◌, ℕ, Bool, true, ◌&&◌, ◌++◌, eqb}
use Rattle.std.proofs.Common.{refl, ap, subst}
use Rattle.std.proofs.lemmas.Bool.{and_parts, and_from}
use Rattle.std.proofs.lemmas.Bool.Decides.{Decides-eqb}
use Rattle.std.specs.Bool.{Decides}
use Rattle.std.specs.Cmp.{IsEquivalence, decided}
use Rattle.std.specs.Hash as fed
use Rattle.deriv_nodes.specs.Codes.{both, different}
use Rattle.deriv_nodes.specs.declared.shape.Shape.{Shape}
use Rattle.deriv_nodes.specs.declared.shape.Shape.TheVariants as shape

-- a number for each form
abbrev pub form_of : Shape → ℕ
form_of shape.NotAllowed = 0
form_of shape.Empty = 1
form_of shape.Text = 2
form_of (shape.Data k) = 3
form_of (shape.List a) = 4
form_of (shape.Attribute k a) = 5
form_of (shape.Ref i) = 6
form_of (shape.OneOrMore a) = 7
form_of (shape.Choice a b) = 8
form_of (shape.Group a b) = 9
form_of (shape.Interleave a b) = 10

abbrev pub first_of : Shape → ℕ
first_of shape.NotAllowed = 0
first_of shape.Empty = 0
first_of shape.Text = 0
first_of (shape.Data k) = k
first_of (shape.List a) = a
first_of (shape.Attribute k a) = k
first_of (shape.Ref i) = i
first_of (shape.OneOrMore a) = a
first_of (shape.Choice a b) = a
first_of (shape.Group a b) = a
first_of (shape.Interleave a b) = a

abbrev pub second_of : Shape → ℕ
second_of (shape.Attribute k a) = a
second_of (shape.Choice a b) = b
second_of (shape.Group a b) = b
second_of (shape.Interleave a b) = b
second_of other = 0

abbrev pub same_shape : Shape → Shape → Bool
same_shape s t = (eqb (form_of s) (form_of t) && eqb (first_of s) (first_of t)) && eqb (second_of s) (second_of t)

by_parts : (s t : Shape) → form_of s ≡ form_of t → first_of s ≡ first_of t → second_of s ≡ second_of t → s ≡ t
by_parts shape.NotAllowed shape.NotAllowed form one other = refl
by_parts shape.Empty shape.Empty form one other = refl
by_parts shape.Text shape.Text form one other = refl
by_parts (shape.Data k) (shape.Data j) form one other = ap (λ x. shape.Data x) one
by_parts (shape.List a) (shape.List c) form one other = ap (λ x. shape.List x) one
by_parts (shape.Attribute k a) (shape.Attribute j c) form one other = both (λ x y. shape.Attribute x y) k j a c one other
by_parts (shape.Ref i) (shape.Ref j) form one other = ap (λ x. shape.Ref x) one
by_parts (shape.OneOrMore a) (shape.OneOrMore c) form one other = ap (λ x. shape.OneOrMore x) one
by_parts (shape.Choice a b) (shape.Choice c d) form one other = both (λ x y. shape.Choice x y) a c b d one other
by_parts (shape.Group a b) (shape.Group c d) form one other = both (λ x y. shape.Group x y) a c b d one other
by_parts (shape.Interleave a b) (shape.Interleave c d) form one other = both (λ x y. shape.Interleave x y) a c b d one other
by_parts s t form one other = absurd (different (form_of s) (form_of t) refl form)

shape_sound : (s t : Shape) → same_shape s t ≡ true → s ≡ t
shape_sound s t same =
    let parts = and_parts (eqb (form_of s) (form_of t) && eqb (first_of s) (first_of t)) (eqb (second_of s) (second_of t)) same in
    let front = and_parts (eqb (form_of s) (form_of t)) (eqb (first_of s) (first_of t)) parts.0 in
    by_parts s t ((Decides-eqb (form_of s) (form_of t)).0 front.0) ((Decides-eqb (first_of s) (first_of t)).0 front.1)
    ((Decides-eqb (second_of s) (second_of t)).0 parts.1)

pub shape_itself : (s : Shape) → same_shape s s ≡ true
shape_itself s = and_from _ _ (and_from _ _ ((Decides-eqb (form_of s) (form_of s)).1 refl) ((Decides-eqb (first_of s) (first_of s)).1 refl))
    ((Decides-eqb (second_of s) (second_of s)).1 refl)

pub shapes_decided : (s t : Shape) → Decides (same_shape s t) (s ≡ t)
shapes_decided s t = (shape_sound s t, λ is. let P : Shape → Type 0 = λ x. same_shape s x ≡ true in subst P is (shape_itself s))

pub shapes_laws : IsEquivalence same_shape
shapes_laws = decided same_shape shapes_decided

pub shapes_hash : (s t : Shape) → same_shape s t ≡ true
    → fed.u8 (form_of s) ++ fed.usize (first_of s) ++ fed.usize (second_of s)
    ≡ fed.u8 (form_of t) ++ fed.usize (first_of t) ++ fed.usize (second_of t)
shapes_hash s t same = ap (λ x. fed.u8 (form_of x) ++ fed.usize (first_of x) ++ fed.usize (second_of x)) (shape_sound s t same)
