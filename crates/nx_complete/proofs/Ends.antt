-- The answer where an end is being written, over the states of a matcher.
use Rattle.std.proofs.Common.{◌≡◌, ℕ, zero, suc, List, [], ◌∷◌, ◌++◌, length, map, reverse, Bool, true, false, Option, Some, None, refl, sym, ap, subst, ◌∙◌, arith}
use Rattle.std.specs.Prelude.{option_map, ◌==◌}
use Rattle.std.proofs.lemmas.Bool.{eqb-true, false≢true}
use Rattle.std.proofs.lemmas.List.{reverse-reverse}
use Rattle.nx_base.specs.declared.offer.Offer.{Offer}
use Rattle.nx_base.specs.declared.offer.Offers.TheVariants as answers
use Rattle.rng_kept.specs.Residuals.{Residual}
use Rattle.nx_recover.specs.States.{View, form, stack, open_form}
use Rattle.nx_recover.specs.declared.levels.Open.{Open}
use Rattle.nx_recover.proofs.Tops.{stack_nil}
use Rattle.nx_complete.specs.Answering.{Lists, ends_among, EndAnswer}
use Rattle.nx_complete.specs.Asking.{end_listed}

pub none_long : {X : Type 0} (xs : List X) → length xs ≡ 0 → xs ≡ []
none_long [] e = refl
none_long (x ∷ xs) e = absurd (omega arith)

ends_none : {S : Type 0} (f : S → Residual) (written : List ℕ) (elements : List (Open S)) (x : Residual) → elements ≡ [] → ends_among written (stack f elements) x ≡ []
ends_none f written elements x e = ap (λ os. ends_among written (stack f os) x) e ∙ ap (λ os. ends_among written os x) (stack_nil f)

unreversed : {S : Type 0} (f : S → Residual) (elements : List (Open S)) → stack f elements ≡ [] → elements ≡ []
unfolding stack
unreversed f [] e = refl
unreversed {S} f (o ∷ os) e =
    let k : map (open_form f) (o ∷ os) ≡ [] = sym (reverse-reverse (map (open_form f) (o ∷ os))) ∙ ap reverse e in
    cc

ends_some : {S : Type 0} (f : S → Residual) (written : List ℕ) (elements : List (Open S)) (x : Residual) → (elements ≡ [] → ⊥) → ends_among written (stack f elements) x ≡ end_listed written x
ends_some f written elements x h = by (stack f elements) refl
  where
    by : (os : List (Open Residual)) → stack f elements ≡ os → ends_among written os x ≡ end_listed written x
    by [] e = absurd (h (unreversed f elements e))
    by (o ∷ os) e = refl

module _ {S : Type 0} (f : S → Residual) (written : List ℕ) (v : View S) (here : S) (offers : List Offer) (is : v.here ≡ Some here) where
  listed : offers ≡ ends_among written (stack f v.elements) (f here) → EndAnswer written (form f v) (answers.List offers)
  listed e = subst (λ (h : Option S). Lists (λ x all. all ≡ ends_among written (stack f v.elements) x) (option_map f h) (answers.List offers)) (sym is) e

  pub no_end_listed : v.elements ≡ [] → offers ≡ [] → EndAnswer written (form f v) (answers.List offers)
  no_end_listed k o = listed (o ∙ sym (ends_none f written v.elements (f here) k))

  pub some_end_listed : (v.elements ≡ [] → ⊥) → offers ≡ end_listed written (f here) → EndAnswer written (form f v) (answers.List offers)
  some_end_listed k o = listed (o ∙ sym (ends_some f written v.elements (f here) k))

pub none_when : {X : Type 0} (xs ys : List X) (b : Bool) → xs ≡ ys → b ≡ (length xs == 0) → b ≡ true → ys ≡ []
none_when xs ys b e f h = sym e ∙ none_long xs (eqb-true (length xs) 0 (sym f ∙ h))

pub some_when : {X : Type 0} (xs ys : List X) (b : Bool) → xs ≡ ys → b ≡ (length xs == 0) → b ≡ false → ys ≡ [] → ⊥
some_when {X} xs ys b e f h k =
    let none : (length xs == 0) ≡ true = ap (λ (l : List X). length l == 0) (e ∙ k) in
    false≢true (sym h ∙ f ∙ none)
