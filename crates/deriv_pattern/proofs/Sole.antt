-- A class that has a name and no other one, by what overlaps the rest of it.
use Rattle.std.proofs.Common.{◌≡◌, ℕ, List, [], ◌∷◌, length, ◌==◌, Bool, true, false, not, refl, sym, ◌∙◌, inl, inr, arith, subst, Option, Some, None}
use Rattle.std.specs.Prelude.{IsTrue, ◌↔◌}
use Rattle.std.proofs.lemmas.Bool.{false≢true, cases_Bool, eqb-true}
use Rattle.nx_base.specs.declared.name.Name.{Name}
use Rattle.rng_core.specs.Names.{Class, any_name, the_name, without, has_name, Overlap}
use Rattle.rng_core.specs.Unmentioned.{overlaps}
use Rattle.rng_core.proofs.Overlaps.{overlap_is_found, overlap_is_there}
use Rattle.rng_kept.specs.Needed.{is_sole, common, either_way}

told_alike : (c d : Class) (found : Bool) → (IsTrue found ↔ Overlap c d) → found ≡ overlaps c d
told_alike c d true is = sym (overlap_is_found c d (is.0 refl))
told_alike c d false is = elim (cases_Bool (overlaps c d)) [
  | inl e ↦ absurd (false≢true (is.1 (overlap_is_there c d e)))
  | inr e ↦ sym e
]

pub sole_told : (c : Class) (n : Name) (found : Bool) → has_name c n ≡ true → (IsTrue found ↔ Overlap (without c (the_name n)) any_name) → not found ≡ is_sole c n
sole_told c n found h is = rw (h, told_alike (without c (the_name n)) any_name found is) refl

-- of no names none are in another list
pub nothing_common : (names others : List Name) → (length names == 0) ≡ true → names ≡ common names others
nothing_common [] others h = refl
nothing_common (n ∷ names) others h = let none = eqb-true (length (n ∷ names)) 0 h in absurd (omega (arith, none))

-- nothing is needed one way, so nothing is by either
pub nothing_either : (found s t : Option (List Name)) → found ≡ s → found ≡ Some [] → found ≡ either_way s t
nothing_either found s t is nothing = nothing ∙ subst (λ (ns : Option (List Name)). Some [] ≡ either_way ns t) (sym nothing ∙ is) (by t)
  where
    by : (u : Option (List Name)) → Some [] ≡ either_way (Some []) u
    by None = refl
    by (Some others) = refl
