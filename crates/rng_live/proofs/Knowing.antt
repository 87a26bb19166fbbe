-- Whether a definition has a name.
use Rattle.std.proofs.Common.{◌≡◌, ℕ, zero, suc, List, [], ◌∷◌, Bool, true, false, ◌||◌, Some, map, refl, sym, ap, ◌∙◌, inl, inr}
use Rattle.std.specs.Prelude.{slice_get, IsTrue, ◌↔◌}
use Rattle.std.specs.List.{list_any}
use Rattle.std.proofs.lemmas.Bool.{or_cases, or_left, or_right}
use Rattle.nx_base.specs.declared.name.Name.{Name}
use Rattle.rng_core.specs.declared.grammar.Def.{Def}
use Rattle.rng_core.specs.Names.{has_name}
use Rattle.rng_core.specs.Patterns.{Pattern, Definition}
use Rattle.rng_core.specs.Meaning.{definition_of}
use Rattle.rng_kept.specs.Standing.{IsKnown}

known_there : (n : Name) (start : Pattern) (g : List Definition) → list_any (λ d. has_name d.class n) g ≡ true → IsKnown (record { start = start; definitions = g }) n
known_there n start [] h = absurd (let no : false ≡ true = h in cc)
known_there n start (d ∷ g) h = elim (or_cases (has_name d.class n) (list_any (λ d. has_name d.class n) g) h) [
  | inl here ↦ record { number = zero; definition = d; is = refl; named = here }
  | inr later ↦ let w = known_there n start g later in record { number = suc w.number; definition = w.definition; is = w.is; named = w.named }
]

known_found : (n : Name) (g : List Definition) (i : ℕ) (d : Definition) → slice_get g i ≡ Some d → has_name d.class n ≡ true → list_any (λ d. has_name d.class n) g ≡ true
known_found n [] i d e h = cc
known_found n (x ∷ g) zero d e h = let same : x ≡ d = cc in or_left (has_name x.class n) (list_any (λ d. has_name d.class n) g) (ap (λ (v : Definition). has_name v.class n) same ∙ h)
known_found n (x ∷ g) (suc i) d e h = or_right (has_name x.class n) (list_any (λ d. has_name d.class n) g) (known_found n g i d e h)

mapped : (n : Name) (defs : List Def) → list_any (λ d. has_name (definition_of d).class n) defs ≡ list_any (λ d. has_name d.class n) (map definition_of defs)
mapped n [] = refl
mapped n (d ∷ defs) = ap (λ (v : Bool). has_name (definition_of d).class n || v) (mapped n defs)

pub known_by_any : (n : Name) (start : Pattern) (defs : List Def) (b : Bool) → b ≡ list_any (λ d. has_name (definition_of d).class n) defs → IsTrue b ↔ IsKnown (record { start = start; definitions = map definition_of defs }) n
known_by_any n start defs b e = (
  λ h. known_there n start (map definition_of defs) (sym (e ∙ mapped n defs) ∙ h),
  λ k. e ∙ mapped n defs ∙ known_found n (map definition_of defs) k.number k.definition k.is k.named,
)
