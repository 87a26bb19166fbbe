-- That grammars are in order, from what a test of them found.
use Rattle.std.specs.Prelude.{◌≡◌, ◌<◌, ◌≤◌, ◌^◌, ℕ, true, nat_eq, List, [], ◌∷◌, length, map, IsTrue}
use Rattle.std.specs.List.{All, AllByRecursion}
use Rattle.std.proofs.Common.{sym, ◌∙◌, subst, arith}
use Rattle.std.proofs.lemmas.Bool.{eqb-true}
use Rattle.std.proofs.lemmas.List.{length-map}
use Rattle.std.proofs.lemmas.List.Elements.{recursion_from_All}
use Rattle.rng_types.specs.declared.datatype.Datatype.{Datatype}
use Rattle.rng_types.specs.declared.datatype.Except.{Except}
use Rattle.rng_types.specs.WellMade.{is_well_made}
use Rattle.rng_core.specs.declared.grammar.Def.{Def}
use Rattle.rng_core.specs.Meaning.{definition_of}
use Rattle.rng_core.specs.Patterns.{Pattern, typed}
use Rattle.rng_core.specs.Soundness.{IsSoundPattern, IsSoundDefinition, IsSoundGrammar, sound_data}

-- a type without excepts
pub sound_type : (count : ℕ) (type : Datatype) (excepts : List Except) → IsTrue (is_well_made type) → nat_eq (length excepts) 0 ≡ true → IsSoundPattern count (typed type excepts)
sound_type count type [] made none = sound_data made (omega arith) tt
sound_type count type (e ∷ excepts) made none = absurd (let zero_is : length (e ∷ excepts) ≡ 0 = eqb-true (length (e ∷ excepts)) 0 none in omega (arith, zero_is))

all_mapped : (count : ℕ) (defs : List Def) → AllByRecursion (λ def. IsSoundDefinition count (definition_of def)) defs → AllByRecursion (IsSoundDefinition count) (map definition_of defs)
all_mapped count [] all = tt
all_mapped count (d ∷ defs) all = (all.0, all_mapped count defs all.1)

pub sound_grammar : (start : Pattern) (defs : List Def) (count : ℕ) → count ≡ length defs → count < 100000 → IsSoundPattern count start → All (λ def. IsSoundDefinition count (definition_of def)) defs → IsSoundGrammar start (map definition_of defs)
sound_grammar start defs count is few start_is all =
    let same : count ≡ length (map definition_of defs) = is ∙ sym (length-map defs definition_of) in
    record {
      few = omega (arith, same, few);
      start_is = subst (λ (n : ℕ). IsSoundPattern n start) same start_is;
      definitions_are = subst (λ (n : ℕ). AllByRecursion (IsSoundDefinition n) (map definition_of defs)) same (all_mapped count defs (recursion_from_All (λ def. IsSoundDefinition count (definition_of def)) defs all));
    }
