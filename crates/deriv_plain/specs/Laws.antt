-- What later matchers keep.
use Rattle.std.specs.Prelude.{◌≡◌}
use Rattle.std.proofs.Common.{refl, ap, ◌∙◌}
use Rattle.nx_base.specs.Rules.{LaterLaws}
use Rattle.rng_core.specs.Patterns.{Language}
use Rattle.rng_kept.specs.Residuals.{Residual}
use Rattle.rng_live.specs.Calls.{KeepsMemory}

-- a matcher whose states mean the same whichever one is asked is later than each one of its schema
pub plain_laws : {M X S : Type 0} (schema : M → X) (language : X → Language) (is_state : S → Type 0) (means : S → Residual)
    → LaterLaws (λ m l. schema l ≡ schema m) (λ _. is_state) (λ _. means) (λ m. language (schema m))
plain_laws schema language is_state means = record {
  same = λ m. refl;
  chain = λ m l k now then. then ∙ now;
  state = λ m l s later state. state;
  meaning = λ m l s later state. refl;
  rule = λ m l later. ap language later;
}

-- what remembers nothing keeps it
pub nothing_is_remembered : {M : Type 0} (later : M → M → Type 0) → KeepsMemory later (λ _ _ _. ⊥)
nothing_is_remembered later m l x call _ none = none
