-- Recovery's states over a matcher, or over none, and what they mean.
use Rattle.std.specs.Prelude.{Option, Some, None, option_map}
use Rattle.nx_base.specs.Rules.{Rules}
use Rattle.nx_events.specs.Texts.{StateIsText}
use Rattle.rng_core.specs.Patterns.{Language}
use Rattle.rng_kept.specs.Residuals.{Residual}
use Rattle.nx_recover.specs.RecoverRules.{Recovered, no_levels, recover_rules}
use Rattle.nx_recover.specs.States.{form, view_of, AreStates}
use Rattle.nx_recover.specs.declared.state.RecoverState.{RecoverState}

abbrev pub over : {S : Type 0} → (S → Residual) → RecoverState S → Recovered
over f s = record { events = s.events; levels = form f (view_of s.levels) }

-- its states are states, and its strings are UTF-8
pub record IsOver {S : Type 0} (P : S → Type 0) (s : RecoverState S) : Type 0 where
  pub states : AreStates P (view_of s.levels)
  pub text : StateIsText s.events

-- one is later than another where both have a matcher, of which the one is later than the other, or neither has
abbrev pub later_by : {D : Type 0} → (D → D → Type 0) → Option D → Option D → Type 0
later_by later None None = Unit {0}
later_by later (Some a) (Some b) = later a b
later_by later None (Some b) = ⊥
later_by later (Some a) None = ⊥

abbrev pub state_by : {D S : Type 0} → (D → S → Type 0) → Option D → RecoverState S → Type 0
state_by is_state None s = Unit {0}
state_by is_state (Some d) s = IsOver (is_state d) s

abbrev pub means_by : {D S : Type 0} → (D → S → Residual) → Option D → RecoverState S → Recovered
means_by means None s = record { events = s.events; levels = no_levels }
means_by means (Some d) s = over (means d) s

abbrev pub rules_by : {D : Type 0} → (D → Language) → Option D → Rules Recovered
rules_by language d = recover_rules (option_map language d)

-- without a schema there is no frame
abbrev pub frame_in : {D S : Type 0} → Option D → Option S → Option S
frame_in None here = None
frame_in (Some d) here = here
