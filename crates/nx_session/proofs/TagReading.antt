-- What is known of the text at the last mark in front of a place.
use Rattle.std.proofs.Common.{◌≡◌, ℕ, zero, suc, ◌+◌, ◌-◌, ◌<◌, ◌≤◌, ◌⊎◌, List, [], ◌∷◌, length, Option, Some, None}
use Rattle.std.proofs.Common.{refl, sym, ap, subst, ◌∙◌, inl, inr, arith}
use Rattle.std.specs.Prelude.{option_map}
use Rattle.std.specs.Str.{IsUtf8}
use Rattle.deriv_pool.specs.Later.{IsStateOf, meaning_of, language_in}
use Rattle.deriv_pool.specs.declared.pool.Pool.{Pool}
use Rattle.deriv_pool.specs.declared.state.PoolState.{PoolState}
use Rattle.nx_base.specs.Rules.{Lexeme, token_at}
use Rattle.nx_base.specs.Running.{after_all}
use Rattle.nx_events.specs.BareLaws.{after_placed}
use Rattle.nx_events.specs.Items.{first_state}
use Rattle.nx_events.specs.OpenTags.{state_after}
use Rattle.nx_events.specs.declared.state.EventState.{EventState}
use Rattle.nx_marks.specs.Before.{IsMarkBefore}
use Rattle.nx_marks.specs.Chain.{Kept}
use Rattle.nx_recover.specs.Machine.{state_by, means_by, rules_by}
use Rattle.nx_recover.specs.RecoverRules.{Recovered, recover_rules}
use Rattle.nx_recover.specs.declared.state.RecoverState.{RecoverState}
use Rattle.nx_tags.proofs.Known.{tokens_along, known_behind}
use Rattle.nx_tags.specs.Parts.{IsKnownAt}
use Rattle.rng_core.specs.Patterns.{Language}

-- a machine's state of events behind tokens
events_along : (g : Option Language) (m : Recovered) (at : ℕ) (lexemes : List Lexeme)
    → (after_all (recover_rules g) m lexemes).events ≡ state_after m.events (tokens_along at lexemes)
unfolding state_after tokens_along
events_along g m at [] = refl
events_along g m at (lexeme ∷ others) =
    events_along g ((recover_rules g).after m lexeme) (at + length lexeme.bytes) others
    ∙ ap (λ (s : EventState). state_after s (tokens_along (at + length lexeme.bytes) others)) (sym (after_placed m.events (token_at at lexeme)))

events_meant : (matcher : Option Pool) (state : RecoverState PoolState) → (means_by meaning_of matcher state).events ≡ state.events
events_meant None state = refl
events_meant (Some pool) state = refl

pub known_at_mark : (matcher : Option Pool) (text : List ℕ) (at : ℕ) (kept : Kept (RecoverState PoolState)) (place : ℕ) (state : RecoverState PoolState) → IsUtf8 text
    → IsMarkBefore (state_by IsStateOf matcher) (means_by meaning_of matcher) (rules_by language_in matcher) text at kept place state
    → IsKnownAt text place state.events
known_at_mark matcher text at kept place state utf8 h =
    let is : state.events ≡ state_after first_state (tokens_along 0 h.tokens) =
    sym (events_meant matcher state) ∙ ap (λ (m : Recovered). m.events) h.meaning
    ∙ events_along (option_map language_in matcher) (rules_by language_in matcher).first 0 h.tokens in
    let P : EventState → Type 0 = λ s. IsKnownAt text place s in
    subst P (sym is) (known_behind text utf8 h.tokens place h.cuts)

-- a mark at or before the byte in front of a place lies in front of the place, or at the start
pub before_place : (from at : ℕ) → from ≤ at - 1 → (from < at) ⊎ (from ≡ 0)
before_place from zero h = inr (omega arith)
before_place from (suc at) h = inl (omega arith)
