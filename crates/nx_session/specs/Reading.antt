-- What is kept of reading the text.
use Rattle.std.specs.Prelude.{ℕ, List, Option, option_map, IfSome}
use Rattle.deriv_pool.specs.Later.{IsStateOf, meaning_of, language_in}
use Rattle.deriv_pool.specs.declared.pool.Pool.{Pool}
use Rattle.deriv_pool.specs.declared.state.PoolState.{PoolState}
use Rattle.nx_base.specs.Rules.{Rules}
use Rattle.nx_base.specs.Text.{IsPlace}
use Rattle.nx_recover.specs.Machine.{state_by, means_by, rules_by}
use Rattle.nx_recover.specs.RecoverRules.{Recovered, recover_rules}
use Rattle.nx_recover.specs.declared.state.RecoverState.{RecoverState}
use Rattle.nx_marks.specs.Chain.{Kept}
use Rattle.nx_marks.specs.Meant.{kept_by}
use Rattle.nx_marks.specs.Right.{IsRight}
use Rattle.rng_core.specs.Meaning.{language_of}
use Rattle.rng_core.specs.Patterns.{Language}
use Rattle.rng_core.specs.Soundness.{IsSound}
use Rattle.rng_core.specs.declared.grammar.Grammar.{Grammar}
use Rattle.rng_kept.specs.Live.{IsLive}

-- the grammar that a matcher follows, and its language
abbrev pub grammar_of : Option Pool → Option Grammar
grammar_of matcher = option_map (λ (pool : Pool). pool.schema.grammar) matcher

abbrev pub followed : Option Pool → Option Language
followed matcher = option_map language_in matcher

-- what is kept, with what its states mean to the machine with this matcher, or with none
abbrev pub meant : Option Pool → Kept (RecoverState PoolState) → Kept Recovered
meant matcher kept = kept_by (means_by meaning_of matcher) kept

-- the rules of reading against this grammar, or against none
abbrev pub rules_for : Option Grammar → Rules Recovered
rules_for schema = recover_rules (option_map language_of schema)

-- it is right for the machine with this matcher, or with none
abbrev pub IsReadRight : List ℕ → Option Pool → Kept (RecoverState PoolState) → Type 0
IsReadRight text matcher kept = IsRight (state_by IsStateOf matcher) (means_by meaning_of matcher) (rules_by language_in matcher) text kept

-- and the grammar is live and sound
pub record IsWellKept (text : List ℕ) (matcher : Option Pool) (kept : Kept (RecoverState PoolState)) : Type 0 where
  pub read : IsReadRight text matcher kept
  pub live : IfSome (followed matcher) IsLive
  pub sound : IfSome (grammar_of matcher) IsSound

-- so it is between two commands, and the caret stands at a place
pub record IsKept (text : List ℕ) (caret : ℕ) (matcher : Option Pool) (kept : Kept (RecoverState PoolState)) : Type 0 where
  pub well : IsWellKept text matcher kept
  pub place : IsPlace text caret
