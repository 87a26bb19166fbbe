-- What is kept once: nodes, outers and states, and so what numbers tell.
use Rattle.std.specs.Prelude.{◌≡◌, ◌↔◌, List, [], ◌++◌, Option}
use Rattle.rng_core.specs.Patterns.{Pattern, Language, not_allowed}
use Rattle.rng_kept.specs.Residuals.{Outer, document, Residual}
use Rattle.rng_live.specs.Calls.{Answers, Gives}
use Rattle.deriv_states.specs.Tables.{AreApart}
use Rattle.deriv_pool.specs.Later.{IsLater, IsStateOf, language_in, meaning_of}
use Rattle.deriv_pool.specs.declared.pool.Pool.{Pool}
use Rattle.deriv_pool.specs.declared.state.PoolState.{PoolState}

-- no two nodes stand for one pattern, no two outers are one, and no two states mean the same
pub record HasNoDoubles (m : Pool) : Type 0 where
  pub patterns : AreApart not_allowed m.states.patterns
  pub outers : AreApart (document not_allowed) m.states.outers
  pub states : AreApart [] m.states.states

-- states mean the same exactly where they have one number
abbrev pub NumbersTell : Pool → Type 0
NumbersTell m = (a b : PoolState) → IsStateOf m a → IsStateOf m b → (meaning_of m a ≡ meaning_of m b) ↔ (a ≡ b)

-- what an earlier matcher gave and what this one gives is one state, where it means the same
pub record AnswersOnce (l : Pool) : Type 0 where
  pub gives : (m : Pool) (x : Residual) (one other : PoolState) → IsLater m l
      → Gives (IsStateOf m) (meaning_of m) x one → Gives (IsStateOf l) (meaning_of l) x other → one ≡ other
  pub answers : (m : Pool) (x : Option Residual) (one other : Option PoolState) → IsLater m l
      → Answers (IsStateOf m) (meaning_of m) x one → Answers (IsStateOf l) (meaning_of l) x other → one ≡ other
  -- a call on a state, which led from one matcher to a later one, and the same call again, which led to this one
  pub again : (call : Language → Residual → Option Residual) (m behind before : Pool) (s : PoolState) (one other : Option PoolState)
      → IsStateOf m s → IsLater m behind → IsLater behind before → IsLater before l
      → Answers (IsStateOf behind) (meaning_of behind) (call (language_in m) (meaning_of m s)) one
      → Answers (IsStateOf l) (meaning_of l) (call (language_in before) (meaning_of before s)) other → one ≡ other

-- a list that goes on as another
abbrev pub IsFront : {M : Type 0} → List M → List M → Type 0
IsFront {M} front whole = (rest : List M) × (whole ≡ front ++ rest)

-- what was there is a front of what is there later
pub record AreFronts (m l : Pool) : Type 0 where
  pub patterns : IsFront m.states.patterns l.states.patterns
  pub outers : IsFront m.states.outers l.states.outers
  pub states : IsFront m.states.states l.states.states

abbrev pub EarlierStay : Type 0
EarlierStay = (m l : Pool) → IsLater m l → AreFronts m l
