-- What numbers tell, from tables in which nothing stands twice.
use Rattle.std.specs.Prelude.{◌≡◌, ℕ, ◌<◌, ◌≤◌, List, [], length, drop, slice_index_or, Option, None, Some}
use Rattle.std.proofs.Common.{refl, sym, ap, ◌∙◌}
use Rattle.std.proofs.lemmas.List.Prefix.{front_from_reads}
use Rattle.rng_core.specs.Patterns.{Language, not_allowed}
use Rattle.rng_kept.specs.Residuals.{document, Residual}
use Rattle.rng_live.specs.Calls.{Answers, Gives}
use Rattle.rng_live.specs.Schemas.{schema_language}
use Rattle.deriv_states.specs.Tables.{AreApart}
use Rattle.deriv_pool.specs.Later.{IsLater, IsStateOf, language_in, meaning_of}
use Rattle.deriv_pool.specs.Laws.{pool_laws}
use Rattle.deriv_pool.specs.Single.{AnswersOnce, AreFronts, EarlierStay, IsFront, NumbersTell}
use Rattle.deriv_pool.specs.declared.pool.Pool.{Pool}
use Rattle.deriv_pool.specs.declared.state.PoolState.{PoolState}

one_state : (m : Pool) → AreApart [] m.states.states → (a b : PoolState) → IsStateOf m a → IsStateOf m b → meaning_of m a ≡ meaning_of m b → a ≡ b
one_state m apart a b here there e = let n = apart a.number b.number here there e in λ i. record { number = n i }

pub numbers_tell : (m : Pool) → AreApart [] m.states.states → NumbersTell m
numbers_tell m apart a b here there = (one_state m apart a b here there, ap (meaning_of m))

-- ---- answers

given_once : (l : Pool) → AreApart [] l.states.states → (m : Pool) (x : Residual) (one other : PoolState) → IsLater m l
    → Gives (IsStateOf m) (meaning_of m) x one → Gives (IsStateOf l) (meaning_of l) x other → one ≡ other
given_once l apart m x one other later first second =
    one_state l apart one other (pool_laws.state m l one later first.state) second.state
    (pool_laws.meaning m l one later first.state ∙ first.meaning ∙ sym second.meaning)

answered_once : (l : Pool) → AreApart [] l.states.states → (m : Pool) (x : Option Residual) (one other : Option PoolState) → IsLater m l
    → Answers (IsStateOf m) (meaning_of m) x one → Answers (IsStateOf l) (meaning_of l) x other → one ≡ other
answered_once l apart m x None None later first second = refl
answered_once l apart m x None (Some b) later first second = let two = first.meaning ∙ sym second.meaning in cc
answered_once l apart m x (Some a) None later first second = let two = first.meaning ∙ sym second.meaning in cc
answered_once l apart m x (Some a) (Some b) later first second =
    let two = first.meaning ∙ sym second.meaning in
    let same : meaning_of m a ≡ meaning_of l b = cc in
    ap (λ s. Some s) (one_state l apart a b (pool_laws.state m l a later first.state) second.state
    (pool_laws.meaning m l a later first.state ∙ same))

again_once : (l : Pool) → AreApart [] l.states.states → (call : Language → Residual → Option Residual) (m behind before : Pool) (s : PoolState)
    (one other : Option PoolState) → IsStateOf m s → IsLater m behind → IsLater behind before → IsLater before l
    → Answers (IsStateOf behind) (meaning_of behind) (call (language_in m) (meaning_of m s)) one
    → Answers (IsStateOf l) (meaning_of l) (call (language_in before) (meaning_of before s)) other → one ≡ other
again_once l apart call m behind before s one other state first second third given given_again =
    let later : IsLater m before = pool_laws.chain m behind before first second in
    let same : call (language_in before) (meaning_of before s) ≡ call (language_in m) (meaning_of m s) =
    ap (λ g. call g (meaning_of before s)) (pool_laws.rule m before later)
    ∙ ap (call (language_in m)) (pool_laws.meaning m before s later state) in
    answered_once l apart behind (call (language_in m) (meaning_of m s)) one other (pool_laws.chain behind before l second third) given
    (record { state = given_again.state; meaning = given_again.meaning ∙ same })

pub answers_once : (l : Pool) → AreApart [] l.states.states → AnswersOnce l
answers_once l apart = record { gives = given_once l apart; answers = answered_once l apart; again = again_once l apart }

-- ---- fronts

front : {M : Type 0} (none : M) (old new : List M) → length old ≤ length new
    → ((i : ℕ) → i < length old → slice_index_or new i none ≡ slice_index_or old i none) → IsFront old new
front none old new grows stays = (drop (length old) new, front_from_reads none new old grows stays)

pub earlier_stay : EarlierStay
earlier_stay m l later = record {
  patterns = front not_allowed _ _ later.states.patterns.grows later.states.patterns.stays;
  outers = front (document not_allowed) _ _ later.states.outers.grows later.states.outers.stays;
  states = front [] _ _ later.states.states.grows later.states.states.stays;
}
