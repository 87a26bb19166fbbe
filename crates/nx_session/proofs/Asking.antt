-- What may stand at a place, from the last mark in front of it on.
use Rattle.std.proofs.Common.{◌≡◌, ℕ, zero, suc, ◌-◌, ◌<◌, ◌≤◌, ◌⊎◌, List, Option, Result, Ok, Err, refl, subst, inl, inr, arith}
use Rattle.std.specs.Prelude.{IfOk, IfSome}
use Rattle.std.specs.Str.{IsUtf8}
use Rattle.deriv_pool.specs.declared.pool.Pool.{Pool}
use Rattle.nx_base.specs.Rules.{Rules}
use Rattle.nx_base.specs.declared.offer.Offers.{Offers}
use Rattle.nx_complete.specs.Walking.{IsBehind}
use Rattle.nx_marks.specs.Before.{IsMarkBefore}
use Rattle.nx_marks.specs.Chain.{Kept}
use Rattle.nx_recover.specs.Offers.{OffersOf}
use Rattle.nx_script.specs.Replies.{OffersAreText}
use Rattle.nx_session.specs.Reading.{grammar_of, followed}
use Rattle.nx_session.proofs.OfferTexts.{offers_text}
use Rattle.nx_session.proofs.Reading.{schema_followed}
use Rattle.rng_core.specs.Patterns.{Language}
use Rattle.rng_core.specs.Soundness.{IsSound}
use Rattle.rng_kept.specs.Live.{IsLive}

-- a mark at or before the byte in front of a place lies in front of the place, but for the start
pub in_front : (from at : ℕ) → from ≤ at - 1 → (from < at) ⊎ (at ≡ 0)
in_front from zero h = inr refl
in_front from (suc at) h = inl (omega arith)

-- its state is one behind the tokens in front of it
pub behind_tokens : {S M : Type 0} (is_state : S → Type 0) (means : S → M) (r : Rules M) (text : List ℕ) (at : ℕ) (kept : Kept S) (place : ℕ) (state : S)
    → IsMarkBefore is_state means r text at kept place state → IsBehind is_state means r text place state
behind_tokens is_state means r text at kept place state h = record {
  place = h.border;
  tokens = h.tokens;
  cuts = h.cuts;
  is_one = h.own;
  meaning = h.meaning;
}

-- what is offered against a sound schema is text
pub offers_print : {E : Type 0} → (matcher : Option Pool) → IfSome (followed matcher) IsLive → IfSome (grammar_of matcher) IsSound → (text : List ℕ) → IsUtf8 text → (at : ℕ) (answer : Result Offers E)
    → (IfSome (followed matcher) IsLive → IfOk answer (OffersOf (followed matcher) text at)) → IfOk answer OffersAreText
offers_print matcher live sound text utf8 at (Ok answer) h =
    let Q : Option Language → Type 0 = λ o. OffersOf o text at answer in
    offers_text (grammar_of matcher) sound text utf8 at (subst Q (schema_followed matcher) (h live))
offers_print matcher live sound text utf8 at (Err fault) h = tt
