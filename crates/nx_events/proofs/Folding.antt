-- Tokens one after another.
use Rattle.std.proofs.Common.{◌≡◌, ℕ, suc, ◌+◌, ◌<◌, ◌≤◌, List, [], ◌∷◌, ◌++◌, length, drop, get_or, ap, sym, subst, ◌∙◌, arith, append_assoc, drop-cons}
use Rattle.std.proofs.lemmas.Grind.{common_steps}
use Rattle.nx_base.specs.declared.token.Token.{Token}
use Rattle.nx_events.specs.declared.item.Item.{Item}
use Rattle.nx_events.specs.declared.state.EventState.{EventState}
use Rattle.nx_events.specs.Runs.{run_back}
use Rattle.nx_base.specs.Tokens.{AreTokensFrom}
use Rattle.nx_events.specs.Items.{state_behind, items_of_token, items_from, items_at_end}
use Rattle.nx_events.specs.RunsGrow.{back_grows}

-- tokens that lie one behind another end in the text
pub tokens_end : (len at : ℕ) (ts : List Token) → AreTokensFrom len at ts → at ≤ len
unfolding AreTokensFrom
tokens_end len at [] h = omega (arith, h)
tokens_end len at (t ∷ ts) h = let e = tokens_end len (at + length t.bytes) ts h.1 in omega arith

next_token : (ts : List Token) (i : ℕ) (t : Token) → i < length ts → t ≡ get_or ts i t → drop i ts ≡ t ∷ drop (i + 1) ts
next_token ts i t h e =
    let next : suc i ≡ i + 1 = omega arith in
    drop-cons ts i t h ∙ ap (λ (x : Token). x ∷ drop (suc i) ts) (sym e) ∙ ap (λ (k : ℕ). t ∷ drop k ts) next

pub record Ready (len at : ℕ) (state : EventState) (ts : List Token) : Type 0 where
  pub tokens : AreTokensFrom len at ts
  pub back : run_back state.run ≤ at

-- the next token may be taken, and the one behind it too
pub record Next (len : ℕ) (state : EventState) (ts : List Token) (i : ℕ) (t : Token) : Type 0 where
  pub place : run_back state.run ≤ t.from
  pub room : t.from + length t.bytes ≤ len
  pub more : (at : ℕ) × Ready len at (state_behind state t) (drop (i + 1) ts)

pub next_ready : (len at : ℕ) (state : EventState) (ts : List Token) (i : ℕ) (t : Token) → i < length ts → t ≡ get_or ts i t → Ready len at state (drop i ts) → Next len state ts i t
unfolding AreTokensFrom
next_ready len at state ts i t h e r =
    let P : List Token → Type 0 = λ us. AreTokensFrom len at us in
    let here : (t.from ≡ at) × AreTokensFrom len (at + length t.bytes) (drop (i + 1) ts) = subst P (next_token ts i t h e) r.tokens in
    record {
      place = omega (arith, here.0, r.back);
      room = let end = tokens_end len (at + length t.bytes) (drop (i + 1) ts) here.1 in omega (arith, here.0);
      more = (at + length t.bytes, record { tokens = here.1; back = omega (arith, back_grows state t, r.back) });
    }

pub fold_more : (len : ℕ) (state after : EventState) (ts : List Token) (i : ℕ) (t : Token) (more old new all : List Item) → i < length ts → t ≡ get_or ts i t →
    more ≡ items_of_token state t → after ≡ state_behind state t → new ≡ old ++ more →
    old ++ items_from state (drop i ts) len ≡ all → new ++ items_from after (drop (i + 1) ts) len ≡ all
unfolding items_from
fold_more len state after ts i t more old new all h e m a n g =
    let step = ap (λ (us : List Token). items_from state us len) (next_token ts i t h e) in
    rw (n, m, a, append_assoc) (ap (λ (ys : List Item). old ++ ys) (sym step) ∙ g)

pub fold_whole : (len : ℕ) (state : EventState) (ts : List Token) (i : ℕ) (more old new all : List Item) → length ts ≤ i → more ≡ items_at_end state len → new ≡ old ++ more →
    old ++ items_from state (drop i ts) len ≡ all → new ≡ all
unfolding items_from
fold_whole len state ts i more old new all h m n g =
    let none : drop i ts ≡ [] = grind (arith, common_steps) in
    n ∙ ap (λ (ys : List Item). old ++ ys) m ∙ ap (λ (us : List Token). old ++ items_from state us len) (sym none) ∙ g

pub end_ready : (len at : ℕ) (state : EventState) (ts : List Token) (i : ℕ) → length ts ≤ i → Ready len at state (drop i ts) → run_back state.run ≤ len
unfolding AreTokensFrom
end_ready len at state ts i h r = let e = tokens_end len at (drop i ts) r.tokens in omega (arith, r.back)
