-- Items that move with their tokens, where tokens in front of a place stay and those behind it are shifted.
use Rattle.std.proofs.Common.{◌≡◌, ℕ, zero, suc, ◌+◌, ◌-◌, ◌≤◌, Bool, true, false, inl, inr, Option, Some, None, List, [], ◌∷◌, ◌++◌, length, map, refl, sym, ◌∙◌, ap, subst}
use Rattle.std.proofs.Common.{arith, cond, append_assoc}
use Rattle.std.specs.Prelude.{◌==◌, slice_range}
use Rattle.std.specs.List.{AllByRecursion}
use Rattle.std.specs.Str.{IsUtf8}
use Rattle.std.proofs.lemmas.Bool.{cases_lt}
use Rattle.std.proofs.lemmas.List.{map-append}
use Rattle.nx_base.specs.Text.{IsPlace}
use Rattle.nx_base.specs.Tokens.{cut, end_of, tokens_from, AreTokensFrom}
use Rattle.nx_base.specs.declared.fault.Span.{Span}
use Rattle.nx_base.specs.declared.token.Token.{Token}
use Rattle.nx_events.specs.Items.{items_of_token, state_behind, items_at_end, items_from}
use Rattle.nx_events.specs.ItemsLie.{items_lie_in_tokens}
use Rattle.nx_events.specs.ItemsMove.{items_move_with_tokens, states_hold_no_place, items_move_with_end}
use Rattle.nx_events.specs.Moves.{placed_item, placed_token}
use Rattle.nx_events.specs.OpenTags.{state_after}
use Rattle.nx_events.specs.Runs.{run_back, run_items}
use Rattle.nx_events.specs.RunsGrow.{back_grows}
use Rattle.nx_events.specs.Spans.{AreWithin}
use Rattle.nx_events.specs.declared.item.Item.{Item}
use Rattle.nx_events.specs.declared.item.Item.TheVariants as items
use Rattle.nx_events.specs.declared.item.Event.TheVariants.{Chars}
use Rattle.nx_events.specs.declared.state.EventState.{EventState}
use Rattle.nx_events.specs.declared.state.Run.{Run}
use Rattle.nx_scan.proofs.Every.{cut-is_token}
use Rattle.nx_scan.proofs.Joined.{tokens-go_on}
use Rattle.nx_tags.specs.Renamed.{item_by, token_by, items_through}
use Rattle.nx_tags.proofs.Around.{tokens-none}
use Rattle.nx_events.specs.ItemsMove.{run_moves}
use Rattle.nx_tags.proofs.RenamingTokens.{set_off}

-- ---- items whose places are moved

span_is : (a b c d : ℕ) → a ≡ c → b ≡ d → ◌≡◌ {A = Span} (record { from = a; to = b }) (record { from = c; to = d })
span_is a b c d e f = ap (λ x. record { from = x; to = b }) e ∙ ap (λ x. record { from = c; to = x }) f

one_alike : (m n : ℕ → ℕ) (b : ℕ) → ((p : ℕ) → p ≤ b → m p ≡ n p) → (x : Item) → (a : ℕ) → AreWithin a b (x ∷ []) → item_by m x ≡ item_by n x
one_alike m n b same (items.Event event span) a h =
    ap (items.Event event) (span_is (m span.from) (m span.to) (n span.from) (n span.to)
    (same span.from (omega (arith, h.0.ordered, h.0.ends))) (same span.to h.0.ends))
one_alike m n b same (items.Fault fault) a h =
    ap (λ (s : Span). items.Fault (record { span = s; kind = fault.kind; detail = fault.detail }))
    (span_is (m fault.span.from) (m fault.span.to) (n fault.span.from) (n fault.span.to)
    (same fault.span.from (omega (arith, h.0.ordered, h.0.ends))) (same fault.span.to h.0.ends))

-- moves that are one up to a place move alike what lies up to it
pub all_alike : (m n : ℕ → ℕ) (a b : ℕ) → ((p : ℕ) → p ≤ b → m p ≡ n p) → (xs : List Item) → AreWithin a b xs → map (item_by m) xs ≡ map (item_by n) xs
all_alike m n a b same [] h = refl
all_alike m n a b same (x ∷ xs) h =
    ap (λ (y : Item). y ∷ map (item_by m) xs) (one_alike m n b same x a (h.0, tt)) ∙ ap (λ (ys : List Item). item_by n x ∷ ys) (all_alike m n a b same xs h.1)

one_unmoved : (x : Item) → item_by (λ p. p) x ≡ x
one_unmoved (items.Event event span) = refl
one_unmoved (items.Fault fault) = refl

pub unmoved : (xs : List Item) → map (item_by (λ p. p)) xs ≡ xs
unmoved [] = refl
unmoved (x ∷ xs) = ap (λ (y : Item). y ∷ map (item_by (λ p. p)) xs) (one_unmoved x) ∙ ap (λ (ys : List Item). x ∷ ys) (unmoved xs)

one_placed : (m : ℕ → ℕ) (q r : ℕ) → ((p : ℕ) → m (q + p) ≡ r + p) → (x : Item) → placed_item r x ≡ item_by m (placed_item q x)
one_placed m q r shift (items.Event event span) =
    ap (items.Event event) (span_is (r + span.from) (r + span.to) (m (q + span.from)) (m (q + span.to)) (sym (shift span.from)) (sym (shift span.to)))
one_placed m q r shift (items.Fault fault) =
    ap (λ (s : Span). items.Fault (record { span = s; kind = fault.kind; detail = fault.detail }))
    (span_is (r + fault.span.from) (r + fault.span.to) (m (q + fault.span.from)) (m (q + fault.span.to)) (sym (shift fault.span.from)) (sym (shift fault.span.to)))

-- what is so far on there is what is so far on here, moved
pub all_placed : (m : ℕ → ℕ) (q r : ℕ) → ((p : ℕ) → m (q + p) ≡ r + p) → (xs : List Item) → map (placed_item r) xs ≡ map (item_by m) (map (placed_item q) xs)
all_placed m q r shift [] = refl
all_placed m q r shift (x ∷ xs) =
    ap (λ (y : Item). y ∷ map (placed_item r) xs) (one_placed m q r shift x)
    ∙ ap (λ (ys : List Item). item_by m (placed_item q x) ∷ ys) (all_placed m q r shift xs)

pub within_both : (a b : ℕ) (xs ys : List Item) → AreWithin a b xs → AreWithin a b ys → AreWithin a b (xs ++ ys)
within_both a b [] ys h k = k
within_both a b (x ∷ xs) ys h k = (h.0, within_both a b xs ys h.1 k)

wider : (a b c : ℕ) (xs : List Item) → b ≤ c → AreWithin a b xs → AreWithin 0 c xs
wider a b c [] le h = tt
wider a b c (x ∷ xs) le h =
    (record { ordered = h.0.ordered; begins = (omega arith); ends = omega (arith, le, h.0.ends) }, wider a b c xs le h.1)

-- ---- runs

pub run_items_within : (at : ℕ) (run : Option Run) → AreWithin 0 at (run_items at run)
unfolding run_items
run_items_within at None = tt
run_items_within at (Some run) = by_test (length run.string == 0)
  where
    by_test : (t : Bool) → AreWithin 0 at (cond t [] (items.Event (Chars run.string) (record { from = at - (run.gap + run.len); to = at - run.gap }) ∷ []))
    by_test true = tt
    by_test false = (record { ordered = (omega arith); begins = (omega arith); ends = (omega arith) }, tt)

pub run_is_moved : (m : ℕ → ℕ) (q r at : ℕ) (run : Option Run) → ((p : ℕ) → m (q + p) ≡ r + p) → q + run_back run ≤ at →
    run_items (m at) run ≡ map (item_by m) (run_items at run)
run_is_moved m q r at run shift h =
    let here : q + (at - q) ≡ at = omega (arith, h) in
    let there : m at ≡ r + (at - q) = ap m (sym here) ∙ shift (at - q) in
    ap (λ n. run_items n run) there ∙ run_moves r (at - q) run (omega (arith, h))
    ∙ all_placed m q r shift (run_items (at - q) run)
    ∙ ap (map (item_by m)) (sym (run_moves q (at - q) run (omega (arith, h))) ∙ ap (λ n. run_items n run) here)

-- ---- one token

module _ (m : ℕ → ℕ) (q r : ℕ) (shift : (p : ℕ) → m (q + p) ≡ r + p) (state : EventState) (token : Token) (h : q + run_back state.run ≤ token.from) where
  -- the token, counted from the place q
  abbrev base : Token
  base = record { kind = token.kind; from = token.from - q; bytes = token.bytes }

  from_is : q + (token.from - q) ≡ token.from
  from_is = omega (arith, h)

  token_here : placed_token q base ≡ token
  token_here = ap (λ n. record { kind = token.kind; from = n; bytes = token.bytes }) from_is

  token_there : placed_token r base ≡ set_off m token
  token_there = ap (λ n. record { kind = token.kind; from = n; bytes = token.bytes }) (sym (shift (token.from - q)) ∙ ap m from_is)

  back : run_back state.run ≤ base.from
  back = omega (arith, h)

  pub token_moved : items_of_token state (set_off m token) ≡ map (item_by m) (items_of_token state token)
  token_moved =
      ap (items_of_token state) (sym token_there) ∙ items_move_with_tokens r state base back
      ∙ all_placed m q r shift (items_of_token state base)
      ∙ ap (map (item_by m)) (sym (items_move_with_tokens q state base back) ∙ ap (items_of_token state) token_here)

  pub state_same : state_behind state (set_off m token) ≡ state_behind state token
  state_same =
      ap (state_behind state) (sym token_there) ∙ states_hold_no_place r state base
      ∙ sym (states_hold_no_place q state base) ∙ ap (state_behind state) token_here

-- ---- tokens that lie one behind another, up to another

pub record Lies (len q p : ℕ) (state : EventState) (xs : List Token) (t : Token) (ys : List Token) : Type 0 where
  pub lie : AreTokensFrom len t.from (t ∷ ys)
  pub further : p ≤ t.from
  pub back : q + run_back (state_after state xs).run ≤ t.from
  pub within : AreWithin 0 t.from (items_through state xs)

pub lies : (len q p : ℕ) (state : EventState) (xs : List Token) (t : Token) (ys : List Token) → AreTokensFrom len p (xs ++ t ∷ ys) →
    q + run_back state.run ≤ p → Lies len q p state xs t ys
unfolding AreTokensFrom state_after items_through
lies len q p state [] t ys all h = record {
  lie = (refl, subst (λ n. AreTokensFrom len (n + length t.bytes) ys) (sym all.0) all.1);
  further = omega (arith, all.0);
  back = omega (arith, all.0, h);
  within = tt;
}
lies len q p state (x ∷ xs) t ys all h =
    let grows = back_grows state x in
    let rest = lies len q (p + length x.bytes) (state_behind state x) xs t ys all.1 (omega (arith, h, grows)) in
    let own = items_lie_in_tokens state x (omega (arith, all.0, h)) in
    record {
      lie = rest.lie;
      further = omega (arith, rest.further);
      back = rest.back;
      within = within_both 0 t.from (items_of_token state x) (items_through (state_behind state x) xs)
          (wider (x.from - run_back state.run) (x.from + length x.bytes) t.from (items_of_token state x) (omega (arith, all.0, rest.further)) own)
          rest.within;
    }

pub through_moved : (m : ℕ → ℕ) (len q r p : ℕ) → ((k : ℕ) → m (q + k) ≡ r + k) → (state : EventState) (xs : List Token) (t : Token) (ys : List Token) →
    AreTokensFrom len p (xs ++ t ∷ ys) → q + run_back state.run ≤ p →
    (items_through state (map (set_off m) xs) ≡ map (item_by m) (items_through state xs)) × (state_after state (map (set_off m) xs) ≡ state_after state xs)
unfolding AreTokensFrom state_after items_through
through_moved m len q r p shift state [] t ys all h = (refl, refl)
through_moved m len q r p shift state (x ∷ xs) t ys all h =
    let grows = back_grows state x in
    let here : q + run_back state.run ≤ x.from = omega (arith, all.0, h) in
    let one = token_moved m q r shift state x here in
    let same = state_same m q r shift state x here in
    let rest = through_moved m len q r (p + length x.bytes) shift (state_behind state x) xs t ys all.1 (omega (arith, h, grows)) in (
      ap (λ (zs : List Item). zs ++ items_through (state_behind state (set_off m x)) (map (set_off m) xs)) one
          ∙ ap (λ (s : EventState). map (item_by m) (items_of_token state x) ++ items_through s (map (set_off m) xs)) same
          ∙ ap (λ (zs : List Item). map (item_by m) (items_of_token state x) ++ zs) rest.0
          ∙ sym (map-append (item_by m) (items_of_token state x) (items_through (state_behind state x) xs)),
      ap (λ (s : EventState). state_after s (map (set_off m) xs)) same ∙ rest.1,
    )

-- ---- and up to the end of their text

tokens_reach : (len p : ℕ) (ts : List Token) → AreTokensFrom len p ts → p ≤ len
unfolding AreTokensFrom
tokens_reach len p [] all = omega (arith, all)
tokens_reach len p (t ∷ ts) all = let rest = tokens_reach len (p + length t.bytes) ts all.1 in omega (arith, rest)

pub rest_moved : (m : ℕ → ℕ) (len q r p : ℕ) → ((k : ℕ) → m (q + k) ≡ r + k) → (state : EventState) (ts : List Token) → AreTokensFrom len p ts →
    q + run_back state.run ≤ p → items_from state (map (set_off m) ts) (m len) ≡ map (item_by m) (items_from state ts len)
unfolding AreTokensFrom items_from
rest_moved m len q r p shift state [] all h =
    let here : q + (len - q) ≡ len = omega (arith, all, h) in
    let there : m len ≡ r + (len - q) = ap m (sym here) ∙ shift (len - q) in
    let back : run_back state.run ≤ len - q = omega (arith, all, h) in
    ap (items_at_end state) there ∙ items_move_with_end r state (len - q) back
    ∙ all_placed m q r shift (items_at_end state (len - q))
    ∙ ap (map (item_by m)) (sym (items_move_with_end q state (len - q) back) ∙ ap (items_at_end state) here)
rest_moved m len q r p shift state (t ∷ ts) all h =
    let grows = back_grows state t in
    let here : q + run_back state.run ≤ t.from = omega (arith, all.0, h) in
    let one = token_moved m q r shift state t here in
    let same = state_same m q r shift state t here in
    let rest = rest_moved m len q r (p + length t.bytes) shift (state_behind state t) ts all.1 (omega (arith, h, grows)) in
    ap (λ (zs : List Item). zs ++ items_from (state_behind state (set_off m t)) (map (set_off m) ts) (m len)) one
    ∙ ap (λ (s : EventState). map (item_by m) (items_of_token state t) ++ items_from s (map (set_off m) ts) (m len)) same
    ∙ ap (λ (zs : List Item). map (item_by m) (items_of_token state t) ++ zs) rest
    ∙ sym (map-append (item_by m) (items_of_token state t) (items_from (state_behind state t) ts len))

pub from_append : (state : EventState) (xs ys : List Token) (len : ℕ) →
    items_from state (xs ++ ys) len ≡ items_through state xs ++ items_from (state_after state xs) ys len
unfolding items_from state_after items_through
from_append state [] ys len = refl
from_append state (x ∷ xs) ys len =
    ap (λ (rest : List Item). items_of_token state x ++ rest) (from_append (state_behind state x) xs ys len)
    ∙ sym (append_assoc (items_of_token state x) (items_through (state_behind state x) xs) (items_from (state_after (state_behind state x) xs) ys len))

pub from_one : (state : EventState) (token : Token) (others : List Token) (len : ℕ) →
    items_from state (token ∷ others) len ≡ items_of_token state token ++ items_from (state_behind state token) others len
unfolding items_from
from_one state token others len = refl

-- ---- tokens that lie where their ends are moved

pub record IsMoved (m : ℕ → ℕ) (old new : Token) : Type 0 where
  pub kind : new.kind ≡ old.kind
  pub from : new.from ≡ m old.from
  pub to : end_of new ≡ m (end_of old)

abbrev pub AreMoved : (ℕ → ℕ) → List Token → List Token → Type 0
AreMoved m [] [] = Unit {0}
AreMoved m [] (u ∷ us) = ⊥
AreMoved m (t ∷ ts) [] = ⊥
AreMoved m (t ∷ ts) (u ∷ us) = IsMoved m t u × AreMoved m ts us

pub moved_append : (m : ℕ → ℕ) (ts us xs ys : List Token) → AreMoved m ts us → AreMoved m xs ys → AreMoved m (ts ++ xs) (us ++ ys)
moved_append m [] [] xs ys h k = k
moved_append m [] (u ∷ us) xs ys h k = absurd h
moved_append m (t ∷ ts) [] xs ys h k = absurd h
moved_append m (t ∷ ts) (u ∷ us) xs ys h k = (h.0, moved_append m ts us xs ys h.1 k)

-- each token is what stands in its text between its ends
abbrev pub IsSliceOf : List ℕ → Token → Type 0
IsSliceOf text token = token.bytes ≡ slice_range text token.from (end_of token)

pub all_slices : (n : ℕ) (text : List ℕ) (p : ℕ) → IsUtf8 text → IsPlace text p → length text - p ≤ n → AllByRecursion (IsSliceOf text) (tokens_from text p)
all_slices zero text p utf8 place fuel = subst (λ ts. AllByRecursion (IsSliceOf text) ts) (sym (tokens-none text p (omega arith))) tt
all_slices (suc n) text p utf8 place fuel =
    elim (cases_lt p (length text)) [
      | inl within ↦
          (let token = cut-is_token text p utf8 place within in
          let some = token.some in
          let from = token.from in
          let here : IsSliceOf text (cut text p) = token.bytes ∙ ap (λ k. slice_range text k (end_of (cut text p))) (sym from) in
          subst (λ ts. AllByRecursion (IsSliceOf text) ts) (sym (tokens-go_on text p utf8 place within))
          (here, all_slices n text (end_of (cut text p)) utf8 token.border (omega arith)))
      | inr past ↦ subst (λ ts. AllByRecursion (IsSliceOf text) ts) (sym (tokens-none text p past)) tt
    ]

one_by : (m : ℕ → ℕ) (other : List ℕ) (t u : Token) → IsMoved m t u → IsSliceOf other u → u ≡ token_by m other t
one_by m other t u moved slice =
    ap (λ k. record { kind = k; from = u.from; bytes = u.bytes }) moved.kind
    ∙ ap (λ n. record { kind = t.kind; from = n; bytes = u.bytes }) moved.from
    ∙ ap (λ bs. record { kind = t.kind; from = m t.from; bytes = bs })
    (slice ∙ ap (λ n. slice_range other n (end_of u)) moved.from ∙ ap (slice_range other (m t.from)) moved.to)

pub all_by : (m : ℕ → ℕ) (other : List ℕ) (ts us : List Token) → AreMoved m ts us → AllByRecursion (IsSliceOf other) us → us ≡ map (token_by m other) ts
all_by m other [] [] h k = refl
all_by m other [] (u ∷ us) h k = absurd h
all_by m other (t ∷ ts) [] h k = absurd h
all_by m other (t ∷ ts) (u ∷ us) h k =
    ap (λ (x : Token). x ∷ us) (one_by m other t u h.0 k.0) ∙ ap (λ (xs : List Token). token_by m other t ∷ xs) (all_by m other ts us h.1 k.1)

-- tokens up to another, where the move shifts them
pub moved_between : (m n : ℕ → ℕ) (len q r p b : ℕ) (xs : List Token) (t : Token) (ys : List Token) → AreTokensFrom len p (xs ++ t ∷ ys) →
    t.from ≤ b → ((k : ℕ) → p ≤ k → k ≤ b → (m k + q ≡ r + k) × (n k ≡ m k)) → (p ≤ t.from) × AreMoved m xs (map (set_off n) xs)
unfolding AreTokensFrom
moved_between m n len q r p b [] t ys all le shift = ((omega (arith, all.0)), tt)
moved_between m n len q r p b (x ∷ xs) t ys all le shift =
    let rest = moved_between m n len q r (p + length x.bytes) b xs t ys all.1 le (λ k a c. shift k (omega (arith, a)) c) in
    let further = rest.0 in
    let here = shift x.from (omega (arith, all.0)) (omega (arith, all.0, further, le)) in
    let end = shift (end_of x) (omega (arith, all.0)) (omega (arith, all.0, further, le)) in (
      omega (arith, further),
      (record { kind = refl; from = here.1; to = omega (arith, here.0, here.1, end.0) }, rest.1),
    )

pub moved_to_end : (m : ℕ → ℕ) (len q r p : ℕ) (ts : List Token) → AreTokensFrom len p ts → ((k : ℕ) → p ≤ k → m k + q ≡ r + k) →
    AreMoved m ts (map (set_off m) ts)
unfolding AreTokensFrom
moved_to_end m len q r p [] all shift = tt
moved_to_end m len q r p (t ∷ ts) all shift =
    let here = shift t.from (omega (arith, all.0)) in
    let end = shift (end_of t) (omega (arith, all.0)) in (
      record { kind = refl; from = refl; to = omega (arith, here, end) },
      moved_to_end m len q r (p + length t.bytes) ts all.1 (λ k a. shift k (omega (arith, a))),
    )

pub off_twice : (f g : ℕ → ℕ) (ts : List Token) → map (set_off f) (map (set_off g) ts) ≡ map (set_off (λ p. f (g p))) ts
off_twice f g [] = refl
off_twice f g (t ∷ ts) = ap (λ (xs : List Token). set_off (λ p. f (g p)) t ∷ xs) (off_twice f g ts)

pub off_nowhere : (ts : List Token) → map (set_off (λ p. p)) ts ≡ ts
off_nowhere [] = refl
off_nowhere (t ∷ ts) = ap (λ (xs : List Token). t ∷ xs) (off_nowhere ts)
