-- The rules of the machine without a schema hold their laws, and say what its calls do.
use Rattle.std.proofs.Common.{◌≡◌, ℕ, ◌+◌, ◌-◌, ◌≤◌, true, List, [], ◌∷◌, length, Option, Some, None, refl, sym, ap, ◌∙◌, arith}
use Rattle.std.specs.Prelude.{not, is_some, map}
use Rattle.std.specs.List.{AllByRecursion}
use Rattle.nx_base.specs.Rules.{lexeme_of, token_at, RulesLaws, LaterLaws, IsWithin}
use Rattle.nx_base.specs.Shifting.{placed_fault, placed}
use Rattle.nx_base.specs.declared.token.Token.{Token}
use Rattle.nx_events.specs.Among.{faults_among}
use Rattle.nx_events.specs.BareRules.{gives_bare, ends_bare, bare_rules}
use Rattle.nx_events.specs.Items.{items_of_token, state_behind, items_at_end}
use Rattle.nx_events.specs.Moves.{placed_item, placed_token}
use Rattle.nx_events.specs.Runs.{run_back}
use Rattle.nx_events.specs.Spans.{AreWithin}
use Rattle.nx_events.specs.declared.item.Item.{Item}
use Rattle.nx_events.specs.declared.item.Item.TheVariants as items
use Rattle.nx_events.specs.declared.state.EventState.{EventState}
use Rattle.nx_events.specs.declared.state.Run.{Run}
use Rattle.nx_events.specs.ItemsMove.{items_move_with_tokens, states_hold_no_place, items_move_with_end}
use Rattle.nx_events.specs.ItemsLie.{items_lie_in_tokens, items_lie_in_text}
use Rattle.nx_events.specs.RunsGrow.{back_grows}

placed_among : (d : ℕ) (all : List Item) → faults_among (map (placed_item d) all) ≡ placed d (faults_among all)
placed_among d [] = refl
placed_among d (items.Event event span ∷ all) = placed_among d all
placed_among d (items.Fault fault ∷ all) = ap (λ fs. placed_fault d fault ∷ fs) (placed_among d all)

at_place : (token : Token) (back d : ℕ) → d + back ≡ token.from → placed_token d (token_at back (lexeme_of token)) ≡ token
at_place token back d e = ap (λ n. token_at n (lexeme_of token)) e

-- the faults of a token at its place are those of the rules, placed
pub gives_placed : (state : EventState) (token : Token) → run_back state.run ≤ token.from →
    faults_among (items_of_token state token) ≡ placed (token.from - run_back state.run) (gives_bare state (lexeme_of token))
gives_placed state token h =
    let d = token.from - run_back state.run in
    let e : d + run_back state.run ≡ token.from = omega arith in
    ap (λ t. faults_among (items_of_token state t)) (sym (at_place token (run_back state.run) d e))
    ∙ ap faults_among (items_move_with_tokens d state (token_at (run_back state.run) (lexeme_of token)) (omega arith))
    ∙ placed_among d (items_of_token state (token_at (run_back state.run) (lexeme_of token)))

pub after_placed : (state : EventState) (token : Token) → state_behind state token ≡ bare_rules.after state (lexeme_of token)
after_placed state token =
    ap (λ t. state_behind state t) (sym (at_place token 0 token.from (omega arith))) ∙ states_hold_no_place token.from state
    (token_at 0 (lexeme_of token))

pub ends_placed : (state : EventState) (len : ℕ) → run_back state.run ≤ len →
    faults_among (items_at_end state len) ≡ placed (len - run_back state.run) (ends_bare state)
ends_placed state len h =
    let d = len - run_back state.run in
    let e : d + run_back state.run ≡ len = omega arith in
    ap (λ n. faults_among (items_at_end state n)) (sym e)
    ∙ ap faults_among (items_move_with_end d state (run_back state.run) (omega arith))
    ∙ placed_among d (items_at_end state (run_back state.run))

within : (from n : ℕ) (all : List Item) → AreWithin from n all → AllByRecursion (IsWithin n) (faults_among all)
within from n [] h = tt
within from n (items.Event event span ∷ all) h = within from n all h.1
within from n (items.Fault fault ∷ all) h = (record { ordered = h.0.ordered; inside = h.0.ends }, within from n all h.1)

no_run : (run : Option Run) → not (is_some run) ≡ true → run_back run ≡ 0
no_run None e = refl
no_run (Some run) e = cc

pub bare_rule_laws : RulesLaws bare_rules
bare_rule_laws = record {
  first_back = refl;
  mark_back = λ m e. no_run m.run e;
  after_back = λ m t. back_grows m (token_at 0 t);
  gives_within = λ m t. within _ (run_back m.run + length t.bytes) (items_of_token m (token_at (run_back m.run) t))
      (items_lie_in_tokens m (token_at (run_back m.run) t) (omega arith));
  ends_within = λ m. within _ (run_back m.run) (items_at_end m (run_back m.run)) (items_lie_in_text m (run_back m.run) (omega arith));
}

-- all machines without a schema are one
pub bare_later_laws : {S : Type 0} → LaterLaws {S = S} {T = EventState} (λ _ _. Unit {0}) (λ _ _. Unit {0}) (λ _ s. s) (λ _. bare_rules)
bare_later_laws =
    record { same = λ _. tt; chain = λ _ _ _ _ _. tt; state = λ _ _ _ _ _. tt; meaning = λ _ _ _ _ _. refl; rule = λ _ _ _. refl }
