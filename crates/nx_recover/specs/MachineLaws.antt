-- Recovery keeps the laws of machines where its matcher keeps its own.
use Rattle.std.specs.Prelude.{◌≡◌, ℕ, ◌+◌, ◌-◌, ◌≤◌, true, not, is_some, List, [], ◌∷◌, ◌++◌, length, map, refl}
use Rattle.std.specs.Prelude.{Option, Some, None, option_map}
use Rattle.std.proofs.Common.{arith, sym, ap, ◌∙◌}
use Rattle.std.specs.List.{AllByRecursion}
use Rattle.nx_base.specs.Rules.{lexeme_of, token_at, RulesLaws, LaterLaws, IsWithin}
use Rattle.nx_base.specs.Shifting.{placed_span, placed_fault, placed}
use Rattle.nx_base.specs.declared.fault.Fault.{Fault}
use Rattle.nx_base.specs.declared.fault.Span.{Span}
use Rattle.nx_base.specs.declared.token.Token.{Token}
use Rattle.nx_events.specs.Items.{items_of_token, items_at_end}
use Rattle.nx_events.specs.ItemsLie.{items_lie_in_tokens, items_lie_in_text}
use Rattle.nx_events.specs.ItemsMove.{items_move_with_tokens, items_move_with_end}
use Rattle.nx_events.specs.Moves.{placed_item}
use Rattle.nx_events.specs.Runs.{run_back}
use Rattle.nx_events.specs.RunsGrow.{back_grows}
use Rattle.nx_events.specs.Spans.{AreWithin}
use Rattle.nx_events.specs.declared.flaw.Flaw.{Flaw}
use Rattle.nx_events.specs.declared.item.Item.{Item}
use Rattle.nx_events.specs.declared.item.Item.TheVariants as items
use Rattle.nx_events.specs.declared.state.EventState.{EventState}
use Rattle.nx_events.specs.declared.state.Run.{Run}
use Rattle.rng_core.specs.Patterns.{Language}
use Rattle.rng_kept.specs.Residuals.{Residual}
use Rattle.nx_recover.specs.Faults.{flaw_at}
use Rattle.nx_recover.specs.Items.{form_along, found_along}
use Rattle.nx_recover.specs.Later.{states_later, form_same}
use Rattle.nx_recover.specs.Machine.{over, later_by, state_by, means_by, rules_by}
use Rattle.nx_recover.specs.RecoverRules.{Recovered, levels_behind, faults_behind, items_given, recover_rules}
use Rattle.nx_recover.specs.States.{view_of, AreStates}
use Rattle.nx_recover.specs.Table.{Form, done_by}
use Rattle.nx_recover.specs.declared.recover.Recover.{Recover}
use Rattle.nx_recover.specs.declared.state.RecoverState.{RecoverState}

-- ---- a step has no place

flaw_moves : (d : ℕ) (s : Span) (f : Option Flaw) → flaw_at (placed_span d s) f ≡ placed d (flaw_at s f)
flaw_moves d s None = refl
flaw_moves d s (Some f) = refl

placed-append : (d : ℕ) (xs ys : List Fault) → placed d (xs ++ ys) ≡ placed d xs ++ placed d ys
placed-append d [] ys = refl
placed-append d (x ∷ xs) ys = ap (λ zs. placed_fault d x ∷ zs) (placed-append d xs ys)

form_moves : (g : Language) (d : ℕ) (l : Form) (all : List Item) → form_along g l (map (placed_item d) all) ≡ form_along g l all
unfolding form_along
form_moves g d l [] = refl
form_moves g d l (items.Event e s ∷ all) = form_moves g d (done_by g l e).form all
form_moves g d l (items.Fault f ∷ all) = form_moves g d l all

faults_move : (g : Language) (d : ℕ) (l : Form) (all : List Item) →
    found_along g l (map (placed_item d) all) ≡ placed d (found_along g l all)
unfolding found_along
faults_move g d l [] = refl
faults_move g d l (items.Event e s ∷ all) =
    ap (λ x. x ++ found_along g (done_by g l e).form (map (placed_item d) all)) (flaw_moves d s (done_by g l e).flaw)
    ∙ ap (λ x. placed d (flaw_at s (done_by g l e).flaw) ++ x) (faults_move g d (done_by g l e).form all)
    ∙ sym (placed-append d (flaw_at s (done_by g l e).flaw) (found_along g (done_by g l e).form all))
faults_move g d l (items.Fault f ∷ all) = ap (λ x. placed_fault d f ∷ x) (faults_move g d l all)

bare_move : (d : ℕ) (l : Form) (all : List Item) → faults_behind None l (map (placed_item d) all) ≡ placed d (faults_behind None l all)
bare_move d l [] = refl
bare_move d l (items.Event e s ∷ all) = bare_move d l all
bare_move d l (items.Fault f ∷ all) = ap (λ x. placed_fault d f ∷ x) (bare_move d l all)

levels_behind_move : (g : Option Language) (d : ℕ) (l : Form) (all : List Item) →
    levels_behind g l (map (placed_item d) all) ≡ levels_behind g l all
levels_behind_move None d l all = refl
levels_behind_move (Some g) d l all = form_moves g d l all

faults_behind_move : (g : Option Language) (d : ℕ) (l : Form) (all : List Item) →
    faults_behind g l (map (placed_item d) all) ≡ placed d (faults_behind g l all)
faults_behind_move None d l all = bare_move d l all
faults_behind_move (Some g) d l all = faults_move g d l all

-- the items of a token are those of the rules, moved
items_placed : (m : Recovered) (token : Token) → run_back m.events.run ≤ token.from →
    items_of_token m.events token ≡ map (placed_item (token.from - run_back m.events.run)) (items_given m (lexeme_of token))
items_placed m token h =
    let back = run_back m.events.run in
    let e : (token.from - back) + back ≡ token.from = omega arith in
    ap (λ n. items_of_token m.events (token_at n (lexeme_of token))) (sym e)
    ∙ items_move_with_tokens (token.from - back) m.events (token_at back (lexeme_of token)) (omega arith)

pub levels_placed : (g : Option Language) (m : Recovered) (token : Token) → run_back m.events.run ≤ token.from →
    levels_behind g m.levels (items_of_token m.events token) ≡ ((recover_rules g).after m (lexeme_of token)).levels
levels_placed g m token h =
    ap (levels_behind g m.levels) (items_placed m token h)
    ∙ levels_behind_move g (token.from - run_back m.events.run) m.levels (items_given m (lexeme_of token))

pub gives_placed : (g : Option Language) (m : Recovered) (token : Token) → run_back m.events.run ≤ token.from →
    faults_behind g m.levels (items_of_token m.events token)
    ≡ placed (token.from - run_back m.events.run) ((recover_rules g).gives m (lexeme_of token))
gives_placed g m token h =
    ap (faults_behind g m.levels) (items_placed m token h)
    ∙ faults_behind_move g (token.from - run_back m.events.run) m.levels (items_given m (lexeme_of token))

pub ends_placed : (g : Option Language) (m : Recovered) (len : ℕ) → run_back m.events.run ≤ len →
    faults_behind g m.levels (items_at_end m.events len) ≡ placed (len - run_back m.events.run) ((recover_rules g).ends m)
ends_placed g m len h =
    let back = run_back m.events.run in
    let e : (len - back) + back ≡ len = omega arith in
    ap (λ n. faults_behind g m.levels (items_at_end m.events n)) (sym e)
    ∙ ap (faults_behind g m.levels) (items_move_with_end (len - back) m.events back (omega arith))
    ∙ faults_behind_move g (len - back) m.levels (items_at_end m.events back)

-- ---- the faults lie in what was read

joined_within : (n : ℕ) (xs ys : List Fault) → AllByRecursion (IsWithin n) xs → AllByRecursion (IsWithin n) ys →
    AllByRecursion (IsWithin n) (xs ++ ys)
joined_within n [] ys h k = k
joined_within n (x ∷ xs) ys h k = (h.0, joined_within n xs ys h.1 k)

flaw_within : (n : ℕ) (s : Span) (f : Option Flaw) → s.from ≤ s.to → s.to ≤ n → AllByRecursion (IsWithin n) (flaw_at s f)
flaw_within n s None h k = tt
flaw_within n s (Some f) h k = (record { ordered = h; inside = k }, tt)

along_within : (g : Language) (from n : ℕ) (l : Form) (all : List Item) → AreWithin from n all →
    AllByRecursion (IsWithin n) (found_along g l all)
unfolding found_along
along_within g from n l [] h = tt
along_within g from n l (items.Event e s ∷ all) h =
    joined_within n (flaw_at s (done_by g l e).flaw) (found_along g (done_by g l e).form all)
    (flaw_within n s (done_by g l e).flaw h.0.ordered h.0.ends) (along_within g from n (done_by g l e).form all h.1)
along_within g from n l (items.Fault f ∷ all) h = (record { ordered = h.0.ordered; inside = h.0.ends }, along_within g from n l all h.1)

behind_within : (g : Option Language) (from n : ℕ) (l : Form) (all : List Item) → AreWithin from n all →
    AllByRecursion (IsWithin n) (faults_behind g l all)
behind_within (Some g) from n l all h = along_within g from n l all h
behind_within None from n l [] h = tt
behind_within None from n l (items.Event e s ∷ all) h = behind_within None from n l all h.1
behind_within None from n l (items.Fault f ∷ all) h =
    (record { ordered = h.0.ordered; inside = h.0.ends }, behind_within None from n l all h.1)

no_run : (run : Option Run) → not (is_some run) ≡ true → run_back run ≡ 0
no_run None e = refl
no_run (Some run) e = cc

rule_laws_of : (g : Option Language) → RulesLaws (recover_rules g)
rule_laws_of g = record {
  first_back = refl;
  mark_back = λ m e. no_run m.events.run e;
  after_back = λ m t. back_grows m.events (token_at 0 t);
  gives_within = λ m t. behind_within g _ (run_back m.events.run + length t.bytes) m.levels (items_given m t)
      (items_lie_in_tokens m.events (token_at (run_back m.events.run) t) (omega arith));
  ends_within = λ m. behind_within g _ (run_back m.events.run) m.levels (items_at_end m.events (run_back m.events.run))
      (items_lie_in_text m.events (run_back m.events.run) (omega arith));
}

pub rule_laws_by : {D : Type 0} (language : D → Language) (d : Option D) → RulesLaws (rules_by language d)
rule_laws_by language d = rule_laws_of (option_map language d)

-- ---- a later machine

recovered : EventState → Form → Recovered
recovered e l = record { events = e; levels = l }

module _ {D S : Type 0} {later : D → D → Type 0} {is_state : D → S → Type 0} {means : D → S → Residual} {language : D → Language}
    (laws : LaterLaws later is_state means language) where
  pub over_same : (a b : D) (s : RecoverState S) → later a b → AreStates (is_state a) (view_of s.levels) →
      over (means b) s ≡ over (means a) s
  unfolding recovered
  over_same a b s l h = ap (recovered s.events) (form_same laws l (view_of s.levels) h)

  same : (a : Option D) → later_by later a a
  same None = tt
  same (Some a) = laws.same a

  chain : (a b c : Option D) → later_by later a b → later_by later b c → later_by later a c
  chain (Some a) (Some b) (Some c) l k = laws.chain a b c l k
  chain None None None l k = tt
  chain None None (Some c) l k = k
  chain None (Some b) c l k = absurd l
  chain (Some a) None c l k = absurd l
  chain (Some a) (Some b) None l k = k

  state : (a b : Option D) (s : RecoverState S) → later_by later a b → state_by is_state a s → state_by is_state b s
  state (Some a) (Some b) s l h = record { states = states_later laws l (view_of s.levels) h.states; text = h.text }
  state None None s l h = h
  state None (Some b) s l h = absurd l
  state (Some a) None s l h = absurd l

  meaning : (a b : Option D) (s : RecoverState S) → later_by later a b → state_by is_state a s →
      means_by means b s ≡ means_by means a s
  meaning (Some a) (Some b) s l h = over_same a b s l h.states
  meaning None None s l h = refl
  meaning None (Some b) s l h = absurd l
  meaning (Some a) None s l h = absurd l

  rule : (a b : Option D) → later_by later a b → rules_by language b ≡ rules_by language a
  rule (Some a) (Some b) l = ap (λ g. recover_rules (Some g)) (laws.rule a b l)
  rule None None l = refl
  rule None (Some b) l = absurd l
  rule (Some a) None l = absurd l

  pub laws_by : LaterLaws {S = Recover D S} {T = RecoverState S} (λ a b. later_by later a.matcher b.matcher)
      (λ a s. state_by is_state a.matcher s) (λ a s. means_by means a.matcher s) (λ a. rules_by language a.matcher)
  laws_by = record {
    same = λ a. same a.matcher;
    chain = λ a b c l k. chain a.matcher b.matcher c.matcher l k;
    state = λ a b s l h. state a.matcher b.matcher s l h;
    meaning = λ a b s l h. meaning a.matcher b.matcher s l h;
    rule = λ a b l. rule a.matcher b.matcher l;
  }
