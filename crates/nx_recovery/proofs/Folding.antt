-- The faults of recovery's rules over the tokens of a text are those along its items.
use Rattle.std.proofs.Common.{◌≡◌, ℕ, ◌+◌, ◌-◌, ◌≤◌, List, [], ◌∷◌, ◌++◌, length, map, Option, Some, None, refl, sym, ap, ◌∙◌, arith, append_assoc, subst}
use Rattle.std.specs.Str.{IsUtf8}
use Rattle.std.proofs.lemmas.Str.{IsCharBoundary-start}
use Rattle.nx_scan.proofs.Joined.{joined-from}
use Rattle.nx_base.specs.Rules.{lexeme_of, Lexeme}
use Rattle.nx_base.specs.Running.{after_all, faults_along, machine_faults}
use Rattle.nx_base.specs.Shifting.{placed}
use Rattle.nx_base.specs.Tokens.{tokens_of, AreTokensFrom}
use Rattle.nx_base.specs.declared.fault.Fault.{Fault}
use Rattle.nx_base.specs.declared.token.Token.{Token}
use Rattle.nx_events.specs.BareLaws.{after_placed}
use Rattle.nx_events.specs.Items.{first_state, items_of_token, items_from, items_of_text, state_behind}
use Rattle.nx_events.specs.OpenTags.{state_after}
use Rattle.nx_events.specs.Runs.{run_back}
use Rattle.nx_events.specs.RunsGrow.{back_grows}
use Rattle.nx_events.specs.declared.item.Item.{Item}
use Rattle.nx_events.specs.declared.item.Item.TheVariants as items
use Rattle.nx_events.specs.declared.state.EventState.{EventState}
use Rattle.rng_core.specs.Patterns.{Language}
use Rattle.nx_recover.specs.Items.{faults_found, form_behind, form_along, found_along}
use Rattle.nx_recover.specs.RecoverRules.{Recovered, recover_rules, levels_behind, faults_behind, first_levels}
use Rattle.nx_recover.specs.Table.{Form}
use Rattle.nx_recovery.specs.Levels.{items_through}
use Rattle.nx_recover.specs.MachineLaws.{levels_placed, gives_placed, ends_placed}

pub found_append : (g : Language) (l : Form) (xs ys : List Item) → found_along g l (xs ++ ys) ≡ found_along g l xs ++ found_along g (form_along g l xs) ys
unfolding found_along form_along
found_append g l [] ys = refl
found_append g l (x ∷ xs) ys =
    ap (λ (fs : List Fault). faults_found g l x ++ fs) (found_append g (form_behind g l x) xs ys)
    ∙ sym (append_assoc (faults_found g l x) (found_along g (form_behind g l x) xs) (found_along g (form_along g (form_behind g l x) xs) ys))

behind_append : (g : Option Language) (l : Form) (xs ys : List Item) → faults_behind g l (xs ++ ys) ≡ faults_behind g l xs ++ faults_behind g (levels_behind g l xs) ys
behind_append (Some g) l xs ys = found_append g l xs ys
behind_append None l [] ys = refl
behind_append None l (items.Event e s ∷ xs) ys = behind_append None l xs ys
behind_append None l (items.Fault f ∷ xs) ys = ap (λ (fs : List Fault). f ∷ fs) (behind_append None l xs ys)

-- the faults at the end of a text of this length, behind tokens
abbrev ends_behind : Option Language → ℕ → Recovered → List Lexeme → List Fault
ends_behind g len m ks =
    let r = recover_rules g in
    placed (len - run_back (after_all r m ks).events.run) (r.ends (after_all r m ks))

along : (g : Option Language) (len p : ℕ) (m : Recovered) (ks : List Token) → AreTokensFrom len p ks → run_back m.events.run ≤ p →
    faults_behind g m.levels (items_from m.events ks len) ≡ faults_along (recover_rules g) p m (map lexeme_of ks) ++ ends_behind g len m (map lexeme_of ks)
unfolding items_from AreTokensFrom
along g len p m [] h b = ends_placed g m len (omega arith)
along g len p m (k ∷ ks) h b =
    let r = recover_rules g in
    let from = h.0 in
    let next = r.after m (lexeme_of k) in
    let same : state_behind m.events k ≡ next.events = after_placed m.events k in
    let grown = back_grows m.events k in
    let back : run_back next.events.run ≤ p + length k.bytes = rw (← same) (omega arith) in
    let own = placed (p - run_back m.events.run) (r.gives m (lexeme_of k)) in
    behind_append g m.levels (items_of_token m.events k) (items_from (state_behind m.events k) ks len)
    ∙ ap (λ (fs : List Fault). fs ++ faults_behind g (levels_behind g m.levels (items_of_token m.events k)) (items_from (state_behind m.events k) ks len)) (gives_placed g m k (omega arith) ∙ ap (λ n. placed (n - run_back m.events.run) (r.gives m (lexeme_of k))) from)
    ∙ ap (λ (l : Form). own ++ faults_behind g l (items_from (state_behind m.events k) ks len)) (levels_placed g m k (omega arith))
    ∙ ap (λ (s : EventState). own ++ faults_behind g next.levels (items_from s ks len)) same
    ∙ ap (λ (fs : List Fault). own ++ fs) (along g len (p + length k.bytes) next ks h.1 back)
    ∙ sym (append_assoc own (faults_along r (p + length k.bytes) next (map lexeme_of ks)) (ends_behind g len next (map lexeme_of ks)))

pub rules_fold : (g : Option Language) (text : List ℕ) → IsUtf8 text → machine_faults (recover_rules g) text ≡ faults_behind g (first_levels g) (items_of_text text)
rules_fold g text utf8 =
    let cover = (joined-from (length text - 0) text 0 utf8 (IsCharBoundary-start text utf8) (omega arith)).lie in
    sym (along g (length text) 0 (record { events = first_state; levels = first_levels g }) (tokens_of text) cover (omega arith))

-- ---- the levels behind tokens

pub levels_append : (g : Option Language) (l : Form) (xs ys : List Item) → levels_behind g l (xs ++ ys) ≡ levels_behind g (levels_behind g l xs) ys
unfolding form_along
levels_append None l xs ys = refl
levels_append (Some g) l [] ys = refl
levels_append (Some g) l (x ∷ xs) ys = levels_append (Some g) (form_behind g l x) xs ys

levels_through : (g : Option Language) (len p : ℕ) (m : Recovered) (ks rest : List Token) → AreTokensFrom len p (ks ++ rest) → run_back m.events.run ≤ p →
    levels_behind g m.levels (items_through m.events ks) ≡ (after_all (recover_rules g) m (map lexeme_of ks)).levels
unfolding AreTokensFrom form_along
levels_through None len p m [] rest h b = refl
levels_through (Some g) len p m [] rest h b = refl
levels_through g len p m (k ∷ ks) rest h b =
    let r = recover_rules g in
    let from = h.0 in
    let next = r.after m (lexeme_of k) in
    let same : state_behind m.events k ≡ next.events = after_placed m.events k in
    let grown = back_grows m.events k in
    let back : run_back next.events.run ≤ p + length k.bytes = rw (← same) (omega arith) in
    levels_append g m.levels (items_of_token m.events k) (items_through (state_behind m.events k) ks)
    ∙ ap (λ (l : Form). levels_behind g l (items_through (state_behind m.events k) ks)) (levels_placed g m k (omega arith))
    ∙ ap (λ (s : EventState). levels_behind g next.levels (items_through s ks)) same
    ∙ levels_through g len (p + length k.bytes) next ks rest h.1 back

-- the faults of tokens are those along their items
faults_through : (g : Option Language) (len p : ℕ) (m : Recovered) (ks rest : List Token) → AreTokensFrom len p (ks ++ rest) → run_back m.events.run ≤ p →
    faults_behind g m.levels (items_through m.events ks) ≡ faults_along (recover_rules g) p m (map lexeme_of ks)
unfolding AreTokensFrom found_along
faults_through None len p m [] rest h b = refl
faults_through (Some g) len p m [] rest h b = refl
faults_through g len p m (k ∷ ks) rest h b =
    let r = recover_rules g in
    let from = h.0 in
    let next = r.after m (lexeme_of k) in
    let same : state_behind m.events k ≡ next.events = after_placed m.events k in
    let grown = back_grows m.events k in
    let back : run_back next.events.run ≤ p + length k.bytes = rw (← same) (omega arith) in
    let own = placed (p - run_back m.events.run) (r.gives m (lexeme_of k)) in
    behind_append g m.levels (items_of_token m.events k) (items_through (state_behind m.events k) ks)
    ∙ ap (λ (fs : List Fault). fs ++ faults_behind g (levels_behind g m.levels (items_of_token m.events k)) (items_through (state_behind m.events k) ks)) (gives_placed g m k (omega arith) ∙ ap (λ n. placed (n - run_back m.events.run) (r.gives m (lexeme_of k))) from)
    ∙ ap (λ (l : Form). own ++ faults_behind g l (items_through (state_behind m.events k) ks)) (levels_placed g m k (omega arith))
    ∙ ap (λ (s : EventState). own ++ faults_behind g next.levels (items_through s ks)) same
    ∙ ap (λ (fs : List Fault). own ++ fs) (faults_through g len (p + length k.bytes) next ks rest h.1 back)

-- of tokens at the front of a text
pub front_faults : (g : Option Language) (text : List ℕ) → IsUtf8 text → (front rest : List Token) → tokens_of text ≡ front ++ rest →
    faults_behind g (first_levels g) (items_through first_state front) ≡ faults_along (recover_rules g) 0 (recover_rules g).first (map lexeme_of front)
front_faults g text utf8 front rest e =
    let cover = (joined-from (length text - 0) text 0 utf8 (IsCharBoundary-start text utf8) (omega arith)).lie in
    faults_through g (length text) 0 (record { events = first_state; levels = first_levels g }) front rest (subst (λ (all : List Token). AreTokensFrom (length text) 0 all) e cover) (omega arith)

items_part : (state : EventState) (front rest : List Token) (len : ℕ) →
    items_from state (front ++ rest) len ≡ items_through state front ++ items_from (state_after state front) rest len
unfolding items_from state_after
items_part state [] rest len = refl
items_part state (k ∷ front) rest len =
    ap (λ (xs : List Item). items_of_token state k ++ xs) (items_part (state_behind state k) front rest len)
    ∙ sym (append_assoc (items_of_token state k) (items_through (state_behind state k) front) (items_from (state_after (state_behind state k) front) rest len))

-- tokens at the front of a text: their items are at the front of its items, and fold to the levels behind them
pub record FoldsTo (g : Option Language) (text : List ℕ) (front : List Token) : Type 0 where
  pub behind : List Item
  pub part : items_of_text text ≡ items_through first_state front ++ behind
  pub levels : levels_behind g (first_levels g) (items_through first_state front) ≡ (after_all (recover_rules g) (recover_rules g).first (map lexeme_of front)).levels

pub tokens_fold : (g : Option Language) (text : List ℕ) → IsUtf8 text → (front rest : List Token) → tokens_of text ≡ front ++ rest → FoldsTo g text front
tokens_fold g text utf8 front rest e =
    let cover = (joined-from (length text - 0) text 0 utf8 (IsCharBoundary-start text utf8) (omega arith)).lie in
    record {
      behind = items_from (state_after first_state front) rest (length text);
      part = ap (λ (all : List Token). items_from first_state all (length text)) e ∙ items_part first_state front rest (length text);
      levels = levels_through g (length text) 0 (record { events = first_state; levels = first_levels g }) front rest (subst (λ (all : List Token). AreTokensFrom (length text) 0 all) e cover) (omega arith);
    }
