-- A step over a matcher: what its parts come to.
use Rattle.std.proofs.Common.{◌≡◌, ℕ, zero, suc, ◌-◌, ◌<◌, ◌≤◌, List, [], ◌∷◌, ◌++◌, length, map, reverse, get_or, arith, Option, Some, Result, Ok, Err, ap, sym, subst, ◌∙◌}
use Rattle.std.specs.Prelude.{OnOk, OnErr, option_map, true, ◌==◌}
use Rattle.std.proofs.lemmas.Bool.{eqb-true}
use Rattle.std.proofs.lemmas.List.{reverse-reverse, append-nil}
use Rattle.nx_base.specs.declared.fault.Fault.{Fault}
use Rattle.nx_base.specs.declared.token.Token.{Token}
use Rattle.nx_events.specs.Items.{first_state, items_of_token, state_behind, items_at_end}
use Rattle.nx_events.specs.Runs.{run_back}
use Rattle.nx_events.specs.Texts.{ItemsAreText}
use Rattle.nx_events.specs.declared.item.Item.{Item}
use Rattle.nx_events.specs.declared.state.EventState.{EventState}
use Rattle.nx_base.specs.Rules.{LaterLaws, Lexeme, lexeme_of}
use Rattle.nx_base.specs.Shifting.{placed}
use Rattle.nx_events.specs.BareLaws.{after_placed}
use Rattle.rng_core.specs.Patterns.{Language}
use Rattle.rng_kept.specs.Residuals.{Residual}
use Rattle.rng_kept.specs.Standing.{first_residual}
use Rattle.nx_recover.specs.Table.{Form}
use Rattle.nx_recover.specs.States.{View, form, stack, open_form, view_of, AreStates}
use Rattle.nx_recover.specs.Items.{form_along, found_along}
use Rattle.nx_recover.specs.Later.{states_later, form_same}
use Rattle.nx_recover.specs.RecoverRules.{Recovered, recover_rules, faults_behind}
use Rattle.nx_recover.specs.Machine.{over}
use Rattle.nx_recover.specs.MachineLaws.{levels_placed, gives_placed, ends_placed}
use Rattle.nx_recover.proofs.Tops.{form_is, stack_nil, no_items}
use Rattle.nx_recover.specs.declared.levels.Open.{Open}
use Rattle.nx_recover.specs.declared.state.RecoverState.{RecoverState}

pub on_err : {A E : Type 0} (r : Result A E) {P : Type 0} → P → OnErr r P
on_err (Ok a) p = tt
on_err (Err e) p = p

pub then_err : {A E : Type 0} (r : Result A E) {P Q : Type 0} → OnErr r P → (P → Q) → OnErr r Q
then_err (Ok a) p f = tt
then_err (Err e) p f = f p

pub from_empty : {X : Type 0} {xs ys es all : List X} → xs ≡ ys → ys ≡ es ++ all → es ≡ [] → xs ≡ all
from_empty {all = all} e k h = e ∙ k ∙ ap (λ x. x ++ all) h

pub on_ok : {A E : Type 0} (r : Result A E) {P : Type 0} → P → OnOk r P
on_ok (Ok a) p = p
on_ok (Err e) p = tt

pub then_ok : {A E : Type 0} (r : Result A E) {P Q : Type 0} → OnOk r P → (P → Q) → OnOk r Q
then_ok (Ok a) p f = f p
then_ok (Err e) p f = tt

pub is_nothing : {X : Type 0} (xs : List X) → true ≡ (length xs == 0) → xs ≡ []
is_nothing xs e = no_items xs (eqb-true (length xs) 0 (sym e))

-- nothing is added
pub with_nothing : (old more : List Fault) → true ≡ (length more == 0) → old ≡ old ++ more
with_nothing old more e = sym (append-nil old) ∙ ap (λ x. old ++ x) (sym (is_nothing more e))

abbrev recovered : EventState → Form → Recovered
recovered e l = record { events = e; levels = l }

pub same_recovered : (e k : EventState) (l m : Form) → e ≡ k → l ≡ m → recovered e l ≡ recovered k m
same_recovered e k l m p q = ap (λ x. recovered x l) p ∙ ap (recovered k) q

pub stepped : {S : Type 0} (g : Language) (f h : S → Residual) (s t : RecoverState S) (token : Token) (v : View S) (all : List Item) → run_back s.events.run ≤ token.from →
    t.events ≡ state_behind s.events token → view_of t.levels ≡ v → form h v ≡ form_along g (form f (view_of s.levels)) all → all ≡ items_of_token s.events token →
    over h t ≡ (recover_rules (Some g)).after (over f s) (lexeme_of token)
stepped g f h s t token v all p e w k i =
    same_recovered t.events _ (form h (view_of t.levels)) _ (e ∙ after_placed s.events token)
    (ap (form h) w ∙ k ∙ ap (form_along g (form f (view_of s.levels))) i ∙ levels_placed (Some g) (over f s) token p)

pub given : (g : Option Language) (m : Recovered) (token : Token) (old more now : List Fault) (all : List Item) → run_back m.events.run ≤ token.from →
    now ≡ old ++ more → more ≡ faults_behind g m.levels all → all ≡ items_of_token m.events token →
    now ≡ old ++ placed (token.from - run_back m.events.run) ((recover_rules g).gives m (lexeme_of token))
given g m token old more now all p e k i = e ∙ ap (λ x. old ++ x) (k ∙ ap (faults_behind g m.levels) i ∙ gives_placed g m token p)

-- the same from an equal state, by equal rules
pub after_same : (g h : Language) (m n x : Recovered) (lexeme : Lexeme) → h ≡ g → n ≡ m → x ≡ (recover_rules (Some h)).after n lexeme → x ≡ (recover_rules (Some g)).after m lexeme
after_same g h m n x lexeme e k i = i ∙ ap (λ l. (recover_rules (Some l)).after n lexeme) e ∙ ap (λ r. (recover_rules (Some g)).after r lexeme) k

pub given_same : (g h : Language) (m n : Recovered) (token : Token) (old now : List Fault) → h ≡ g → n ≡ m →
    now ≡ old ++ placed (token.from - run_back n.events.run) ((recover_rules (Some h)).gives n (lexeme_of token)) →
    now ≡ old ++ placed (token.from - run_back m.events.run) ((recover_rules (Some g)).gives m (lexeme_of token))
given_same g h m n token old now e k i =
    i ∙ ap (λ l. old ++ placed (token.from - run_back n.events.run) ((recover_rules (Some l)).gives n (lexeme_of token))) e
    ∙ ap (λ r. old ++ placed (token.from - run_back r.events.run) ((recover_rules (Some g)).gives r (lexeme_of token))) k

-- without items the levels stay, and nothing is wrong

form_stays : (g : Language) (l : Form) (all : List Item) → all ≡ [] → form_along g l all ≡ l
unfolding form_along
form_stays g l all e = ap (form_along g l) e

found_nothing : (g : Language) (l : Form) (all : List Item) → all ≡ [] → found_along g l all ≡ []
unfolding found_along
found_nothing g l all e = ap (found_along g l) e

pub passed : {S : Type 0} (g : Language) (f : S → Residual) (s t : RecoverState S) (token : Token) (all : List Item) → run_back s.events.run ≤ token.from →
    t.events ≡ state_behind s.events token → view_of t.levels ≡ view_of s.levels → all ≡ [] → all ≡ items_of_token s.events token →
    over f t ≡ (recover_rules (Some g)).after (over f s) (lexeme_of token)
passed g f s t token all p e w k i = stepped g f f s t token (view_of s.levels) all p e w (sym (form_stays g (form f (view_of s.levels)) all k)) i

pub given_nothing : (g : Language) (m : Recovered) (token : Token) (old : List Fault) (all : List Item) → run_back m.events.run ≤ token.from →
    all ≡ [] → all ≡ items_of_token m.events token →
    old ≡ old ++ placed (token.from - run_back m.events.run) ((recover_rules (Some g)).gives m (lexeme_of token))
given_nothing g m token old all p k i = given (Some g) m token old [] old all p (sym (append-nil old)) (sym (found_nothing g m.levels all k)) i

pub given_at_end : (g : Option Language) (m : Recovered) (len : ℕ) (old more now : List Fault) (all : List Item) → run_back m.events.run ≤ len →
    now ≡ old ++ more → more ≡ faults_behind g m.levels all → all ≡ items_at_end m.events len →
    now ≡ old ++ placed (len - run_back m.events.run) ((recover_rules g).ends m)
given_at_end g m len old more now all p e k i = e ∙ ap (λ x. old ++ x) (k ∙ ap (faults_behind g m.levels) i ∙ ends_placed g m len p)

pub begun_over : {S : Type 0} (g : Language) (f : S → Residual) (now : EventState) (here : Option S) (l : List (Open S)) → now ≡ first_state → option_map f here ≡ Some (first_residual g.start) → l ≡ [] → recovered now (form f (record { here = here; elements = l })) ≡ (recover_rules (Some g)).first
begun_over g f now here l e h k = same_recovered now first_state (form f (record { here = here; elements = l })) _ e (form_is f (record { here = here; elements = l }) (Some (first_residual g.start)) [] h (ap (stack f) k ∙ stack_nil f))

pub differ : {X Y : Type 0} (f : X → Y) (a b : List X) (i : ℕ) (x y : X) → i < length a → x ≡ get_or a i x → y ≡ get_or b i y → map f a ≡ map f b → f x ≡ f y
differ f [] b i x y lt e k m = absurd (omega arith)
differ f (a ∷ as') [] i x y lt e k m = cc
differ f (a ∷ as') (b ∷ bs) zero x y lt e k m = cc
differ f (a ∷ as') (b ∷ bs) (suc i) x y lt e k m = differ f as' bs i x y (omega arith) e k cc

pub over_is : {S : Type 0} (f : S → Residual) (s t : RecoverState S) → s.events ≡ t.events → option_map f s.levels.here ≡ option_map f t.levels.here → map (open_form f) s.levels.elements.items ≡ map (open_form f) t.levels.elements.items → over f s ≡ over f t
unfolding stack
over_is f s t e h k = same_recovered s.events t.events (form f (view_of s.levels)) (form f (view_of t.levels)) e (form_is f (view_of s.levels) (option_map f t.levels.here) (stack f t.levels.elements.items) h (ap reverse k))

pub over_elements : {S : Type 0} (f : S → Residual) (s t : RecoverState S) → over f s ≡ over f t → map (open_form f) s.levels.elements.items ≡ map (open_form f) t.levels.elements.items
unfolding stack
over_elements f s t e =
    let k : reverse (map (open_form f) s.levels.elements.items) ≡ reverse (map (open_form f) t.levels.elements.items) = ap (λ r. r.levels.elements) e in
    sym (reverse-reverse (map (open_form f) s.levels.elements.items)) ∙ ap reverse k ∙ reverse-reverse (map (open_form f) t.levels.elements.items)

module _ {D S : Type 0} {later : D → D → Type 0} {is_state : D → S → Type 0} {means : D → S → Residual} {language : D → Language} (laws : LaterLaws later is_state means language) {a b : D} (on : later a b) where
  pub kept : (s t : RecoverState S) → AreStates (is_state a) (view_of s.levels) → t.events ≡ s.events → view_of t.levels ≡ view_of s.levels → over (means b) t ≡ over (means a) s
  kept s t h e w = same_recovered t.events s.events (form (means b) (view_of t.levels)) (form (means a) (view_of s.levels)) e (ap (form (means b)) w ∙ form_same laws on (view_of s.levels) h)

  pub kept_states : (v w : View S) → AreStates (is_state a) v → w ≡ v → AreStates (is_state b) w
  kept_states v w h e = let P : View S → Type 0 = λ x. AreStates (is_state b) x in subst P (sym e) (states_later laws on v h)

pub text_given : {xs ys : List Item} → xs ≡ ys → ItemsAreText ys → ItemsAreText xs
text_given e h = let I : List Item → Type 0 = λ all. ItemsAreText all in subst I (sym e) h
