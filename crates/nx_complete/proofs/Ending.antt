-- Items in front of a place end no more elements than they begin.
use Rattle.std.proofs.Common.{◌≡◌, ℕ, List, [], ◌∷◌, ◌++◌, length, cond, ◌+◌, ◌-◌, ◌≤◌, Bool, false, None, Some, Option, refl, sym, ap, subst, ◌∙◌, arith, append_assoc}
use Rattle.std.specs.Prelude.{◌==◌, IsUtf8}
use Rattle.std.specs.List.{AllByRecursion}
use Rattle.nx_base.specs.Tokens.{tokens_of}
use Rattle.nx_base.specs.declared.fault.Fault.{Fault}
use Rattle.nx_base.specs.declared.fault.Span.{Span}
use Rattle.nx_events.specs.Balance.{is_enter, is_leave, entered, left}
use Rattle.nx_events.specs.CharacterFaults.{character_faults}
use Rattle.nx_events.specs.Declarations.{declaration_faults}
use Rattle.nx_events.specs.Elements.{element_items, attribute_items, element_resolved}
use Rattle.nx_events.specs.Faults.{faults_as_items}
use Rattle.nx_events.specs.Items.{first_state, own_bindings, is_behind, token_span}
use Rattle.nx_events.specs.Prefixes.{as_token, items_so_far}
use Rattle.nx_events.specs.Runs.{run_items}
use Rattle.nx_events.specs.Tags.{start_name, tag_attributes}
use Rattle.nx_events.specs.declared.flaw.Resolved.{Resolved}
use Rattle.nx_events.specs.declared.flaw.Resolved.TheVariants.{Named, Flawed}
use Rattle.nx_events.specs.declared.reading.Reading.TheVariants.{Value}
use Rattle.nx_events.specs.declared.item.Event.TheVariants.{Enter, EnterLost, Att, TagEnd, Chars, Leave}
use Rattle.nx_events.specs.declared.item.Item.{Item}
use Rattle.nx_events.specs.declared.item.Item.TheVariants as items
use Rattle.nx_events.specs.declared.state.EventState.{EventState}
use Rattle.nx_events.specs.declared.state.Run.{Run}
use Rattle.nx_events.proofs.Balance.{enters_and_leaves_balance}
use Rattle.nx_recover.specs.Behind.{items_through}
use Rattle.nx_recover.specs.Offers.{UpTo, state_before, items_before}
use Rattle.nx_recovery.proofs.Folding.{tokens_fold}
use Rattle.nx_recovery.proofs.Levels.{AreOpenFor, open_here, open_behind, entered-cons, left-cons}
use Rattle.rng_residual.proofs.SmallPatterns.{by_test}
use Rattle.nx_complete.proofs.Told.{AreOfTag, attributes_of_tag}

-- none ends an element
abbrev pub EndNothing : List Item → Type 0
EndNothing all = AllByRecursion (λ (x : Item). is_leave x ≡ false) all

nothing_both : (xs ys : List Item) → EndNothing xs → EndNothing ys → EndNothing (xs ++ ys)
nothing_both [] ys h k = k
nothing_both (x ∷ xs) ys h k = (h.0, nothing_both xs ys h.1 k)

none_left : (all front rest : List Item) → EndNothing all → all ≡ front ++ rest → left front ≡ 0
none_left all [] rest h e = refl
none_left [] (y ∷ front) rest h e = cc
none_left (x ∷ all) (y ∷ front) rest h e =
    let same : y ≡ x = cc in
    let more : all ≡ front ++ rest = cc in
    let no : is_leave y ≡ false = subst (λ (z : Item). is_leave z ≡ false) (sym same) h.0 in
    let one = left-cons y front in
    let zero_one : cond {A = ℕ} (is_leave y) 1 0 ≡ 0 = ap (λ (b : Bool). cond {A = ℕ} b 1 0) no in
    let rest_none = none_left all front rest h.1 more in
    omega arith

pub open_more : (xs ys : List Item) (depth : ℕ) → AreOpenFor xs depth → EndNothing ys → AreOpenFor (xs ++ ys) depth
unfolding AreOpenFor
open_more [] ys depth h k front rest e = let none = none_left ys front rest k e in omega arith
open_more (x ∷ xs) ys depth h k [] rest e = let none : left [] ≡ 0 = refl in omega arith
open_more (x ∷ xs) ys depth h k (y ∷ front) rest e =
    let same : y ≡ x = cc in
    let more : xs ++ ys ≡ front ++ rest = cc in
    let here = open_here x xs depth h in
    let behind : ℕ = depth + cond (is_enter x) 1 0 - cond (is_leave x) 1 0 in
    let on = open_more xs ys behind (open_behind x xs depth behind (omega arith) h) k front rest more in
    let one = left-cons x front in
    let two = entered-cons x front in
    subst (λ (z : Item). left (z ∷ front) ≤ depth + entered (z ∷ front)) (sym same) (omega arith)

run_ends_nothing : (at : ℕ) (run : Option Run) → EndNothing (run_items at run)
unfolding run_items
run_ends_nothing at None = tt
run_ends_nothing at (Some run) = by_test (λ l. EndNothing l) (length run.string == 0) [] _ (λ e. tt) (λ e. (refl, tt))

faults_end_nothing : (faults : List Fault) → EndNothing (faults_as_items faults)
faults_end_nothing [] = tt
faults_end_nothing (x ∷ faults) = (refl, faults_end_nothing faults)

element_ends_nothing : (span : Span) (r : Resolved) → EndNothing (element_items span r)
element_ends_nothing span (Named n) = (refl, tt)
element_ends_nothing span (Flawed flaw) = (refl, (refl, tt))

attributes_end_nothing : (all : List Item) → AreOfTag all → EndNothing all
attributes_end_nothing [] h = tt
attributes_end_nothing (items.Event (Att n v) s ∷ all) h = (refl, attributes_end_nothing all h)
attributes_end_nothing (items.Event (Enter n) s ∷ all) h = absurd h
attributes_end_nothing (items.Event EnterLost s ∷ all) h = absurd h
attributes_end_nothing (items.Event TagEnd s ∷ all) h = absurd h
attributes_end_nothing (items.Event (Chars t) s ∷ all) h = absurd h
attributes_end_nothing (items.Event Leave s ∷ all) h = absurd h
attributes_end_nothing (items.Fault x ∷ all) h = (refl, attributes_end_nothing all h)

own_ends_nothing : (state : EventState) (tag : List ℕ) → EndNothing (items_so_far state tag)
own_ends_nothing state tag =
    let token = as_token tag in
    let attributes = tag_attributes token.from token.bytes in
    let scope = state.scope ++ own_bindings token in
    let characters = character_faults Value token.from token.bytes in
    let declarations = declaration_faults [] attributes in
    let resolved = element_resolved (is_behind state) scope (start_name token.bytes) in
    let own = attribute_items scope [] attributes in
    nothing_both _ own
    (nothing_both _ (element_items (token_span token) resolved)
    (nothing_both (faults_as_items characters) (faults_as_items declarations) (faults_end_nothing characters) (faults_end_nothing declarations))
    (element_ends_nothing (token_span token) resolved))
    (attributes_end_nothing own (attributes_of_tag scope [] attributes))

module _ (text : List ℕ) (utf8 : IsUtf8 text) (at : ℕ) (p : UpTo text at) where
  through_open : AreOpenFor (items_through first_state p.front) 0
  unfolding AreOpenFor
  through_open front rest e =
      let fold = tokens_fold None text utf8 p.front (p.token ∷ p.rest) p.tokens in
      let whole = fold.part ∙ ap (λ (l : List Item). l ++ fold.behind) e ∙ append_assoc front rest fold.behind in
      let k = (enters_and_leaves_balance (tokens_of text) (length text)).1 front (rest ++ fold.behind) whole in
      omega arith

  pub before_open : AreOpenFor (items_before p) 0
  before_open = open_more (items_through first_state p.front) _ 0 through_open (run_ends_nothing p.token.from (state_before p).run)

  pub own_open : (tag : List ℕ) → AreOpenFor (items_before p ++ items_so_far (state_before p) tag) 0
  own_open tag = open_more (items_before p) _ 0 before_open (own_ends_nothing (state_before p) tag)
