-- The items of tags that are put in, and the states behind them.
use Rattle.std.proofs.Common.{◌≡◌, ℕ, zero, suc, ◌+◌, ◌-◌, ◌<◌, ◌≤◌, Bool, true, false, inl, inr, Option, Some, None, List, [], ◌∷◌, ◌++◌, length}
use Rattle.std.proofs.Common.{take, drop, refl, sym, ◌∙◌, ap, subst, arith, append-nil, cond}
use Rattle.std.specs.Prelude.{not, ◌&&◌, nat_lt, slice_get}
use Rattle.std.specs.Option.{option_map_or}
use Rattle.std.specs.Str.{bytes_eq}
use Rattle.std.proofs.lemmas.Bool.{lt-ltb}
use Rattle.std.proofs.lemmas.List.{take_at, drop_at, take_all}
use Rattle.std.proofs.lemmas.Slice.Eq.{bytes_eq-Decides}
use Rattle.nx_base.specs.declared.token.Token.{Token}
use Rattle.nx_events.specs.CharacterFaults.{character_faults}
use Rattle.nx_events.specs.Choices.{or_else, one_more}
use Rattle.nx_events.specs.Declarations.{declaration_faults, bindings}
use Rattle.nx_events.specs.Elements.{element_resolved, element_items, attribute_items}
use Rattle.nx_events.specs.Faults.{faults_as_items}
use Rattle.nx_events.specs.Items.{token_span, is_inside, is_behind, own_bindings, start_items, end_items, closing_items, around_innermost, opened}
use Rattle.nx_events.specs.Items.{closed, element_ended, outer_of_first, items_of_token, state_behind}
use Rattle.nx_events.specs.Prefixes.{innermost_name}
use Rattle.nx_events.specs.Runs.{run_items}
use Rattle.nx_events.specs.SpelledTags.{IsName}
use Rattle.nx_events.specs.Tags.{start_name, end_name, tag_attributes}
use Rattle.nx_events.specs.declared.reading.Reading.TheVariants.{Value}
use Rattle.nx_events.specs.declared.item.Event.TheVariants.{TagEnd, Leave}
use Rattle.nx_events.specs.declared.item.Item.TheVariants as items
use Rattle.nx_events.specs.declared.scope.Binding.{Binding}
use Rattle.nx_events.specs.declared.state.EventState.{EventState}
use Rattle.nx_events.specs.declared.state.OpenElement.{OpenElement}
use Rattle.nx_tags.specs.Changing.{start_tag, end_tag}
use Rattle.nx_tags.specs.Given.{start_token, end_token, run_ended}
use Rattle.nx_tags.proofs.ReadTags.{start_named, start_alone, end_named, start_faultless}

-- ---- the innermost element

pub record LastOf (elements : List OpenElement) : Type 0 where
  pub outer : List OpenElement
  pub innermost : OpenElement
  pub split : elements ≡ outer ++ innermost ∷ []
  pub name : innermost_name elements ≡ innermost.written

last_step : (x y : OpenElement) (ys : List OpenElement) → innermost_name (x ∷ y ∷ ys) ≡ innermost_name (y ∷ ys)
last_step x y ys =
    let long : suc (suc (length ys)) - 1 ≡ suc (suc (length ys) - 1) = omega arith in
    ap (λ n. option_map_or (λ (element : OpenElement). element.written) (slice_get (x ∷ y ∷ ys) n) []) long

pub last_of : (x : OpenElement) (xs : List OpenElement) → LastOf (x ∷ xs)
last_of x [] = record { outer = []; innermost = x; split = refl; name = refl }
last_of x (y ∷ ys) =
    let r = last_of y ys in
    record { outer = x ∷ r.outer; innermost = r.innermost; split = ap (λ zs. x ∷ zs) r.split; name = last_step x y ys ∙ r.name }

pub innermost_last : (outer : List OpenElement) (element : OpenElement) → innermost_name (outer ++ element ∷ []) ≡ element.written
innermost_last [] element = refl
innermost_last (x ∷ []) element = last_step x element []
innermost_last (x ∷ y ∷ outer) element = last_step x y (outer ++ element ∷ []) ∙ innermost_last (y ∷ outer) element

pub last_open : (elements : List OpenElement) → 0 < length elements → LastOf elements
last_open [] h = absurd (omega arith)
last_open (x ∷ xs) h = last_of x xs

pub around_last : (outer : List OpenElement) (element : OpenElement) → around_innermost element.written (outer ++ element ∷ []) ≡ Some (length outer)
unfolding around_innermost
around_last [] element = ap (λ (t : Bool). cond t (Some 0) None) ((bytes_eq-Decides element.written element.written).1 refl)
around_last (x ∷ outer) element =
    ap (λ o. or_else (one_more o) (cond (bytes_eq x.written element.written) (Some 0) None)) (around_last outer element)

pub drop_behind : (outer : List OpenElement) (element : OpenElement) → drop (suc (length outer)) (outer ++ element ∷ []) ≡ []
drop_behind [] element = refl
drop_behind (x ∷ outer) element = drop_behind outer element

-- ---- an end tag of the innermost element

module _ (state : EventState) (at : ℕ) (name : List ℕ) (is : IsName name) (outer : List OpenElement) (element : OpenElement)
    (split : state.elements ≡ outer ++ element ∷ []) (named : element.written ≡ name) where
  closes : around_innermost (end_name (end_tag name)) state.elements ≡ Some (length outer)
  closes =
      ap (λ n. around_innermost n state.elements) (end_named name is ∙ sym named)
      ∙ ap (around_innermost element.written) split ∙ around_last outer element

  none_inside : drop (suc (length outer)) state.elements ≡ []
  none_inside = ap (drop (suc (length outer))) split ∙ drop_behind outer element

  pub ending : items_of_token state (end_token at name) ≡ run_items at state.run ++ items.Event Leave (token_span (end_token at name)) ∷ []
  unfolding items_of_token end_items
  ending = rw (closes, none_inside, append-nil) refl

  pub ended : state_behind state (end_token at name) ≡ record state { elements = outer; scope = take element.outer state.scope; came = true; run = None }
  unfolding state_behind
  ended =
      let left : take (length outer) state.elements ≡ outer = ap (take (length outer)) split ∙ take_at outer (element ∷ []) (length outer) refl in
      let first : drop (length outer) state.elements ≡ element ∷ [] = ap (drop (length outer)) split ∙ drop_at outer (element ∷ []) (length outer) refl in
      ap (closed state (end_token at name)) closes
      ∙ rw (left, first) refl

-- ---- a start tag inside of an element

not_behind : (state : EventState) → 0 < length state.elements → is_behind state ≡ false
not_behind state some = rw (lt-ltb 0 (length state.elements) some) (and_false state.started)
  where
    and_false : (t : Bool) → (t && false) ≡ false
    and_false true = refl
    and_false false = refl

module _ (state : EventState) (at : ℕ) (name : List ℕ) (is : IsName name) where
  no_bindings : own_bindings (start_token at name) ≡ []
  unfolding bindings
  no_bindings = ap (bindings []) (start_alone at name is)

  same_scope : state.scope ++ own_bindings (start_token at name) ≡ state.scope
  same_scope = ap (λ (own : List Binding). state.scope ++ own) no_bindings ∙ append-nil state.scope

  pub beginning : 0 < length state.elements → items_of_token state (start_token at name)
      ≡ run_items at state.run ++ element_items (token_span (start_token at name)) (element_resolved false state.scope name)
      ++ items.Event TagEnd (token_span (start_token at name)) ∷ []
  unfolding items_of_token start_items declaration_faults attribute_items bindings
  beginning some =
      rw (start_faultless at name is, start_alone at name is, start_named name is, not_behind state some) (simp (append-nil) refl)

  pub begun : state_behind state (start_token at name)
      ≡ record state { elements = state.elements ++ (record { written = name; outer = length state.scope }) ∷ []; scope = state.scope; came = true; started = true; run = None }
  unfolding state_behind
  begun = rw (start_named name is, same_scope) refl
