-- Tokens in which tags nest give the same items whatever elements are open around them, and leave those as they are.
use Rattle.std.proofs.Common.{◌≡◌, ◌<◌, true, Some, None, List, [], ◌∷◌, ◌++◌, length, take, drop, refl, sym, ◌∙◌, ap, arith, append_assoc, append-nil}
use Rattle.std.proofs.Common.{length-append}
use Rattle.std.specs.Prelude.{nat_lt}
use Rattle.std.proofs.lemmas.Bool.{lt-ltb}
use Rattle.std.proofs.lemmas.List.{take_at, drop_at}
use Rattle.nx_base.specs.declared.token.Token.{Token}
use Rattle.nx_base.specs.declared.token.TokenKind.{TokenKind}
use Rattle.nx_base.specs.declared.token.TokenKind.TheVariants as kinds
use Rattle.nx_events.specs.Items.{token_span, own_bindings, around_innermost, declaration_items, doctype_items, comment_items, pi_items, cdata_items, text_items, start_items}
use Rattle.nx_events.specs.Items.{empty_items, closing_items, end_items, closed, items_by_kind, state_by_kind, items_of_token, state_behind}
use Rattle.nx_events.specs.OpenTags.{state_after}
use Rattle.nx_events.specs.Runs.{run_items}
use Rattle.nx_events.specs.Tags.{start_name, end_name}
use Rattle.nx_events.specs.declared.item.Event.TheVariants.{Leave}
use Rattle.nx_events.specs.declared.item.Item.{Item}
use Rattle.nx_events.specs.declared.item.Item.TheVariants as items
use Rattle.nx_events.specs.declared.scope.Binding.{Binding}
use Rattle.nx_events.specs.declared.state.EventState.{EventState}
use Rattle.nx_events.specs.declared.state.OpenElement.{OpenElement}
use Rattle.nx_tags.specs.Elements.{IsNoStartOrEnd, Nested, nothing, other, element}
use Rattle.nx_tags.specs.Renamed.{items_through}
use Rattle.nx_tags.proofs.TagItems.{around_last, drop_behind}

-- ---- tokens one behind another

pub after_append : (state : EventState) (xs ys : List Token) → state_after state (xs ++ ys) ≡ state_after (state_after state xs) ys
unfolding state_after
after_append state [] ys = refl
after_append state (x ∷ xs) ys = after_append (state_behind state x) xs ys

pub through_append : (state : EventState) (xs ys : List Token) →
    items_through state (xs ++ ys) ≡ items_through state xs ++ items_through (state_after state xs) ys
unfolding state_after items_through
through_append state [] ys = refl
through_append state (x ∷ xs) ys =
    ap (λ (rest : List Item). items_of_token state x ++ rest) (through_append (state_behind state x) xs ys)
    ∙ sym (append_assoc (items_of_token state x) (items_through (state_behind state x) xs) (items_through (state_after (state_behind state x) xs) ys))

-- ---- the end tag of the innermost element

-- a state with other elements open
abbrev pub with_open : List OpenElement → EventState → EventState
with_open es state = record state { elements = es }

module _ (state : EventState) (outer : List OpenElement) (inmost : OpenElement) (token : Token) (kind : token.kind ≡ kinds.End)
    (named : inmost.written ≡ end_name token.bytes) where
  closes : around_innermost (end_name token.bytes) (outer ++ inmost ∷ []) ≡ Some (length outer)
  closes = ap (λ n. around_innermost n (outer ++ inmost ∷ [])) (sym named) ∙ around_last outer inmost

  closing_gives : closing_items (with_open (outer ++ inmost ∷ []) state) token (Some (length outer))
      ≡ run_items token.from state.run ++ items.Event Leave (token_span token) ∷ []
  closing_gives = rw (drop_behind outer inmost, append-nil) refl

  pub end_gives : items_of_token (with_open (outer ++ inmost ∷ []) state) token
      ≡ run_items token.from state.run ++ items.Event Leave (token_span token) ∷ []
  unfolding items_of_token end_items
  end_gives =
      ap (λ k. items_by_kind k (with_open (outer ++ inmost ∷ []) state) token) kind
      ∙ ap (closing_items (with_open (outer ++ inmost ∷ []) state) token) closes
      ∙ closing_gives

  pub end_leaves : state_behind (with_open (outer ++ inmost ∷ []) state) token
      ≡ with_open outer (record state { scope = take inmost.outer state.scope; came = true; run = None })
  unfolding state_behind
  end_leaves =
      let left : take (length outer) (outer ++ inmost ∷ []) ≡ outer = take_at outer (inmost ∷ []) (length outer) refl in
      let first : drop (length outer) (outer ++ inmost ∷ []) ≡ inmost ∷ [] = drop_at outer (inmost ∷ []) (length outer) refl in
      ap (λ k. state_by_kind k (with_open (outer ++ inmost ∷ []) state) token) kind
      ∙ ap (closed (with_open (outer ++ inmost ∷ []) state) token) closes
      ∙ rw (left, first) refl

-- ---- tokens that neither open nor close

items_alike : (kind : TokenKind) (state : EventState) (token : Token) (es fs : List OpenElement) → nat_lt 0 (length es) ≡ true →
    nat_lt 0 (length fs) ≡ true → IsNoStartOrEnd kind → items_by_kind kind (with_open es state) token ≡ items_by_kind kind (with_open fs state) token
unfolding declaration_items doctype_items comment_items pi_items cdata_items text_items empty_items start_items
items_alike kinds.Start state token es fs a b h = absurd h
items_alike kinds.End state token es fs a b h = absurd h
items_alike kinds.Text state token es fs a b h = rw (a, b) refl
items_alike kinds.Cdata state token es fs a b h = rw (a, b) refl
items_alike kinds.Empty state token es fs a b h = rw (a, b) refl
items_alike _ state token es fs a b h = refl

-- the state behind a token keeps the elements and the scope, whichever elements are open
pub record KeepsOpen (es fs : List OpenElement) (state one two : EventState) : Type 0 where
  pub elements : one.elements ≡ es
  pub scope : one.scope ≡ state.scope
  pub two_is : two ≡ with_open fs one

pub state_alike : (kind : TokenKind) (state : EventState) (token : Token) (es fs : List OpenElement) → nat_lt 0 (length es) ≡ true →
    nat_lt 0 (length fs) ≡ true → IsNoStartOrEnd kind →
    KeepsOpen es fs state (state_by_kind kind (with_open es state) token) (state_by_kind kind (with_open fs state) token)
state_alike kinds.Start state token es fs a b h = absurd h
state_alike kinds.End state token es fs a b h = absurd h
state_alike kinds.Text state token es fs a b h = record { elements = rw a refl; scope = rw a refl; two_is = rw (a, b) refl }
state_alike kinds.Cdata state token es fs a b h = record { elements = rw a refl; scope = rw a refl; two_is = rw (a, b) refl }
state_alike _ state token es fs a b h = record { elements = refl; scope = refl; two_is = refl }

-- ---- tokens in which tags nest

pub record Alike (es fs : List OpenElement) (state : EventState) (tokens : List Token) : Type 0 where
  pub behind : EventState
  pub scope : behind.scope ≡ state.scope
  pub items : items_through (with_open es state) tokens ≡ items_through (with_open fs state) tokens
  pub one : state_after (with_open es state) tokens ≡ with_open es behind
  pub two : state_after (with_open fs state) tokens ≡ with_open fs behind

pub some_open : (es : List OpenElement) → 0 < length es → nat_lt 0 (length es) ≡ true
some_open es h = lt-ltb 0 (length es) h

pub longer : (es : List OpenElement) (e : OpenElement) → 0 < length (es ++ e ∷ [])
longer es e = omega (arith, length-append es (e ∷ []))

pub same_open : (es : List OpenElement) (state : EventState) → state.elements ≡ es → state ≡ with_open es state
same_open es state h = ap (λ (xs : List OpenElement). with_open xs state) h

nothing_alike : (state : EventState) (es fs : List OpenElement) → Alike es fs state []
unfolding state_after items_through
nothing_alike state es fs = record { behind = state; scope = refl; items = refl; one = refl; two = refl }

-- one token, and others behind it
one_alike : (state next : EventState) (es fs : List OpenElement) (token : Token) (others : List Token) →
    items_of_token (with_open es state) token ≡ items_of_token (with_open fs state) token →
    state_behind (with_open es state) token ≡ with_open es next → state_behind (with_open fs state) token ≡ with_open fs next →
    next.scope ≡ state.scope → Alike es fs next others → Alike es fs state (token ∷ others)
unfolding state_after items_through
one_alike state next es fs token others same one two scope rest = record {
  behind = rest.behind;
  scope = rest.scope ∙ scope;
  items =
      ap (λ (xs : List Item). xs ++ items_through (state_behind (with_open es state) token) others) same
      ∙ ap (λ (xs : List Item). items_of_token (with_open fs state) token ++ xs)
      (ap (λ (s : EventState). items_through s others) one ∙ rest.items ∙ sym (ap (λ (s : EventState). items_through s others) two));
  one = ap (λ (s : EventState). state_after s others) one ∙ rest.one;
  two = ap (λ (s : EventState). state_after s others) two ∙ rest.two;
}

-- a token between tags
between_alike : (state : EventState) (es fs : List OpenElement) (token : Token) (others : List Token) → 0 < length es → 0 < length fs →
    IsNoStartOrEnd token.kind → ((next : EventState) → Alike es fs next others) → Alike es fs state (token ∷ others)
unfolding items_of_token state_behind
between_alike state es fs token others h k between rest =
    let next = state_behind (with_open es state) token in
    let kept = state_alike token.kind state token es fs (some_open es h) (some_open fs k) between in
    one_alike state next es fs token others (items_alike token.kind state token es fs (some_open es h) (some_open fs k) between)
    (same_open es next kept.elements) kept.two_is kept.scope (rest next)

-- an element
start_alike : (state : EventState) (token : Token) (es fs : List OpenElement) → nat_lt 0 (length es) ≡ true → nat_lt 0 (length fs) ≡ true →
    start_items (with_open es state) token ≡ start_items (with_open fs state) token
unfolding start_items
start_alike state token es fs a b = rw (a, b) refl

abbrev pub opened_by : EventState → Token → OpenElement
opened_by state token = record { written = start_name token.bytes; outer = length state.scope }

abbrev pub inside_of : EventState → Token → EventState
inside_of state token = record state { scope = state.scope ++ own_bindings token; came = true; started = true; run = None }

pub start_opens : (state : EventState) (es : List OpenElement) (token : Token) → token.kind ≡ kinds.Start →
    state_behind (with_open es state) token ≡ with_open (es ++ opened_by state token ∷ []) (inside_of state token)
unfolding state_behind
start_opens state es token kind = ap (λ k. state_by_kind k (with_open es state) token) kind

pub start_gives : (state : EventState) (es : List OpenElement) (token : Token) → token.kind ≡ kinds.Start →
    items_of_token (with_open es state) token ≡ start_items (with_open es state) token
unfolding items_of_token
start_gives state es token kind = ap (λ k. items_by_kind k (with_open es state) token) kind

-- what is read between the tags of an element and through its end tag, in front of others
module _ (state : EventState) (es : List OpenElement) (start end : Token) (inner others : List Token) (start_kind : start.kind ≡ kinds.Start)
    (end_kind : end.kind ≡ kinds.End) (named : start_name start.bytes ≡ end_name end.bytes) (behind : EventState)
    (scope : behind.scope ≡ (inside_of state start).scope)
    (inside : state_after (with_open (es ++ opened_by state start ∷ []) (inside_of state start)) inner ≡ with_open (es ++ opened_by state start ∷ []) behind) where
  abbrev next : EventState
  next = record behind { scope = state.scope; came = true; run = None }

  element_leaves : state_behind (with_open (es ++ opened_by state start ∷ []) behind) end ≡ with_open es next
  element_leaves =
      end_leaves behind es (opened_by state start) end end_kind named
      ∙ ap (λ (xs : List Binding). with_open es (record behind { scope = xs; came = true; run = None }))
      (ap (take (length state.scope)) scope ∙ take_at state.scope (own_bindings start) (length state.scope) refl)

  element_after : state_after (with_open es state) (start ∷ (inner ++ end ∷ others)) ≡ state_after (with_open es next) others
  unfolding state_after
  element_after =
      ap (λ (s : EventState). state_after s (inner ++ end ∷ others)) (start_opens state es start start_kind)
      ∙ after_append (with_open (es ++ opened_by state start ∷ []) (inside_of state start)) inner (end ∷ others)
      ∙ ap (λ (s : EventState). state_after (state_behind s end) others) inside
      ∙ ap (λ (s : EventState). state_after s others) element_leaves

  element_through : items_through (with_open es state) (start ∷ (inner ++ end ∷ others))
      ≡ start_items (with_open es state) start
      ++ (items_through (with_open (es ++ opened_by state start ∷ []) (inside_of state start)) inner
      ++ ((run_items end.from behind.run ++ items.Event Leave (token_span end) ∷ []) ++ items_through (with_open es next) others))
  unfolding items_through
  element_through =
      ap (λ (xs : List Item). xs ++ items_through (state_behind (with_open es state) start) (inner ++ end ∷ others)) (start_gives state es start start_kind)
      ∙ ap (λ (xs : List Item). start_items (with_open es state) start ++ xs)
      (ap (λ (s : EventState). items_through s (inner ++ end ∷ others)) (start_opens state es start start_kind)
      ∙ through_append (with_open (es ++ opened_by state start ∷ []) (inside_of state start)) inner (end ∷ others)
      ∙ ap (λ (xs : List Item). items_through (with_open (es ++ opened_by state start ∷ []) (inside_of state start)) inner ++ xs)
      (ap (λ (s : EventState). items_of_token s end ++ items_through (state_behind s end) others) inside
      ∙ ap (λ (xs : List Item). xs ++ items_through (state_behind (with_open (es ++ opened_by state start ∷ []) behind) end) others)
      (end_gives behind es (opened_by state start) end end_kind named)
      ∙ ap (λ (s : EventState). (run_items end.from behind.run ++ items.Event Leave (token_span end) ∷ []) ++ items_through s others) element_leaves))

element_alike : (state : EventState) (es fs : List OpenElement) (start end : Token) (inner others : List Token) → 0 < length es → 0 < length fs →
    start.kind ≡ kinds.Start → end.kind ≡ kinds.End → start_name start.bytes ≡ end_name end.bytes →
    ((s : EventState) (xs ys : List OpenElement) → 0 < length xs → 0 < length ys → Alike xs ys s inner) →
    ((s : EventState) (xs ys : List OpenElement) → 0 < length xs → 0 < length ys → Alike xs ys s others) →
    Alike es fs state (start ∷ (inner ++ end ∷ others))
element_alike state es fs start end inner others h k start_kind end_kind named inside rest =
    let e = opened_by state start in
    let s1 = inside_of state start in
    let i = inside s1 (es ++ e ∷ []) (fs ++ e ∷ []) (longer es e) (longer fs e) in
    let s2 : EventState = record i.behind { scope = state.scope; came = true; run = None } in
    let r = rest s2 es fs h k in
    record {
      behind = r.behind;
      scope = r.scope;
      items =
          element_through state es start end inner others start_kind end_kind named i.behind i.scope i.one
          ∙ ap (λ (xs : List Item). xs ++ (items_through (with_open (es ++ e ∷ []) s1) inner
          ++ ((run_items end.from i.behind.run ++ items.Event Leave (token_span end) ∷ []) ++ items_through (with_open es s2) others)))
          (start_alike state start es fs (some_open es h) (some_open fs k))
          ∙ ap (λ (xs : List Item). start_items (with_open fs state) start ++ (xs
          ++ ((run_items end.from i.behind.run ++ items.Event Leave (token_span end) ∷ []) ++ items_through (with_open es s2) others))) i.items
          ∙ ap (λ (xs : List Item). start_items (with_open fs state) start ++ (items_through (with_open (fs ++ e ∷ []) s1) inner
          ++ ((run_items end.from i.behind.run ++ items.Event Leave (token_span end) ∷ []) ++ xs))) r.items
          ∙ sym (element_through state fs start end inner others start_kind end_kind named i.behind i.scope i.two);
      one = element_after state es start end inner others start_kind end_kind named i.behind i.scope i.one ∙ r.one;
      two = element_after state fs start end inner others start_kind end_kind named i.behind i.scope i.two ∙ r.two;
    }

pub nested_alike : (tokens : List Token) → Nested tokens → (state : EventState) (es fs : List OpenElement) → 0 < length es → 0 < length fs →
    Alike es fs state tokens
nested_alike _ nothing state es fs h k = nothing_alike state es fs
nested_alike _ (other token others between rest) state es fs h k =
    between_alike state es fs token others h k between (λ next. nested_alike others rest next es fs h k)
nested_alike _ (element start end inner others start_kind nested end_kind named rest) state es fs h k =
    element_alike state es fs start end inner others h k start_kind end_kind named
    (λ s xs ys a b. nested_alike inner nested s xs ys a b) (λ s xs ys a b. nested_alike others rest s xs ys a b)
