-- Tokens gone over of which one look tells what they give.
use Rattle.std.proofs.Common.{◌≡◌, ℕ, ◌+◌, ◌-◌, ◌<◌, ◌≤◌, Bool, true, false, cond, Option, Some, None, List, [], ◌∷◌, ◌++◌, length, take, drop, map, refl, sym, ap, subst, ◌∙◌, arith, nat_lt, length-append}
use Rattle.std.specs.Prelude.{◌==◌}
use Rattle.std.specs.Option.{option_or}
use Rattle.std.proofs.lemmas.Bool.Decides.{Decides-ltb}
use Rattle.std.proofs.lemmas.Grind.{common_steps}
use Rattle.nx_base.specs.declared.fault.Span.{Span}
use Rattle.nx_base.specs.declared.name.Name.{Name}
use Rattle.nx_base.specs.declared.token.Token.{Token}
use Rattle.nx_base.specs.declared.token.TokenKind.TheVariants as kinds
use Rattle.nx_events.specs.Items.{token_span, items_of_token, items_by_kind, start_items, empty_items, own_bindings, outer_of_first, state_by_kind, state_behind}
use Rattle.nx_events.specs.PlainAttributes.{attribute_event, IsPlainOpening}
use Rattle.nx_events.specs.PlainTokens.{IsPlainStart, IsPlainEnd, unprefixed_name, innermost_ended}
use Rattle.nx_events.specs.Prefixes.{run_string}
use Rattle.nx_events.specs.Runs.{run_items}
use Rattle.nx_events.specs.declared.item.Event.{Event}
use Rattle.nx_events.specs.declared.item.Event.TheVariants as events
use Rattle.nx_events.specs.declared.item.Item.{Item}
use Rattle.nx_events.specs.declared.item.Item.TheVariants as items
use Rattle.nx_events.specs.declared.plain_opening.PlainAttribute.{PlainAttribute}
use Rattle.nx_events.specs.declared.scope.Binding.{Binding}
use Rattle.nx_events.specs.declared.state.OpenElement.{OpenElement}
use Rattle.nx_events.specs.Tags.{start_name}
use Rattle.nx_events.specs.declared.state.EventState.{EventState}
use Rattle.nx_events.specs.declared.state.Run.{Run}
use Rattle.rngx_read.specs.Building.{behind_item}
use Rattle.rngx_read.specs.Marking.{as_start}
use Rattle.rngx_read.specs.PlainWalking.{unless_deep, begun_by, begun, attributed, all_attributed, run_ended, tag_begun, ended}
use Rattle.rngx_read.specs.Reads.{open_with}
use Rattle.rngx_read.specs.Walking.{Walked, looked_at, counted_by, counted, behind_one, behind_all, IsSteady}
use Rattle.rngx_read.proofs.Walking.{behind_both, steady_one, steady_all}

-- ---- single events

-- an event is no fault
nothing_seen : (event : Event) (span : Span) (walked : Walked) → looked_at (items.Event event span) walked ≡ walked
nothing_seen event span walked = ap (λ (fault : Option ℕ). record walked { fault = fault }) (or_none walked.fault)
  where
    or_none : (fault : Option ℕ) → option_or fault None ≡ fault
    or_none None = refl
    or_none (Some at) = refl

-- an event with which no more elements are open
counts_on : (event : Event) (span : Span) (walked : Walked) → IsSteady walked → open_with walked.depth (items.Event event span) ≤ walked.depth →
    behind_one (items.Event event span) walked
    ≡ unless_deep walked.too_deep walked
    (record walked { depth = open_with walked.depth (items.Event event span); built = behind_item (items.Event event span) walked.built })
counts_on event span walked steady few =
    ap (counted walked.too_deep (items.Event event span)) (nothing_seen event span walked) ∙ by_depth walked.too_deep
  where
    item : Item
    item = items.Event event span

    by_test : (b : Bool) → nat_lt 200 (open_with walked.depth item) ≡ b →
        counted_by b item walked ≡ record walked { depth = open_with walked.depth item; built = behind_item item walked.built }
    by_test true e = let least = Decides-ltb 200 (open_with walked.depth item) in absurd (omega (arith, least.0 e, few, steady.few))
    by_test false e = refl

    by_depth : (deep : Option ℕ) →
        counted deep item walked
        ≡ unless_deep deep walked (record walked { depth = open_with walked.depth item; built = behind_item item walked.built })
    by_depth None = by_test (nat_lt 200 (open_with walked.depth item)) refl
    by_depth (Some at) = refl

begins : (name : Name) (span : Span) (walked : Walked) → behind_one (items.Event (events.Enter name) span) walked ≡ begun name span.from walked
begins name span walked = ap (counted walked.too_deep item) (nothing_seen (events.Enter name) span walked) ∙ by_depth walked.too_deep
  where
    item : Item
    item = items.Event (events.Enter name) span

    by_test : (b : Bool) → counted_by b item walked ≡ begun_by b name span.from walked
    by_test true = refl
    by_test false = refl

    by_depth : (deep : Option ℕ) →
        counted deep item walked ≡ unless_deep deep walked (begun_by (nat_lt 200 (walked.depth + 1)) name span.from walked)
    by_depth None = by_test (nat_lt 200 (walked.depth + 1))
    by_depth (Some at) = refl

has_attribute : (it : PlainAttribute) (span : Span) (walked : Walked) → IsSteady walked →
    behind_one (attribute_event (it, span)) walked ≡ attributed it walked
has_attribute it span walked steady = counts_on _ span walked steady (omega arith)

ends_tag : (span : Span) (walked : Walked) → IsSteady walked → behind_one (items.Event events.TagEnd span) walked ≡ walked
ends_tag span walked steady = counts_on events.TagEnd span walked steady (omega arith) ∙ by_depth walked.too_deep
  where
    by_depth : (deep : Option ℕ) → unless_deep deep walked walked ≡ walked
    by_depth None = refl
    by_depth (Some at) = refl

ends : (span : Span) (walked : Walked) → IsSteady walked → behind_one (items.Event events.Leave span) walked ≡ ended walked
ends span walked steady = counts_on events.Leave span walked steady (omega arith)

has_string : (text : List ℕ) (span : Span) (walked : Walked) → IsSteady walked →
    behind_one (items.Event (events.Chars text) span) walked ≡ run_ended (Some text) walked
has_string text span walked steady = counts_on (events.Chars text) span walked steady (omega arith)

-- ---- a run, and a tag's attributes

run_gone : (at : ℕ) (run : Option Run) (walked : Walked) → IsSteady walked → behind_all (run_items at run) walked ≡ run_ended (run_string run) walked
unfolding run_items behind_all
run_gone at None walked steady = refl
run_gone at (Some run) walked steady = by_test (length run.string == 0)
  where
    span : Span
    span = record { from = at - (run.gap + run.len); to = at - run.gap }

    by_test : (b : Bool) → behind_all (cond b [] (items.Event (events.Chars run.string) span ∷ [])) walked
        ≡ run_ended (cond b None (Some run.string)) walked
    by_test true = refl
    by_test false = has_string run.string span walked steady

pub steady_run : (at : ℕ) (run : Option Run) (walked : Walked) → IsSteady walked → IsSteady (run_ended (run_string run) walked)
steady_run at run walked steady = subst IsSteady (run_gone at run walked steady) (steady_all (run_items at run) walked steady)

attributes_gone : (spanned : List (PlainAttribute × Span)) (span : Span) (walked : Walked) → IsSteady walked →
    behind_all (map attribute_event spanned ++ items.Event events.TagEnd span ∷ []) walked
    ≡ all_attributed (map (λ (it : PlainAttribute × Span). it.0) spanned) walked
unfolding behind_all
attributes_gone [] span walked steady = ends_tag span walked steady
attributes_gone (it ∷ more) span walked steady =
    let here = has_attribute it.0 it.1 walked steady in
    ap (behind_all (map attribute_event more ++ items.Event events.TagEnd span ∷ [])) here
    ∙ attributes_gone more span (attributed it.0 walked) (subst IsSteady here (steady_one (attribute_event it) walked steady))

-- ---- tokens

-- a start tag
pub tag_gone : (state : EventState) (token : Token) (written : List ℕ) (its : List PlainAttribute) (walked : Walked) → IsSteady walked →
    IsPlainOpening state token written its →
    behind_all (items_of_token state token) walked
    ≡ tag_begun (run_string state.run) (unprefixed_name state.scope written) token.from its walked
unfolding behind_all
tag_gone state token written its walked steady tag =
    let name = unprefixed_name state.scope written in
    let enter : Item = items.Event (events.Enter name) (token_span token) in
    let rest : List Item = map attribute_event tag.spanned ++ items.Event events.TagEnd (token_span token) ∷ [] in
    let run = run_gone token.from state.run walked steady in
    let behind_run = run_ended (run_string state.run) walked in
    let still = steady_run token.from state.run walked steady in
    let here = begins name (token_span token) behind_run in
    let steady_here = subst IsSteady here (steady_one enter behind_run still) in
    ap (λ (all : List Item). behind_all all walked) tag.items
    ∙ behind_both (run_items token.from state.run) (enter ∷ rest) walked
    ∙ ap (behind_all (enter ∷ rest)) run
    ∙ ap (behind_all rest) here
    ∙ attributes_gone tag.spanned (token_span token) (begun name token.from behind_run) steady_here
    ∙ ap (λ (all : List PlainAttribute). all_attributed all (begun name token.from behind_run)) tag.are

-- one that is a name alone has no attributes
pub as_opening : (state : EventState) (token : Token) (written : List ℕ) → IsPlainStart state token written → IsPlainOpening state token written []
as_opening state token written tag = record { spanned = []; are = refl; items = tag.items; behind = tag.behind; text = tt }

-- an empty-element tag gives what it gives as a start tag, and its element's end
empty_gives : (state : EventState) (token : Token) → token.kind ≡ kinds.Empty →
    items_of_token state token ≡ items_of_token state (as_start token) ++ items.Event events.Leave (token_span token) ∷ []
unfolding items_of_token empty_items start_items
empty_gives state token kind = ap (λ k. items_by_kind k state token) kind

pub empty_gone : (state : EventState) (token : Token) (now walked : Walked) → token.kind ≡ kinds.Empty → IsSteady walked →
    now ≡ behind_all (items_of_token state (as_start token)) walked → ended now ≡ behind_all (items_of_token state token) walked
unfolding behind_all
empty_gone state token now walked kind steady e =
    let start = items_of_token state (as_start token) in
    let leave : List Item = items.Event events.Leave (token_span token) ∷ [] in
    ap ended e
    ∙ sym (ends (token_span token) (behind_all start walked) (steady_all start walked steady))
    ∙ sym (behind_both start leave walked)
    ∙ ap (λ (all : List Item). behind_all all walked) (sym (empty_gives state token kind))

empty_leads : (state : EventState) (token : Token) → token.kind ≡ kinds.Empty →
    innermost_ended (state_behind state (as_start token)) ≡ state_behind state token
unfolding state_behind
empty_leads state token kind =
    let x : OpenElement = record { written = start_name token.bytes; outer = length state.scope } in
    let all : List OpenElement = state.elements ++ x ∷ [] in
    let here : ℕ = length all - 1 in
    let scope : List Binding = state.scope ++ own_bindings token in
    let to : List OpenElement → List Binding → EventState = λ elements inside. record state {
      elements = elements;
      scope = inside;
      came = true;
      started = true;
      run = None;
    } in
    let kept : take here all ≡ state.elements = grind (arith, common_steps) in
    let last : drop here all ≡ x ∷ [] = grind (arith, common_steps) in
    let around : take (length state.scope) scope ≡ state.scope = grind (arith, common_steps) in
    ap (λ elements. to elements (take (outer_of_first (drop here all)) scope)) kept
    ∙ ap (λ inner. to state.elements (take (outer_of_first inner) scope)) last
    ∙ ap (to state.elements) around
    ∙ sym (ap (λ k. state_by_kind k state token) kind)

pub empty_behind : (state now : EventState) (token : Token) → token.kind ≡ kinds.Empty → now ≡ state_behind state (as_start token) →
    innermost_ended now ≡ state_behind state token
empty_behind state now token kind e = ap innermost_ended e ∙ empty_leads state token kind

-- its element is open between the two
pub some_open : (state now : EventState) (token : Token) → now ≡ state_behind state (as_start token) → 0 < length now.elements
unfolding state_behind
some_open state now token e =
    let x : OpenElement = record { written = start_name token.bytes; outer = length state.scope } in
    let many : length now.elements ≡ length (state.elements ++ x ∷ []) = ap (λ (s : EventState). length s.elements) e in
    omega (arith, many, length-append state.elements (x ∷ []))

-- an end tag
pub end_gone : (state : EventState) (token : Token) (walked : Walked) → IsSteady walked → IsPlainEnd state token →
    behind_all (items_of_token state token) walked ≡ ended (run_ended (run_string state.run) walked)
unfolding behind_all
end_gone state token walked steady tag =
    let leave : List Item = items.Event events.Leave (token_span token) ∷ [] in
    ap (λ (all : List Item). behind_all all walked) tag.items
    ∙ behind_both (run_items token.from state.run) leave walked
    ∙ ap (behind_all leave) (run_gone token.from state.run walked steady)
    ∙ ends (token_span token) (run_ended (run_string state.run) walked) (steady_run token.from state.run walked steady)

-- nothing
pub none_given : (all : List Item) (walked : Walked) → all ≡ [] → walked ≡ behind_all all walked
unfolding behind_all
none_given all walked e = rw e refl
