-- Runs and end tags, told by the tokens.
use Rattle.std.proofs.Common.{◌≡◌, ℕ, suc, ◌+◌, ◌-◌, Bool, true, false, cond, Option, Some, None, List, [], ◌∷◌, ◌++◌, length, drop, reverse, refl, ap, subst, sym, ◌∙◌, arith, append_assoc}
use Rattle.std.specs.Prelude.{not, ◌&&◌, ◌||◌, ◌==◌}
use Rattle.std.specs.List.{AllByRecursion, flat_map, list_all}
use Rattle.std.proofs.lemmas.List.{drop_at, length-append, reverse-append}
use Rattle.std.proofs.lemmas.List.Concat.{flat_map-append}
use Rattle.nx_base.specs.Characters.{is_space}
use Rattle.nx_base.specs.Tokens.{AreTokensFrom, AreTokensOf, end_of}
use Rattle.nx_base.specs.declared.fault.Fault.{Fault}
use Rattle.nx_base.specs.declared.fault.Kind.{Kind}
use Rattle.nx_base.specs.declared.fault.Kind.TheVariants as faults
use Rattle.nx_base.specs.declared.fault.Span.{Span}
use Rattle.nx_base.specs.declared.name.Name.{Name}
use Rattle.nx_base.specs.declared.token.Token.{Token}
use Rattle.nx_base.specs.declared.token.TokenKind.{TokenKind}
use Rattle.nx_base.specs.declared.token.TokenKind.TheVariants as kinds
use Rattle.nx_events.specs.declared.item.Event.{Event}
use Rattle.nx_events.specs.declared.item.Event.TheVariants.{Enter, EnterLost, Att, TagEnd, Chars, Leave}
use Rattle.nx_events.specs.declared.item.Item.{Item}
use Rattle.nx_events.specs.declared.item.Item.TheVariants as items
use Rattle.nx_events.specs.declared.flaw.Resolved.{Resolved}
use Rattle.nx_events.specs.declared.flaw.Resolved.TheVariants.{Named, Flawed}
use Rattle.nx_events.specs.declared.reading.Reading.{Reading}
use Rattle.nx_events.specs.declared.reading.Reading.TheVariants.{Plain, Text, Value}
use Rattle.nx_events.specs.declared.scope.Binding.{Binding}
use Rattle.nx_events.specs.declared.state.EventState.{EventState}
use Rattle.nx_events.specs.declared.state.OpenElement.{OpenElement}
use Rattle.nx_events.specs.declared.state.Run.{Run}
use Rattle.nx_events.specs.declared.tag.Attribute.{Attribute}
use Rattle.nx_events.specs.Faults.{bare_fault, faults_as_items}
use Rattle.nx_events.specs.CharacterFaults.{character_faults}
use Rattle.nx_events.specs.Markup.{is_bad_comment, is_bad_pi}
use Rattle.nx_events.specs.Tags.{start_name, end_name, tag_attributes}
use Rattle.nx_events.specs.Declarations.{declaration_faults}
use Rattle.nx_events.specs.Elements.{element_resolved, element_items, resolved_if_attribute, attribute_item, kept_name, attribute_items}
use Rattle.nx_events.specs.Runs.{run_items}
use Rattle.nx_events.specs.XmlDeclaration.{is_xml_declaration}
use Rattle.nx_events.specs.Items.{token_span, token_fault_if, is_inside, is_before, is_behind, first_state, declaration_items, doctype_items, character_items, comment_items, pi_items, cdata_items, text_items, own_bindings, start_items, empty_items, around_innermost, left_out, closing_items, end_items, items_by_kind, items_of_token, state_behind, items_at_end, items_from}
use Rattle.nx_events.specs.OpenTags.{state_after, Leaves, elements_of, string_in, last_of, IsPending}
use Rattle.nx_events.specs.TextRuns.{span_over, chars_of, RunsGiveTheirChars, ComesFromRun, CharsComeFromRuns, left_open, EndTagsEndInnermostFirst}
use Rattle.nx_events.proofs.OpenTags.{some_left}
use Rattle.nx_events.proofs.StatesKnown.{after_one, elements_append, elements_len, around_some, state_is}

-- a pending run of these tokens
run_as : ℕ → List ℕ → ℕ → ℕ → List Item
run_as n string from to = cond (n == 0) [] (items.Event (Chars string) (record { from = from; to = to }) ∷ [])

pending_gives : (at : ℕ) (run : List Token) (r : Option Run) → IsPending at run r → run_items at r ≡ chars_of run
unfolding run_items run_as
pending_gives at [] r e = ap (run_items at) e
pending_gives at (first ∷ others) None h = absurd h
pending_gives at (first ∷ others) (Some run) h =
    let begin : at - (run.gap + run.len) ≡ first.from = (let k = h.begins in omega arith) in
    let end : at - run.gap ≡ end_of (last_of first others) = (let k = h.ends in omega arith) in
    ap (λ s. run_as (length s) s (at - (run.gap + run.len)) (at - run.gap)) h.string
    ∙ ap (λ n. run_as (length (flat_map string_in (first ∷ others))) (flat_map string_in (first ∷ others)) n (at - run.gap)) begin
    ∙ ap (λ n. run_as (length (flat_map string_in (first ∷ others))) (flat_map string_in (first ∷ others)) first.from n) end

pub runs_give_their_chars : RunsGiveTheirChars
runs_give_their_chars all tags run at p h = pending_gives at run (state_after first_state all).run (state_is all tags run at h p).pending

-- what holds of all faults and of all events but Chars, and of a run's, holds of a token's items
abbrev IsNoChars : Event → Type 0
IsNoChars (Chars string) = ⊥
IsNoChars _ = Unit {0}

module _ (P : Item → Type 0) (of_fault : (fault : Fault) → P (items.Fault fault)) (of_event : (event : Event) (span : Span) → IsNoChars event → P (items.Event event span)) where
  both : (xs ys : List Item) → AllByRecursion P xs → AllByRecursion P ys → AllByRecursion P (xs ++ ys)
  both [] ys h k = k
  both (x ∷ xs) ys h k = (h.0, both xs ys h.1 k)

  faults_all : (xs : List Fault) → AllByRecursion P (faults_as_items xs)
  faults_all [] = tt
  faults_all (x ∷ xs) = (of_fault x, faults_all xs)

  fault_all : (t : Bool) (kind : Kind) (token : Token) → AllByRecursion P (token_fault_if t kind token)
  fault_all true kind token = (of_fault (bare_fault kind (token_span token)), tt)
  fault_all false kind token = tt

  characters_all : (reading : Reading) (t : Bool) (kind : Kind) (token : Token) → AllByRecursion P (character_items reading t kind token)
  characters_all reading t kind token =
      both (faults_as_items (character_faults reading token.from token.bytes)) (token_fault_if t kind token) (faults_all (character_faults reading token.from token.bytes)) (fault_all t kind token)

  attribute_all : (it : Attribute) (r : Option Resolved) → AllByRecursion P (attribute_item it r)
  attribute_all it None = tt
  attribute_all it (Some (Named name)) = (of_event (Att name it.string) it.value tt, tt)
  attribute_all it (Some (Flawed flaw)) = (of_fault (record { span = it.span; kind = flaw.kind; detail = flaw.detail }), tt)

  attributes_all : (scope : List Binding) (kept : List Name) (xs : List Attribute) → AllByRecursion P (attribute_items scope kept xs)
  unfolding attribute_items
  attributes_all scope kept [] = tt
  attributes_all scope kept (x ∷ xs) =
      let r = resolved_if_attribute scope kept x in
      both (attribute_item x r) (attribute_items scope (kept ++ kept_name r) xs) (attribute_all x r) (attributes_all scope (kept ++ kept_name r) xs)

  element_all : (span : Span) (r : Resolved) → AllByRecursion P (element_items span r)
  element_all span (Named name) = (of_event (Enter name) span tt, tt)
  element_all span (Flawed flaw) = (of_fault (record { span = span; kind = flaw.kind; detail = flaw.detail }), (of_event EnterLost span tt, tt))

  left_all : (kind : Kind) (span : Span) (xs : List OpenElement) → AllByRecursion P (flat_map (left_out kind span) xs)
  left_all kind span [] = tt
  left_all kind span (x ∷ xs) = (of_fault (record { span = span; kind = kind; detail = x.written }), (of_event Leave span tt, left_all kind span xs))

  declaration_all : (state : EventState) (token : Token) → AllByRecursion P (declaration_items state token)
  unfolding declaration_items
  declaration_all state token = by_test state.came
    where
      by_test : (t : Bool) → AllByRecursion P (cond t (items.Fault (bare_fault faults.Misplaced (token_span token)) ∷ []) (token_fault_if (not (is_xml_declaration token.bytes)) faults.BadDecl token))
      by_test true = fault_all true faults.Misplaced token
      by_test false = fault_all (not (is_xml_declaration token.bytes)) faults.BadDecl token

  start_all : (state : EventState) (token : Token) → AllByRecursion P (run_items token.from state.run) → AllByRecursion P (start_items state token)
  unfolding start_items
  start_all state token h =
      let attributes = tag_attributes token.from token.bytes in
      let scope = state.scope ++ own_bindings token in
      let r = element_resolved (is_behind state) scope (start_name token.bytes) in
      let x1 = both (run_items token.from state.run) (faults_as_items (character_faults Value token.from token.bytes)) h (faults_all (character_faults Value token.from token.bytes)) in
      let x2 = both _ (faults_as_items (declaration_faults [] attributes)) x1 (faults_all (declaration_faults [] attributes)) in
      let x3 = both _ (element_items (token_span token) r) x2 (element_all (token_span token) r) in
      let x4 = both _ (attribute_items scope [] attributes) x3 (attributes_all scope [] attributes) in
      both _ (items.Event TagEnd (token_span token) ∷ []) x4 (of_event TagEnd (token_span token) tt, tt)

  closing_all : (state : EventState) (token : Token) (o : Option ℕ) → AllByRecursion P (run_items token.from state.run) → AllByRecursion P (closing_items state token o)
  closing_all state token None h = (of_fault (record { span = token_span token; kind = faults.ExtraEnd; detail = end_name token.bytes }), tt)
  closing_all state token (Some n) h =
      let inner = reverse (drop (suc n) state.elements) in
      let x1 = both (run_items token.from state.run) (flat_map (left_out faults.MissingEnd (token_span token)) inner) h (left_all faults.MissingEnd (token_span token) inner) in
      both _ (items.Event Leave (token_span token) ∷ []) x1 (of_event Leave (token_span token) tt, tt)

  by_kind : (kind : TokenKind) (state : EventState) (token : Token) → AllByRecursion P (run_items token.from state.run) → AllByRecursion P (items_by_kind kind state token)
  unfolding doctype_items comment_items pi_items cdata_items text_items empty_items end_items
  by_kind kinds.Bom state token h = tt
  by_kind kinds.Decl state token h = declaration_all state token
  by_kind kinds.Doctype state token h = fault_all (state.started || state.doctype) faults.Misplaced token
  by_kind kinds.Comment state token h = characters_all Plain (is_bad_comment token.bytes) faults.BadComment token
  by_kind kinds.Pi state token h = characters_all Plain (is_bad_pi token.bytes) faults.BadPi token
  by_kind kinds.Cdata state token h = characters_all Plain (not (is_inside state)) faults.TextOutside token
  by_kind kinds.Text state token h = characters_all Text (not (is_inside state) && not (list_all is_space token.bytes)) faults.TextOutside token
  by_kind kinds.Bad state token h = fault_all true faults.BadMarkup token
  by_kind kinds.Unclosed state token h = fault_all true faults.Unclosed token
  by_kind kinds.Start state token h = start_all state token h
  by_kind kinds.Empty state token h = both (start_items state token) (items.Event Leave (token_span token) ∷ []) (start_all state token h) (of_event Leave (token_span token) tt, tt)
  by_kind kinds.End state token h = closing_all state token (around_innermost (end_name token.bytes) state.elements) h

  token_all : (state : EventState) (token : Token) → AllByRecursion P (run_items token.from state.run) → AllByRecursion P (items_of_token state token)
  unfolding items_of_token
  token_all state token h = by_kind token.kind state token h

  end_all : (state : EventState) (len : ℕ) → AllByRecursion P (run_items len state.run) → AllByRecursion P (items_at_end state len)
  unfolding items_at_end
  end_all state len h =
      let span : Span = record { from = len; to = len } in
      let x1 = both (run_items len state.run) (flat_map (left_out faults.UnclosedElement span) (reverse state.elements)) h (left_all faults.UnclosedElement span (reverse state.elements)) in
      both _ (cond (is_before state) (items.Fault (bare_fault faults.NoRoot span) ∷ []) []) x1 (by_test span (is_before state))
    where
      by_test : (span : Span) (t : Bool) → AllByRecursion P (cond t (items.Fault (bare_fault faults.NoRoot span) ∷ []) [])
      by_test span true = (of_fault (bare_fault faults.NoRoot span), tt)
      by_test span false = tt

-- each Chars of a text
plain_comes : (all : List Token) (event : Event) (span : Span) → IsNoChars event → ComesFromRun all (items.Event event span)
plain_comes all (Chars string) span h = absurd h
plain_comes all _ span h = tt

run_comes : (all front behind tags run : List Token) → all ≡ front ++ behind → Leaves front tags run → AllByRecursion (ComesFromRun all) (chars_of run)
run_comes all front behind tags [] e h = tt
run_comes all front behind tags (first ∷ others) e h = by_test (length (flat_map string_in (first ∷ others)) == 0)
  where
    by_test : (t : Bool) → AllByRecursion (ComesFromRun all) (cond t [] (items.Event (Chars (flat_map string_in (first ∷ others))) (span_over first others) ∷ []))
    by_test true = tt
    by_test false = (record { front = front; behind = behind; tags = tags; first = first; others = others; split = e; leaves = h; joined = refl; spanned = refl }, tt)

pending_comes : (all front behind : List Token) (at : ℕ) → all ≡ front ++ behind → AreTokensOf at front → AllByRecursion (ComesFromRun all) (run_items at (state_after first_state front).run)
pending_comes all front behind at e p =
    let left = some_left front in
    subst (λ xs. AllByRecursion (ComesFromRun all) xs) (sym (runs_give_their_chars front left.tags left.run at p left.leaves)) (run_comes all front behind left.tags left.run e left.leaves)

lie_longer : (front : List Token) (at from : ℕ) (token : Token) → AreTokensFrom at from front → token.from ≡ at → AreTokensFrom (at + length token.bytes) from (front ++ token ∷ [])
unfolding AreTokensFrom
lie_longer [] at from token h e = (e ∙ sym h, ap (λ n. n + length token.bytes) h)
lie_longer (other ∷ front) at from token h e = (h.0, lie_longer front at (from + length other.bytes) token h.1 e)

all_come : (all front behind : List Token) (at len : ℕ) → all ≡ front ++ behind → AreTokensOf at front → AreTokensFrom len at behind →
    AllByRecursion (ComesFromRun all) (items_from (state_after first_state front) behind len)
unfolding items_from AreTokensFrom
all_come all front [] at len e p h =
    end_all (ComesFromRun all) (λ fault. tt) (plain_comes all) (state_after first_state front) len (pending_comes all front [] len e (subst (λ n. AreTokensOf n front) h p))
all_come all front (token ∷ behind) at len e p h =
    let state = state_after first_state front in
    let here = pending_comes all front (token ∷ behind) token.from e (subst (λ n. AreTokensOf n front) (sym h.0) p) in
    let more = all_come all (front ++ token ∷ []) behind (at + length token.bytes) len (e ∙ sym (append_assoc front (token ∷ []) behind)) (lie_longer front at 0 token p h.0) h.1 in
    both (ComesFromRun all) (λ fault. tt) (plain_comes all) (items_of_token state token) (items_from (state_behind state token) behind len)
    (token_all (ComesFromRun all) (λ fault. tt) (plain_comes all) state token here)
    (subst (λ s. AllByRecursion (ComesFromRun all) (items_from s behind len)) (after_one first_state front token) more)

pub chars_come_from_runs : CharsComeFromRuns
unfolding state_after AreTokensFrom
chars_come_from_runs all len p = all_come all [] all 0 len refl refl p

-- end tags
left_opened : (end_tag : Token) (inner : List Token) (n : ℕ) →
    flat_map (left_out faults.MissingEnd (token_span end_tag)) (reverse (elements_of n inner)) ≡ flat_map (left_open end_tag) (reverse inner)
unfolding elements_of
left_opened end_tag [] n = refl
left_opened end_tag (tag ∷ inner) n =
    let f = left_out faults.MissingEnd (token_span end_tag) in
    let element : OpenElement = record { written = start_name tag.bytes; outer = n } in
    let rest = elements_of (n + length (own_bindings tag)) inner in
    ap (flat_map f) (reverse-append (element ∷ []) rest) ∙ flat_map-append f (reverse rest) (element ∷ [])
    ∙ ap (λ xs. xs ++ left_open end_tag tag) (left_opened end_tag inner (n + length (own_bindings tag)))
    ∙ sym (ap (flat_map (left_open end_tag)) (reverse-append (tag ∷ []) inner) ∙ flat_map-append (left_open end_tag) (reverse inner) (tag ∷ []))

inside_of : (tags inner : List Token) (closed : Token) → (n : ℕ) × (drop (suc (length tags)) (elements_of 0 (tags ++ closed ∷ inner)) ≡ elements_of n inner)
unfolding elements_of
inside_of tags inner closed =
    let m = length (flat_map own_bindings tags) in
    let element : OpenElement = record { written = start_name closed.bytes; outer = 0 + m } in
    let rest = elements_of (0 + m + length (own_bindings closed)) inner in
    let size : length (elements_of 0 tags ++ element ∷ []) ≡ suc (length tags) = (let a = length-append (elements_of 0 tags) (element ∷ []) in let b = elements_len 0 tags in omega arith) in (
      0 + m + length (own_bindings closed),
      ap (drop (suc (length tags))) (elements_append 0 tags (closed ∷ inner) ∙ sym (append_assoc (elements_of 0 tags) (element ∷ []) rest))
          ∙ drop_at (elements_of 0 tags ++ element ∷ []) rest (suc (length tags)) size,
    )

pub end_tags_end_innermost_first : EndTagsEndInnermostFirst
unfolding items_of_token end_items
end_tags_end_innermost_first front tags inner run closed end_tag p h k e none =
    let state = state_after first_state front in
    let name = end_name end_tag.bytes in
    let is = state_is front (tags ++ closed ∷ inner) run end_tag.from h p in
    let found : around_innermost name state.elements ≡ Some (length tags) = ap (around_innermost name) is.elements ∙ around_some name 0 tags closed inner e none in
    let inside = inside_of tags inner closed in
    let left : flat_map (left_out faults.MissingEnd (token_span end_tag)) (reverse (drop (suc (length tags)) state.elements)) ≡ flat_map (left_open end_tag) (reverse inner) =
    ap (λ xs. flat_map (left_out faults.MissingEnd (token_span end_tag)) (reverse (drop (suc (length tags)) xs))) is.elements
    ∙ ap (λ xs. flat_map (left_out faults.MissingEnd (token_span end_tag)) (reverse xs)) inside.1 ∙ left_opened end_tag inner inside.0 in
    ap (λ kind. items_by_kind kind state end_tag) k
    ∙ ap (closing_items state end_tag) found
    ∙ ap (λ xs. xs ++ flat_map (left_out faults.MissingEnd (token_span end_tag)) (reverse (drop (suc (length tags)) state.elements)) ++ items.Event Leave (token_span end_tag) ∷ []) (pending_gives end_tag.from run state.run is.pending)
    ∙ ap (λ xs. chars_of run ++ xs ++ items.Event Leave (token_span end_tag) ∷ []) left
