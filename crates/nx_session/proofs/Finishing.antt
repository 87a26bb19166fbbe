-- At the end of a text the end tag of the innermost open element leaves the events as they are, and takes that element's fault away.
use Rattle.std.proofs.Common.{◌≡◌, ℕ, suc, ◌+◌, ◌-◌, ◌<◌, ◌≤◌, Bool, true, false, cond, List, [], ◌∷◌, ◌++◌, length, map, reverse, None}
use Rattle.std.proofs.Common.{refl, sym, ap, subst, ◌∙◌, arith, append_assoc, append-nil, length-append}
use Rattle.std.specs.Prelude.{not}
use Rattle.std.specs.List.{AllByRecursion, flat_map}
use Rattle.std.specs.Str.{IsUtf8}
use Rattle.std.proofs.lemmas.Bool.{lt-leb}
use Rattle.std.proofs.lemmas.Grind.{flat_map-append}
use Rattle.std.proofs.lemmas.List.{reverse-append}
use Rattle.nx_base.specs.Text.{IsPlace, edited}
use Rattle.nx_base.specs.Tokens.{end_of, tokens_of, AreTokensFrom}
use Rattle.nx_base.specs.declared.fault.Fault.{Fault}
use Rattle.nx_base.specs.declared.fault.Kind.TheVariants as kinds
use Rattle.nx_base.specs.declared.fault.Span.{Span}
use Rattle.nx_base.specs.declared.token.Token.{Token}
use Rattle.nx_events.specs.Among.{event_in, events_among, fault_in, faults_among}
use Rattle.nx_events.specs.Faults.{bare_fault}
use Rattle.nx_events.specs.Items.{first_state, is_before, left_out, token_span, items_of_token, state_behind, items_at_end, items_from, items_of_text}
use Rattle.nx_events.specs.Moves.{placed_token}
use Rattle.nx_events.specs.OpenTags.{state_after}
use Rattle.nx_events.specs.Runs.{run_items}
use Rattle.nx_events.specs.declared.item.Event.{Event}
use Rattle.nx_events.specs.declared.item.Event.TheVariants.{Leave}
use Rattle.nx_events.specs.declared.item.Item.{Item}
use Rattle.nx_events.specs.declared.item.Item.TheVariants as items
use Rattle.nx_events.specs.declared.state.EventState.{EventState}
use Rattle.nx_events.specs.declared.state.OpenElement.{OpenElement}
use Rattle.nx_recover.specs.Behind.{items_through}
use Rattle.nx_scan.specs.Borders.{TokensJoin}
use Rattle.nx_tags.proofs.Around.{not_cut_before, cut_at-kept, ending-in}
use Rattle.nx_tags.proofs.Insertions.{finishing, name_is}
use Rattle.nx_tags.proofs.TagItems.{LastOf, last_open, ended}
use Rattle.nx_tags.specs.Answers.{innermost_name_at}
use Rattle.nx_tags.specs.Changing.{end_tag}
use Rattle.nx_tags.specs.Free.{IsFree}
use Rattle.nx_tags.specs.Given.{end_token}
use Rattle.nx_tags.specs.Parts.{cut_at, ending_by, beginning_at, in_front, beyond, state_at}

-- ---- all tokens lie in front of the end

record LieBefore (len at : ℕ) (tokens : List Token) : Type 0 where
  within : at ≤ len
  kept : cut_at len tokens ≡ tokens
  all : ending_by len tokens ≡ tokens
  none : beginning_at len tokens ≡ []

lie_before : (len at : ℕ) (tokens : List Token) → AreTokensFrom len at tokens → AllByRecursion (λ (t : Token). 0 < length t.bytes) tokens → LieBefore len at tokens
unfolding AreTokensFrom
lie_before len at [] lie some = record { within = omega arith; kept = refl; all = refl; none = refl }
lie_before len at (t ∷ tokens) lie some =
    let rest = lie_before len (at + length t.bytes) tokens lie.1 some.1 in
    let inside = rest.within in
    let byte = some.0 in
    let from = lie.0 in
    let ends : end_of t ≤ len = omega arith in
    let begins : t.from < len = omega arith in
    record {
      within = omega arith;
      kept = cut_at-kept len t tokens (not_cut_before len t ends) ∙ ap (λ ts. t ∷ ts) rest.kept;
      all = ending-in len t tokens ends ∙ ap (λ ts. t ∷ ts) rest.all;
      none = rw (lt-leb len t.from begins) rest.none;
    }

-- ---- items of tokens, and of the end

items_part : (state : EventState) (front rest : List Token) (len : ℕ) →
    items_from state (front ++ rest) len ≡ items_through state front ++ items_from (state_after state front) rest len
unfolding items_from state_after
items_part state [] rest len = refl
items_part state (k ∷ front) rest len =
    ap (λ (xs : List Item). items_of_token state k ++ xs) (items_part (state_behind state k) front rest len)
    ∙ sym (append_assoc (items_of_token state k) (items_through (state_behind state k) front) (items_from (state_after (state_behind state k) front) rest len))

events-append : (xs ys : List Item) → events_among (xs ++ ys) ≡ events_among xs ++ events_among ys
events-append xs ys = flat_map-append event_in xs ys

abbrev count : List Item → ℕ
count all = length (faults_among all)

count-append : (xs ys : List Item) → count (xs ++ ys) ≡ count xs + count ys
count-append xs ys = ap length (flat_map-append fault_in xs ys) ∙ length-append (faults_among xs) (faults_among ys)

-- elements that the end of a text closes, wherever it is
abbrev unclosed : Span → List OpenElement → List Item
unclosed span elements = flat_map (left_out kinds.UnclosedElement span) elements

same_leaves : (one other : Span) (elements : List OpenElement) → events_among (unclosed one elements) ≡ events_among (unclosed other elements)
same_leaves one other [] = refl
same_leaves one other (element ∷ elements) = ap (λ es. Leave ∷ es) (same_leaves one other elements)

one_each : (span : Span) (elements : List OpenElement) → count (unclosed span elements) ≡ length elements
one_each span [] = refl
one_each span (element ∷ elements) = ap (λ n. suc n) (one_each span elements)

-- that there is no root
abbrev no_root : Bool → Span → List Item
no_root none span = cond none (items.Fault (bare_fault kinds.NoRoot span) ∷ []) []

no_root_event : (none : Bool) (span : Span) → events_among (no_root none span) ≡ []
no_root_event true span = refl
no_root_event false span = refl

no_root_count : (none : Bool) (one other : Span) → count (no_root none one) ≡ count (no_root none other)
no_root_count true one other = refl
no_root_count false one other = refl

-- the end with one more element than behind its end tag
module _ (run : List Item) (span tag behind : Span) (element : OpenElement) (outer : List OpenElement) (none : Bool) where
  abbrev at_the_end : List Item
  at_the_end = run ++ unclosed span (element ∷ outer) ++ no_root none span

  abbrev with_tag : List Item
  with_tag = run ++ items.Event Leave tag ∷ []

  abbrev behind_tag : List Item
  behind_tag = [] ++ unclosed behind outer ++ no_root none behind

  end_events : events_among at_the_end ≡ events_among with_tag ++ events_among behind_tag
  end_events =
      rw (
        events-append (run ++ unclosed span (element ∷ outer)) (no_root none span),
        events-append run (unclosed span (element ∷ outer)),
        no_root_event none span,
        events-append run (items.Event Leave tag ∷ []),
        events-append (unclosed behind outer) (no_root none behind),
        no_root_event none behind,
        same_leaves behind span outer,
        append-nil (events_among (unclosed span outer)),
        append-nil (events_among run ++ events_among (unclosed span (element ∷ outer))),
        append_assoc (events_among run) (Leave ∷ []) (events_among (unclosed span outer)),
      ) refl

  end_count : count with_tag + count behind_tag + 1 ≡ count at_the_end
  end_count =
      let one = count-append (run ++ unclosed span (element ∷ outer)) (no_root none span) in
      let two = count-append run (unclosed span (element ∷ outer)) in
      let three = one_each span (element ∷ outer) in
      let four = count-append run (items.Event Leave tag ∷ []) in
      let five = count-append (unclosed behind outer) (no_root none behind) in
      let six = one_each behind outer in
      let seven = no_root_count none span behind in
      omega arith

-- ---- the text behind the tag

pub record TakesOne (text after : List ℕ) : Type 0 where
  pub events : events_among (items_of_text text) ≡ events_among (items_of_text after)
  pub fewer : length (faults_among (items_of_text after)) + 1 ≡ length (faults_among (items_of_text text))

module _ (join : TokensJoin) (text : List ℕ) (utf8 : IsUtf8 text) (place : IsPlace text (length text)) (free : IsFree text (length text)) where
  abbrev len : ℕ
  len = length text

  abbrev after : List ℕ
  after = edited text len len (end_tag (innermost_name_at text len))

  before : LieBefore len 0 (tokens_of text)
  before = let all = join text utf8 in lie_before len 0 (tokens_of text) all.1 all.2

  front_is : in_front text len ≡ tokens_of text
  front_is = ap (ending_by len) before.kept ∙ before.all

  back_is : beyond text len ≡ []
  back_is = ap (beginning_at len) before.kept ∙ before.none

  abbrev tag : Token
  tag = end_token len (innermost_name_at text len)

  tokens_are : tokens_of after ≡ tokens_of text ++ tag ∷ []
  tokens_are =
      (finishing text len utf8 place free).tokens
      ∙ ap (λ ts. ts ++ (tag ∷ map (placed_token (length (end_tag (innermost_name_at text len)))) (beyond text len))) front_is
      ∙ ap (λ ts. tokens_of text ++ (tag ∷ map (placed_token (length (end_tag (innermost_name_at text len)))) ts)) back_is

  abbrev state : EventState
  state = state_after first_state (tokens_of text)

  state_is : state_at text len ≡ state
  state_is = ap (state_after first_state) front_is

  abbrev behind : EventState
  behind = state_behind state tag

  old_items : items_of_text text ≡ items_through first_state (tokens_of text) ++ items_at_end state len
  unfolding items_from
  old_items =
      ap (λ ts. items_from first_state ts len) (sym (append-nil (tokens_of text)))
      ∙ items_part first_state (tokens_of text) [] len

  new_items : items_of_text after ≡ items_through first_state (tokens_of text) ++ (items_of_token state tag ++ items_at_end behind (length after))
  unfolding items_from
  new_items =
      ap (λ ts. items_from first_state ts (length after)) tokens_are
      ∙ items_part first_state (tokens_of text) (tag ∷ []) (length after)

  last : LastOf (state_at text len).elements
  last = last_open (state_at text len).elements free.opened

  abbrev span : Span
  span = record { from = len; to = len }

  abbrev span_after : Span
  span_after = record { from = length after; to = length after }

  tag_items : items_of_token state tag ≡ run_items len state.run ++ items.Event Leave (token_span tag) ∷ []
  tag_items =
      let P : EventState → Type 0 = λ s. items_of_token s tag ≡ run_items len s.run ++ items.Event Leave (token_span tag) ∷ [] in
      subst P state_is (finishing text len utf8 place free).items

  elements_are : state.elements ≡ last.outer ++ last.innermost ∷ []
  elements_are = ap (λ (s : EventState). s.elements) (sym state_is) ∙ last.split

  behind_is : behind ≡ record state { elements = last.outer; scope = behind.scope; came = true; run = None }
  behind_is =
      let is = ended state len (innermost_name_at text len) (name_is text len utf8 place free) last.outer last.innermost elements_are (sym last.name) in
      is ∙ ap (λ scope. record state { elements = last.outer; scope = scope; came = true; run = None }) (sym (ap (λ (s : EventState). s.scope) is))

  old_end : items_at_end state len ≡ at_the_end (run_items len state.run) span (token_span tag) span_after last.innermost (reverse last.outer) (is_before state)
  unfolding items_at_end
  old_end =
      ap (λ elements. run_items len state.run ++ unclosed span (reverse elements) ++ no_root (is_before state) span) elements_are
      ∙ ap (λ elements. run_items len state.run ++ unclosed span elements ++ no_root (is_before state) span) (reverse-append last.outer (last.innermost ∷ []))

  new_end : items_at_end behind (length after) ≡ behind_tag (run_items len state.run) span (token_span tag) span_after last.innermost (reverse last.outer) (is_before state)
  unfolding items_at_end run_items
  new_end = ap (λ (s : EventState). items_at_end s (length after)) behind_is

  pub takes_one : TakesOne text after
  takes_one =
      let through : List Item = items_through first_state (tokens_of text) in
      let run : List Item = run_items len state.run in
      let tag_run : List Item = with_tag run span (token_span tag) span_after last.innermost (reverse last.outer) (is_before state) in
      let end_run : List Item = behind_tag run span (token_span tag) span_after last.innermost (reverse last.outer) (is_before state) in
      let whole_run : List Item = at_the_end run span (token_span tag) span_after last.innermost (reverse last.outer) (is_before state) in
      let old : items_of_text text ≡ through ++ whole_run = old_items ∙ ap (λ xs. through ++ xs) old_end in
      let new : items_of_text after ≡ through ++ (tag_run ++ end_run) =
      new_items ∙ ap (λ xs. through ++ (xs ++ items_at_end behind (length after))) tag_items ∙ ap (λ xs. through ++ (tag_run ++ xs)) new_end in
      let same = end_events run span (token_span tag) span_after last.innermost (reverse last.outer) (is_before state) in
      let fewer = end_count run span (token_span tag) span_after last.innermost (reverse last.outer) (is_before state) in
      let old_count = ap count old in
      let new_count = ap count new in
      let a = count-append through whole_run in
      let b = count-append through (tag_run ++ end_run) in
      let c = count-append tag_run end_run in
      record {
        events =
            ap events_among old ∙ events-append through whole_run ∙ ap (λ es. events_among through ++ es) (same ∙ sym (events-append tag_run end_run))
            ∙ sym (events-append through (tag_run ++ end_run)) ∙ sym (ap events_among new);
        fewer = omega arith;
      }
