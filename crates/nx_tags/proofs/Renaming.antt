-- Another name for an element leaves all tokens and items, moved, but the element.
use Rattle.std.proofs.Common.{◌≡◌, ℕ, ◌+◌, ◌-◌, ◌≤◌, true, inl, inr, None, List, [], ◌∷◌, ◌++◌, length, map, take, refl, sym, ◌∙◌, ap, subst, arith, append_assoc, length-append}
use Rattle.std.specs.Prelude.{slice_range}
use Rattle.std.specs.List.{AllByRecursion}
use Rattle.std.specs.Str.{IsUtf8}
use Rattle.std.proofs.lemmas.List.{map-append}
use Rattle.std.proofs.lemmas.Grind.{flat_map-append}
use Rattle.std.proofs.lemmas.Str.{IsCharBoundary-start}
use Rattle.nx_base.specs.Tokens.{end_of, tokens_of, AreTokensFrom}
use Rattle.nx_base.specs.declared.change.Change.{Change}
use Rattle.nx_base.specs.declared.fault.Fault.{Fault}
use Rattle.nx_base.specs.declared.fault.Span.{Span}
use Rattle.nx_base.specs.declared.token.Token.{Token}
use Rattle.nx_base.specs.declared.token.TokenKind.{TokenKind}
use Rattle.nx_base.specs.declared.token.TokenKind.TheVariants as kinds
use Rattle.nx_events.specs.Among.{event_in, events_among, fault_in, faults_among}
use Rattle.nx_events.specs.Elements.{element_items}
use Rattle.nx_events.specs.Items.{first_state, token_span, own_bindings, start_items, empty_items, emptied, items_by_kind, state_by_kind, items_of_token, state_behind}
use Rattle.nx_events.specs.Items.{items_from, items_of_text}
use Rattle.nx_events.specs.ItemsLie.{items_lie_in_tokens}
use Rattle.nx_events.specs.OpenTags.{is_opening, state_after}
use Rattle.nx_events.specs.Runs.{run_back, run_items}
use Rattle.nx_events.specs.Spans.{AreWithin}
use Rattle.nx_events.specs.SpelledTags.{IsName}
use Rattle.nx_events.specs.Tags.{start_name, end_name}
use Rattle.nx_events.specs.declared.flaw.Resolved.{Resolved}
use Rattle.nx_events.specs.declared.item.Event.{Event}
use Rattle.nx_events.specs.declared.item.Event.TheVariants.{Enter, Leave}
use Rattle.nx_events.specs.declared.item.Item.{Item}
use Rattle.nx_events.specs.declared.item.Item.TheVariants as items
use Rattle.nx_events.specs.declared.scope.Binding.{Binding}
use Rattle.nx_events.specs.declared.state.EventState.{EventState}
use Rattle.nx_events.specs.declared.state.OpenElement.{OpenElement}
use Rattle.nx_scan.proofs.Joined.{joined-from}
use Rattle.nx_text.specs.Changing.{changed}
use Rattle.nx_tags.specs.Changing.{replacing}
use Rattle.nx_tags.specs.Elements.{Nested, IsElementAt, IsEmptyAt}
use Rattle.nx_tags.specs.Renamed.{moved_by, place_behind, span_by, fault_by, item_by, token_by, items_through, state_before, items_before_element, resolved_in, IsRenamed}
use Rattle.nx_tags.specs.Renamed.{RenamingGives, RenamingKeepsEvents}
use Rattle.nx_tags.proofs.RenamingItems.{all_alike, unmoved, run_items_within, run_is_moved, lies, through_moved, rest_moved, from_append, from_one, IsMoved, AreMoved}
use Rattle.nx_tags.proofs.RenamingItems.{moved_append, all_slices, all_by, moved_between, moved_to_end, off_twice, off_nowhere}
use Rattle.nx_tags.proofs.RenamingNested.{with_open, end_gives, end_leaves, opened_by, inside_of, start_opens, start_gives, nested_alike, longer}
use Rattle.nx_tags.proofs.RenamingTags.{IsRead, front_part, element_part, back_part, start_parts, front_moved, own_same, span_moved, back_moved, element_is}
use Rattle.nx_tags.proofs.RenamingTokens.{set_off, named_tag, name_change, OneNamed, moved_behind, moved_front, IsStartTag, IsEndTag, start_is, empty_is, end_is, start_named_so}
use Rattle.nx_tags.proofs.RenamingTokens.{end_named_so}

-- ---- lists of items in parts

old_parts : (xs f e b r : List Item) → xs ++ ((f ++ (e ++ b)) ++ r) ≡ (xs ++ f) ++ (e ++ (b ++ r))
old_parts xs f e b r = simp append_assoc

new_parts : (m : ℕ → ℕ) (xs f b r new_e new_f new_b new_r : List Item) → xs ≡ map (item_by m) xs → new_f ≡ map (item_by m) f → new_b ≡ map (item_by m) b →
    new_r ≡ map (item_by m) r → xs ++ ((new_f ++ (new_e ++ new_b)) ++ new_r) ≡ map (item_by m) (xs ++ f) ++ (new_e ++ map (item_by m) (b ++ r))
new_parts m xs f b r new_e new_f new_b new_r e1 e2 e3 e4 =
    ap (λ (ys : List Item). ys ++ ((new_f ++ (new_e ++ new_b)) ++ new_r)) e1
    ∙ ap (λ (ys : List Item). map (item_by m) xs ++ ((ys ++ (new_e ++ new_b)) ++ new_r)) e2
    ∙ ap (λ (ys : List Item). map (item_by m) xs ++ ((map (item_by m) f ++ (new_e ++ ys)) ++ new_r)) e3
    ∙ ap (λ (ys : List Item). map (item_by m) xs ++ ((map (item_by m) f ++ (new_e ++ map (item_by m) b)) ++ ys)) e4
    ∙ old_parts (map (item_by m) xs) (map (item_by m) f) new_e (map (item_by m) b) (map (item_by m) r)
    ∙ ap (λ (ys : List Item). ys ++ (new_e ++ (map (item_by m) b ++ map (item_by m) r))) (sym (map-append (item_by m) xs f))
    ∙ ap (λ (ys : List Item). map (item_by m) (xs ++ f) ++ (new_e ++ ys)) (sym (map-append (item_by m) b r))

within_parts : (a b : ℕ) (xs ys : List Item) → AreWithin a b (xs ++ ys) → AreWithin a b xs × AreWithin a b ys
within_parts a b [] ys h = (tt, h)
within_parts a b (x ∷ xs) ys h = let rest = within_parts a b xs ys h.1 in ((h.0, rest.0), rest.1)

behind_lie : (len : ℕ) (t : Token) (ys : List Token) → AreTokensFrom len t.from (t ∷ ys) → AreTokensFrom len (end_of t) ys
unfolding AreTokensFrom
behind_lie len t ys h = h.1

-- ---- the text and its tag

-- what is told of a start tag or an empty-element tag that gets another name in one change, and the tokens behind that
module _ (text name : List ℕ) (before behind : List Token) (tag : Token) (utf8 : IsUtf8 text) (is : IsName name) (split : tokens_of text ≡ before ++ tag ∷ behind)
    (s : IsStartTag tag) (whole : length tag.bytes ≡ 1 + (length (start_name tag.bytes) + length s.tail)) where
  abbrev change : Change
  change = name_change (60 ∷ []) (start_name tag.bytes) name tag

  abbrev here : ℕ → ℕ
  here = moved_by change

  abbrev new : Token
  new = named_tag (60 ∷ []) name s.tail tag

  abbrev state : EventState
  state = state_before before

  abbrev len : ℕ
  len = length text

  pub all_lie : AreTokensFrom len 0 (before ++ tag ∷ behind)
  all_lie = subst (λ ts. AreTokensFrom len 0 ts) split (joined-from (len - 0) text 0 utf8 (IsCharBoundary-start text utf8) (omega arith)).lie

  pub run_before : run_back state.run ≤ tag.from
  run_before =
      let l = (lies len 0 0 first_state before tag behind all_lie (omega arith)).back in
      omega (arith, l)

  pub old_read : IsRead tag (start_name tag.bytes) s.tail
  old_read = record { is = s.named.is; utf8 = s.tail_utf8; bytes = s.named.bytes; named = s.reads (start_name tag.bytes) s.named.is }

  pub new_read : IsRead new name s.tail
  new_read = record { is = is; utf8 = s.tail_utf8; bytes = refl; named = s.reads name is }

  pub here_low : (p : ℕ) → p ≤ tag.from → here p ≡ p
  here_low p le = moved_front change p (omega arith)

  pub here_shift : (p : ℕ) → here (tag.from + (1 + length (start_name tag.bytes)) + p) ≡ tag.from + (1 + length name) + p
  here_shift p =
      let by = moved_behind change (tag.from + (1 + length (start_name tag.bytes)) + p) (omega arith) (omega arith) in
      omega (arith, by)

  pub here_end : here (end_of tag) ≡ end_of new
  here_end =
      let e : end_of tag ≡ tag.from + (1 + length (start_name tag.bytes)) + length s.tail = omega (arith, whole) in
      let size = length-append name s.tail in
      ap here e ∙ here_shift (length s.tail) ∙ omega (arith, size)

  pub here_behind : (p : ℕ) → here (end_of tag + p) ≡ here (end_of tag) + p
  here_behind p =
      let e : end_of tag + p ≡ tag.from + (1 + length (start_name tag.bytes)) + (length s.tail + p) = omega (arith, whole) in
      let f = here_end in
      let size = length-append name s.tail in
      ap here e ∙ here_shift (length s.tail + p) ∙ omega (arith, f, size)

  -- the items in front stay
  pub before_stays : (m : ℕ → ℕ) → ((p : ℕ) → p ≤ tag.from → m p ≡ p) → items_through first_state before ≡ map (item_by m) (items_through first_state before)
  before_stays m low =
      sym (unmoved (items_through first_state before))
      ∙ all_alike (λ p. p) m 0 tag.from (λ p le. sym (low p le)) (items_through first_state before)
      (lies len 0 0 first_state before tag behind all_lie (omega arith)).within

  -- the parts of the tag
  pub front_is : front_part state new ≡ map (item_by here) (front_part state tag)
  front_is = front_moved here state tag new (start_name tag.bytes) name s.tail old_read new_read refl here_low here_shift

  pub back_is : back_part state new ≡ map (item_by here) (back_part state tag)
  back_is = back_moved here state tag new (start_name tag.bytes) name s.tail old_read new_read refl here_low here_shift

  pub own_is_same : own_bindings new ≡ own_bindings tag
  own_is_same = own_same here state tag new (start_name tag.bytes) name s.tail old_read new_read refl here_low here_shift

  pub element_is_so : element_part state new ≡ element_items (span_by here (token_span tag)) (resolved_in before tag name)
  element_is_so = element_is here state tag new (start_name tag.bytes) name s.tail old_read new_read refl here_low here_shift

  -- the tokens in front stay where they are
  pub before_moved : (m : ℕ → ℕ) → ((p : ℕ) → p ≤ tag.from → m p ≡ p) → AreMoved m before before
  before_moved m low =
      subst (λ ts. AreMoved m before ts) (off_nowhere before)
      (moved_between m (λ p. p) len 0 0 0 tag.from before tag behind all_lie (omega arith)
      (λ k a le. (let e = low k le in omega (arith, e), sym (low k le)))).1

  -- the items of a text whose tag gives these parts and others behind it
  pub gives_renamed : (m : ℕ → ℕ) (changes : List Change) (rest new_rest : List Item) (new_behind : List Token) → m ≡ place_behind changes →
      IsUtf8 (changed text changes) →
      is_opening tag.kind ≡ true →
      ((p : ℕ) → p ≤ end_of tag → m p ≡ here p) →
      tokens_of (changed text changes) ≡ before ++ new ∷ new_behind → AreMoved m behind new_behind →
      front_part state new ≡ map (item_by m) (front_part state tag) → back_part state new ≡ map (item_by m) (back_part state tag) →
      items_of_token state tag ++ items_from (state_behind state tag) behind len ≡ start_items state tag ++ rest →
      items_of_token state new ++ items_from (state_behind state new) new_behind (length (changed text changes)) ≡ start_items state new ++ new_rest →
      new_rest ≡ map (item_by m) rest → IsRenamed text tag.from name changes
  gives_renamed m changes rest new_rest new_behind m_is after_utf8 opening agree tokens behind_moved front back olds news rests =
      let after = changed text changes in
      let low : (p : ℕ) → p ≤ tag.from → m p ≡ p = λ p le. agree p (omega (arith, le)) ∙ here_low p le in
      let f = here_end in
      let one : IsMoved m tag new = record { kind = refl; from = sym (low tag.from (omega arith)); to = sym f ∙ sym (agree (end_of tag) (omega arith)) } in
      let all : AreMoved m (before ++ tag ∷ behind) (before ++ new ∷ new_behind) =
      moved_append m before before (tag ∷ behind) (new ∷ new_behind) (before_moved m low) (one, behind_moved) in
      let slices = subst (λ ts. AllByRecursion (λ (t : Token). t.bytes ≡ slice_range after t.from (end_of t)) ts) tokens
      (all_slices (length after - 0) after 0 after_utf8 (IsCharBoundary-start after after_utf8) (omega arith)) in
      let moved_so : tokens_of after ≡ map (token_by m after) (tokens_of text) =
      tokens ∙ all_by m after (before ++ tag ∷ behind) (before ++ new ∷ new_behind) all slices ∙ ap (map (token_by m after)) (sym split) in
      let spans : span_by here (token_span tag) ≡ span_by m (token_span tag) =
      ap (λ n. record { from = n; to = here (end_of tag) }) (sym (agree tag.from (omega arith)))
      ∙ ap (λ n. record { from = m tag.from; to = n }) (sym (agree (end_of tag) (omega arith))) in
      let was : items_of_text text ≡ items_through first_state before ++ (start_items state tag ++ rest) =
      ap (λ ts. items_from first_state ts len) split ∙ from_append first_state before (tag ∷ behind) len
      ∙ ap (λ (xs : List Item). items_through first_state before ++ xs) (from_one state tag behind len ∙ olds) in
      let are : items_of_text after ≡ items_through first_state before ++ (start_items state new ++ new_rest) =
      ap (λ ts. items_from first_state ts (length after)) tokens ∙ from_append first_state before (new ∷ new_behind) (length after)
      ∙ ap (λ (xs : List Item). items_through first_state before ++ xs) (from_one state new new_behind (length after) ∙ news) in
      let P : (ℕ → ℕ) → Type 0 = λ f. (tokens_of after ≡ map (token_by f after) (tokens_of text))
      × (items_of_text after ≡ map (item_by f) (items_before_element before tag)
      ++ (element_items (span_by f (token_span tag)) (resolved_in before tag name) ++ map (item_by f) (back_part state tag ++ rest))) in
      let both : P (place_behind changes) = subst P m_is (
        moved_so,
        are ∙ ap (λ (xs : List Item). items_through first_state before ++ (xs ++ new_rest)) (start_parts state new)
            ∙ new_parts m (items_through first_state before) (front_part state tag) (back_part state tag) rest (element_part state new) (front_part state new)
            (back_part state new) new_rest (before_stays m low) front back rests
            ∙ ap (λ (xs : List Item). map (item_by m) (items_before_element before tag) ++ (xs ++ map (item_by m) (back_part state tag ++ rest)))
            (element_is_so ∙ ap (λ (sp : Span). element_items sp (resolved_in before tag name)) spans),
      ) in
      record {
        before = before;
        tag = tag;
        behind = behind;
        split = split;
        from = refl;
        opening = opening;
        tokens = both.0;
        rest = back_part state tag ++ rest;
        items_were =
            was ∙ ap (λ (xs : List Item). items_through first_state before ++ (xs ++ rest)) (start_parts state tag)
            ∙ old_parts (items_through first_state before) (front_part state tag) (element_part state tag) (back_part state tag) rest;
        items_are = both.1;
      }

-- ---- an empty-element tag

opening_by : (kind other : TokenKind) → kind ≡ other → is_opening other ≡ true → is_opening kind ≡ true
opening_by kind other e h = ap is_opening e ∙ h

empty_is_so : (state : EventState) (tag : Token) → tag.kind ≡ kinds.Empty →
    items_of_token state tag ≡ start_items state tag ++ items.Event Leave (token_span tag) ∷ []
unfolding items_of_token empty_items
empty_is_so state tag kind = ap (λ k. items_by_kind k state tag) kind

empty_leaves : (state : EventState) (tag : Token) → tag.kind ≡ kinds.Empty → state_behind state tag ≡ emptied state
unfolding state_behind
empty_leaves state tag kind = ap (λ k. state_by_kind k state tag) kind

empty_all : (state : EventState) (tag : Token) (others : List Token) (n : ℕ) → tag.kind ≡ kinds.Empty →
    items_of_token state tag ++ items_from (state_behind state tag) others n
    ≡ start_items state tag ++ (items.Event Leave (token_span tag) ∷ items_from (emptied state) others n)
empty_all state tag others n kind =
    ap (λ (xs : List Item). xs ++ items_from (state_behind state tag) others n) (empty_is_so state tag kind)
    ∙ ap (λ (s : EventState). (start_items state tag ++ items.Event Leave (token_span tag) ∷ []) ++ items_from s others n) (empty_leaves state tag kind)
    ∙ append_assoc (start_items state tag) (items.Event Leave (token_span tag) ∷ []) (items_from (emptied state) others n)

module _ (text name : List ℕ) (at : ℕ) (tag : Token) (utf8 : IsUtf8 text) (is : IsName name) (e : IsEmptyAt text at tag) where
  abbrev empty_change : Change
  empty_change = name_change (60 ∷ []) (start_name tag.bytes) name tag

  empty_renamed : IsRenamed text tag.from name (empty_change ∷ [])
  empty_renamed =
      let s = empty_is text e.before e.others tag utf8 e.tokens e.kind in
      let one = start_named_so text e.before e.others tag utf8 e.tokens name s is in
      let len = length text in
      let m = moved_by empty_change in
      let state = state_before e.before in
      let new = named_tag (60 ∷ []) name s.tail tag in
      let all = all_lie text name e.before e.others tag utf8 is e.tokens s one.whole in
      let lie = behind_lie len tag e.others (lies len 0 0 first_state e.before tag e.others all (omega arith)).lie in
      let shift = here_behind text name e.before e.others tag utf8 is e.tokens s one.whole in
      let q = end_of tag in
      let spans : token_span new ≡ span_by m (token_span tag) =
      span_moved m state tag new (start_name tag.bytes) name s.tail (old_read text name e.before e.others tag utf8 is e.tokens s one.whole)
      (new_read text name e.before e.others tag utf8 is e.tokens s one.whole) refl (here_low text name e.before e.others tag utf8 is e.tokens s one.whole)
      (here_shift text name e.before e.others tag utf8 is e.tokens s one.whole) in
      let rest = rest_moved m len q (m q) q shift (emptied state) e.others lie (omega arith) in
      gives_renamed text name e.before e.others tag utf8 is e.tokens s one.whole m (empty_change ∷ [])
      (items.Event Leave (token_span tag) ∷ items_from (emptied state) e.others len)
      (items.Event Leave (token_span new) ∷ items_from (emptied state) (map (set_off m) e.others) (length (changed text (empty_change ∷ []))))
      (map (set_off m) e.others) refl one.utf8 (opening_by tag.kind kinds.Empty e.kind refl) (λ p le. refl) one.tokens
      (moved_to_end m len q (m q) q e.others lie (λ k le. (let by = shift (k - q) in
      let there : q + (k - q) ≡ k = omega (arith, le) in
      let at_k : m k ≡ m q + (k - q) = ap m (sym there) ∙ by in omega (arith, at_k, le))))
      (front_is text name e.before e.others tag utf8 is e.tokens s one.whole) (back_is text name e.before e.others tag utf8 is e.tokens s one.whole)
      (empty_all state tag e.others len e.kind)
      (empty_all state new (map (set_off m) e.others) (length (changed text (empty_change ∷ []))) e.kind)
      (ap (λ (sp : Span). items.Event Leave sp ∷ items_from (emptied state) (map (set_off m) e.others) (length (changed text (empty_change ∷ [])))) spans
      ∙ ap (λ (xs : List Item). items.Event Leave (span_by m (token_span tag)) ∷ xs)
      (ap (items_from (emptied state) (map (set_off m) e.others)) one.long ∙ rest))

-- ---- an element

-- the items behind a start tag, up to its end tag and behind it
rest_is : (es : List OpenElement) (e : OpenElement) (state behind : EventState) (inner : List Token) (end : Token) (others : List Token) (n : ℕ) →
    end.kind ≡ kinds.End → e.written ≡ end_name end.bytes → state_after (with_open (es ++ e ∷ []) state) inner ≡ with_open (es ++ e ∷ []) behind →
    items_from (with_open (es ++ e ∷ []) state) (inner ++ end ∷ others) n
    ≡ items_through (with_open (es ++ e ∷ []) state) inner
    ++ ((run_items end.from behind.run ++ items.Event Leave (token_span end) ∷ [])
    ++ items_from (with_open es (record behind { scope = take e.outer behind.scope; came = true; run = None })) others n)
rest_is es e state behind inner end others n kind named inside =
    from_append (with_open (es ++ e ∷ []) state) inner (end ∷ others) n
    ∙ ap (λ (xs : List Item). items_through (with_open (es ++ e ∷ []) state) inner ++ xs)
    (ap (λ (s : EventState). items_from s (end ∷ others) n) inside
    ∙ from_one (with_open (es ++ e ∷ []) behind) end others n
    ∙ ap (λ (xs : List Item). xs ++ items_from (state_behind (with_open (es ++ e ∷ []) behind) end) others n) (end_gives behind es e end kind named)
    ∙ ap (λ (s : EventState). (run_items end.from behind.run ++ items.Event Leave (token_span end) ∷ []) ++ items_from s others n)
    (end_leaves behind es e end kind named))

start_all : (state : EventState) (tag : Token) (others : List Token) (n : ℕ) → tag.kind ≡ kinds.Start →
    items_of_token state tag ++ items_from (state_behind state tag) others n
    ≡ start_items state tag ++ items_from (with_open (state.elements ++ opened_by state tag ∷ []) (inside_of state tag)) others n
start_all state tag others n kind =
    ap (λ (xs : List Item). xs ++ items_from (state_behind state tag) others n) (start_gives state state.elements tag kind)
    ∙ ap (λ (s : EventState). start_items state tag ++ items_from s others n) (start_opens state state.elements tag kind)

-- what stands behind the start tag, moved
module _ (m near : ℕ → ℕ) (len : ℕ) (es : List OpenElement) (state : EventState) (old new : OpenElement) (inner : List Token) (nested : Nested inner)
    (end new_end : Token) (others : List Token) (q r : ℕ) (end_kind : end.kind ≡ kinds.End) (new_kind : new_end.kind ≡ kinds.End)
    (named : old.written ≡ end_name end.bytes) (new_named : new.written ≡ end_name new_end.bytes) (outer : new.outer ≡ old.outer)
    (no_run : state.run ≡ None) (lie : AreTokensFrom len q (inner ++ end ∷ others))
    (near_shift : (p : ℕ) → near (q + p) ≡ r + p) (agree : (p : ℕ) → p ≤ end.from → m p ≡ near p)
    (shift : (p : ℕ) → m (end_of end + p) ≡ m (end_of end) + p)
    (from : new_end.from ≡ m end.from) (to : end_of new_end ≡ m (end_of end)) where
  abbrev around_old : EventState
  around_old = with_open (es ++ old ∷ []) state

  abbrev around_new : EventState
  around_new = with_open (es ++ new ∷ []) state

  no_back : q + run_back state.run ≤ q
  no_back = let e : run_back state.run ≡ 0 = ap run_back no_run in omega (arith, e)

  pub rest_is_moved : items_from around_new (map (set_off near) inner ++ new_end ∷ map (set_off m) others) (m len)
      ≡ map (item_by m) (items_from around_old (inner ++ end ∷ others) len)
  rest_is_moved =
      let alike = nested_alike inner nested state (es ++ old ∷ []) (es ++ new ∷ []) (longer es old) (longer es new) in
      let b = alike.behind in
      let l = lies len q q around_old inner end others lie no_back in
      let through = through_moved near len q r q near_shift around_new inner end others lie no_back in
      let back : q + run_back b.run ≤ end.from =
      (let h = l.back in let e : run_back (state_after around_old inner).run ≡ run_back b.run = ap (λ (s : EventState). run_back s.run) alike.one in omega (arith, h, e)) in
      let behind_old : EventState = with_open es (record b { scope = take old.outer b.scope; came = true; run = None }) in
      let run = run_items end.from b.run in
      let leave : List Item = items.Event Leave (token_span end) ∷ [] in
      let inside : items_through around_new (map (set_off near) inner) ≡ map (item_by m) (items_through around_old inner) =
      through.0 ∙ ap (map (item_by near)) (sym alike.items)
      ∙ sym (all_alike m near 0 end.from agree (items_through around_old inner) l.within) in
      let runs : run_items new_end.from b.run ≡ map (item_by m) run =
      ap (λ n. run_items n b.run) (from ∙ agree end.from (omega arith)) ∙ run_is_moved near q r end.from b.run near_shift back
      ∙ sym (all_alike m near 0 end.from agree run (run_items_within end.from b.run)) in
      let leaves : items.Event Leave (token_span new_end) ∷ [] ≡ map (item_by m) leave =
      ap (λ n. items.Event Leave (record { from = n; to = end_of new_end }) ∷ []) from
      ∙ ap (λ n. items.Event Leave (record { from = m end.from; to = n }) ∷ []) to in
      let behind_moved : items_from behind_old (map (set_off m) others) (m len) ≡ map (item_by m) (items_from behind_old others len) =
      rest_moved m len (end_of end) (m (end_of end)) (end_of end) shift behind_old others (behind_lie len end others l.lie) (omega arith) in
      rest_is es new state b (map (set_off near) inner) new_end (map (set_off m) others) (m len) new_kind new_named (through.1 ∙ alike.two)
      ∙ ap (λ n. items_through around_new (map (set_off near) inner)
      ++ ((run_items new_end.from b.run ++ items.Event Leave (token_span new_end) ∷ [])
      ++ items_from (with_open es (record b { scope = take n b.scope; came = true; run = None })) (map (set_off m) others) (m len))) outer
      ∙ ap (λ (xs : List Item). xs ++ ((run_items new_end.from b.run ++ items.Event Leave (token_span new_end) ∷ [])
      ++ items_from behind_old (map (set_off m) others) (m len))) inside
      ∙ ap (λ (xs : List Item). map (item_by m) (items_through around_old inner) ++ ((xs ++ items.Event Leave (token_span new_end) ∷ [])
      ++ items_from behind_old (map (set_off m) others) (m len))) runs
      ∙ ap (λ (xs : List Item). map (item_by m) (items_through around_old inner) ++ ((map (item_by m) run ++ xs)
      ++ items_from behind_old (map (set_off m) others) (m len))) leaves
      ∙ ap (λ (xs : List Item). map (item_by m) (items_through around_old inner) ++ ((map (item_by m) run ++ map (item_by m) leave) ++ xs)) behind_moved
      ∙ ap (λ (xs : List Item). map (item_by m) (items_through around_old inner) ++ (xs ++ map (item_by m) (items_from behind_old others len)))
      (sym (map-append (item_by m) run leave))
      ∙ ap (λ (xs : List Item). map (item_by m) (items_through around_old inner) ++ xs)
      (sym (map-append (item_by m) (run ++ leave) (items_from behind_old others len)))
      ∙ sym (map-append (item_by m) (items_through around_old inner) ((run ++ leave) ++ items_from behind_old others len))
      ∙ ap (map (item_by m)) (sym (rest_is es old state b inner end others len end_kind named alike.one))

  -- and so are its tokens
  pub behind_are_moved : AreMoved m (inner ++ end ∷ others) (map (set_off near) inner ++ new_end ∷ map (set_off m) others)
  behind_are_moved =
      let l = lies len q q around_old inner end others lie no_back in
      let le = l.further in
      let kind : new_end.kind ≡ end.kind = new_kind ∙ sym end_kind in
      moved_append m inner (map (set_off near) inner) (end ∷ others) (new_end ∷ map (set_off m) others)
      (moved_between m near len q r q end.from inner end others lie (omega arith)
      (λ k a c. (
        let there : q + (k - q) ≡ k = omega (arith, a) in
            let by : near k ≡ r + (k - q) = ap near (sym there) ∙ near_shift (k - q) in
            let e = agree k c in omega (arith, by, e, a),
        sym (agree k c),
      ))).1 (
        record { kind = kind; from = from; to = to },
        moved_to_end m len (end_of end) (m (end_of end)) (end_of end) others (behind_lie len end others l.lie)
            (λ k a. (let there : end_of end + (k - end_of end) ≡ k = omega (arith, a) in
            let by : m k ≡ m (end_of end) + (k - end_of end) = ap m (sym there) ∙ shift (k - end_of end) in omega (arith, by, a))),
      )

module _ (text name : List ℕ) (at : ℕ) (start end : Token) (utf8 : IsUtf8 text) (is : IsName name) (e : IsElementAt text at start end) where
  -- the end tag gets the name first
  abbrev front : List Token
  front = e.before ++ (start ∷ e.inner)

  abbrev behind_start : List Token
  behind_start = e.inner ++ end ∷ e.others

  split_end : tokens_of text ≡ front ++ end ∷ e.others
  split_end = e.tokens ∙ sym (append_assoc e.before (start ∷ e.inner) (end ∷ e.others))

  end_tag : IsEndTag end
  end_tag = end_is text front e.others end utf8 split_end e.end_kind

  abbrev end_change : Change
  end_change = name_change (60 ∷ 47 ∷ []) (end_name end.bytes) name end

  abbrev far : ℕ → ℕ
  far = moved_by end_change

  end_named : OneNamed text (60 ∷ 47 ∷ []) (end_name end.bytes) name end_tag.tail front e.others end
  end_named = end_named_so text front e.others end utf8 split_end name end_tag is

  abbrev half : List ℕ
  half = changed text (end_change ∷ [])

  abbrev half_end : Token
  half_end = named_tag (60 ∷ 47 ∷ []) name end_tag.tail end

  split_start : tokens_of half ≡ e.before ++ start ∷ (e.inner ++ half_end ∷ map (set_off far) e.others)
  split_start = end_named.tokens ∙ append_assoc e.before (start ∷ e.inner) (half_end ∷ map (set_off far) e.others)

  -- and then the start tag
  start_tag : IsStartTag start
  start_tag = start_is text e.before behind_start start utf8 e.tokens e.start_kind

  abbrev start_change : Change
  start_change = name_change (60 ∷ []) (start_name start.bytes) name start

  abbrev near : ℕ → ℕ
  near = moved_by start_change

  start_named : OneNamed half (60 ∷ []) (start_name start.bytes) name start_tag.tail e.before (e.inner ++ half_end ∷ map (set_off far) e.others) start
  start_named = start_named_so half e.before (e.inner ++ half_end ∷ map (set_off far) e.others) start end_named.utf8 split_start name start_tag is

  abbrev both : List Change
  both = end_change ∷ start_change ∷ []

  abbrev all : ℕ → ℕ
  all = place_behind both

  abbrev new_start : Token
  new_start = named_tag (60 ∷ []) name start_tag.tail start

  abbrev new_end : Token
  new_end = set_off near half_end

  abbrev new_behind : List Token
  new_behind = map (set_off near) e.inner ++ new_end ∷ map (set_off all) e.others

  tokens_after : tokens_of (changed text both) ≡ e.before ++ new_start ∷ new_behind
  tokens_after =
      start_named.tokens
      ∙ ap (λ (ts : List Token). e.before ++ new_start ∷ ts)
      (map-append (set_off near) e.inner (half_end ∷ map (set_off far) e.others)
      ∙ ap (λ (ts : List Token). map (set_off near) e.inner ++ new_end ∷ ts) (off_twice near far e.others))

  long_after : length (changed text both) ≡ all (length text)
  long_after = start_named.long ∙ ap near end_named.long

  -- where the tags lie
  abbrev q : ℕ
  q = end_of start

  abbrev front_state : EventState
  front_state = state_before e.before

  behind_lies : AreTokensFrom (length text) q behind_start
  behind_lies =
      behind_lie (length text) start behind_start
      (lies (length text) 0 0 first_state e.before start behind_start
      (all_lie text name e.before behind_start start utf8 is e.tokens start_tag start_named.whole) (omega arith)).lie

  in_order : q ≤ end.from
  in_order = (lies (length text) q q first_state e.inner end e.others behind_lies (omega arith)).further

  agree : (p : ℕ) → p ≤ end.from → all p ≡ near p
  agree p le = ap near (moved_front end_change p (omega (arith, le)))

  agree_in_start : (p : ℕ) → p ≤ q → all p ≡ near p
  agree_in_start p le = agree p (let o = in_order in omega (arith, o, le))

  near_shift : (p : ℕ) → near (q + p) ≡ near q + p
  near_shift p = here_behind text name e.before behind_start start utf8 is e.tokens start_tag start_named.whole p

  near_from : (p : ℕ) → q ≤ p → near p ≡ near q + (p - q)
  near_from p le = (let there : p ≡ q + (p - q) = omega (arith, le) in ap near there) ∙ near_shift (p - q)

  far_from : (p : ℕ) → far (end_of end + p) ≡ end.from + (2 + (length name + length end_tag.tail)) + p
  far_from p =
      let whole = end_named.whole in
      let by = moved_behind end_change (end_of end + p) (omega arith) (omega (arith, whole)) in
      omega (arith, whole, by)

  far_end : far (end_of end) ≡ end.from + (2 + (length name + length end_tag.tail))
  far_end =
      let none : end_of end ≡ end_of end + 0 = omega arith in
      let by = far_from 0 in
      ap far none ∙ omega (arith, by)

  shift : (p : ℕ) → all (end_of end + p) ≡ all (end_of end) + p
  shift p =
      let o = in_order in
      let one = ap near (far_from p) ∙ near_from (end.from + (2 + (length name + length end_tag.tail)) + p) (omega (arith, o)) in
      let two = ap near far_end ∙ near_from (end.from + (2 + (length name + length end_tag.tail))) (omega (arith, o)) in
      omega (arith, o, one, two)

  end_from : new_end.from ≡ all end.from
  end_from = sym (agree end.from (omega arith))

  end_to : end_of new_end ≡ all (end_of end)
  end_to =
      let o = in_order in
      let one = near_from end.from o in
      let two = ap near far_end ∙ near_from (end.from + (2 + (length name + length end_tag.tail))) (omega (arith, o)) in
      let size = length-append name end_tag.tail in
      omega (arith, o, one, two, size)

  new_named : start_name new_start.bytes ≡ end_name new_end.bytes
  new_named = start_tag.reads name is ∙ sym (end_tag.reads name is)

  -- the start tag's own items
  start_within : AreWithin (start.from - run_back front_state.run) q (front_part front_state start ++ (element_part front_state start ++ back_part front_state start))
  start_within =
      subst (λ (xs : List Item). AreWithin (start.from - run_back front_state.run) q xs)
      (start_gives front_state front_state.elements start e.start_kind ∙ start_parts front_state start)
      (items_lie_in_tokens front_state start (run_before text name e.before behind_start start utf8 is e.tokens start_tag start_named.whole))

  front_all : front_part front_state new_start ≡ map (item_by all) (front_part front_state start)
  front_all =
      front_is text name e.before behind_start start utf8 is e.tokens start_tag start_named.whole
      ∙ sym (all_alike all near (start.from - run_back front_state.run) q agree_in_start (front_part front_state start)
      (within_parts (start.from - run_back front_state.run) q (front_part front_state start) (element_part front_state start ++ back_part front_state start) start_within).0)

  back_all : back_part front_state new_start ≡ map (item_by all) (back_part front_state start)
  back_all =
      back_is text name e.before behind_start start utf8 is e.tokens start_tag start_named.whole
      ∙ sym (all_alike all near (start.from - run_back front_state.run) q agree_in_start (back_part front_state start)
      (within_parts (start.from - run_back front_state.run) q (element_part front_state start) (back_part front_state start)
      (within_parts (start.from - run_back front_state.run) q (front_part front_state start) (element_part front_state start ++ back_part front_state start) start_within).1).1)

  abbrev old_rest : List Item
  old_rest = items_from (with_open (front_state.elements ++ opened_by front_state start ∷ []) (inside_of front_state start)) behind_start (length text)

  abbrev new_rest : List Item
  new_rest = items_from (with_open (front_state.elements ++ opened_by front_state new_start ∷ []) (inside_of front_state start)) new_behind (length (changed text both))

  news : items_of_token front_state new_start ++ items_from (state_behind front_state new_start) new_behind (length (changed text both))
      ≡ start_items front_state new_start ++ new_rest
  news =
      start_all front_state new_start new_behind (length (changed text both)) e.start_kind
      ∙ ap (λ (own : List Binding). start_items front_state new_start
      ++ items_from (with_open (front_state.elements ++ opened_by front_state new_start ∷ [])
      (record front_state { scope = front_state.scope ++ own; came = true; started = true; run = None }))
      new_behind (length (changed text both)))
      (own_is_same text name e.before behind_start start utf8 is e.tokens start_tag start_named.whole)

  rests : new_rest ≡ map (item_by all) old_rest
  rests =
      ap (items_from (with_open (front_state.elements ++ opened_by front_state new_start ∷ []) (inside_of front_state start)) new_behind) long_after
      ∙ rest_is_moved all near (length text) front_state.elements (inside_of front_state start) (opened_by front_state start) (opened_by front_state new_start)
      e.inner e.nested end new_end e.others q (near q) e.end_kind e.end_kind e.named new_named refl refl behind_lies near_shift agree shift end_from end_to

  behind_all : AreMoved all behind_start new_behind
  behind_all =
      behind_are_moved all near (length text) front_state.elements (inside_of front_state start) (opened_by front_state start) (opened_by front_state new_start)
      e.inner e.nested end new_end e.others q (near q) e.end_kind e.end_kind e.named new_named refl refl behind_lies near_shift agree shift end_from end_to

  element_renamed : IsRenamed text start.from name both
  element_renamed =
      gives_renamed text name e.before behind_start start utf8 is e.tokens start_tag start_named.whole all both old_rest new_rest new_behind refl start_named.utf8
      (opening_by start.kind kinds.Start e.start_kind refl) agree_in_start tokens_after behind_all front_all back_all
      (start_all front_state start behind_start (length text) e.start_kind) news rests

-- ---- the laws

by_empty : (text name : List ℕ) (at : ℕ) (changes : List Change) (tag : Token) → IsUtf8 text → IsName name → IsEmptyAt text at tag →
    changes ≡ replacing (at + 1) (at + 1 + length (start_name tag.bytes)) name ∷ [] → IsRenamed text at name changes
by_empty text name at changes tag utf8 is e h =
    let same : changes ≡ name_change (60 ∷ []) (start_name tag.bytes) name tag ∷ [] =
    h ∙ ap (λ n. replacing (n + 1) (n + 1 + length (start_name tag.bytes)) name ∷ []) (sym e.from) in
    subst (λ (cs : List Change). IsRenamed text at name cs) (sym same)
    (subst (λ n. IsRenamed text n name (name_change (60 ∷ []) (start_name tag.bytes) name tag ∷ [])) e.from (empty_renamed text name at tag utf8 is e))

by_element : (text name : List ℕ) (at : ℕ) (changes : List Change) (start end : Token) → IsUtf8 text → IsName name → IsElementAt text at start end →
    changes ≡ replacing (end.from + 2) (end.from + 2 + length (start_name start.bytes)) name
    ∷ replacing (at + 1) (at + 1 + length (start_name start.bytes)) name ∷ [] → IsRenamed text at name changes
by_element text name at changes start end utf8 is e h =
    let first : Change = name_change (60 ∷ 47 ∷ []) (end_name end.bytes) name end in
    let second : Change = name_change (60 ∷ []) (start_name start.bytes) name start in
    let same : changes ≡ first ∷ second ∷ [] =
    h ∙ ap (λ xs. replacing (end.from + 2) (end.from + 2 + length xs) name ∷ replacing (at + 1) (at + 1 + length (start_name start.bytes)) name ∷ []) e.named
    ∙ ap (λ n. first ∷ replacing (n + 1) (n + 1 + length (start_name start.bytes)) name ∷ []) (sym e.from) in
    subst (λ (cs : List Change). IsRenamed text at name cs) (sym same)
    (subst (λ n. IsRenamed text n name (first ∷ second ∷ [])) e.from (element_renamed text name at start end utf8 is e))

pub renaming_gives : RenamingGives
renaming_gives text name at changes utf8 is (inl h) = by_empty text name at changes h.0 utf8 is h.1 h.2
renaming_gives text name at changes utf8 is (inr h) = by_element text name at changes h.0 h.1 utf8 is h.2 h.3

events_moved : (m : ℕ → ℕ) (xs : List Item) → events_among (map (item_by m) xs) ≡ events_among xs
events_moved m [] = refl
events_moved m (items.Event event span ∷ xs) = ap (λ (ys : List Event). event ∷ ys) (events_moved m xs)
events_moved m (items.Fault fault ∷ xs) = events_moved m xs

faults_moved : (m : ℕ → ℕ) (xs : List Item) → faults_among (map (item_by m) xs) ≡ map (fault_by m) (faults_among xs)
faults_moved m [] = refl
faults_moved m (items.Event event span ∷ xs) = faults_moved m xs
faults_moved m (items.Fault fault ∷ xs) = ap (λ (ys : List Fault). fault_by m fault ∷ ys) (faults_moved m xs)

pub renaming_keeps_events : RenamingKeepsEvents
renaming_keeps_events text name at changes renamed expanded was is =
    let m = place_behind changes in
    let before = items_before_element renamed.before renamed.tag in
    let rest = renamed.rest in
    let span = token_span renamed.tag in (
      ap events_among renamed.items_are
          ∙ flat_map-append event_in (map (item_by m) before) (element_items (span_by m span) (resolved_in renamed.before renamed.tag name) ++ map (item_by m) rest)
          ∙ ap (λ (r : Resolved). events_among (map (item_by m) before) ++ events_among (element_items (span_by m span) r ++ map (item_by m) rest)) is
          ∙ ap (λ (xs : List Event). xs ++ (Enter expanded ∷ events_among (map (item_by m) rest))) (events_moved m before)
          ∙ ap (λ (xs : List Event). events_among before ++ (Enter expanded ∷ xs)) (events_moved m rest)
          ∙ sym (ap events_among renamed.items_were
          ∙ flat_map-append event_in before (element_items span (resolved_in renamed.before renamed.tag (start_name renamed.tag.bytes)) ++ rest)
          ∙ ap (λ (r : Resolved). events_among before ++ events_among (element_items span r ++ rest)) was),
      ap faults_among renamed.items_are
          ∙ flat_map-append fault_in (map (item_by m) before) (element_items (span_by m span) (resolved_in renamed.before renamed.tag name) ++ map (item_by m) rest)
          ∙ ap (λ (r : Resolved). faults_among (map (item_by m) before) ++ faults_among (element_items (span_by m span) r ++ map (item_by m) rest)) is
          ∙ ap (λ (xs : List Fault). xs ++ faults_among (map (item_by m) rest)) (faults_moved m before)
          ∙ ap (λ (xs : List Fault). map (fault_by m) (faults_among before) ++ xs) (faults_moved m rest)
          ∙ sym (map-append (fault_by m) (faults_among before) (faults_among rest))
          ∙ sym (ap (map (fault_by m)) (ap faults_among renamed.items_were
          ∙ flat_map-append fault_in before (element_items span (resolved_in renamed.before renamed.tag (start_name renamed.tag.bytes)) ++ rest)
          ∙ ap (λ (r : Resolved). faults_among before ++ faults_among (element_items span r ++ rest)) was)),
    )
