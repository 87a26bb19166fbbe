-- Tokens without faults, inside of the root and behind it: what they are, by the elements that are open.
use Rattle.std.proofs.Common.{◌≡◌, ℕ, suc, ◌<◌, Bool, true, false, Option, Some, None, List, [], ◌∷◌, ◌++◌, length, drop, reverse, refl, ap, sym, subst, ◌∙◌, arith, length-append, length-drop}
use Rattle.std.specs.List.{AllByRecursion, flat_map}
use Rattle.std.specs.Str.{bytes_eq}
use Rattle.std.proofs.lemmas.List.{length-reverse}
use Rattle.std.proofs.lemmas.Slice.Eq.{bytes_eq-Decides}
use Rattle.nx_base.specs.Trees.{Tree, Children, nil, element}
use Rattle.nx_base.specs.Trees as trees
use Rattle.nx_base.specs.declared.fault.Kind.{Kind}
use Rattle.nx_base.specs.declared.fault.Kind.TheVariants as faults
use Rattle.nx_base.specs.declared.fault.Span.{Span}
use Rattle.nx_base.specs.declared.name.Name.{Name}
use Rattle.nx_base.specs.declared.token.Token.{Token}
use Rattle.nx_base.specs.declared.token.TokenKind.{TokenKind}
use Rattle.nx_base.specs.declared.token.TokenKind.TheVariants as kinds
use Rattle.nx_events.specs.Items.{token_span, is_behind, start_items, empty_items, around_innermost, left_out, closing_items, end_items, items_of_token, state_behind, items_at_end, items_from}
use Rattle.nx_events.specs.Runs.{run_items, run_passed, run_joined}
use Rattle.nx_events.specs.Strings.{string_of, cdata_content}
use Rattle.nx_events.specs.Tags.{end_name}
use Rattle.nx_events.specs.declared.item.Event.TheVariants.{Leave}
use Rattle.nx_events.specs.declared.item.Item.TheVariants as items
use Rattle.nx_events.specs.declared.reading.Reading.TheVariants.{Plain, Text}
use Rattle.nx_events.specs.declared.state.EventState.{EventState}
use Rattle.nx_events.specs.declared.state.OpenElement.{OpenElement}
use Rattle.nx_events.specs.declared.state.Run.{Run}
use Rattle.nx_document.specs.Constraints.{IsComment, IsInstruction, IsLegalTag}
use Rattle.nx_document.specs.Document.{Repeated, no_further, further, IsMisc, comment, instruction, white_space, with_text, Element, by_empty, by_tags, Content, no_more, by_element, by_text, by_section, by_comment, by_instruction}
use Rattle.nx_document.proofs.Told.{Clean, clean_first, clean_second, faulty}
use Rattle.nx_document.proofs.Frames.{Frame, scope_of, open_of, elements_of, at, around_other, around_within}
use Rattle.nx_document.proofs.Steps.{state_kind, by_kind, comment_silent, instruction_silent, blank_silent, text_silent, section_silent, declaration_kept, doctype_kept, comment_kept, instruction_kept, text_kept, section_kept, blank_kept, section_outside, bad_never, unclosed_never, TagKept, tag_kept}
use Rattle.nx_document.proofs.Nesting.{frame_of, start_behind, end_told}

-- no byte order mark is among the tokens
abbrev pub NoMark : List Token → Type 0
NoMark all = AllByRecursion (λ (token : Token). token.kind ≡ kinds.Bom → ⊥) all

pub first_clean : (state : EventState) (token : Token) (others : List Token) (len : ℕ) → Clean (items_from state (token ∷ others) len) → Clean (items_of_token state token)
unfolding items_from
first_clean state token others len h = clean_first (items_of_token state token) (items_from (state_behind state token) others len) h

pub rest_clean : (state next : EventState) (token : Token) (others : List Token) (len : ℕ) → state_behind state token ≡ next → Clean (items_from state (token ∷ others) len) → Clean (items_from next others len)
unfolding items_from
rest_clean state next token others len e h =
    subst (λ s. Clean (items_from s others len)) e (clean_second (items_of_token state token) (items_from (state_behind state token) others len) h)

-- elements that are left open have faults
none_left : (kind : Kind) (span : Span) (xs : List OpenElement) → Clean (flat_map (left_out kind span) xs) → xs ≡ []
none_left kind span [] h = refl
none_left kind span (x ∷ xs) h = faulty _ _ h

no_length : {A : Type 0} (xs : List A) → reverse xs ≡ [] → length xs ≡ 0
no_length xs e = sym (length-reverse xs) ∙ ap length e

-- what the rest of the tokens is, with these elements open
pub data Rest : List Frame → List Token → Type 0 where
  outside_all : {all : List Token} → Repeated IsMisc all [] → Rest [] all
  inside_one : {frame : Frame} {outer : List Frame} {all others : List Token} {end : Token} {children : Children} →
      Content (scope_of (frame ∷ outer)) all (end ∷ others) children → end.kind ≡ kinds.End → end_name end.bytes ≡ frame.written → Rest outer others → Rest (frame ∷ outer) all

-- more content in front
grow : {frame : Frame} {outer : List Frame} {all : List Token} (others : List Token) →
    ((rest : List Token) (children : Children) → Content (scope_of (frame ∷ outer)) others rest children → (c : Children) × Content (scope_of (frame ∷ outer)) all rest c) →
    Rest (frame ∷ outer) others → Rest (frame ∷ outer) all
grow others more (inside_one {others = behind} {end = end} {children = children} content kind named rest) =
    let w = more (end ∷ behind) children content in inside_one {end = end} w.1 kind named rest

misc_more : {all : List Token} (token : Token) → IsMisc token → Rest [] all → Rest [] (token ∷ all)
misc_more token is (outside_all more) = outside_all (further is more)

-- an element in front, by its two tags
pub record Rooted (frames : List Frame) (all : List Token) : Type 0 where
  pub tree : Tree
  pub behind : List Token
  pub one : Element (scope_of frames) all behind tree
  pub rest : Rest frames behind

rooted : (frames : List Frame) (token : Token) (others : List Token) (name : Name) (attributes : List trees.Attribute) → token.kind ≡ kinds.Start → IsLegalTag (scope_of frames) token name attributes →
    Rest (frame_of token ∷ frames) others → Rooted frames (token ∷ others)
rooted frames token others name attributes kind is (inside_one {others = behind} {end = end} {children = children} content ends named rest) = record {
  tree = record { name = name; attributes = attributes; children = children };
  behind = behind;
  one = by_tags {end = end} kind is content (record { kind = ends; matches = named });
  rest = rest;
}

empty_rooted : (frames : List Frame) (token : Token) (others : List Token) (name : Name) (attributes : List trees.Attribute) → token.kind ≡ kinds.Empty → IsLegalTag (scope_of frames) token name attributes →
    Rest frames others → Rooted frames (token ∷ others)
empty_rooted frames token others name attributes kind is rest = record {
  tree = record { name = name; attributes = attributes; children = nil };
  behind = others;
  one = by_empty kind is;
  rest = rest;
}

element_more : (frame : Frame) (outer : List Frame) (all : List Token) → Rooted (frame ∷ outer) all → Rest (frame ∷ outer) all
element_more frame outer all r = grow r.behind (λ rest children content. (element r.tree.name r.tree.attributes r.tree.children children, by_element r.one content)) r.rest

-- tags, in any state that isn't behind the root
start_clean : (state : EventState) (token : Token) → token.kind ≡ kinds.Start → Clean (items_of_token state token) → TagKept state token
start_clean state token kind h = tag_kept state token (by_kind state token kinds.Start kind h)

empty_clean : (state : EventState) (token : Token) → token.kind ≡ kinds.Empty → Clean (items_of_token state token) → TagKept state token
unfolding empty_items
empty_clean state token kind h = tag_kept state token (clean_first (start_items state token) (items.Event Leave (token_span token) ∷ []) (by_kind state token kinds.Empty kind h))

-- an end tag without fault names the innermost element
left_open : {A : Type 0} (kind : Kind) (span : Span) (frame : Frame) (outer : List Frame) (n : ℕ) → n < length (elements_of (frame ∷ outer)) →
    Clean (flat_map (left_out kind span) (reverse (drop n (elements_of (frame ∷ outer))))) → A
left_open kind span frame outer n lt h =
    let all = elements_of (frame ∷ outer) in
    let none : length (drop n all) ≡ 0 = no_length (drop n all) (none_left kind span (reverse (drop n all)) h) in
    absurd (omega (arith, none, lt, length-drop n all))

end_named : (frame : Frame) (outer : List Frame) (doctype : Bool) (run : Option Run) (end : Token) → end.kind ≡ kinds.End → Clean (items_of_token (at (frame ∷ outer) true doctype true run) end) →
    end_name end.bytes ≡ frame.written
unfolding end_items
end_named frame outer doctype run end kind h =
    by_test (bytes_eq frame.written (end_name end.bytes)) refl
  where
    by_place : (found : Option ℕ) → ((n : ℕ) → found ≡ Some n → n < length (elements_of outer)) → Clean (closing_items (at (frame ∷ outer) true doctype true run) end found) → end_name end.bytes ≡ frame.written
    by_place None within c = faulty _ _ c
    by_place (Some n) within c =
        let less = within n refl in
        left_open faults.MissingEnd (token_span end) frame outer (suc n) (omega (arith, less, length-append (elements_of outer) (open_of frame outer ∷ [])))
        (clean_second (run_items end.from run) (flat_map (left_out faults.MissingEnd (token_span end)) (reverse (drop (suc n) (elements_of (frame ∷ outer)))))
        (clean_first _ (items.Event Leave (token_span end) ∷ []) c))

    by_test : (t : Bool) → bytes_eq frame.written (end_name end.bytes) ≡ t → end_name end.bytes ≡ frame.written
    by_test true e = sym ((bytes_eq-Decides frame.written (end_name end.bytes)).0 e)
    by_test false e =
        by_place (around_innermost (end_name end.bytes) (elements_of outer)) (λ n f. around_within (end_name end.bytes) (elements_of outer) n f)
        (subst (λ o. Clean (closing_items (at (frame ∷ outer) true doctype true run) end o)) (around_other frame outer (end_name end.bytes) e)
        (by_kind (at (frame ∷ outer) true doctype true run) end kinds.End kind h))

pub end_extra : {A : Type 0} (came doctype started : Bool) (run : Option Run) (end : Token) → end.kind ≡ kinds.End → Clean (items_of_token (at [] came doctype started run) end) → A
unfolding end_items around_innermost
end_extra came doctype started run end kind h = faulty _ _ (by_kind (at [] came doctype started run) end kinds.End kind h)

ends_open : {A : Type 0} (frame : Frame) (outer : List Frame) (doctype : Bool) (run : Option Run) (len : ℕ) → Clean (items_from (at (frame ∷ outer) true doctype true run) [] len) → A
unfolding items_from items_at_end
ends_open frame outer doctype run len h =
    let span : Span = record { from = len; to = len } in
    let open_ones = flat_map (left_out faults.UnclosedElement span) (reverse (elements_of (frame ∷ outer))) in
    left_open faults.UnclosedElement span frame outer 0 (omega (arith, length-append (elements_of outer) (open_of frame outer ∷ [])))
    (clean_second (run_items len run) open_ones (clean_first (run_items len run ++ open_ones) [] h))

-- a token other than a tag, and the rest behind it
module _ (doctype : Bool) (token : Token) (others : List Token) (len : ℕ) (more : (frames : List Frame) (run : Option Run) → Clean (items_from (at frames true doctype true run) others len) → Rest frames others) where
  with_comment : (frames : List Frame) (run : Option Run) → token.kind ≡ kinds.Comment → Clean (items_from (at frames true doctype true run) (token ∷ others) len) → Rest frames (token ∷ others)
  with_comment frames run kind h = by_frames frames rest
    where
      is : IsComment token
      is = comment_kept (at frames true doctype true run) token kind (first_clean (at frames true doctype true run) token others len h)

      rest : Rest frames others
      rest = more frames (run_passed (length token.bytes) run)
          (rest_clean (at frames true doctype true run) (at frames true doctype true (run_passed (length token.bytes) run)) token others len (comment_silent frames true doctype true run token is).behind h)

      by_frames : (fs : List Frame) → Rest fs others → Rest fs (token ∷ others)
      by_frames [] r = misc_more token (comment is) r
      by_frames (f ∷ fs) r = grow others (λ rest children content. (children, by_comment is content)) r

  with_instruction : (frames : List Frame) (run : Option Run) → token.kind ≡ kinds.Pi → Clean (items_from (at frames true doctype true run) (token ∷ others) len) → Rest frames (token ∷ others)
  with_instruction frames run kind h = by_frames frames rest
    where
      is : IsInstruction token
      is = instruction_kept (at frames true doctype true run) token kind (first_clean (at frames true doctype true run) token others len h)

      rest : Rest frames others
      rest = more frames (run_passed (length token.bytes) run)
          (rest_clean (at frames true doctype true run) (at frames true doctype true (run_passed (length token.bytes) run)) token others len (instruction_silent frames true doctype true run token is).behind h)

      by_frames : (fs : List Frame) → Rest fs others → Rest fs (token ∷ others)
      by_frames [] r = misc_more token (instruction is) r
      by_frames (f ∷ fs) r = grow others (λ rest children content. (children, by_instruction is content)) r

  with_text_token : (frames : List Frame) (run : Option Run) → token.kind ≡ kinds.Text → Clean (items_from (at frames true doctype true run) (token ∷ others) len) → Rest frames (token ∷ others)
  with_text_token [] run kind h =
      let is = blank_kept true doctype true run token kind (first_clean (at [] true doctype true run) token others len h) in
      misc_more token (white_space is) (more [] (run_passed (length token.bytes) run)
      (rest_clean (at [] true doctype true run) (at [] true doctype true (run_passed (length token.bytes) run)) token others len (blank_silent true doctype true run token is).behind h))
  with_text_token (f ∷ fs) run kind h =
      let is = text_kept (at (f ∷ fs) true doctype true run) token kind (first_clean (at (f ∷ fs) true doctype true run) token others len h) in
      let next = run_joined (string_of Text token.bytes) (length token.bytes) run in
      grow others (λ rest children content. (with_text (string_of Text token.bytes) children, by_text is content))
      (more (f ∷ fs) next (rest_clean (at (f ∷ fs) true doctype true run) (at (f ∷ fs) true doctype true next) token others len (text_silent f fs true doctype true run token is).behind h))

  with_section : (frames : List Frame) (run : Option Run) → token.kind ≡ kinds.Cdata → Clean (items_from (at frames true doctype true run) (token ∷ others) len) → Rest frames (token ∷ others)
  with_section [] run kind h = section_outside true doctype true run token kind (first_clean (at [] true doctype true run) token others len h)
  with_section (f ∷ fs) run kind h =
      let is = section_kept (at (f ∷ fs) true doctype true run) token kind (first_clean (at (f ∷ fs) true doctype true run) token others len h) in
      let next = run_joined (string_of Plain (cdata_content token.bytes)) (length token.bytes) run in
      grow others (λ rest children content. (with_text (string_of Plain (cdata_content token.bytes)) children, by_section is content))
      (more (f ∷ fs) next (rest_clean (at (f ∷ fs) true doctype true run) (at (f ∷ fs) true doctype true next) token others len (section_silent f fs true doctype true run token is).behind h))

  with_end : (frames : List Frame) (run : Option Run) → token.kind ≡ kinds.End → Clean (items_from (at frames true doctype true run) (token ∷ others) len) → Rest frames (token ∷ others)
  with_end [] run kind h = end_extra true doctype true run token kind (first_clean (at [] true doctype true run) token others len h)
  with_end (f ∷ fs) run kind h =
      let named = end_named f fs doctype run token kind (first_clean (at (f ∷ fs) true doctype true run) token others len h) in
      inside_one {end = token} no_more kind named
      (more fs None (rest_clean (at (f ∷ fs) true doctype true run) (at fs true doctype true None) token others len (end_told f fs doctype run token kind named).behind h))

-- an element that begins with this tag, in any state that isn't behind the root
module _ (frames : List Frame) (came doctype started : Bool) (run : Option Run) (token : Token) (others : List Token) (len : ℕ)
    (more : (frames : List Frame) (run : Option Run) → Clean (items_from (at frames true doctype true run) others len) → Rest frames others) where
  pub with_start : token.kind ≡ kinds.Start → Clean (items_from (at frames came doctype started run) (token ∷ others) len) → Rooted frames (token ∷ others)
  with_start kind h =
      let state = at frames came doctype started run in
      let tag = start_clean state token kind (first_clean state token others len h) in
      rooted frames token others tag.name tag.attributes kind tag.tag
      (more (frame_of token ∷ frames) None (rest_clean state (at (frame_of token ∷ frames) true doctype true None) token others len (start_behind frames came doctype started run token kind tag.own) h))

  pub with_empty : token.kind ≡ kinds.Empty → Clean (items_from (at frames came doctype started run) (token ∷ others) len) → Rooted frames (token ∷ others)
  with_empty kind h =
      let state = at frames came doctype started run in
      let tag = empty_clean state token kind (first_clean state token others len h) in
      empty_rooted frames token others tag.name tag.attributes kind tag.tag
      (more frames None (rest_clean state (at frames true doctype true None) token others len (state_kind state token kinds.Empty kind) h))

behind_never : {A : Type 0} (doctype : Bool) (run : Option Run) → is_behind (at [] true doctype true run) ≡ false → A
behind_never doctype run e = let bad : true ≡ false = e in absurd (cc)

-- inside of the root and behind it
by_token : (kind : TokenKind) (frames : List Frame) (doctype : Bool) (run : Option Run) (token : Token) (others : List Token) (len : ℕ) → token.kind ≡ kind → (token.kind ≡ kinds.Bom → ⊥) →
    ((frames : List Frame) (run : Option Run) → Clean (items_from (at frames true doctype true run) others len) → Rest frames others) →
    Clean (items_from (at frames true doctype true run) (token ∷ others) len) → Rest frames (token ∷ others)
by_token kinds.Bom frames doctype run token others len kind unmarked more h = absurd (unmarked kind)
by_token kinds.Decl frames doctype run token others len kind unmarked more h =
    let bad : true ≡ false = (declaration_kept frames true doctype true run token kind (first_clean (at frames true doctype true run) token others len h)).0 in absurd (cc)
by_token kinds.Doctype frames doctype run token others len kind unmarked more h =
    let bad : true ≡ false = (doctype_kept frames true doctype true run token kind (first_clean (at frames true doctype true run) token others len h)).0 in absurd (cc)
by_token kinds.Comment frames doctype run token others len kind unmarked more h = with_comment doctype token others len more frames run kind h
by_token kinds.Pi frames doctype run token others len kind unmarked more h = with_instruction doctype token others len more frames run kind h
by_token kinds.Cdata frames doctype run token others len kind unmarked more h = with_section doctype token others len more frames run kind h
by_token kinds.Text frames doctype run token others len kind unmarked more h = with_text_token doctype token others len more frames run kind h
by_token kinds.Bad frames doctype run token others len kind unmarked more h = bad_never (at frames true doctype true run) token kind (first_clean (at frames true doctype true run) token others len h)
by_token kinds.Unclosed frames doctype run token others len kind unmarked more h = unclosed_never (at frames true doctype true run) token kind (first_clean (at frames true doctype true run) token others len h)
by_token kinds.Start [] doctype run token others len kind unmarked more h =
    behind_never doctype run (start_clean (at [] true doctype true run) token kind (first_clean (at [] true doctype true run) token others len h)).inside
by_token kinds.Start (f ∷ fs) doctype run token others len kind unmarked more h = element_more f fs (token ∷ others) (with_start (f ∷ fs) true doctype true run token others len more kind h)
by_token kinds.Empty [] doctype run token others len kind unmarked more h =
    behind_never doctype run (empty_clean (at [] true doctype true run) token kind (first_clean (at [] true doctype true run) token others len h)).inside
by_token kinds.Empty (f ∷ fs) doctype run token others len kind unmarked more h = element_more f fs (token ∷ others) (with_empty (f ∷ fs) true doctype true run token others len more kind h)
by_token kinds.End frames doctype run token others len kind unmarked more h = with_end doctype token others len more frames run kind h

pub rest_of : (all : List Token) (len : ℕ) (doctype : Bool) → NoMark all → (frames : List Frame) (run : Option Run) → Clean (items_from (at frames true doctype true run) all len) → Rest frames all
rest_of [] len doctype unmarked [] run h = outside_all no_further
rest_of [] len doctype unmarked (f ∷ fs) run h = ends_open f fs doctype run len h
rest_of (token ∷ others) len doctype unmarked frames run h =
    by_token token.kind frames doctype run token others len refl unmarked.0 (λ fs r c. rest_of others len doctype unmarked.1 fs r c) h
