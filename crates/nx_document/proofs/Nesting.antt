-- Tokens that are a document have no fault, and the events of its tree.
use Rattle.std.proofs.Common.{◌≡◌, ℕ, Bool, true, false, Option, Some, None, List, [], ◌∷◌, ◌++◌, length, take, drop, reverse, map, refl, ap, sym, subst, ◌∙◌, append_assoc}
use Rattle.std.specs.List.{flat_map}
use Rattle.std.proofs.lemmas.List.{append-nil}
use Rattle.nx_base.specs.Trees.{Tree, Children, nil, element, children_flat, attributes_flat, alone, flat}
use Rattle.nx_base.specs.Trees as trees
use Rattle.nx_base.specs.declared.fault.Kind.TheVariants as faults
use Rattle.nx_base.specs.declared.name.Name.{Name}
use Rattle.nx_base.specs.declared.token.Token.{Token}
use Rattle.nx_base.specs.declared.token.TokenKind.TheVariants as kinds
use Rattle.nx_events.specs.Items.{token_span, is_behind, own_bindings, start_items, empty_items, left_out, closing_items, end_items, items_of_token, outer_of_first, closed, opened, state_behind, items_at_end, items_from, items_of}
use Rattle.nx_events.specs.Runs.{run_items, run_passed, run_joined}
use Rattle.nx_events.specs.Strings.{string_of, cdata_content}
use Rattle.nx_events.specs.Tags.{start_name, end_name}
use Rattle.nx_events.specs.declared.item.Event.{Event}
use Rattle.nx_events.specs.declared.item.Event.TheVariants.{Leave}
use Rattle.nx_events.specs.declared.item.Item.{Item}
use Rattle.nx_events.specs.declared.item.Item.TheVariants as items
use Rattle.nx_events.specs.declared.reading.Reading.TheVariants.{Plain, Text}
use Rattle.nx_events.specs.declared.scope.Binding.{Binding}
use Rattle.nx_events.specs.declared.state.EventState.{EventState}
use Rattle.nx_events.specs.declared.state.OpenElement.{OpenElement}
use Rattle.nx_events.specs.declared.state.Run.{Run}
use Rattle.nx_document.specs.Constraints.{IsMark, IsXmlDeclaration, IsDoctype, declared, written_in, IsLegalTag, EndsElement}
use Rattle.nx_document.specs.Document.{Optional, absent, present, Repeated, no_further, further, IsMisc, comment, instruction, white_space, with_text, Element, by_empty, by_tags, Content, no_more, by_element, by_text, by_section, by_comment, by_instruction, Document}
use Rattle.nx_events.specs.Among.{faults_among, events_among}
use Rattle.nx_document.specs.WellFormed.{AreOfTree}
use Rattle.nx_events.specs.TreeEvents.{as_event}
use Rattle.nx_document.proofs.Told.{Clean, clean_nil, clean_both, events_append, events_skip}
use Rattle.nx_document.proofs.Trees.{pending, pending_passed, pending_joined, text_flat, run_clean, run_events, text_twice, element_flat}
use Rattle.nx_document.proofs.Frames.{Frame, scope_of, open_of, elements_of, at, inside_some, found_here, take_front, drop_front, drop_last}
use Rattle.nx_document.proofs.Steps.{items_kind, state_kind, Silent, mark_silent, declaration_silent, doctype_silent, comment_silent, instruction_silent, blank_silent, text_silent, section_silent, TagTold, tag_told}

-- one token more
one_step : (state next : EventState) (token : Token) (others : List Token) (len : ℕ) → state_behind state token ≡ next →
    items_from state (token ∷ others) len ≡ items_of_token state token ++ items_from next others len
unfolding items_from
one_step state next token others len e = ap (λ s. items_of_token state token ++ items_from s others len) e

-- the items of an element's tokens, wherever it may stand
pub record ElementRead (frames : List Frame) (came doctype started : Bool) (run : Option Run) (all rest : List Token) (tree : Tree) : Type 0 where
  pub items : List Item
  pub are : (len : ℕ) → items_from (at frames came doctype started run) all len ≡ items ++ items_from (at frames true doctype true None) rest len
  pub clean : Clean items
  pub events : (x : List trees.Event) → events_among items ++ map as_event x ≡ map as_event (text_flat (pending run) (children_flat (alone tree) x))

-- the items of content in an open element, up to what follows
pub record ContentRead (frame : Frame) (outer : List Frame) (doctype : Bool) (run : Option Run) (all rest : List Token) (children : Children) : Type 0 where
  pub left : Option Run
  pub items : List Item
  pub are : (len : ℕ) → items_from (at (frame ∷ outer) true doctype true run) all len ≡ items ++ items_from (at (frame ∷ outer) true doctype true left) rest len
  pub clean : Clean items
  pub events : (x : List trees.Event) → events_among items ++ map as_event (text_flat (pending left) x) ≡ map as_event (children_flat (with_text (pending run) children) x)

joined_events : (xs ys : List Item) (z : List Event) → events_among (xs ++ ys) ++ z ≡ events_among xs ++ (events_among ys ++ z)
joined_events xs ys z = simp (events_append, append_assoc)

module _ (frames : List Frame) (came doctype started : Bool) (run : Option Run) (tag : Token) (name : Name) (attributes : List trees.Attribute)
    (told : TagTold (at frames came doctype started run) tag name attributes) where
  -- an element by its one tag
  empty_read : (rest : List Token) → tag.kind ≡ kinds.Empty → ElementRead frames came doctype started run (tag ∷ rest) rest (record { name = name; attributes = attributes; children = nil })
  unfolding empty_items
  empty_read rest kind =
      let state = at frames came doctype started run in
      let leave : List Item = items.Event Leave (token_span tag) ∷ [] in
      record {
        items = start_items state tag ++ leave;
        are = λ len.
            one_step state (at frames true doctype true None) tag rest len (state_kind state tag kinds.Empty kind)
            ∙ ap (λ (xs : List Item). xs ++ items_from (at frames true doctype true None) rest len) (items_kind state tag kinds.Empty kind);
        clean = clean_both told.clean (record { none = refl });
        events = λ x. joined_events (start_items state tag) leave (map as_event x) ∙ told.events (trees.Leave ∷ x);
      }

-- the frame that a tag opens
abbrev pub frame_of : Token → Frame
frame_of tag = record { written = start_name tag.bytes; own = declared (written_in tag) }

opened_at : (frames : List Frame) (came doctype started : Bool) (run : Option Run) (tag : Token) → own_bindings tag ≡ declared (written_in tag) →
    opened (at frames came doctype started run) tag ≡ at (frame_of tag ∷ frames) true doctype true None
opened_at frames came doctype started run tag own =
    ap (λ (bs : List Binding). let s : EventState = record {
      elements = elements_of (frame_of tag ∷ frames);
      scope = scope_of frames ++ bs;
      came = true;
      doctype = doctype;
      started = true;
      run = None;
    } in s) own

pub start_behind : (frames : List Frame) (came doctype started : Bool) (run : Option Run) (tag : Token) → tag.kind ≡ kinds.Start → own_bindings tag ≡ declared (written_in tag) →
    state_behind (at frames came doctype started run) tag ≡ at (frame_of tag ∷ frames) true doctype true None
start_behind frames came doctype started run tag kind own =
    state_kind (at frames came doctype started run) tag kinds.Start kind ∙ opened_at frames came doctype started run tag own

-- the end tag of the innermost element
pub record EndTold (frame : Frame) (outer : List Frame) (doctype : Bool) (run : Option Run) (end : Token) : Type 0 where
  pub clean : Clean (items_of_token (at (frame ∷ outer) true doctype true run) end)
  pub events : (x : List trees.Event) → events_among (items_of_token (at (frame ∷ outer) true doctype true run) end) ++ map as_event x
      ≡ map as_event (text_flat (pending run) (trees.Leave ∷ x))
  pub behind : state_behind (at (frame ∷ outer) true doctype true run) end ≡ at outer true doctype true None

closed_at : (frame : Frame) (outer : List Frame) (doctype : Bool) (run : Option Run) (end : Token) →
    closed (at (frame ∷ outer) true doctype true run) end (Some (length (elements_of outer))) ≡ at outer true doctype true None
closed_at frame outer doctype run end =
    let last : List OpenElement = open_of frame outer ∷ [] in
    let make : List OpenElement → List Binding → EventState = λ elements scope. record {
      elements = elements;
      scope = scope;
      came = true;
      doctype = doctype;
      started = true;
      run = None;
    } in
    let all = elements_of outer ++ last in
    ap (λ (es : List OpenElement). make es (take (outer_of_first (drop (length (elements_of outer)) all)) (scope_of outer ++ frame.own))) (take_front (elements_of outer) last)
    ∙ ap (λ (es : List OpenElement). make (elements_of outer) (take (outer_of_first es) (scope_of outer ++ frame.own))) (drop_front (elements_of outer) last)
    ∙ ap (λ (bs : List Binding). make (elements_of outer) bs) (take_front (scope_of outer) frame.own)

closing_at : (frame : Frame) (outer : List Frame) (doctype : Bool) (run : Option Run) (end : Token) →
    closing_items (at (frame ∷ outer) true doctype true run) end (Some (length (elements_of outer))) ≡ run_items end.from run ++ items.Event Leave (token_span end) ∷ []
closing_at frame outer doctype run end =
    ap (λ (es : List OpenElement). (run_items end.from run ++ flat_map (left_out faults.MissingEnd (token_span end)) (reverse es)) ++ items.Event Leave (token_span end) ∷ [])
    (drop_last (elements_of outer) (open_of frame outer))
    ∙ ap (λ (xs : List Item). xs ++ items.Event Leave (token_span end) ∷ []) (append-nil (run_items end.from run))

pub end_told : (frame : Frame) (outer : List Frame) (doctype : Bool) (run : Option Run) (end : Token) → end.kind ≡ kinds.End → end_name end.bytes ≡ frame.written → EndTold frame outer doctype run end
unfolding end_items
end_told frame outer doctype run end kind named =
    let state = at (frame ∷ outer) true doctype true run in
    let found = found_here frame outer (end_name end.bytes) named in
    let leave : List Item = items.Event Leave (token_span end) ∷ [] in
    let are : items_of_token state end ≡ run_items end.from run ++ leave =
    items_kind state end kinds.End kind ∙ ap (closing_items state end) found ∙ closing_at frame outer doctype run end in
    record {
      clean = subst Clean (sym are) (clean_both (run_clean end.from run) (record { none = refl }));
      events = λ x.
          ap (λ (xs : List Item). events_among xs ++ map as_event x) are
          ∙ joined_events (run_items end.from run) leave (map as_event x) ∙ run_events end.from run (trees.Leave ∷ x);
      behind = state_kind state end kinds.End kind ∙ ap (closed state end) found ∙ closed_at frame outer doctype run end;
    }

-- an element by its two tags
tags_read : (frames : List Frame) (came doctype started : Bool) (run : Option Run) (tag end : Token) (inner rest : List Token) (name : Name) (attributes : List trees.Attribute) (children : Children) →
    tag.kind ≡ kinds.Start → TagTold (at frames came doctype started run) tag name attributes → ContentRead (frame_of tag) frames doctype None inner (end ∷ rest) children → EndsElement tag end →
    ElementRead frames came doctype started run (tag ∷ inner) rest (record { name = name; attributes = attributes; children = children })
tags_read frames came doctype started run tag end inner rest name attributes children kind told content closes =
    let state = at frames came doctype started run in
    let within = at (frame_of tag ∷ frames) true doctype true None in
    let last = at (frame_of tag ∷ frames) true doctype true content.left in
    let behind = at frames true doctype true None in
    let start = items_of_token state tag in
    let ended = items_of_token last end in
    let end_is = end_told (frame_of tag) frames doctype content.left end closes.kind closes.matches in
    let start_is : start ≡ start_items state tag = items_kind state tag kinds.Start kind in
    record {
      items = start ++ (content.items ++ ended);
      are = λ len.
          one_step state within tag inner len (start_behind frames came doctype started run tag kind told.own)
          ∙ ap (λ (xs : List Item). start ++ xs) (content.are len ∙ ap (λ (xs : List Item). content.items ++ xs) (one_step last behind end rest len end_is.behind)
          ∙ sym (append_assoc content.items ended (items_from behind rest len)))
          ∙ sym (append_assoc start (content.items ++ ended) (items_from behind rest len));
      clean = clean_both (subst Clean (sym start_is) told.clean) (clean_both content.clean end_is.clean);
      events = λ x.
          joined_events start (content.items ++ ended) (map as_event x)
          ∙ ap (λ (es : List Event). events_among start ++ es)
          (joined_events content.items ended (map as_event x) ∙ ap (λ (es : List Event). events_among content.items ++ es) (end_is.events x) ∙ content.events (trees.Leave ∷ x))
          ∙ ap (λ (xs : List Item). events_among xs ++ map as_event (children_flat children (trees.Leave ∷ x))) start_is
          ∙ told.events (children_flat children (trees.Leave ∷ x));
    }

-- content, from the left
module _ (frame : Frame) (outer : List Frame) (doctype : Bool) where
  none_read : (run : Option Run) (rest : List Token) → ContentRead frame outer doctype run rest rest nil
  none_read run rest = record { left = run; items = []; are = λ len. refl; clean = clean_nil; events = λ x. refl }

  text_read : (run next : Option Run) (token : Token) (others rest : List Token) (text : List ℕ) (children : Children) →
      Silent (at (frame ∷ outer) true doctype true run) token (at (frame ∷ outer) true doctype true next) → pending next ≡ pending run ++ text →
      ContentRead frame outer doctype next others rest children → ContentRead frame outer doctype run (token ∷ others) rest (with_text text children)
  text_read run next token others rest text children silent joins more =
      let state = at (frame ∷ outer) true doctype true run in
      let first = items_of_token state token in
      record {
        left = more.left;
        items = first ++ more.items;
        are = λ len.
            one_step state (at (frame ∷ outer) true doctype true next) token others len silent.behind
            ∙ ap (λ (xs : List Item). first ++ xs) (more.are len)
            ∙ sym (append_assoc first more.items (items_from (at (frame ∷ outer) true doctype true more.left) rest len));
        clean = clean_both silent.clean more.clean;
        events = λ x.
            ap (λ (es : List Event). es ++ map as_event (text_flat (pending more.left) x)) (events_skip first more.items silent.silent)
            ∙ more.events x
            ∙ ap (λ (t : List ℕ). map as_event (children_flat (with_text t children) x)) joins
            ∙ ap (λ (c : Children). map as_event (children_flat c x)) (text_twice (pending run) text children);
      }

  passed_read : (run : Option Run) (token : Token) (others rest : List Token) (children : Children) →
      Silent (at (frame ∷ outer) true doctype true run) token (at (frame ∷ outer) true doctype true (run_passed (length token.bytes) run)) →
      ContentRead frame outer doctype (run_passed (length token.bytes) run) others rest children → ContentRead frame outer doctype run (token ∷ others) rest children
  passed_read run token others rest children silent more =
      text_read run (run_passed (length token.bytes) run) token others rest [] children silent (pending_passed (length token.bytes) run ∙ sym (append-nil (pending run))) more

  element_first : (run : Option Run) (all others rest : List Token) (tree : Tree) (children : Children) → ElementRead (frame ∷ outer) true doctype true run all others tree →
      ContentRead frame outer doctype None others rest children → ContentRead frame outer doctype run all rest (element tree.name tree.attributes tree.children children)
  element_first run all others rest tree children one more = record {
    left = more.left;
    items = one.items ++ more.items;
    are = λ len.
        one.are len ∙ ap (λ (xs : List Item). one.items ++ xs) (more.are len)
        ∙ sym (append_assoc one.items more.items (items_from (at (frame ∷ outer) true doctype true more.left) rest len));
    clean = clean_both one.clean more.clean;
    events = λ x.
        joined_events one.items more.items (map as_event (text_flat (pending more.left) x))
        ∙ ap (λ (es : List Event). events_among one.items ++ es) (more.events x)
        ∙ one.events (children_flat children x)
        ∙ ap (λ (es : List trees.Event). map as_event es) (sym (element_flat (pending run) tree children x));
  }

inside_not_behind : (frame : Frame) (outer : List Frame) (doctype : Bool) (run : Option Run) → is_behind (at (frame ∷ outer) true doctype true run) ≡ false
inside_not_behind frame outer doctype run = rw (inside_some frame outer) refl

mutual
  element_reads : {scope : List Binding} {all rest : List Token} {tree : Tree} → Element scope all rest tree →
      (frames : List Frame) (came doctype started : Bool) (run : Option Run) → scope ≡ scope_of frames → is_behind (at frames came doctype started run) ≡ false →
      ElementRead frames came doctype started run all rest tree
  element_reads (by_empty {tag = tag} {rest = rest} {name = name} {attributes = attributes} kind is) frames came doctype started run e inside =
      empty_read frames came doctype started run tag name attributes
      (tag_told (at frames came doctype started run) tag name attributes inside (subst (λ s. IsLegalTag s tag name attributes) e is)) rest kind
  element_reads (by_tags {tag = tag} {end = end} {inner = inner} {rest = rest} {name = name} {attributes = attributes} {children = children} kind is content closes) frames came doctype started run e inside =
      tags_read frames came doctype started run tag end inner rest name attributes children kind
      (tag_told (at frames came doctype started run) tag name attributes inside (subst (λ s. IsLegalTag s tag name attributes) e is))
      (content_reads content (frame_of tag) frames doctype None (ap (λ (s : List Binding). s ++ declared (written_in tag)) e)) closes

  content_reads : {scope : List Binding} {all rest : List Token} {children : Children} → Content scope all rest children →
      (frame : Frame) (outer : List Frame) (doctype : Bool) (run : Option Run) → scope ≡ scope_of (frame ∷ outer) → ContentRead frame outer doctype run all rest children
  content_reads (no_more {rest = rest}) frame outer doctype run e = none_read frame outer doctype run rest
  content_reads (by_element {all = all} {others = others} {rest = rest} {tree = tree} {children = children} one more) frame outer doctype run e =
      element_first frame outer doctype run all others rest tree children
      (element_reads one (frame ∷ outer) true doctype true run e (inside_not_behind frame outer doctype run))
      (content_reads more frame outer doctype None e)
  content_reads (by_text {token = token} {others = others} {rest = rest} {children = children} is more) frame outer doctype run e =
      let text = string_of Text token.bytes in
      let next = run_joined text (length token.bytes) run in
      text_read frame outer doctype run next token others rest text children (text_silent frame outer true doctype true run token is) (pending_joined text (length token.bytes) run)
      (content_reads more frame outer doctype next e)
  content_reads (by_section {token = token} {others = others} {rest = rest} {children = children} is more) frame outer doctype run e =
      let text = string_of Plain (cdata_content token.bytes) in
      let next = run_joined text (length token.bytes) run in
      text_read frame outer doctype run next token others rest text children (section_silent frame outer true doctype true run token is) (pending_joined text (length token.bytes) run)
      (content_reads more frame outer doctype next e)
  content_reads (by_comment {token = token} {others = others} {rest = rest} {children = children} is more) frame outer doctype run e =
      passed_read frame outer doctype run token others rest children (comment_silent (frame ∷ outer) true doctype true run token is)
      (content_reads more frame outer doctype (run_passed (length token.bytes) run) e)
  content_reads (by_instruction {token = token} {others = others} {rest = rest} {children = children} is more) frame outer doctype run e =
      passed_read frame outer doctype run token others rest children (instruction_silent (frame ∷ outer) true doctype true run token is)
      (content_reads more frame outer doctype (run_passed (length token.bytes) run) e)

-- outside of the root: tokens without events
record Passing (from : EventState) (all : List Token) (to : EventState) (rest : List Token) : Type 0 where
  items : List Item
  are : (len : ℕ) → items_from from all len ≡ items ++ items_from to rest len
  clean : Clean items
  silent : events_among items ≡ []

pass_none : (state : EventState) (all : List Token) → Passing state all state all
pass_none state all = record { items = []; are = λ len. refl; clean = clean_nil; silent = refl }

pass_one : (state next : EventState) (token : Token) (rest : List Token) → Silent state token next → Passing state (token ∷ rest) next rest
pass_one state next token rest h = record {
  items = items_of_token state token;
  are = λ len. one_step state next token rest len h.behind;
  clean = h.clean;
  silent = h.silent;
}

pass_then : {from middle to : EventState} {all others rest : List Token} → Passing from all middle others → Passing middle others to rest → Passing from all to rest
pass_then {to = to} {rest = rest} one more = record {
  items = one.items ++ more.items;
  are = λ len. one.are len ∙ ap (λ (xs : List Item). one.items ++ xs) (more.are len) ∙ sym (append_assoc one.items more.items (items_from to rest len));
  clean = clean_both one.clean more.clean;
  silent = events_skip one.items more.items one.silent ∙ more.silent;
}

abbrev outside : Bool → Bool → Bool → EventState
outside came doctype started = at [] came doctype started None

misc_silent : (came doctype started : Bool) (token : Token) → IsMisc token → Silent (outside came doctype started) token (outside true doctype started)
misc_silent came doctype started token (comment is) = comment_silent [] came doctype started None token is
misc_silent came doctype started token (instruction is) = instruction_silent [] came doctype started None token is
misc_silent came doctype started token (white_space is) = blank_silent came doctype started None token is

record PassesOn (came doctype started : Bool) (all rest : List Token) : Type 0 where
  after : Bool
  passing : Passing (outside came doctype started) all (outside after doctype started) rest

pass_misc : {all rest : List Token} → Repeated IsMisc all rest → (came doctype started : Bool) → PassesOn came doctype started all rest
pass_misc (no_further {rest = rest}) came doctype started = record { after = came; passing = pass_none (outside came doctype started) rest }
pass_misc (further {token = token} {others = others} is more) came doctype started =
    let next = pass_misc more true doctype started in
    record { after = next.after; passing = pass_then (pass_one (outside came doctype started) (outside true doctype started) token others (misc_silent came doctype started token is)) next.passing }

pass_mark : {all rest : List Token} → Optional IsMark all rest → Passing (outside false false false) all (outside false false false) rest
pass_mark (absent {rest = rest}) = pass_none (outside false false false) rest
pass_mark (present {token = token} {rest = rest} is) = pass_one (outside false false false) (outside false false false) token rest (mark_silent [] false false false None token is)

pass_declaration : {all rest : List Token} → Optional IsXmlDeclaration all rest → PassesOn false false false all rest
pass_declaration (absent {rest = rest}) = record { after = false; passing = pass_none (outside false false false) rest }
pass_declaration (present {token = token} {rest = rest} is) =
    record { after = true; passing = pass_one (outside false false false) (outside true false false) token rest (declaration_silent [] false false None token is) }

record PassesDoctype (came : Bool) (all rest : List Token) : Type 0 where
  after : Bool
  doctype : Bool
  passing : Passing (outside came false false) all (outside after doctype false) rest

pass_doctype : {all rest : List Token} → Optional IsDoctype all rest → (came : Bool) → PassesDoctype came all rest
pass_doctype (absent {rest = rest}) came = record { after = came; doctype = false; passing = pass_none (outside came false false) rest }
pass_doctype (present {token = token} {rest = rest} is) came =
    record { after = true; doctype = true; passing = pass_one (outside came false false) (outside true true false) token rest (doctype_silent [] came None token is) }

record Prolog (all root : List Token) : Type 0 where
  came : Bool
  doctype : Bool
  passing : Passing (outside false false false) all (outside came doctype false) root

prolog : (all : List Token) (tree : Tree) (is : Document all tree) → Prolog all is.root
prolog all tree is =
    let one = pass_declaration is.declaration in
    let two = pass_misc is.first_misc one.after false false in
    let three = pass_doctype is.doctype two.after in
    let four = pass_misc is.second_misc three.after three.doctype false in
    record {
      came = four.after;
      doctype = three.doctype;
      passing = pass_then (pass_mark is.mark) (pass_then one.passing (pass_then two.passing (pass_then three.passing four.passing)));
    }

end_outside : (came doctype : Bool) (len : ℕ) → items_from (outside came doctype true) [] len ≡ []
unfolding items_from items_at_end run_items
end_outside came doctype len = refl

pub document_reads : (all : List Token) (tree : Tree) (len : ℕ) → Document all tree → (faults_among (items_of all len) ≡ []) × AreOfTree tree (items_of all len)
document_reads all tree len is =
    let before = prolog all tree is in
    let root = element_reads is.element [] before.came before.doctype false None refl refl in
    let behind = pass_misc is.last_misc true before.doctype true in
    let a = before.passing.items in
    let b = root.items in
    let c = behind.passing.items in
    let rest : items_from (outside true before.doctype true) is.behind_root len ≡ c =
    behind.passing.are len ∙ ap (λ (xs : List Item). c ++ xs) (end_outside behind.after before.doctype len) ∙ append-nil c in
    let whole : items_of all len ≡ a ++ (b ++ c) =
    before.passing.are len ∙ ap (λ (xs : List Item). a ++ xs) (root.are len ∙ ap (λ (xs : List Item). b ++ xs) rest) in
    let clean : Clean (a ++ (b ++ c)) = clean_both before.passing.clean (clean_both root.clean behind.passing.clean) in
    let events : events_among (a ++ (b ++ c)) ≡ map as_event (flat tree) =
    events_skip a (b ++ c) before.passing.silent ∙ events_append b c ∙ ap (λ (es : List Event). events_among b ++ es) behind.passing.silent ∙ root.events [] in
    (ap faults_among whole ∙ clean.none, ap events_among whole ∙ events)
