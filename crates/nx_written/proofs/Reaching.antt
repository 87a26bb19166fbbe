-- Behind tokens without a fault the state is that of the elements that are open.
use Rattle.std.proofs.Common.{◌≡◌, ℕ, suc, ◌<◌, Bool, true, false, cond, Option, Some, None, List, [], ◌∷◌, ◌++◌, length, drop, reverse, refl, sym, ◌∙◌, ap, subst, arith, length-append, length-drop}
use Rattle.std.specs.Prelude.{◌||◌}
use Rattle.std.specs.List.{AllByRecursion, flat_map}
use Rattle.std.specs.Str.{bytes_eq}
use Rattle.std.proofs.lemmas.List.{length-reverse}
use Rattle.std.proofs.lemmas.Slice.Eq.{bytes_eq-Decides}
use Rattle.nx_base.specs.declared.fault.Kind.TheVariants as faults
use Rattle.nx_base.specs.declared.token.Token.{Token}
use Rattle.nx_base.specs.declared.token.TokenKind.{TokenKind}
use Rattle.nx_base.specs.declared.token.TokenKind.TheVariants as kinds
use Rattle.nx_events.specs.Items.{first_state, own_bindings, items_of_token, token_span, left_out, closing_items, end_items, around_innermost, joined, passed, state_by_kind, state_behind, is_doctype}
use Rattle.nx_events.specs.OpenTags.{state_after}
use Rattle.nx_events.specs.Runs.{run_items, run_passed, run_joined}
use Rattle.nx_events.specs.SpelledTags.{IsName, IsSpelledTag, IsSpelled}
use Rattle.nx_events.specs.Strings.{string_of, cdata_content}
use Rattle.nx_events.specs.Tags.{start_name, end_name}
use Rattle.nx_events.specs.declared.item.Event.TheVariants.{Leave}
use Rattle.nx_events.specs.declared.item.Item.TheVariants as items
use Rattle.nx_events.specs.declared.reading.Reading.TheVariants.{Plain, Text}
use Rattle.nx_events.specs.declared.state.EventState.{EventState}
use Rattle.nx_events.specs.declared.state.OpenElement.{OpenElement}
use Rattle.nx_events.specs.declared.state.Run.{Run}
use Rattle.nx_events.proofs.TagKinds.{tags_are_spelled}
use Rattle.nx_document.proofs.Borders.{IsText, tokens_are_text}
use Rattle.nx_document.proofs.Frames.{Frame, inside_some}
use Rattle.nx_document.proofs.Frames as frames
use Rattle.nx_document.proofs.Nesting.{end_told}
use Rattle.nx_document.proofs.Steps.{state_kind, by_kind}
use Rattle.nx_document.proofs.Told.{Clean, clean_first, clean_second, faulty}
use Rattle.nx_written.specs.Completing.{items_through, Reached, inside, before, behind, FrontsReach}
use Rattle.nx_written.specs.Documents.{Around}
use Rattle.nx_written.proofs.Documents.{frames_of, state_is}

abbrev AreNamed : List Frame → Type 0
AreNamed fs = AllByRecursion (λ (f : Frame). IsName f.written) fs

-- a state, by the elements that are open
data IsAt (state : EventState) : Type 0 where
  at_inside : (frame : Frame) (outer : List Frame) (doctype : Bool) (run : Option Run) → state ≡ frames.at (frame ∷ outer) true doctype true run → AreNamed (frame ∷ outer) → IsAt state
  at_before : (came doctype : Bool) → state ≡ frames.at [] came doctype false None → IsAt state
  at_behind : (doctype : Bool) → state ≡ frames.at [] true doctype true None → IsAt state

-- where all that are open are these
at_open : (open_frames : List Frame) (doctype : Bool) (state : EventState) → state ≡ frames.at open_frames true doctype true None → AreNamed open_frames → IsAt state
at_open [] doctype state e h = at_behind doctype e
at_open (frame ∷ outer) doctype state e h = at_inside frame outer doctype None e h

-- the name of a start tag
tag_named : (token : Token) → IsText token → token.kind ≡ kinds.Start → IsName (start_name token.bytes)
tag_named token text kind =
    let is : IsSpelledTag _ token.bytes = subst (λ (k : TokenKind). IsSpelled k token.bytes) kind (tags_are_spelled token text.0 text.1) in
    subst (λ (name : List ℕ). IsName name) (sym is.name_read) is.is_name

-- a token that is passed
other_at : (state : EventState) (token : Token) → state_behind state token ≡ record (passed state token) { doctype = state.doctype || is_doctype token.kind } → IsAt state → IsAt (state_behind state token)
other_at state token e (at_inside frame outer doctype run is named) =
    at_inside frame outer (doctype || is_doctype token.kind) (run_passed (length token.bytes) run)
    (e ∙ ap (λ (s : EventState). record (passed s token) { doctype = s.doctype || is_doctype token.kind }) is) named
other_at state token e (at_before came doctype is) =
    at_before true (doctype || is_doctype token.kind) (e ∙ ap (λ (s : EventState). record (passed s token) { doctype = s.doctype || is_doctype token.kind }) is)
other_at state token e (at_behind doctype is) =
    at_behind (doctype || is_doctype token.kind) (e ∙ ap (λ (s : EventState). record (passed s token) { doctype = s.doctype || is_doctype token.kind }) is)

-- character data
data_at : (state : EventState) (token : Token) (string : List ℕ) → state_behind state token ≡ joined state token string → IsAt state → IsAt (state_behind state token)
data_at state token string e (at_inside frame outer doctype run is named) =
    at_inside frame outer doctype (run_joined string (length token.bytes) run)
    (e ∙ ap (λ (s : EventState). joined s token string) is
    ∙ ap (λ (t : Bool). cond t (frames.at (frame ∷ outer) true doctype true (run_joined string (length token.bytes) run)) (passed (frames.at (frame ∷ outer) true doctype true run) token)) (inside_some frame outer)) named
data_at state token string e (at_before came doctype is) = at_before true doctype (e ∙ ap (λ (s : EventState). joined s token string) is)
data_at state token string e (at_behind doctype is) = at_behind doctype (e ∙ ap (λ (s : EventState). joined s token string) is)

-- a start tag, in whatever elements
start_at : (open_frames : List Frame) (came doctype started : Bool) (run : Option Run) (state : EventState) (token : Token) → IsText token → token.kind ≡ kinds.Start →
    state ≡ frames.at open_frames came doctype started run → AreNamed open_frames → IsAt (state_behind state token)
start_at open_frames came doctype started run state token text kind is named =
    at_inside (record { written = start_name token.bytes; own = own_bindings token }) open_frames doctype None
    (state_kind state token kinds.Start kind ∙ ap (λ (s : EventState). state_by_kind kinds.Start s token) is) (tag_named token text kind, named)

empty_at : (open_frames : List Frame) (came doctype started : Bool) (run : Option Run) (state : EventState) (token : Token) → token.kind ≡ kinds.Empty →
    state ≡ frames.at open_frames came doctype started run → AreNamed open_frames → IsAt (state_behind state token)
empty_at open_frames came doctype started run state token kind is named =
    at_open open_frames doctype (state_behind state token) (state_kind state token kinds.Empty kind ∙ ap (λ (s : EventState). state_by_kind kinds.Empty s token) is) named

-- an end tag without a fault has the name of the innermost element
end_named : (frame : Frame) (outer : List Frame) (doctype : Bool) (run : Option Run) (end : Token) → end.kind ≡ kinds.End →
    Clean (items_of_token (frames.at (frame ∷ outer) true doctype true run) end) → end_name end.bytes ≡ frame.written
unfolding end_items
end_named frame outer doctype run end kind h =
    by_test (bytes_eq frame.written (end_name end.bytes)) refl
  where
    none_left : (xs : List OpenElement) → Clean (flat_map (left_out faults.MissingEnd (token_span end)) xs) → xs ≡ []
    none_left [] c = refl
    none_left (x ∷ xs) c = faulty _ _ c

    left_open : {A : Type 0} (n : ℕ) → n < length (frames.elements_of (frame ∷ outer)) →
        Clean (flat_map (left_out faults.MissingEnd (token_span end)) (reverse (drop n (frames.elements_of (frame ∷ outer))))) → A
    left_open n less c =
        let all = frames.elements_of (frame ∷ outer) in
        let none : length (drop n all) ≡ 0 = sym (length-reverse (drop n all)) ∙ ap length (none_left (reverse (drop n all)) c) in
        absurd (omega (arith, none, less, length-drop n all))

    by_place : (found : Option ℕ) → ((n : ℕ) → found ≡ Some n → n < length (frames.elements_of outer)) →
        Clean (closing_items (frames.at (frame ∷ outer) true doctype true run) end found) → end_name end.bytes ≡ frame.written
    by_place None within c = faulty _ _ c
    by_place (Some n) within c =
        let less = within n refl in
        left_open (suc n) (omega (arith, less, length-append (frames.elements_of outer) (frames.open_of frame outer ∷ [])))
        (clean_second (run_items end.from run) (flat_map (left_out faults.MissingEnd (token_span end)) (reverse (drop (suc n) (frames.elements_of (frame ∷ outer)))))
        (clean_first _ (items.Event Leave (token_span end) ∷ []) c))

    by_test : (t : Bool) → bytes_eq frame.written (end_name end.bytes) ≡ t → end_name end.bytes ≡ frame.written
    by_test true e = sym ((bytes_eq-Decides frame.written (end_name end.bytes)).0 e)
    by_test false e =
        by_place (around_innermost (end_name end.bytes) (frames.elements_of outer))
        (λ n f. frames.around_within (end_name end.bytes) (frames.elements_of outer) n f)
        (subst (λ o. Clean (closing_items (frames.at (frame ∷ outer) true doctype true run) end o)) (frames.around_other frame outer (end_name end.bytes) e)
        (by_kind (frames.at (frame ∷ outer) true doctype true run) end kinds.End kind h))

-- an end tag
end_at : (state : EventState) (token : Token) → token.kind ≡ kinds.End → Clean (items_of_token state token) → IsAt state → IsAt (state_behind state token)
unfolding around_innermost
end_at state token kind clean (at_inside frame outer doctype run is named) =
    let here = frames.at (frame ∷ outer) true doctype true run in
    let matches = end_named frame outer doctype run token kind (subst (λ (s : EventState). Clean (items_of_token s token)) is clean) in
    at_open outer doctype (state_behind state token)
    (ap (λ (s : EventState). state_behind s token) is ∙ (end_told frame outer doctype run token kind matches).behind) named.1
end_at state token kind clean (at_before came doctype is) =
    at_before true doctype (state_kind state token kinds.End kind ∙ ap (λ (s : EventState). state_by_kind kinds.End s token) is)
end_at state token kind clean (at_behind doctype is) =
    at_behind doctype (state_kind state token kinds.End kind ∙ ap (λ (s : EventState). state_by_kind kinds.End s token) is)

-- a byte order mark
mark_at : (state : EventState) (token : Token) → token.kind ≡ kinds.Bom → IsAt state → IsAt (state_behind state token)
mark_at state token kind (at_inside frame outer doctype run is named) =
    at_inside frame outer doctype (run_passed (length token.bytes) run) (state_kind state token kinds.Bom kind ∙ ap (λ (s : EventState). state_by_kind kinds.Bom s token) is) named
mark_at state token kind (at_before came doctype is) = at_before came doctype (state_kind state token kinds.Bom kind ∙ ap (λ (s : EventState). state_by_kind kinds.Bom s token) is)
mark_at state token kind (at_behind doctype is) = at_behind doctype (state_kind state token kinds.Bom kind ∙ ap (λ (s : EventState). state_by_kind kinds.Bom s token) is)

start_any : (state : EventState) (token : Token) → IsText token → token.kind ≡ kinds.Start → IsAt state → IsAt (state_behind state token)
start_any state token text kind (at_inside frame outer doctype run is named) = start_at (frame ∷ outer) true doctype true run state token text kind is named
start_any state token text kind (at_before came doctype is) = start_at [] came doctype false None state token text kind is tt
start_any state token text kind (at_behind doctype is) = start_at [] true doctype true None state token text kind is tt

empty_any : (state : EventState) (token : Token) → token.kind ≡ kinds.Empty → IsAt state → IsAt (state_behind state token)
empty_any state token kind (at_inside frame outer doctype run is named) = empty_at (frame ∷ outer) true doctype true run state token kind is named
empty_any state token kind (at_before came doctype is) = empty_at [] came doctype false None state token kind is tt
empty_any state token kind (at_behind doctype is) = empty_at [] true doctype true None state token kind is tt

token_at : (kind : TokenKind) (state : EventState) (token : Token) → token.kind ≡ kind → IsText token → Clean (items_of_token state token) → IsAt state → IsAt (state_behind state token)
token_at kinds.Bom state token e text clean h = mark_at state token e h
token_at kinds.Decl state token e text clean h = other_at state token (state_kind state token kinds.Decl e) h
token_at kinds.Doctype state token e text clean h = other_at state token (state_kind state token kinds.Doctype e) h
token_at kinds.Comment state token e text clean h = other_at state token (state_kind state token kinds.Comment e) h
token_at kinds.Pi state token e text clean h = other_at state token (state_kind state token kinds.Pi e) h
token_at kinds.Bad state token e text clean h = other_at state token (state_kind state token kinds.Bad e) h
token_at kinds.Unclosed state token e text clean h = other_at state token (state_kind state token kinds.Unclosed e) h
token_at kinds.Cdata state token e text clean h = data_at state token (string_of Plain (cdata_content token.bytes)) (state_kind state token kinds.Cdata e) h
token_at kinds.Text state token e text clean h = data_at state token (string_of Text token.bytes) (state_kind state token kinds.Text e) h
token_at kinds.Start state token e text clean h = start_any state token text e h
token_at kinds.Empty state token e text clean h = empty_any state token e h
token_at kinds.End state token e text clean h = end_at state token e clean h

all_at : (front back : List Token) (state : EventState) → AllByRecursion IsText (front ++ back) → Clean (items_through state front) → IsAt state → IsAt (state_after state front)
unfolding state_after
all_at [] back state text clean h = h
all_at (token ∷ front) back state text clean h =
    all_at front back (state_behind state token) text.1 (clean_second (items_of_token state token) (items_through (state_behind state token) front) clean)
    (token_at token.kind state token refl text.0 (clean_first (items_of_token state token) (items_through (state_behind state token) front) clean) h)

-- as open elements
around_of : Frame → Around
around_of f = record { written = f.written; own = f.own }

arounds_of : List Frame → List Around
arounds_of [] = []
arounds_of (f ∷ fs) = around_of f ∷ arounds_of fs

back_again : (fs : List Frame) → frames_of (arounds_of fs) ≡ fs
unfolding arounds_of around_of
back_again [] = refl
back_again (f ∷ fs) = ap (λ (gs : List Frame). f ∷ gs) (back_again fs)

named_again : (fs : List Frame) → AreNamed fs → AllByRecursion (λ (around : Around). IsName around.written) (arounds_of fs)
unfolding arounds_of around_of
named_again [] h = tt
named_again (f ∷ fs) h = (h.0, named_again fs h.1)

reached : (state : EventState) → IsAt state → Reached state
unfolding arounds_of around_of
reached state (at_inside frame outer doctype run is named) =
    inside (around_of frame) (arounds_of outer) doctype run
    (is ∙ ap (λ (gs : List Frame). frames.at gs true doctype true run) (sym (back_again (frame ∷ outer))) ∙ state_is (around_of frame ∷ arounds_of outer) doctype run)
    (named_again (frame ∷ outer) named)
reached state (at_before came doctype is) = before came doctype is
reached state (at_behind doctype is) = behind doctype is

pub fronts_reach : FrontsReach
fronts_reach text front back u e clean =
    reached (state_after first_state front)
    (all_at front back first_state (subst (λ (ts : List Token). AllByRecursion IsText ts) e (tokens_are_text text u)) (record { none = clean }) (at_before false false refl))
