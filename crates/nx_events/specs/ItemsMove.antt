-- Items move with the text that they stand in.
use Rattle.std.proofs.Common.{◌≡◌, ℕ, zero, suc, ◌+◌, ◌-◌, ◌≤◌, Bool, true, false, cond, Option, Some, None, List, [], ◌∷◌, ◌++◌, length}
use Rattle.std.proofs.Common.{take, drop, map, reverse, refl, ap, sym, ◌∙◌, arith}
use Rattle.std.specs.Prelude.{◌&&◌, ◌||◌, ◌==◌, not}
use Rattle.std.specs.List.{flat_map, list_all}
use Rattle.std.specs.Str.{bytes_eq}
use Rattle.std.proofs.lemmas.List.{map-append}
use Rattle.nx_base.specs.Characters.{is_space}
use Rattle.nx_base.specs.declared.fault.Fault.{Fault}
use Rattle.nx_base.specs.declared.fault.Span.{Span}
use Rattle.nx_base.specs.declared.fault.Kind.{Kind}
use Rattle.nx_base.specs.declared.fault.Kind.TheVariants as kinds
use Rattle.nx_base.specs.declared.name.Name.{Name}
use Rattle.nx_base.specs.Shifting.{placed_span, placed_fault}
use Rattle.nx_base.specs.declared.token.Token.{Token}
use Rattle.nx_base.specs.declared.token.TokenKind.{TokenKind}
use Rattle.nx_base.specs.declared.token.TokenKind.TheVariants as tokens
use Rattle.nx_events.specs.declared.item.Item.{Item}
use Rattle.nx_events.specs.declared.item.Item.TheVariants as items
use Rattle.nx_events.specs.declared.item.Event.TheVariants.{Chars, TagEnd, Leave}
use Rattle.nx_events.specs.declared.flaw.Flaw.{Flaw}
use Rattle.nx_events.specs.declared.flaw.Resolved.{Resolved}
use Rattle.nx_events.specs.declared.flaw.Resolved.TheVariants.{Named, Flawed}
use Rattle.nx_events.specs.declared.reading.Reading.{Reading}
use Rattle.nx_events.specs.declared.reading.Reading.TheVariants.{Plain, Text, Value}
use Rattle.nx_events.specs.declared.scope.Binding.{Binding}
use Rattle.nx_events.specs.declared.state.EventState.{EventState}
use Rattle.nx_events.specs.declared.state.OpenElement.{OpenElement}
use Rattle.nx_events.specs.declared.state.Run.{Run}
use Rattle.nx_events.specs.declared.tag.Attribute.{Attribute}
use Rattle.nx_events.specs.Names.{is_qname}
use Rattle.nx_events.specs.Strings.{string_of, Piece, cut_by, piece_len, pieces}
use Rattle.nx_events.specs.Faults.{bare_fault, bare_faults, faults_as_items}
use Rattle.nx_events.specs.CharacterFaults.{once, is_bad_char, is_bad_text, piece_flaw, piece_faults, character_faults}
use Rattle.nx_events.specs.Markup.{is_bad_comment, is_bad_pi}
use Rattle.nx_events.specs.XmlDeclaration.{is_xml_declaration}
use Rattle.nx_events.specs.Tags.{begins_attribute, attribute_len, value_len, quote_place, attribute_at, front_attribute, front_len}
use Rattle.nx_events.specs.Tags.{attributes_from, tag_attributes, written_name, written_value, start_name, end_name}
use Rattle.nx_events.specs.Declarations.{declared_prefix, is_bad_binding, has_attribute, flaw_kind, with_name, flaw_faults}
use Rattle.nx_events.specs.Declarations.{binding_unless, declaration_flaw, is_declaration, faults_at, bindings_at, declaration_faults}
use Rattle.nx_events.specs.Declarations.{bindings}
use Rattle.nx_events.specs.Elements.{element_resolved, element_items, resolved_if_attribute, attribute_item, kept_name, attribute_items}
use Rattle.nx_events.specs.Runs.{run_back, run_items}
use Rattle.nx_events.specs.Items.{token_span, token_fault_if, is_inside, is_before, is_behind, declaration_items, doctype_items}
use Rattle.nx_events.specs.Items.{character_items, comment_items, pi_items, cdata_items, text_items, own_bindings, start_items}
use Rattle.nx_events.specs.Items.{empty_items, left_out, closing_items, end_items, around_innermost, items_by_kind, items_of_token}
use Rattle.nx_events.specs.Items.{items_at_end, opened, closed, state_by_kind, state_behind}
use Rattle.nx_events.specs.Moves.{placed_item, placed_token, ItemsMoveWithTokens, StatesHoldNoPlace, ItemsMoveWithEnd}

abbrev span_of : ℕ → ℕ → Span
span_of from to = record { from = from; to = to }

span_same : (a b c d : ℕ) → a ≡ c → b ≡ d → span_of a b ≡ span_of c d
span_same a b c d e f = ap (λ (x : ℕ). span_of x b) e ∙ ap (λ (x : ℕ). span_of c x) f

abbrev moved_piece : ℕ → Piece → Piece
moved_piece d piece = record { at = d + piece.at; bytes = piece.bytes }

pieces_move : (len : List ℕ → ℕ) (n d at : ℕ) (xs : List ℕ) → cut_by len n (d + at) xs ≡ map (moved_piece d) (cut_by len n at xs)
unfolding cut_by
pieces_move len n d at [] = refl
pieces_move len (suc n) d at (x ∷ xs) =
    let on : d + at + 1 ≡ d + (at + 1) = omega arith in
    ap (λ (k : ℕ). cut_by len n k xs) on ∙ pieces_move len n d (at + 1) xs
pieces_move len zero d at (x ∷ xs) =
    let on : d + at + 1 ≡ d + (at + 1) = omega arith in
    ap (λ (ys : List Piece). record { at = d + at; bytes = take (len (x ∷ xs)) (x ∷ xs) } ∷ ys)
    (ap (λ (k : ℕ). cut_by len (len (x ∷ xs) - 1) k xs) on ∙ pieces_move len (len (x ∷ xs) - 1) d (at + 1) xs)

piece_moves : (d : ℕ) (reading : Reading) (piece : Piece) → piece_faults reading (moved_piece d piece)
    ≡ map (placed_fault d) (piece_faults reading piece)
piece_moves d reading piece = by_flaw (piece_flaw reading piece.bytes)
  where
    by_flaw : (flaw : Option Kind) → bare_faults flaw (span_of (d + piece.at) (d + piece.at + length piece.bytes))
        ≡ map (placed_fault d) (bare_faults flaw (span_of piece.at (piece.at + length piece.bytes)))
    by_flaw None = refl
    by_flaw (Some kind) =
        let on : d + piece.at + length piece.bytes ≡ d + (piece.at + length piece.bytes) = omega arith in
        ap (λ (k : ℕ). bare_fault kind (span_of (d + piece.at) k) ∷ []) on

all_pieces_move : (d : ℕ) (reading : Reading) (ps : List Piece) → flat_map (piece_faults reading) (map (moved_piece d) ps)
    ≡ map (placed_fault d) (flat_map (piece_faults reading) ps)
all_pieces_move d reading [] = refl
all_pieces_move d reading (p ∷ ps) =
    ap (λ (ys : List Fault). ys ++ flat_map (piece_faults reading) (map (moved_piece d) ps)) (piece_moves d reading p)
    ∙ ap (λ (ys : List Fault). map (placed_fault d) (piece_faults reading p) ++ ys) (all_pieces_move d reading ps)
    ∙ sym (map-append (placed_fault d) (piece_faults reading p) (flat_map (piece_faults reading) ps))

kept_moves : (d : ℕ) (t : Bool) (f : Fault) → cond t [] (placed_fault d f ∷ []) ≡ map (placed_fault d) (cond t [] (f ∷ []))
kept_moves d true f = refl
kept_moves d false f = refl

once_moves : (d : ℕ) (told : Bool) (such : Kind → Bool) (fs : List Fault) → once told such (map (placed_fault d) fs)
    ≡ map (placed_fault d) (once told such fs)
unfolding once
once_moves d told such [] = refl
once_moves d told such (f ∷ fs) =
    ap (λ (ys : List Fault). ys ++ once (told || such f.kind) such (map (placed_fault d) fs)) (kept_moves d (told && such f.kind) f)
    ∙ ap (λ (ys : List Fault). map (placed_fault d) (cond (told && such f.kind) [] (f ∷ [])) ++ ys)
    (once_moves d (told || such f.kind) such fs)
    ∙ sym (map-append (placed_fault d) (cond (told && such f.kind) [] (f ∷ [])) (once (told || such f.kind) such fs))

pub characters_move : (d : ℕ) (reading : Reading) (at : ℕ) (bytes : List ℕ) → character_faults reading (d + at) bytes
    ≡ map (placed_fault d) (character_faults reading at bytes)
unfolding character_faults
characters_move d reading at bytes =
    let moved = ap (flat_map (piece_faults reading)) (pieces_move (piece_len reading) 0 d at bytes)
    ∙ all_pieces_move d reading (pieces reading at bytes) in
    ap (λ (fs : List Fault). once false is_bad_char (once false is_bad_text fs)) moved
    ∙ ap (once false is_bad_char) (once_moves d false is_bad_text (flat_map (piece_faults reading) (pieces reading at bytes)))
    ∙ once_moves d false is_bad_char (once false is_bad_text (flat_map (piece_faults reading) (pieces reading at bytes)))

pub as_items_move : (d : ℕ) (fs : List Fault) → faults_as_items (map (placed_fault d) fs) ≡ map (placed_item d) (faults_as_items fs)
as_items_move d [] = refl
as_items_move d (f ∷ fs) = ap (λ (ys : List Item). items.Fault (placed_fault d f) ∷ ys) (as_items_move d fs)

-- attributes
abbrev pub moved_attribute : ℕ → Attribute → Attribute
moved_attribute d it = record { name = it.name; string = it.string; span = placed_span d it.span; value = placed_span d it.value }

front_moves : (d at : ℕ) (bytes : List ℕ) → front_attribute (d + at) bytes ≡ map (moved_attribute d) (front_attribute at bytes)
unfolding front_attribute attribute_at
front_moves d at bytes = by_test (begins_attribute bytes)
  where
    make : Span → Span → List Attribute
    make span value = record { name = written_name bytes; string = string_of Value (written_value bytes); span = span; value = value } ∷ []

    by_test : (t : Bool) → cond t (attribute_at (d + at) bytes ∷ []) [] ≡ map (moved_attribute d) (cond t (attribute_at at bytes ∷ []) [])
    by_test false = refl
    by_test true =
        let q = quote_place bytes in
        let v = value_len bytes in
        let n = attribute_len bytes in
        ap (λ (s : Span). make s (span_of (d + at + q + 1) (d + at + q + 1 + v)))
        (span_same (d + at) (d + at + n) (d + at) (d + (at + n)) refl (omega arith))
        ∙ ap (λ (s : Span). make (span_of (d + at) (d + (at + n))) s)
        (span_same (d + at + q + 1) (d + at + q + 1 + v) (d + (at + q + 1)) (d + (at + q + 1 + v)) (omega arith) (omega arith))

pub attributes_move : (n d at : ℕ) (xs : List ℕ) → attributes_from n (d + at) xs ≡ map (moved_attribute d) (attributes_from n at xs)
unfolding attributes_from
attributes_move n d at [] = refl
attributes_move (suc n) d at (x ∷ xs) =
    let on : d + at + 1 ≡ d + (at + 1) = omega arith in
    ap (λ (k : ℕ). attributes_from n k xs) on ∙ attributes_move n d (at + 1) xs
attributes_move zero d at (x ∷ xs) =
    let on : d + at + 1 ≡ d + (at + 1) = omega arith in
    let n = front_len (x ∷ xs) - 1 in
    ap (λ (ys : List Attribute). ys ++ attributes_from n (d + at + 1) xs) (front_moves d at (x ∷ xs))
    ∙ ap (λ (ys : List Attribute). map (moved_attribute d) (front_attribute at (x ∷ xs)) ++ ys)
    (ap (λ (k : ℕ). attributes_from n k xs) on ∙ attributes_move n d (at + 1) xs)
    ∙ sym (map-append (moved_attribute d) (front_attribute at (x ∷ xs)) (attributes_from n (at + 1) xs))

tag_moves : (d at : ℕ) (bytes : List ℕ) → tag_attributes (d + at) bytes ≡ map (moved_attribute d) (tag_attributes at bytes)
unfolding tag_attributes
tag_moves d at bytes =
    let n = 1 + length (start_name bytes) in
    let on : d + at + n ≡ d + (at + n) = omega arith in
    ap (λ (k : ℕ). attributes_from 0 k (drop n bytes)) on ∙ attributes_move 0 d (at + n) (drop n bytes)

has_moves : (d : ℕ) (before : List Attribute) (name : List ℕ) → has_attribute (map (moved_attribute d) before) name
    ≡ has_attribute before name
has_moves d [] name = refl
has_moves d (x ∷ xs) name = ap (λ (t : Bool). bytes_eq x.name name || t) (has_moves d xs name)

flaw_stays : (d : ℕ) (before : List Attribute) (it : Attribute)
    → flaw_kind (map (moved_attribute d) before) (moved_attribute d it) ≡ flaw_kind before it
unfolding flaw_kind
flaw_stays d before it =
    ap (λ (t : Bool). cond t (Some kinds.DuplicateAttribute)
    (cond (not (is_qname it.name)) (Some kinds.BadName)
    (cond (is_bad_binding (declared_prefix it.name) it.string) (Some kinds.BadBinding) None))) (has_moves d before it.name)

with_flaw : (d : ℕ) (t : Bool) (span : Span) (flaw : Option Flaw) → cond t (flaw_faults (placed_span d span) flaw) []
    ≡ map (placed_fault d) (cond t (flaw_faults span flaw) [])
with_flaw d true span None = refl
with_flaw d true span (Some flaw) = refl
with_flaw d false span flaw = refl

faults_at_move : (d : ℕ) (before : List Attribute) (it : Attribute)
    → faults_at (map (moved_attribute d) before) (moved_attribute d it) ≡ map (placed_fault d) (faults_at before it)
unfolding faults_at
faults_at_move d before it =
    ap (λ (k : Option Kind). cond (is_declaration it.name) (flaw_faults (placed_span d it.span) (with_name it.name k)) [])
    (flaw_stays d before it)
    ∙ with_flaw d (is_declaration it.name) it.span (declaration_flaw before it)

bindings_at_stay : (d : ℕ) (before : List Attribute) (it : Attribute)
    → bindings_at (map (moved_attribute d) before) (moved_attribute d it) ≡ bindings_at before it
unfolding bindings_at
bindings_at_stay d before it =
    ap (λ (k : Option Kind). cond (is_declaration it.name) (binding_unless (moved_attribute d it) (with_name it.name k)) [])
    (flaw_stays d before it)
    ∙ by_flaw (declaration_flaw before it)
  where
    by_flaw : (flaw : Option Flaw) → cond (is_declaration it.name) (binding_unless (moved_attribute d it) flaw) []
        ≡ cond (is_declaration it.name) (binding_unless it flaw) []
    by_flaw None = refl
    by_flaw (Some flaw) = refl

one_more_before : (d : ℕ) (before : List Attribute) (it : Attribute)
    → map (moved_attribute d) before ++ moved_attribute d it ∷ [] ≡ map (moved_attribute d) (before ++ it ∷ [])
one_more_before d before it = sym (map-append (moved_attribute d) before (it ∷ []))

pub declared_faults_move : (d : ℕ) (before xs : List Attribute)
    → declaration_faults (map (moved_attribute d) before) (map (moved_attribute d) xs) ≡ map (placed_fault d) (declaration_faults before xs)
unfolding declaration_faults
declared_faults_move d before [] = refl
declared_faults_move d before (x ∷ xs) =
    ap (λ (ys : List Fault). ys ++ declaration_faults (map (moved_attribute d) before ++ moved_attribute d x ∷ [])
    (map (moved_attribute d) xs)) (faults_at_move d before x)
    ∙ ap (λ (ys : List Fault). map (placed_fault d) (faults_at before x) ++ ys)
    (ap (λ (ys : List Attribute). declaration_faults ys (map (moved_attribute d) xs))
    (one_more_before d before x) ∙ declared_faults_move d (before ++ x ∷ []) xs)
    ∙ sym (map-append (placed_fault d) (faults_at before x) (declaration_faults (before ++ x ∷ []) xs))

pub declared_pairs_stay : (d : ℕ) (before xs : List Attribute)
    → bindings (map (moved_attribute d) before) (map (moved_attribute d) xs) ≡ bindings before xs
unfolding bindings
declared_pairs_stay d before [] = refl
declared_pairs_stay d before (x ∷ xs) =
    ap (λ (ys : List Binding). ys ++ bindings (map (moved_attribute d) before ++ moved_attribute d x ∷ [])
    (map (moved_attribute d) xs)) (bindings_at_stay d before x)
    ∙ ap (λ (ys : List Binding). bindings_at before x ++ ys)
    (ap (λ (ys : List Attribute). bindings ys (map (moved_attribute d) xs))
    (one_more_before d before x) ∙ declared_pairs_stay d (before ++ x ∷ []) xs)

own_bindings_stay : (d : ℕ) (token : Token) → own_bindings (placed_token d token) ≡ own_bindings token
own_bindings_stay d token = ap (bindings []) (tag_moves d token.from token.bytes) ∙ declared_pairs_stay d []
    (tag_attributes token.from token.bytes)

pub attribute_items_move : (d : ℕ) (scope : List Binding) (kept : List Name) (xs : List Attribute)
    → attribute_items scope kept (map (moved_attribute d) xs) ≡ map (placed_item d) (attribute_items scope kept xs)
unfolding attribute_items resolved_if_attribute
attribute_items_move d scope kept [] = refl
attribute_items_move d scope kept (x ∷ xs) =
    let r = resolved_if_attribute scope kept x in
    ap (λ (ys : List Item). ys ++ attribute_items scope (kept ++ kept_name r) (map (moved_attribute d) xs)) (by_result r)
    ∙ ap (λ (ys : List Item). map (placed_item d) (attribute_item x r) ++ ys) (attribute_items_move d scope (kept ++ kept_name r) xs)
    ∙ sym (map-append (placed_item d) (attribute_item x r) (attribute_items scope (kept ++ kept_name r) xs))
  where
    by_result : (r : Option Resolved) → attribute_item (moved_attribute d x) r ≡ map (placed_item d) (attribute_item x r)
    by_result None = refl
    by_result (Some (Named name)) = refl
    by_result (Some (Flawed flaw)) = refl

element_moves : (d : ℕ) (span : Span) (r : Resolved) → element_items (placed_span d span) r ≡ map (placed_item d) (element_items span r)
element_moves d span (Named name) = refl
element_moves d span (Flawed flaw) = refl

pub run_moves : (d at : ℕ) (run : Option Run) → run_back run ≤ at → run_items (d + at) run ≡ map (placed_item d) (run_items at run)
unfolding run_items
run_moves d at None h = refl
run_moves d at (Some run) h = by_test (length run.string == 0)
  where
    by_test : (t : Bool) → cond t [] (items.Event (Chars run.string) (span_of (d + at - (run.gap + run.len)) (d + at - run.gap))
        ∷ []) ≡ map (placed_item d) (cond t [] (items.Event (Chars run.string) (span_of (at - (run.gap + run.len)) (at - run.gap)) ∷ []))
    by_test true = refl
    by_test false = ap (λ (s : Span). items.Event (Chars run.string) s ∷ [])
        (span_same (d + at - (run.gap + run.len)) (d + at - run.gap) (d + (at - (run.gap + run.len))) (d + (at - run.gap))
        (omega arith) (omega arith))

token_span_moves : (d : ℕ) (token : Token) → token_span (placed_token d token) ≡ placed_span d (token_span token)
token_span_moves d token = span_same (d + token.from) (d + token.from + length token.bytes) (d + token.from)
    (d + (token.from + length token.bytes)) refl (omega arith)

token_fault_moves : (d : ℕ) (t : Bool) (kind : Kind) (token : Token) → token_fault_if t kind (placed_token d token)
    ≡ map (placed_item d) (token_fault_if t kind token)
token_fault_moves d false kind token = refl
token_fault_moves d true kind token = ap (λ (s : Span). items.Fault (bare_fault kind s) ∷ []) (token_span_moves d token)

left_out_moves : (d : ℕ) (kind : Kind) (span : Span) (xs : List OpenElement) → flat_map (left_out kind (placed_span d span)) xs
    ≡ map (placed_item d) (flat_map (left_out kind span) xs)
left_out_moves d kind span [] = refl
left_out_moves d kind span (x ∷ xs) = ap
    (λ (ys : List Item). items.Fault
    (record { span = placed_span d span; kind = kind; detail = x.written }) ∷ items.Event Leave (placed_span d span) ∷ ys)
    (left_out_moves d kind span xs)

joined_move : (d : ℕ) (xs ys zs ws : List Item) → xs ≡ map (placed_item d) zs → ys ≡ map (placed_item d) ws → xs ++ ys
    ≡ map (placed_item d) (zs ++ ws)
joined_move d xs ys zs ws e f = ap (λ (us : List Item). us ++ ys) e ∙ ap (λ (us : List Item). map (placed_item d) zs ++ us) f
    ∙ sym (map-append (placed_item d) zs ws)

character_faults_move : (d : ℕ) (reading : Reading) (token : Token)
    → faults_as_items (character_faults reading (d + token.from) token.bytes)
    ≡ map (placed_item d) (faults_as_items (character_faults reading token.from token.bytes))
character_faults_move d reading token = ap faults_as_items (characters_move d reading token.from token.bytes)
    ∙ as_items_move d (character_faults reading token.from token.bytes)

character_items_move : (d : ℕ) (reading : Reading) (t : Bool) (kind : Kind) (token : Token)
    → character_items reading t kind (placed_token d token) ≡ map (placed_item d) (character_items reading t kind token)
character_items_move d reading t kind token =
    joined_move d _ _ (faults_as_items (character_faults reading token.from token.bytes)) (token_fault_if t kind token)
    (character_faults_move d reading token) (token_fault_moves d t kind token)

event_moves : (d : ℕ) (token : Token) → items.Event Leave (token_span (placed_token d token)) ∷ []
    ≡ map (placed_item d) (items.Event Leave (token_span token) ∷ [])
event_moves d token = ap (λ (s : Span). items.Event Leave s ∷ []) (token_span_moves d token)

tag_end_moves : (d : ℕ) (token : Token) → items.Event TagEnd (token_span (placed_token d token)) ∷ []
    ≡ map (placed_item d) (items.Event TagEnd (token_span token) ∷ [])
tag_end_moves d token = ap (λ (s : Span). items.Event TagEnd s ∷ []) (token_span_moves d token)

declaration_moves : (d : ℕ) (state : EventState) (token : Token) → declaration_items state (placed_token d token)
    ≡ map (placed_item d) (declaration_items state token)
unfolding declaration_items
declaration_moves d state token = by_test state.came
  where
    by_test : (t : Bool) → cond t (items.Fault (bare_fault kinds.Misplaced (token_span (placed_token d token))) ∷ [])
        (token_fault_if (not (is_xml_declaration token.bytes)) kinds.BadDecl (placed_token d token))
        ≡ map (placed_item d) (cond t (items.Fault (bare_fault kinds.Misplaced (token_span token)) ∷ [])
        (token_fault_if (not (is_xml_declaration token.bytes)) kinds.BadDecl token))
    by_test true = ap (λ (s : Span). items.Fault (bare_fault kinds.Misplaced s) ∷ []) (token_span_moves d token)
    by_test false = token_fault_moves d (not (is_xml_declaration token.bytes)) kinds.BadDecl token

start_moves : (d : ℕ) (state : EventState) (token : Token) → run_back state.run ≤ token.from
    → start_items state (placed_token d token) ≡ map (placed_item d) (start_items state token)
unfolding start_items
start_moves d state token h =
    let attributes = tag_attributes token.from token.bytes in
    let there = tag_attributes (d + token.from) token.bytes in
    let scope = state.scope ++ own_bindings token in
    let scope_there = state.scope ++ own_bindings (placed_token d token) in
    let r = element_resolved (is_behind state) scope (start_name token.bytes) in
    let same_scope = ap (λ (own : List Binding). state.scope ++ own) (own_bindings_stay d token) in
    let faults : faults_as_items (declaration_faults [] there) ≡ map (placed_item d) (faults_as_items (declaration_faults [] attributes)) =
    ap (λ (xs : List Attribute). faults_as_items (declaration_faults [] xs)) (tag_moves d token.from token.bytes)
    ∙ ap faults_as_items (declared_faults_move d [] attributes) ∙ as_items_move d (declaration_faults [] attributes) in
    let element : element_items (token_span (placed_token d token))
    (element_resolved (is_behind state) scope_there (start_name token.bytes)) ≡ map (placed_item d)
    (element_items (token_span token) r) =
    ap (λ (sc : List Binding). element_items (token_span (placed_token d token))
    (element_resolved (is_behind state) sc (start_name token.bytes))) same_scope
    ∙ ap (λ (s : Span). element_items s r) (token_span_moves d token) ∙ element_moves d (token_span token) r in
    let others : attribute_items scope_there [] there ≡ map (placed_item d) (attribute_items scope [] attributes) =
    ap (λ (sc : List Binding). attribute_items sc [] there) same_scope ∙ ap (attribute_items scope []) (tag_moves d token.from token.bytes)
    ∙ attribute_items_move d scope [] attributes in
    let x1 = joined_move d _ _ (run_items token.from state.run)
    (faults_as_items (character_faults Value token.from token.bytes)) (run_moves d token.from state.run h)
    (character_faults_move d Value token) in
    let x2 = joined_move d _ _ _ (faults_as_items (declaration_faults [] attributes)) x1 faults in
    let x3 = joined_move d _ _ _ (element_items (token_span token) r) x2 element in
    let x4 = joined_move d _ _ _ (attribute_items scope [] attributes) x3 others in
    joined_move d _ _ _ (items.Event TagEnd (token_span token) ∷ []) x4 (tag_end_moves d token)

closing_moves : (d : ℕ) (state : EventState) (token : Token) (n : Option ℕ) → run_back state.run ≤ token.from
    → closing_items state (placed_token d token) n ≡ map (placed_item d) (closing_items state token n)
closing_moves d state token None h = ap
    (λ (s : Span). items.Fault (record { span = s; kind = kinds.ExtraEnd; detail = end_name token.bytes }) ∷ []) (token_span_moves d token)
closing_moves d state token (Some n) h =
    let inner = reverse (drop (suc n) state.elements) in
    let left : flat_map (left_out kinds.MissingEnd (token_span (placed_token d token))) inner ≡ map (placed_item d)
    (flat_map (left_out kinds.MissingEnd (token_span token)) inner) =
    ap (λ (s : Span). flat_map (left_out kinds.MissingEnd s) inner)
    (token_span_moves d token) ∙ left_out_moves d kinds.MissingEnd (token_span token) inner in
    let x1 = joined_move d _ _ (run_items token.from state.run)
    (flat_map (left_out kinds.MissingEnd (token_span token)) inner) (run_moves d token.from state.run h) left in
    joined_move d _ _ _ (items.Event Leave (token_span token) ∷ []) x1 (event_moves d token)

by_kind : (d : ℕ) (kind : TokenKind) (state : EventState) (token : Token) → run_back state.run ≤ token.from
    → items_by_kind kind state (placed_token d token) ≡ map (placed_item d) (items_by_kind kind state token)
unfolding doctype_items comment_items pi_items cdata_items text_items empty_items end_items
by_kind d tokens.Bom state token h = refl
by_kind d tokens.Decl state token h = declaration_moves d state token
by_kind d tokens.Doctype state token h = token_fault_moves d (state.started || state.doctype) kinds.Misplaced token
by_kind d tokens.Comment state token h = character_items_move d Plain (is_bad_comment token.bytes) kinds.BadComment token
by_kind d tokens.Pi state token h = character_items_move d Plain (is_bad_pi token.bytes) kinds.BadPi token
by_kind d tokens.Cdata state token h = character_items_move d Plain (not (is_inside state)) kinds.TextOutside token
by_kind d tokens.Text state token h = character_items_move d Text
    (not (is_inside state) && not (list_all is_space token.bytes)) kinds.TextOutside token
by_kind d tokens.Bad state token h = token_fault_moves d true kinds.BadMarkup token
by_kind d tokens.Unclosed state token h = token_fault_moves d true kinds.Unclosed token
by_kind d tokens.Start state token h = start_moves d state token h
by_kind d tokens.Empty state token h = joined_move d _ _ (start_items state token) (items.Event Leave (token_span token) ∷ [])
    (start_moves d state token h) (event_moves d token)
by_kind d tokens.End state token h = closing_moves d state token (around_innermost (end_name token.bytes) state.elements) h

pub items_move_with_tokens : ItemsMoveWithTokens
unfolding items_of_token
items_move_with_tokens d state token h = by_kind d token.kind state token h

opened_stays : (d : ℕ) (state : EventState) (token : Token) → opened state (placed_token d token) ≡ opened state token
opened_stays d state token =
    ap (λ (own : List Binding). record state {
      elements = state.elements ++ (record { written = start_name token.bytes; outer = length state.scope }) ∷ [];
      scope = state.scope ++ own;
      came = true;
      started = true;
      run = None;
    }) (own_bindings_stay d token)

state_stays : (d : ℕ) (kind : TokenKind) (state : EventState) (token : Token) → state_by_kind kind state (placed_token d token)
    ≡ state_by_kind kind state token
state_stays d tokens.Start state token = opened_stays d state token
state_stays d tokens.End state token = closed_stays (around_innermost (end_name token.bytes) state.elements)
  where
    closed_stays : (n : Option ℕ) → closed state (placed_token d token) n ≡ closed state token n
    closed_stays None = refl
    closed_stays (Some n) = refl
state_stays d _ state token = refl

pub states_hold_no_place : StatesHoldNoPlace
unfolding state_behind
states_hold_no_place d state token = state_stays d token.kind state token

pub items_move_with_end : ItemsMoveWithEnd
unfolding items_at_end
items_move_with_end d state len h =
    let span : Span = record { from = len; to = len } in
    let inner = reverse state.elements in
    let x1 = joined_move d _ _ (run_items len state.run) (flat_map (left_out kinds.UnclosedElement span) inner)
    (run_moves d len state.run h) (left_out_moves d kinds.UnclosedElement span inner) in
    joined_move d _ _ _ (cond (is_before state) (items.Fault (bare_fault kinds.NoRoot span) ∷ []) []) x1 (by_test (is_before state))
  where
    by_test : (t : Bool) → cond t (items.Fault (bare_fault kinds.NoRoot (record { from = d + len; to = d + len })) ∷ []) []
        ≡ map (placed_item d) (cond t (items.Fault (bare_fault kinds.NoRoot (record { from = len; to = len })) ∷ []) [])
    by_test true = refl
    by_test false = refl
