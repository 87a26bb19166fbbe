-- The spans of items lie where they should.
use Rattle.std.proofs.Common.{◌≡◌, ℕ, zero, suc, ◌+◌, ◌-◌, ◌≤◌, Bool, true, false, cond, Option, Some, None, List, [], ◌∷◌, ◌++◌, length}
use Rattle.std.proofs.Common.{take, drop, reverse, refl, arith}
use Rattle.std.proofs.lemmas.Bool.{false≢true}
use Rattle.std.specs.Prelude.{slice_index, ◌&&◌, ◌||◌, ◌==◌, not, nat_le}
use Rattle.std.specs.List.{AllByRecursion, flat_map, list_all}
use Rattle.std.proofs.lemmas.Bool.Decides.{nat_tests}
use Rattle.std.proofs.lemmas.Grind.{common_steps}
use Rattle.nx_base.specs.declared.fault.Fault.{Fault}
use Rattle.nx_base.specs.declared.fault.Span.{Span}
use Rattle.nx_base.specs.declared.fault.Kind.{Kind}
use Rattle.nx_base.specs.declared.fault.Kind.TheVariants as kinds
use Rattle.nx_base.specs.declared.name.Name.{Name}
use Rattle.nx_base.specs.declared.token.Token.{Token}
use Rattle.nx_base.specs.declared.token.TokenKind.{TokenKind}
use Rattle.nx_base.specs.declared.token.TokenKind.TheVariants as tokens
use Rattle.nx_events.specs.declared.item.Item.{Item}
use Rattle.nx_events.specs.declared.item.Item.TheVariants as items
use Rattle.nx_events.specs.declared.item.Event.TheVariants.{Chars, TagEnd, Leave}
use Rattle.nx_events.specs.declared.flaw.Flaw.{Flaw}
use Rattle.nx_events.specs.declared.flaw.Resolved.{Resolved}
use Rattle.nx_events.specs.declared.flaw.Resolved.TheVariants.{Named, Flawed}
use Rattle.nx_events.specs.declared.reading.Reading.{Reading}
use Rattle.nx_events.specs.declared.reading.Reading.TheVariants.{Plain, Text, Value}
use Rattle.nx_events.specs.declared.scope.Binding.{Binding}
use Rattle.nx_events.specs.declared.state.EventState.{EventState}
use Rattle.nx_events.specs.declared.state.OpenElement.{OpenElement}
use Rattle.nx_events.specs.declared.state.Run.{Run}
use Rattle.nx_events.specs.declared.tag.Attribute.{Attribute}
use Rattle.nx_events.specs.Strings.{Piece, cut_by, piece_len, pieces}
use Rattle.nx_events.specs.Faults.{bare_fault, bare_faults, faults_as_items}
use Rattle.nx_events.specs.CharacterFaults.{once, is_bad_char, is_bad_text, piece_flaw, piece_faults, character_faults}
use Rattle.nx_events.specs.Markup.{is_bad_comment, is_bad_pi}
use Rattle.nx_events.specs.Tags.{is_between, begins_attribute, attribute_len, attribute_at, front_attribute, front_len, attributes_from}
use Rattle.nx_events.specs.Tags.{tag_attributes, written_name, start_name, end_name}
use Rattle.nx_events.specs.Declarations.{flaw_faults, declaration_flaw, is_declaration, faults_at, declaration_faults}
use Rattle.nx_events.specs.Elements.{element_resolved, element_items, resolved_if_attribute, attribute_item, kept_name, attribute_items}
use Rattle.nx_events.specs.Runs.{run_back, run_items}
use Rattle.nx_events.specs.Items.{token_span, token_fault_if, is_inside, is_before, is_behind, declaration_items, doctype_items}
use Rattle.nx_events.specs.Items.{character_items, comment_items, pi_items, cdata_items, text_items, own_bindings, start_items}
use Rattle.nx_events.specs.Items.{empty_items, left_out, closing_items, end_items, around_innermost, items_by_kind, items_of_token}
use Rattle.nx_events.specs.Items.{items_at_end}
use Rattle.nx_events.specs.Spans.{IsSpanWithin, item_span, AreWithin, ItemsLieInTokens, ItemsLieInText}
use Rattle.nx_events.specs.XmlDeclaration.{is_xml_declaration}
use Rattle.nx_base.specs.Characters.{is_space}

abbrev FaultsWithin : ℕ → ℕ → List Fault → Type 0
FaultsWithin from to all = AllByRecursion (λ (fault : Fault). IsSpanWithin from to fault.span) all

-- wider bounds
wider : (a b c d : ℕ) (span : Span) → c ≤ a → b ≤ d → IsSpanWithin a b span → IsSpanWithin c d span
wider a b c d span h k w = record { ordered = w.ordered; begins = omega (arith, w.begins); ends = omega (arith, w.ends) }

all_wider : (a b c d : ℕ) (xs : List Item) → c ≤ a → b ≤ d → AreWithin a b xs → AreWithin c d xs
all_wider a b c d [] h k w = tt
all_wider a b c d (x ∷ xs) h k w = (wider a b c d (item_span x) h k w.0, all_wider a b c d xs h k w.1)

both : (a b : ℕ) (xs ys : List Item) → AreWithin a b xs → AreWithin a b ys → AreWithin a b (xs ++ ys)
both a b [] ys h k = k
both a b (x ∷ xs) ys h k = (h.0, both a b xs ys h.1 k)

both_faults : (a b : ℕ) (xs ys : List Fault) → FaultsWithin a b xs → FaultsWithin a b ys → FaultsWithin a b (xs ++ ys)
both_faults a b [] ys h k = k
both_faults a b (x ∷ xs) ys h k = (h.0, both_faults a b xs ys h.1 k)

as_items : (a b : ℕ) (xs : List Fault) → FaultsWithin a b xs → AreWithin a b (faults_as_items xs)
as_items a b [] h = tt
as_items a b (x ∷ xs) h = (h.0, as_items a b xs h.1)

kept_or_not : (a b : ℕ) (t : Bool) (f : Fault) → IsSpanWithin a b f.span → FaultsWithin a b (cond t [] (f ∷ []))
kept_or_not a b true f h = tt
kept_or_not a b false f h = (h, tt)

within_once : (a b : ℕ) (told : Bool) (such : Kind → Bool) (xs : List Fault) → FaultsWithin a b xs → FaultsWithin a b (once told such xs)
unfolding once
within_once a b told such [] h = tt
within_once a b told such (x ∷ xs) h =
    both_faults a b (cond (told && such x.kind) [] (x ∷ [])) (once (told || such x.kind) such xs)
    (kept_or_not a b (told && such x.kind) x h.0) (within_once a b (told || such x.kind) such xs h.1)

piece_within : (a b : ℕ) (reading : Reading) (piece : Piece) → a ≤ piece.at → piece.at + length piece.bytes ≤ b
    → FaultsWithin a b (piece_faults reading piece)
piece_within a b reading piece h k = by_flaw (piece_flaw reading piece.bytes)
  where
    by_flaw : (flaw : Option Kind) → FaultsWithin a b (bare_faults flaw (record { from = piece.at; to = piece.at + length piece.bytes }))
    by_flaw None = tt
    by_flaw (Some kind) = (record { ordered = omega arith; begins = h; ends = k }, tt)

pieces_within : (a b : ℕ) (reading : Reading) (n at : ℕ) (xs : List ℕ) → a ≤ at → at + length xs ≤ b
    → FaultsWithin a b (flat_map (piece_faults reading) (cut_by (piece_len reading) n at xs))
unfolding cut_by
pieces_within a b reading n at [] h k = tt
pieces_within a b reading (suc n) at (x ∷ xs) h k = pieces_within a b reading n (at + 1) xs (omega arith) (omega arith)
pieces_within a b reading zero at (x ∷ xs) h k =
    let piece : Piece = record { at = at; bytes = take (piece_len reading (x ∷ xs)) (x ∷ xs) } in
    let short : length (take (piece_len reading (x ∷ xs)) (x ∷ xs)) ≤ suc (length xs) = front_short (piece_len reading (x ∷ xs)) (x ∷ xs) in
    both_faults a b (piece_faults reading piece)
    (flat_map (piece_faults reading) (cut_by (piece_len reading) (piece_len reading (x ∷ xs) - 1) (at + 1) xs))
    (piece_within a b reading piece h (omega arith))
    (pieces_within a b reading (piece_len reading (x ∷ xs) - 1) (at + 1) xs (omega arith) (omega arith))
  where
    front_short : (n : ℕ) (ys : List ℕ) → length (take n ys) ≤ length ys
    front_short n ys = grind (arith, common_steps)

characters_within : (a b : ℕ) (reading : Reading) (at : ℕ) (bytes : List ℕ) → a ≤ at → at + length bytes ≤ b
    → FaultsWithin a b (character_faults reading at bytes)
unfolding character_faults
characters_within a b reading at bytes h k =
    within_once a b false is_bad_char (once false is_bad_text (flat_map (piece_faults reading) (pieces reading at bytes)))
    (within_once a b false is_bad_text (flat_map (piece_faults reading) (pieces reading at bytes))
    (pieces_within a b reading 0 at bytes h k))

-- attributes
pub record IsAttributeWithin (a b : ℕ) (it : Attribute) : Type 0 where
  pub span : IsSpanWithin a b it.span
  pub value : IsSpanWithin a b it.value

abbrev AttributesWithin : ℕ → ℕ → List Attribute → Type 0
AttributesWithin a b all = AllByRecursion (IsAttributeWithin a b) all

wider_attributes : (a b c d : ℕ) (xs : List Attribute) → c ≤ a → b ≤ d → AllByRecursion (IsAttributeWithin a b) xs
    → AllByRecursion (IsAttributeWithin c d) xs
wider_attributes a b c d [] h k w = tt
wider_attributes a b c d (x ∷ xs) h k w =
    (record { span = wider a b c d x.span h k w.0.span; value = wider a b c d x.value h k w.0.value }, wider_attributes a b c d xs h k w.1)

both_attributes : (a b : ℕ) (xs ys : List Attribute) → AttributesWithin a b xs → AttributesWithin a b ys → AttributesWithin a b (xs ++ ys)
both_attributes a b [] ys h k = k
both_attributes a b (x ∷ xs) ys h k = (h.0, both_attributes a b xs ys h.1 k)

right : (t u : Bool) → (t && u) ≡ true → u ≡ true
right true u e = e
right false u e = absurd (false≢true e)

le_from : (m n : ℕ) → nat_le m n ≡ true → m ≤ n
le_from m n e = grind (arith, nat_tests)

fits : (bytes : List ℕ) → begins_attribute bytes ≡ true → attribute_len bytes ≤ length bytes
unfolding begins_attribute
fits bytes e = le_from (attribute_len bytes) (length bytes)
    (right (not (is_between (slice_index bytes 0))) (nat_le (attribute_len bytes) (length bytes)) e)

front_within : (a b at : ℕ) (bytes : List ℕ) → a ≤ at → at + length bytes ≤ b → AttributesWithin a b (front_attribute at bytes)
unfolding front_attribute attribute_at attribute_len
front_within a b at bytes h k = by_test (begins_attribute bytes) refl
  where
    by_test : (t : Bool) → begins_attribute bytes ≡ t → AttributesWithin a b (cond t (attribute_at at bytes ∷ []) [])
    by_test false e = tt
    by_test true e =
        let inside = fits bytes e in (
          record {
            span = record { ordered = omega arith; begins = h; ends = omega (arith, inside) };
            value = record { ordered = omega arith; begins = omega arith; ends = omega (arith, inside) };
          },
          tt,
        )

attributes_within : (a b n at : ℕ) (xs : List ℕ) → a ≤ at → at + length xs ≤ b → AttributesWithin a b (attributes_from n at xs)
unfolding attributes_from
attributes_within a b n at [] h k = tt
attributes_within a b (suc n) at (x ∷ xs) h k = attributes_within a b n (at + 1) xs (omega arith) (omega arith)
attributes_within a b zero at (x ∷ xs) h k =
    both_attributes a b (front_attribute at (x ∷ xs)) (attributes_from (front_len (x ∷ xs) - 1) (at + 1) xs)
    (front_within a b at (x ∷ xs) h k) (attributes_within a b (front_len (x ∷ xs) - 1) (at + 1) xs (omega arith) (omega arith))

name_short : (bytes : List ℕ) → length (written_name bytes) ≤ length bytes
unfolding written_name
name_short bytes = grind (arith, common_steps)

behind_name : (n : ℕ) (b : ℕ) (bytes : List ℕ) → n ≤ length bytes → (1 + n) + length (drop (1 + n) (b ∷ bytes)) ≤ suc (length bytes)
behind_name n b bytes h = grind (arith, common_steps)

tag_of_none : (a b at : ℕ) → AttributesWithin a b (tag_attributes at [])
unfolding tag_attributes attributes_from written_name
tag_of_none a b at = tt

tag_within : (at : ℕ) (bytes : List ℕ) → AttributesWithin at (at + length bytes) (tag_attributes at bytes)
unfolding tag_attributes attributes_from
tag_within at [] = tag_of_none at (at + 0) at
tag_within at (b ∷ bytes) =
    let room = behind_name (length (written_name bytes)) b bytes (name_short bytes) in
    attributes_within at (at + suc (length bytes)) 0 (at + (1 + length (written_name bytes)))
    (drop (1 + length (written_name bytes)) (b ∷ bytes)) (omega arith) (omega arith)

faults_within : (a b : ℕ) (before xs : List Attribute) → AttributesWithin a b xs → FaultsWithin a b (declaration_faults before xs)
unfolding declaration_faults faults_at
faults_within a b before [] h = tt
faults_within a b before (x ∷ xs) h =
    both_faults a b (faults_at before x) (declaration_faults (before ++ x ∷ []) xs)
    (by_test (is_declaration x.name) (declaration_flaw before x)) (faults_within a b (before ++ x ∷ []) xs h.1)
  where
    by_test : (t : Bool) (flaw : Option Flaw) → FaultsWithin a b (cond t (flaw_faults x.span flaw) [])
    by_test true None = tt
    by_test true (Some flaw) = (h.0.span, tt)
    by_test false flaw = tt

items_within : (a b : ℕ) (scope : List Binding) (kept : List Name) (xs : List Attribute) → AttributesWithin a b xs
    → AreWithin a b (attribute_items scope kept xs)
unfolding attribute_items
items_within a b scope kept [] h = tt
items_within a b scope kept (x ∷ xs) h =
    both a b (attribute_item x (resolved_if_attribute scope kept x))
    (attribute_items scope (kept ++ kept_name (resolved_if_attribute scope kept x)) xs)
    (by_result (resolved_if_attribute scope kept x))
    (items_within a b scope (kept ++ kept_name (resolved_if_attribute scope kept x)) xs h.1)
  where
    by_result : (r : Option Resolved) → AreWithin a b (attribute_item x r)
    by_result None = tt
    by_result (Some (Named name)) = (h.0.value, tt)
    by_result (Some (Flawed flaw)) = (h.0.span, tt)

element_within : (a b : ℕ) (span : Span) (r : Resolved) → IsSpanWithin a b span → AreWithin a b (element_items span r)
element_within a b span (Named name) h = (h, tt)
element_within a b span (Flawed flaw) h = (h, (h, tt))

run_within : (at : ℕ) (run : Option Run) → run_back run ≤ at → AreWithin (at - run_back run) at (run_items at run)
unfolding run_items
run_within at None h = tt
run_within at (Some run) h = by_test (length run.string == 0)
  where
    by_test : (t : Bool) → AreWithin (at - run_back (Some run)) at
        (cond t [] (items.Event (Chars run.string) (record { from = at - (run.gap + run.len); to = at - run.gap }) ∷ []))
    by_test true = tt
    by_test false = (record { ordered = omega arith; begins = omega arith; ends = omega arith }, tt)

token_fault_within : (a b : ℕ) (t : Bool) (kind : Kind) (token : Token) → IsSpanWithin a b (token_span token)
    → AreWithin a b (token_fault_if t kind token)
token_fault_within a b true kind token h = (h, tt)
token_fault_within a b false kind token h = tt

left_out_within : (a b : ℕ) (kind : Kind) (span : Span) (xs : List OpenElement) → IsSpanWithin a b span
    → AreWithin a b (flat_map (left_out kind span) xs)
left_out_within a b kind span [] h = tt
left_out_within a b kind span (x ∷ xs) h = (h, (h, left_out_within a b kind span xs h))

own_span : (state : EventState) (token : Token) → run_back state.run ≤ token.from
    → IsSpanWithin (token.from - run_back state.run) (token.from + length token.bytes) (token_span token)
own_span state token h = record { ordered = omega arith; begins = omega arith; ends = omega arith }

characters_of_token : (back : ℕ) (reading : Reading) (token : Token)
    → AreWithin (token.from - back) (token.from + length token.bytes) (faults_as_items (character_faults reading token.from token.bytes))
characters_of_token back reading token =
    as_items (token.from - back) (token.from + length token.bytes) (character_faults reading token.from token.bytes)
    (characters_within (token.from - back) (token.from + length token.bytes) reading token.from token.bytes (omega arith) (omega arith))

character_items_within : (state : EventState) (token : Token) (reading : Reading) (t : Bool) (kind : Kind)
    → run_back state.run ≤ token.from →
    AreWithin (token.from - run_back state.run) (token.from + length token.bytes) (character_items reading t kind token)
character_items_within state token reading t kind h =
    both (token.from - run_back state.run) (token.from + length token.bytes)
    (faults_as_items (character_faults reading token.from token.bytes)) (token_fault_if t kind token)
    (characters_of_token (run_back state.run) reading token)
    (token_fault_within (token.from - run_back state.run) (token.from + length token.bytes) t kind token (own_span state token h))

declaration_within : (state : EventState) (token : Token) → run_back state.run ≤ token.from →
    AreWithin (token.from - run_back state.run) (token.from + length token.bytes) (declaration_items state token)
unfolding declaration_items
declaration_within state token h = by_test state.came
  where
    by_test : (t : Bool) → AreWithin (token.from - run_back state.run) (token.from + length token.bytes)
        (cond t (items.Fault (bare_fault kinds.Misplaced (token_span token)) ∷ [])
        (token_fault_if (not (is_xml_declaration token.bytes)) kinds.BadDecl token))
    by_test true = (own_span state token h, tt)
    by_test false = token_fault_within (token.from - run_back state.run) (token.from + length token.bytes)
        (not (is_xml_declaration token.bytes)) kinds.BadDecl token (own_span state token h)

start_within : (state : EventState) (token : Token) → run_back state.run ≤ token.from →
    AreWithin (token.from - run_back state.run) (token.from + length token.bytes) (start_items state token)
unfolding start_items
start_within state token h =
    let a = token.from - run_back state.run in
    let b = token.from + length token.bytes in
    let own = own_span state token h in
    let attributes = tag_attributes token.from token.bytes in
    let scope = state.scope ++ own_bindings token in
    let r = element_resolved (is_behind state) scope (start_name token.bytes) in
    let within = wider_attributes token.from b a b attributes (omega arith) (omega arith) (tag_within token.from token.bytes) in
    let run = all_wider a token.from a b (run_items token.from state.run) (omega arith) (omega arith) (run_within token.from state.run h) in
    let x1 = both a b (run_items token.from state.run) (faults_as_items (character_faults Value token.from token.bytes)) run
    (characters_of_token (run_back state.run) Value token) in
    let x2 = both a b _ (faults_as_items (declaration_faults [] attributes)) x1
    (as_items a b (declaration_faults [] attributes) (faults_within a b [] attributes within)) in
    let x3 = both a b _ (element_items (token_span token) r) x2 (element_within a b (token_span token) r own) in
    let x4 = both a b _ (attribute_items scope [] attributes) x3 (items_within a b scope [] attributes within) in
    both a b _ (items.Event TagEnd (token_span token) ∷ []) x4 (own, tt)

closing_within : (state : EventState) (token : Token) (n : Option ℕ) → run_back state.run ≤ token.from →
    AreWithin (token.from - run_back state.run) (token.from + length token.bytes) (closing_items state token n)
closing_within state token None h = (own_span state token h, tt)
closing_within state token (Some n) h =
    let a = token.from - run_back state.run in
    let b = token.from + length token.bytes in
    let own = own_span state token h in
    let inner = reverse (drop (suc n) state.elements) in
    let run = all_wider a token.from a b (run_items token.from state.run) (omega arith) (omega arith) (run_within token.from state.run h) in
    let x1 = both a b (run_items token.from state.run) (flat_map (left_out kinds.MissingEnd (token_span token)) inner) run
    (left_out_within a b kinds.MissingEnd (token_span token) inner own) in
    both a b _ (items.Event Leave (token_span token) ∷ []) x1 (own, tt)

by_kind : (kind : TokenKind) (state : EventState) (token : Token) → run_back state.run ≤ token.from →
    AreWithin (token.from - run_back state.run) (token.from + length token.bytes) (items_by_kind kind state token)
unfolding doctype_items comment_items pi_items cdata_items text_items empty_items end_items
by_kind tokens.Bom state token h = tt
by_kind tokens.Decl state token h = declaration_within state token h
by_kind tokens.Doctype state token h = token_fault_within _ _ (state.started || state.doctype) kinds.Misplaced token
    (own_span state token h)
by_kind tokens.Comment state token h = character_items_within state token Plain (is_bad_comment token.bytes) kinds.BadComment h
by_kind tokens.Pi state token h = character_items_within state token Plain (is_bad_pi token.bytes) kinds.BadPi h
by_kind tokens.Cdata state token h = character_items_within state token Plain (not (is_inside state)) kinds.TextOutside h
by_kind tokens.Text state token h = character_items_within state token Text
    (not (is_inside state) && not (list_all is_space token.bytes)) kinds.TextOutside h
by_kind tokens.Bad state token h = (own_span state token h, tt)
by_kind tokens.Unclosed state token h = (own_span state token h, tt)
by_kind tokens.Start state token h = start_within state token h
by_kind tokens.Empty state token h =
    both (token.from - run_back state.run) (token.from + length token.bytes) (start_items state token)
    (items.Event Leave (token_span token) ∷ []) (start_within state token h) (own_span state token h, tt)
by_kind tokens.End state token h = closing_within state token (around_innermost (end_name token.bytes) state.elements) h

pub items_lie_in_tokens : ItemsLieInTokens
unfolding items_of_token
items_lie_in_tokens state token h = by_kind token.kind state token h

pub items_lie_in_text : ItemsLieInText
unfolding items_at_end
items_lie_in_text state len h =
    let a = len - run_back state.run in
    let span : Span = record { from = len; to = len } in
    let own : IsSpanWithin a len span = record { ordered = omega arith; begins = omega arith; ends = omega arith } in
    let inner = reverse state.elements in
    let x1 = both a len (run_items len state.run) (flat_map (left_out kinds.UnclosedElement span) inner)
    (run_within len state.run h) (left_out_within a len kinds.UnclosedElement span inner own) in
    both a len _ (cond (is_before state) (items.Fault (bare_fault kinds.NoRoot span) ∷ []) []) x1 (by_test own (is_before state))
  where
    by_test : IsSpanWithin (len - run_back state.run) len (record { from = len; to = len }) → (t : Bool)
        → AreWithin (len - run_back state.run) len
        (cond t (items.Fault (bare_fault kinds.NoRoot (record { from = len; to = len })) ∷ []) [])
    by_test own true = (own, tt)
    by_test own false = tt
