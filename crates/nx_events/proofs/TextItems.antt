-- What tokens give is UTF-8.
use Rattle.std.proofs.Common.{◌≡◌, ℕ, zero, suc, ◌<◌, Bool, true, false, cond, Option, Some, None, unwrap_or, List, [], ◌∷◌, ◌++◌, length, take, drop, reverse, get_or, refl, sym, subst, arith, codes}
use Rattle.std.specs.Prelude.{◌==◌, ◌&&◌, ◌||◌, not, nat_eq}
use Rattle.std.specs.List.{AllByRecursion, flat_map, starts_with, list_all, before_first, after_first}
use Rattle.std.specs.Str.{IsUtf8, bytes_eq}
use lib.Utf8.{encode}
use Rattle.std.proofs.lemmas.Bool.{and_parts, eqb-true}
use Rattle.std.proofs.lemmas.Grind.{reverse_onto}
use Rattle.std.proofs.lemmas.Slice.Eq.{bytes_eq-Decides}
use Rattle.std.proofs.lemmas.Str.{IsUtf8-nil, IsUtf8-append}
use Rattle.nx_base.specs.Characters.{is_space}
use Rattle.nx_base.specs.Tokens.{IsOfKind}
use Rattle.nx_base.specs.declared.fault.Fault.{Fault}
use Rattle.nx_base.specs.declared.fault.Kind.{Kind}
use Rattle.nx_base.specs.declared.fault.Kind.TheVariants as faults
use Rattle.nx_base.specs.declared.fault.Span.{Span}
use Rattle.nx_base.specs.declared.name.Name.{Name}
use Rattle.nx_base.specs.declared.token.Token.{Token}
use Rattle.nx_base.specs.declared.token.TokenKind.{TokenKind}
use Rattle.nx_base.specs.declared.token.TokenKind.TheVariants as tokens
use Rattle.nx_events.specs.declared.flaw.Resolved.{Resolved}
use Rattle.nx_events.specs.declared.flaw.Resolved.TheVariants.{Named, Flawed}
use Rattle.nx_events.specs.declared.item.Item.{Item}
use Rattle.nx_events.specs.declared.item.Item.TheVariants as items
use Rattle.nx_events.specs.declared.item.Event.TheVariants.{TagEnd, Leave}
use Rattle.nx_events.specs.declared.reading.Reading.{Reading}
use Rattle.nx_events.specs.declared.reading.Reading.TheVariants.{Plain, Text, Value}
use Rattle.nx_events.specs.declared.scope.Binding.{Binding}
use Rattle.nx_events.specs.declared.state.EventState.{EventState}
use Rattle.nx_events.specs.declared.state.OpenElement.{OpenElement}
use Rattle.nx_events.specs.declared.state.Run.{Run}
use Rattle.nx_events.specs.declared.tag.Attribute.{Attribute}
use Rattle.nx_events.specs.Strings.{Piece, pieces, string_of, cdata_content}
use Rattle.nx_events.specs.Faults.{bare_fault, bare_faults, faults_as_items}
use Rattle.nx_events.specs.CharacterFaults.{once, is_bad_char, is_bad_text, piece_flaw, piece_span, piece_faults, character_faults}
use Rattle.nx_events.specs.Markup.{is_bad_comment, is_bad_pi}
use Rattle.nx_events.specs.XmlDeclaration.{is_xml_declaration}
use Rattle.nx_events.specs.Names.{is_colon, has_colon, prefix_of, local_of, is_qname}
use Rattle.nx_events.specs.Tags.{start_name, end_name, tag_attributes}
use Rattle.nx_events.specs.Scopes.{xml_uri, or_else, last_uri, bound_uri, element_uri, attribute_uri, named_by, expand_attribute}
use Rattle.nx_events.specs.Declarations.{is_declaration, declared_prefix, flaw_kind, with_name, declaration_flaw, flaw_faults, binding_unless, faults_at, bindings_at, declaration_faults, bindings}
use Rattle.nx_events.specs.Elements.{flawed_as, has_name, declared_or_flaw, element_resolved, element_items, new_or_flaw, attribute_resolved, resolved_if_attribute, attribute_item, kept_name, attribute_items}
use Rattle.nx_events.specs.Runs.{run_passed, run_joined, run_items}
use Rattle.nx_events.specs.Items.{token_span, token_fault_if, is_inside, is_before, is_behind, first_state, declaration_items, doctype_items, character_items, comment_items, pi_items, cdata_items, text_items, own_bindings, start_items, empty_items, around_innermost, left_out, closing_items, end_items, items_by_kind, items_of_token, passed, joined, opened, outer_of_first, closed, state_by_kind, state_behind, items_at_end, items_from, items_of}
use Rattle.nx_events.specs.Texts.{NameIsText, BindingIsText, RunIsText, StateIsText, ItemIsText, ItemsAreText, TokenIsText}
use Rattle.nx_events.proofs.Texts.{either_is, test_is, behind, before_text, after_text, string_text}
use Rattle.nx_events.proofs.TextTags.{AttributesAreText, name_text, tag_text}
use Rattle.nx_events.proofs.TextKinds.{HasContent, content_text}

-- lists
all_both : {A : Type 0} (P : A → Type 0) (xs ys : List A) → AllByRecursion P xs → AllByRecursion P ys → AllByRecursion P (xs ++ ys)
all_both P [] ys h k = k
all_both P (x ∷ xs) ys h k = (h.0, all_both P xs ys h.1 k)

all_take : {A : Type 0} (P : A → Type 0) (n : ℕ) (xs : List A) → AllByRecursion P xs → AllByRecursion P (take n xs)
all_take P zero xs h = tt
all_take P (suc n) [] h = tt
all_take P (suc n) (x ∷ xs) h = (h.0, all_take P n xs h.1)

all_drop : {A : Type 0} (P : A → Type 0) (n : ℕ) (xs : List A) → AllByRecursion P xs → AllByRecursion P (drop n xs)
all_drop P zero xs h = h
all_drop P (suc n) [] h = tt
all_drop P (suc n) (x ∷ xs) h = all_drop P n xs h.1

all_reverse : {A : Type 0} (P : A → Type 0) (xs : List A) → AllByRecursion P xs → AllByRecursion P (reverse xs)
all_reverse P [] h = tt
all_reverse P (x ∷ xs) h =
    subst (λ ys. AllByRecursion P ys) (sym (reverse_onto xs x [])) (all_both P (reverse xs) (x ∷ []) (all_reverse P xs h.1) (h.0, tt))

both : (xs ys : List Item) → ItemsAreText xs → ItemsAreText ys → ItemsAreText (xs ++ ys)
both xs ys h k = all_both ItemIsText xs ys h k

-- faults without a detail
abbrev FaultIsText : Fault → Type 0
FaultIsText fault = IsUtf8 fault.detail

abbrev FaultsAreText : List Fault → Type 0
FaultsAreText all = AllByRecursion FaultIsText all

as_items : (xs : List Fault) → FaultsAreText xs → ItemsAreText (faults_as_items xs)
as_items [] h = tt
as_items (x ∷ xs) h = (h.0, as_items xs h.1)

once_text : (told : Bool) (such : Kind → Bool) (xs : List Fault) → FaultsAreText xs → FaultsAreText (once told such xs)
unfolding once
once_text told such [] h = tt
once_text told such (x ∷ xs) h =
    all_both FaultIsText (cond (told && such x.kind) [] (x ∷ [])) (once (told || such x.kind) such xs)
    (either_is FaultsAreText (told && such x.kind) [] (x ∷ []) tt (h.0, tt)) (once_text (told || such x.kind) such xs h.1)

bare_text : (flaw : Option Kind) (span : Span) → FaultsAreText (bare_faults flaw span)
bare_text None span = tt
bare_text (Some kind) span = (IsUtf8-nil, tt)

pieces_faults_text : (reading : Reading) (ps : List Piece) → FaultsAreText (flat_map (piece_faults reading) ps)
pieces_faults_text reading [] = tt
pieces_faults_text reading (p ∷ ps) =
    all_both FaultIsText (piece_faults reading p) (flat_map (piece_faults reading) ps)
    (bare_text (piece_flaw reading p.bytes) (piece_span p)) (pieces_faults_text reading ps)

characters_text : (reading : Reading) (at : ℕ) (bytes : List ℕ) → ItemsAreText (faults_as_items (character_faults reading at bytes))
unfolding character_faults
characters_text reading at bytes =
    as_items (once false is_bad_char (once false is_bad_text (flat_map (piece_faults reading) (pieces reading at bytes))))
    (once_text false is_bad_char (once false is_bad_text (flat_map (piece_faults reading) (pieces reading at bytes)))
    (once_text false is_bad_text (flat_map (piece_faults reading) (pieces reading at bytes)) (pieces_faults_text reading (pieces reading at bytes))))

fault_if_text : (test : Bool) (kind : Kind) (token : Token) → ItemsAreText (token_fault_if test kind token)
fault_if_text test kind token = either_is ItemsAreText test _ [] (IsUtf8-nil, tt) tt

character_items_text : (reading : Reading) (test : Bool) (kind : Kind) (token : Token) → ItemsAreText (character_items reading test kind token)
character_items_text reading test kind token =
    both (faults_as_items (character_faults reading token.from token.bytes)) (token_fault_if test kind token)
    (characters_text reading token.from token.bytes) (fault_if_text test kind token)

-- qualified names
colon_small : (b : ℕ) → is_colon b ≡ true → b < 128
colon_small b h = let same = eqb-true b 58 h in omega arith

prefix_text : (name : List ℕ) → IsUtf8 name → IsUtf8 (prefix_of name)
unfolding prefix_of
prefix_text name u = either_is IsUtf8 (has_colon name) (before_first is_colon name) [] (before_text is_colon name colon_small u) IsUtf8-nil

local_text : (name : List ℕ) → IsUtf8 name → IsUtf8 (local_of name)
unfolding local_of
local_text name u = either_is IsUtf8 (has_colon name) (after_first is_colon name) name (after_text is_colon name colon_small u) u

-- declarations
starts_reads : (mark bs : List ℕ) (k : ℕ) → starts_with nat_eq bs mark ≡ true → k < length mark → (k < length bs) × (get_or bs k 0 ≡ get_or mark k 0)
starts_reads [] bs k h lt = absurd (omega arith)
starts_reads (m ∷ mark) [] k h lt = let bad : false ≡ true = h in absurd (cc)
starts_reads (m ∷ mark) (b ∷ bs) zero h lt = (omega arith, sym (eqb-true m b (and_parts (nat_eq m b) (starts_with nat_eq bs mark) h).0))
starts_reads (m ∷ mark) (b ∷ bs) (suc k) h lt =
    let r = starts_reads mark bs k (and_parts (nat_eq m b) (starts_with nat_eq bs mark) h).1 (omega arith) in (omega (arith, r.0), r.1)

or_is : (P : Type 0) (t u : Bool) → (t ≡ true → P) → (u ≡ true → P) → (t || u) ≡ true → P
or_is P true u h k e = h refl
or_is P false u h k e = k e

declared_text : (name : List ℕ) → IsUtf8 name → is_declaration name ≡ true → IsUtf8 (declared_prefix name)
unfolding is_declaration declared_prefix
declared_text name u h =
    or_is (IsUtf8 (drop 6 name)) (bytes_eq name (codes "xmlns")) (starts_with nat_eq name (codes "xmlns:"))
    (λ e. subst (λ xs. IsUtf8 (drop 6 xs)) (sym ((bytes_eq-Decides name (codes "xmlns")).0 e)) IsUtf8-nil)
    (λ e. let r = starts_reads (codes "xmlns:") name 5 e (omega arith) in behind name 5 u r.0 (omega (arith, r.1)))
    h

declaration_faults_text : (before xs : List Attribute) → AttributesAreText xs → FaultsAreText (declaration_faults before xs)
unfolding declaration_faults faults_at
declaration_faults_text before [] h = tt
declaration_faults_text before (x ∷ xs) h =
    all_both FaultIsText (faults_at before x) (declaration_faults (before ++ x ∷ []) xs)
    (either_is FaultsAreText (is_declaration x.name) (flaw_faults x.span (declaration_flaw before x)) [] (by_kind (flaw_kind before x)) tt)
    (declaration_faults_text (before ++ x ∷ []) xs h.1)
  where
    by_kind : (kind : Option Kind) → FaultsAreText (flaw_faults x.span (with_name x.name kind))
    by_kind None = tt
    by_kind (Some kind) = (h.0.0, tt)

abbrev ScopeIsText : List Binding → Type 0
ScopeIsText scope = AllByRecursion BindingIsText scope

bindings_text : (before xs : List Attribute) → AttributesAreText xs → ScopeIsText (bindings before xs)
unfolding bindings bindings_at
bindings_text before [] h = tt
bindings_text before (x ∷ xs) h =
    all_both BindingIsText (bindings_at before x) (bindings (before ++ x ∷ []) xs)
    (test_is ScopeIsText (is_declaration x.name) (binding_unless x (declaration_flaw before x)) [] (λ e. by_kind e (flaw_kind before x)) (λ _. tt))
    (bindings_text (before ++ x ∷ []) xs h.1)
  where
    by_kind : is_declaration x.name ≡ true → (kind : Option Kind) → ScopeIsText (binding_unless x (with_name x.name kind))
    by_kind e None = ((declared_text x.name h.0.0 e, h.0.1), tt)
    by_kind e (Some kind) = tt

-- expanded names
abbrev UriIsText : Option (List ℕ) → Type 0
UriIsText None = Unit {0}
UriIsText (Some uri) = IsUtf8 uri

last_text : (scope : List Binding) (prefix : List ℕ) → ScopeIsText scope → UriIsText (last_uri scope prefix)
unfolding last_uri
last_text [] prefix h = tt
last_text (x ∷ scope) prefix h = by_last (last_uri scope prefix) (last_text scope prefix h.1)
  where
    by_last : (found : Option (List ℕ)) → UriIsText found → UriIsText (or_else found (cond (bytes_eq x.prefix prefix) (Some x.uri) None))
    by_last (Some uri) k = k
    by_last None k = either_is UriIsText (bytes_eq x.prefix prefix) (Some x.uri) None h.0.1 tt

xml_uri_text : IsUtf8 xml_uri
unfolding encode
xml_uri_text = (xml_uri, (refl, refl))

bound_text : (scope : List Binding) (prefix : List ℕ) → ScopeIsText scope → UriIsText (bound_uri scope prefix)
unfolding bound_uri
bound_text scope prefix h = either_is UriIsText (bytes_eq prefix (codes "xml")) (Some xml_uri) (last_uri scope prefix) xml_uri_text (last_text scope prefix h)

element_uri_text : (scope : List Binding) (prefix : List ℕ) → ScopeIsText scope → UriIsText (element_uri scope prefix)
unfolding element_uri
element_uri_text scope [] h = by_last (last_uri scope []) (last_text scope [] h)
  where
    by_last : (found : Option (List ℕ)) → UriIsText found → IsUtf8 (unwrap_or found [])
    by_last (Some uri) k = k
    by_last None k = IsUtf8-nil
element_uri_text scope (b ∷ prefix) h = bound_text scope (b ∷ prefix) h

attribute_uri_text : (scope : List Binding) (prefix : List ℕ) → ScopeIsText scope → UriIsText (attribute_uri scope prefix)
unfolding attribute_uri
attribute_uri_text scope [] h = IsUtf8-nil
attribute_uri_text scope (b ∷ prefix) h = bound_text scope (b ∷ prefix) h

abbrev ResolvedIsText : Resolved → Type 0
ResolvedIsText (Named name) = NameIsText name
ResolvedIsText (Flawed flaw) = IsUtf8 flaw.detail

declared_or_flaw_text : (uri : Option (List ℕ)) (written : List ℕ) → IsUtf8 written → UriIsText uri → ResolvedIsText (declared_or_flaw (named_by uri (local_of written)) written)
declared_or_flaw_text None written u h = prefix_text written u
declared_or_flaw_text (Some uri) written u h = (h, local_text written u)

element_resolved_text : (behind_root : Bool) (scope : List Binding) (written : List ℕ) → IsUtf8 written → ScopeIsText scope →
    ResolvedIsText (element_resolved behind_root scope written)
unfolding element_resolved
element_resolved_text behind_root scope written u h =
    either_is ResolvedIsText behind_root _ _ u (either_is ResolvedIsText (not (is_qname written)) _ _ u
    (declared_or_flaw_text (element_uri scope (prefix_of written)) written u (element_uri_text scope (prefix_of written) h)))

element_items_text : (span : Span) (r : Resolved) → ResolvedIsText r → ItemsAreText (element_items span r)
element_items_text span (Named name) h = (h, tt)
element_items_text span (Flawed flaw) h = (h, (tt, tt))

new_text : (kept : List Name) (written : List ℕ) (r : Resolved) → IsUtf8 written → ResolvedIsText r → ResolvedIsText (new_or_flaw kept r written)
unfolding new_or_flaw
new_text kept written (Named name) u k = either_is ResolvedIsText (has_name kept name) (flawed_as faults.DuplicateAttribute written) (Named name) u k
new_text kept written (Flawed flaw) u k = k

attribute_resolved_text : (scope : List Binding) (kept : List Name) (written : List ℕ) → IsUtf8 written → ScopeIsText scope →
    ResolvedIsText (attribute_resolved scope kept written)
unfolding attribute_resolved
attribute_resolved_text scope kept written u h =
    either_is ResolvedIsText (not (is_qname written)) _ _ u
    (new_text kept written (declared_or_flaw (expand_attribute scope written) written) u
    (declared_or_flaw_text (attribute_uri scope (prefix_of written)) written u (attribute_uri_text scope (prefix_of written) h)))

attributes_items_text : (scope : List Binding) (kept : List Name) (xs : List Attribute) → ScopeIsText scope → AttributesAreText xs →
    ItemsAreText (attribute_items scope kept xs)
unfolding attribute_items resolved_if_attribute
attributes_items_text scope kept [] s h = tt
attributes_items_text scope kept (x ∷ xs) s h =
    both (attribute_item x (resolved_if_attribute scope kept x)) (attribute_items scope (kept ++ kept_name (resolved_if_attribute scope kept x)) xs)
    (either_is (λ (r : Option Resolved). ItemsAreText (attribute_item x r)) (is_declaration x.name) None (Some (attribute_resolved scope kept x.name)) tt
    (by_result (attribute_resolved scope kept x.name) (attribute_resolved_text scope kept x.name h.0.0 s)))
    (attributes_items_text scope (kept ++ kept_name (resolved_if_attribute scope kept x)) xs s h.1)
  where
    by_result : (r : Resolved) → ResolvedIsText r → ItemsAreText (attribute_item x (Some r))
    by_result (Named name) k = ((k, h.0.1), tt)
    by_result (Flawed flaw) k = (k, tt)

-- runs
pub run_text : (at : ℕ) (run : Option Run) → RunIsText run → ItemsAreText (run_items at run)
unfolding run_items
run_text at None h = tt
run_text at (Some run) h = either_is ItemsAreText (length run.string == 0) [] _ tt (h, tt)

passed_run : (n : ℕ) (run : Option Run) → RunIsText run → RunIsText (run_passed n run)
passed_run n None h = tt
passed_run n (Some run) h = h

joined_run : (string : List ℕ) (n : ℕ) (run : Option Run) → IsUtf8 string → RunIsText run → RunIsText (run_joined string n run)
joined_run string n None u h = u
joined_run string n (Some run) u h = IsUtf8-append run.string string h u

-- open elements
abbrev ElementIsText : OpenElement → Type 0
ElementIsText element = IsUtf8 element.written

left_text : (kind : Kind) (span : Span) (xs : List OpenElement) → AllByRecursion ElementIsText xs → ItemsAreText (flat_map (left_out kind span) xs)
left_text kind span [] h = tt
left_text kind span (x ∷ xs) h = (h.0, (tt, left_text kind span xs h.1))

-- tags
module _ (state : EventState) (token : Token) (u : IsUtf8 token.bytes) (h : StateIsText state) where
  own_text : IsUtf8 (drop 1 token.bytes) → ScopeIsText (state.scope ++ own_bindings token)
  own_text v =
      all_both BindingIsText state.scope (own_bindings token) h.scope (bindings_text [] (tag_attributes token.from token.bytes) (tag_text token.from token.bytes v))

  pub start_text : IsUtf8 (drop 1 token.bytes) → ItemsAreText (start_items state token)
  unfolding start_items
  start_text v =
      let attributes = tag_attributes token.from token.bytes in
      let scope = state.scope ++ own_bindings token in
      let each = tag_text token.from token.bytes v in
      let resolved = element_resolved (is_behind state) scope (start_name token.bytes) in
      both _ (items.Event TagEnd (token_span token) ∷ [])
      (both _ (attribute_items scope [] attributes)
      (both _ (element_items (token_span token) resolved)
      (both _ (faults_as_items (declaration_faults [] attributes))
      (both (run_items token.from state.run) (faults_as_items (character_faults Value token.from token.bytes))
      (run_text token.from state.run h.run) (characters_text Value token.from token.bytes))
      (as_items (declaration_faults [] attributes) (declaration_faults_text [] attributes each)))
      (element_items_text (token_span token) resolved
      (element_resolved_text (is_behind state) scope (start_name token.bytes) (name_text (drop 1 token.bytes) v) (own_text v))))
      (attributes_items_text scope [] attributes (own_text v) each))
      (tt, tt)

  empty_text : IsUtf8 (drop 1 token.bytes) → ItemsAreText (empty_items state token)
  unfolding empty_items
  empty_text v = both (start_items state token) (items.Event Leave (token_span token) ∷ []) (start_text v) (tt, tt)

  closing_text : IsUtf8 (drop 2 token.bytes) → (n : Option ℕ) → ItemsAreText (closing_items state token n)
  closing_text v None = (name_text (drop 2 token.bytes) v, tt)
  closing_text v (Some n) =
      both _ (items.Event Leave (token_span token) ∷ [])
      (both (run_items token.from state.run) (flat_map (left_out faults.MissingEnd (token_span token)) (reverse (drop (suc n) state.elements)))
      (run_text token.from state.run h.run)
      (left_text faults.MissingEnd (token_span token) (reverse (drop (suc n) state.elements))
      (all_reverse ElementIsText (drop (suc n) state.elements) (all_drop ElementIsText (suc n) state.elements h.elements))))
      (tt, tt)

  items_text : (kind : TokenKind) → HasContent token.bytes kind (length token.bytes) → ItemsAreText (items_by_kind kind state token)
  unfolding declaration_items doctype_items comment_items pi_items cdata_items text_items end_items
  items_text tokens.Bom c = tt
  items_text tokens.Decl c = either_is ItemsAreText state.came _ _ (IsUtf8-nil, tt) (fault_if_text (not (is_xml_declaration token.bytes)) faults.BadDecl token)
  items_text tokens.Doctype c = fault_if_text (state.started || state.doctype) faults.Misplaced token
  items_text tokens.Comment c = character_items_text Plain (is_bad_comment token.bytes) faults.BadComment token
  items_text tokens.Pi c = character_items_text Plain (is_bad_pi token.bytes) faults.BadPi token
  items_text tokens.Cdata c = character_items_text Plain (not (is_inside state)) faults.TextOutside token
  items_text tokens.Text c = character_items_text Text (not (is_inside state) && not (list_all is_space token.bytes)) faults.TextOutside token
  items_text tokens.Bad c = fault_if_text true faults.BadMarkup token
  items_text tokens.Unclosed c = fault_if_text true faults.Unclosed token
  items_text tokens.Start c = start_text c
  items_text tokens.Empty c = empty_text c
  items_text tokens.End c = closing_text c (around_innermost (end_name token.bytes) state.elements)

  -- states
  passed_text : StateIsText (passed state token)
  passed_text = record { elements = h.elements; scope = h.scope; run = passed_run (length token.bytes) state.run h.run }

  joined_text : (string : List ℕ) → IsUtf8 string → StateIsText (joined state token string)
  joined_text string v =
      either_is StateIsText (is_inside state) _ _
      (record { elements = h.elements; scope = h.scope; run = joined_run string (length token.bytes) state.run v h.run }) passed_text

  closed_text : (n : Option ℕ) → StateIsText (closed state token n)
  closed_text None = passed_text
  closed_text (Some n) = record {
    elements = all_take ElementIsText n state.elements h.elements;
    scope = all_take BindingIsText (outer_of_first (drop n state.elements)) state.scope h.scope;
    run = tt;
  }

  opened_text : IsUtf8 (drop 1 token.bytes) → StateIsText (opened state token)
  opened_text v = record {
    elements = all_both ElementIsText state.elements _ h.elements (name_text (drop 1 token.bytes) v, tt);
    scope = own_text v;
    run = tt;
  }

  other_text : (kind : TokenKind) → HasContent token.bytes kind (length token.bytes) → StateIsText (state_by_kind kind state token)
  other_text tokens.Bom c = record { elements = h.elements; scope = h.scope; run = passed_run (length token.bytes) state.run h.run }
  other_text tokens.Cdata c = joined_text (string_of Plain (cdata_content token.bytes)) (string_text Plain (cdata_content token.bytes) c)
  other_text tokens.Text c = joined_text (string_of Text token.bytes) (string_text Text token.bytes u)
  other_text tokens.Start c = opened_text c
  other_text tokens.Empty c = record { elements = h.elements; scope = h.scope; run = tt }
  other_text tokens.End c = closed_text (around_innermost (end_name token.bytes) state.elements)
  other_text _ c = record { elements = h.elements; scope = h.scope; run = passed_run (length token.bytes) state.run h.run }

pub token_text : (state : EventState) (token : Token) → TokenIsText token → StateIsText state →
    ItemsAreText (items_of_token state token) × StateIsText (state_behind state token)
unfolding items_of_token state_behind
token_text state token t h =
    let content = content_text token t.0 t.1 in
    (items_text state token t.0 h token.kind content, other_text state token t.0 h token.kind content)

-- the same of what a call answers, behind a list that is text
pub more_text : (state : EventState) (token : Token) (old new : List Item) → new ≡ old ++ items_of_token state token →
    TokenIsText token → StateIsText state → ItemsAreText old → ItemsAreText new
more_text state token old new e t h before = subst ItemsAreText (sym e) (both old (items_of_token state token) before (token_text state token t h).0)

pub given_text : (state : EventState) (token : Token) (all : List Item) → all ≡ items_of_token state token → TokenIsText token → StateIsText state → ItemsAreText all
given_text state token all e t h = subst ItemsAreText (sym e) (token_text state token t h).0

pub next_text : (state next : EventState) (token : Token) → next ≡ state_behind state token → TokenIsText token → StateIsText state → StateIsText next
next_text state next token e t h = subst (λ (s : EventState). StateIsText s) (sym e) (token_text state token t h).1

pub same_text : (state next : EventState) → next ≡ state → StateIsText state → StateIsText next
same_text state next e h = subst (λ (s : EventState). StateIsText s) (sym e) h

pub end_text : (state : EventState) (len : ℕ) → StateIsText state → ItemsAreText (items_at_end state len)
unfolding items_at_end
end_text state len h =
    let span : Span = record { from = len; to = len } in
    both _ (cond (is_before state) (items.Fault (bare_fault faults.NoRoot span) ∷ []) [])
    (both (run_items len state.run) (flat_map (left_out faults.UnclosedElement span) (reverse state.elements))
    (run_text len state.run h.run)
    (left_text faults.UnclosedElement span (reverse state.elements) (all_reverse ElementIsText state.elements h.elements)))
    (either_is ItemsAreText (is_before state) (items.Fault (bare_fault faults.NoRoot span) ∷ []) [] (IsUtf8-nil, tt) tt)

pub finished_text : (state : EventState) (len : ℕ) (all : List Item) → all ≡ items_at_end state len → StateIsText state → ItemsAreText all
finished_text state len all e h = subst ItemsAreText (sym e) (end_text state len h)

pub first_text : StateIsText first_state
first_text = record { elements = tt; scope = tt; run = tt }

tokens_text : (state : EventState) (all : List Token) (len : ℕ) → StateIsText state →
    AllByRecursion (λ (token : Token). IsUtf8 token.bytes × IsOfKind token) all → ItemsAreText (items_from state all len)
unfolding items_from
tokens_text state [] len h each = end_text state len h
tokens_text state (t ∷ ts) len h each =
    let here = token_text state t (each.0.0, ((t.from == 0), each.0.1)) h in
    both (items_of_token state t) (items_from (state_behind state t) ts len) here.0 (tokens_text (state_behind state t) ts len here.1 each.1)

pub all_text : (all : List Token) (len : ℕ) → AllByRecursion (λ (token : Token). IsUtf8 token.bytes × IsOfKind token) all → ItemsAreText (items_of all len)
all_text all len each = tokens_text first_state all len first_text each
