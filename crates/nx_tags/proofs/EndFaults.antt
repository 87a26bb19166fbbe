-- Only end tags give the faults of end tags.
use Rattle.std.proofs.Common.{◌≡◌, ℕ, ◌-◌, ◌+◌, Bool, true, false, cond, Option, Some, None, List, [], ◌∷◌, ◌++◌, length, refl}
use Rattle.std.specs.Prelude.{◌==◌, ◌&&◌, ◌||◌, not, is_some, slice_index}
use Rattle.std.specs.List.{AllByRecursion, flat_map, list_all}
use Rattle.std.specs.Str.{byte}
use Rattle.nx_base.specs.Characters.{is_char, is_space}
use Rattle.nx_base.specs.declared.fault.Fault.{Fault}
use Rattle.nx_base.specs.declared.fault.Kind.{Kind}
use Rattle.nx_base.specs.declared.fault.Kind.TheVariants as faults
use Rattle.nx_base.specs.declared.fault.Span.{Span}
use Rattle.nx_base.specs.declared.name.Name.{Name}
use Rattle.nx_base.specs.declared.token.Token.{Token}
use Rattle.nx_base.specs.declared.token.TokenKind.{TokenKind}
use Rattle.nx_base.specs.declared.token.TokenKind.TheVariants as kinds
use Rattle.nx_events.specs.CharacterFaults.{character_flaw, tag_flaw, text_flaw, piece_flaw, piece_faults, is_bad_char, is_bad_text, once, character_faults}
use Rattle.nx_events.specs.Declarations.{is_declaration, declared_prefix, is_bad_binding, has_attribute, flaw_if, flaw_kind, with_name, flaw_faults, faults_at, declaration_faults}
use Rattle.nx_events.specs.Elements.{flawed_as, declared_or_flaw, element_resolved, element_items, has_name, new_or_flaw, attribute_resolved, resolved_if_attribute}
use Rattle.nx_events.specs.Elements.{attribute_item, kept_name, attribute_items}
use Rattle.nx_events.specs.Faults.{bare_faults, faults_as_items}
use Rattle.nx_events.specs.Items.{token_span, token_fault_if, is_inside, is_behind, own_bindings, declaration_items, doctype_items, character_items, comment_items}
use Rattle.nx_events.specs.Items.{pi_items, cdata_items, text_items, start_items, empty_items, items_by_kind}
use Rattle.nx_events.specs.Markup.{is_bad_comment, is_bad_pi}
use Rattle.nx_events.specs.Names.{is_qname}
use Rattle.nx_events.specs.References.{referenced}
use Rattle.nx_events.specs.Runs.{run_items}
use Rattle.nx_events.specs.Scopes.{expand_element, expand_attribute}
use Rattle.nx_events.specs.Strings.{Piece, pieces}
use Rattle.nx_events.specs.Tags.{start_name, tag_attributes}
use Rattle.nx_events.specs.Utf8.{front_char}
use Rattle.nx_events.specs.XmlDeclaration.{is_xml_declaration}
use Rattle.nx_events.specs.declared.flaw.Resolved.{Resolved}
use Rattle.nx_events.specs.declared.flaw.Resolved.TheVariants.{Named, Flawed}
use Rattle.nx_events.specs.declared.item.Event.TheVariants.{Chars, TagEnd, Leave}
use Rattle.nx_events.specs.declared.item.Item.{Item}
use Rattle.nx_events.specs.declared.item.Item.TheVariants as items
use Rattle.nx_events.specs.declared.reading.Reading.{Reading}
use Rattle.nx_events.specs.declared.reading.Reading.TheVariants as readings
use Rattle.nx_events.specs.declared.scope.Binding.{Binding}
use Rattle.nx_events.specs.declared.state.EventState.{EventState}
use Rattle.nx_events.specs.declared.state.Run.{Run}
use Rattle.nx_events.specs.declared.tag.Attribute.{Attribute}
use Rattle.nx_tags.specs.Fitting.{IsOfEnd, IsNotOfEnd}

-- ---- kinds, faults and items

abbrev FineKind : Option Kind → Type 0
FineKind None = Unit {0}
FineKind (Some kind) = ¬ IsOfEnd kind

abbrev FineFaults : List Fault → Type 0
FineFaults all = AllByRecursion (λ (fault : Fault). ¬ IsOfEnd fault.kind) all

abbrev FineName : Resolved → Type 0
FineName (Named name) = Unit {0}
FineName (Flawed flaw) = ¬ IsOfEnd flaw.kind

abbrev pub Fine : List Item → Type 0
Fine xs = AllByRecursion IsNotOfEnd xs

pub fine_both : (xs ys : List Item) → Fine xs → Fine ys → Fine (xs ++ ys)
fine_both [] ys h k = k
fine_both (x ∷ xs) ys h k = (h.0, fine_both xs ys h.1 k)

pub run_fine : (at : ℕ) (run : Option Run) → Fine (run_items at run)
unfolding run_items
run_fine at None = tt
run_fine at (Some run) = by_test (length run.string == 0)
  where
    by_test : (t : Bool) → Fine (cond t [] (items.Event (Chars run.string) (record { from = at - (run.gap + run.len); to = at - run.gap }) ∷ []))
    by_test true = tt
    by_test false = (tt, tt)

kind_either : (t : Bool) (a b : Option Kind) → FineKind a → FineKind b → FineKind (cond t a b)
kind_either true a b h k = h
kind_either false a b h k = k

name_either : (t : Bool) (a b : Resolved) → FineName a → FineName b → FineName (cond t a b)
name_either true a b h k = h
name_either false a b h k = k

faults_both : (xs ys : List Fault) → FineFaults xs → FineFaults ys → FineFaults (xs ++ ys)
faults_both [] ys h k = k
faults_both (x ∷ xs) ys h k = (h.0, faults_both xs ys h.1 k)

as_items_fine : (fs : List Fault) → FineFaults fs → Fine (faults_as_items fs)
as_items_fine [] h = tt
as_items_fine (f ∷ fs) h = (h.0, as_items_fine fs h.1)

-- ---- characters and references

character_fine : (piece : List ℕ) → FineKind (character_flaw piece)
unfolding character_flaw
character_fine piece = kind_either (is_char (front_char piece)) None (Some faults.BadChar) tt (λ h. h)

tag_fine : (piece : List ℕ) → FineKind (tag_flaw piece)
unfolding tag_flaw
tag_fine piece =
    kind_either (slice_index piece 0 == byte "&") (cond (is_some (referenced piece)) None (Some faults.BadReference)) (character_flaw piece)
    (kind_either (is_some (referenced piece)) None (Some faults.BadReference) tt (λ h. h)) (character_fine piece)

text_fine : (piece : List ℕ) → FineKind (text_flaw piece)
unfolding text_flaw
text_fine piece =
    kind_either (slice_index piece 0 == byte "]" && length piece == 3) (Some faults.BadText) (tag_flaw piece) (λ h. h) (tag_fine piece)

piece_fine : (reading : Reading) (piece : List ℕ) → FineKind (piece_flaw reading piece)
piece_fine readings.Plain piece = character_fine piece
piece_fine readings.Text piece = text_fine piece
piece_fine readings.Value piece = tag_fine piece

bare_fine : (kind : Option Kind) (span : Span) → FineKind kind → FineFaults (bare_faults kind span)
bare_fine None span h = tt
bare_fine (Some kind) span h = (h, tt)

pieces_fine : (reading : Reading) (ps : List Piece) → FineFaults (flat_map (piece_faults reading) ps)
pieces_fine reading [] = tt
pieces_fine reading (p ∷ ps) =
    faults_both (piece_faults reading p) (flat_map (piece_faults reading) ps)
    (bare_fine (piece_flaw reading p.bytes) (record { from = p.at; to = p.at + length p.bytes }) (piece_fine reading p.bytes)) (pieces_fine reading ps)

kept_fine : (t : Bool) (f : Fault) → ¬ IsOfEnd f.kind → FineFaults (cond t [] (f ∷ []))
kept_fine true f h = tt
kept_fine false f h = (h, tt)

once_fine : (told : Bool) (such : Kind → Bool) (fs : List Fault) → FineFaults fs → FineFaults (once told such fs)
unfolding once
once_fine told such [] h = tt
once_fine told such (f ∷ fs) h =
    faults_both (cond (told && such f.kind) [] (f ∷ [])) (once (told || such f.kind) such fs) (kept_fine (told && such f.kind) f h.0)
    (once_fine (told || such f.kind) such fs h.1)

characters_fine : (reading : Reading) (at : ℕ) (bytes : List ℕ) → Fine (faults_as_items (character_faults reading at bytes))
unfolding character_faults
characters_fine reading at bytes =
    let all = flat_map (piece_faults reading) (pieces reading at bytes) in
    as_items_fine (once false is_bad_char (once false is_bad_text all))
    (once_fine false is_bad_char (once false is_bad_text all) (once_fine false is_bad_text all (pieces_fine reading (pieces reading at bytes))))

-- ---- tags

flaw_fine : (came : Bool) (it : Attribute) → FineKind (flaw_if came it)
flaw_fine came it =
    let bound = cond (is_bad_binding (declared_prefix it.name) it.string) (Some faults.BadBinding) None in
    kind_either came (Some faults.DuplicateAttribute) (cond (not (is_qname it.name)) (Some faults.BadName) bound) (λ h. h)
    (kind_either (not (is_qname it.name)) (Some faults.BadName) bound (λ h. h)
    (kind_either (is_bad_binding (declared_prefix it.name) it.string) (Some faults.BadBinding) None (λ h. h) tt))

declaration_fine : (before : List Attribute) (it : Attribute) → FineFaults (faults_at before it)
unfolding faults_at flaw_kind
declaration_fine before it = by_test (is_declaration it.name) (flaw_if (has_attribute before it.name) it) (flaw_fine (has_attribute before it.name) it)
  where
    by_test : (t : Bool) (kind : Option Kind) → FineKind kind → FineFaults (cond t (flaw_faults it.span (with_name it.name kind)) [])
    by_test false kind h = tt
    by_test true None h = tt
    by_test true (Some kind) h = (h, tt)

declarations_fine : (before xs : List Attribute) → FineFaults (declaration_faults before xs)
unfolding declaration_faults
declarations_fine before [] = tt
declarations_fine before (x ∷ xs) =
    faults_both (faults_at before x) (declaration_faults (before ++ x ∷ []) xs) (declaration_fine before x) (declarations_fine (before ++ x ∷ []) xs)

declared_fine : (name : Option Name) (written : List ℕ) → FineName (declared_or_flaw name written)
declared_fine (Some name) written = tt
declared_fine None written = λ h. h

resolved_fine : (b : Bool) (scope : List Binding) (written : List ℕ) → FineName (element_resolved b scope written)
unfolding element_resolved
resolved_fine b scope written =
    let name = declared_or_flaw (expand_element scope written) written in
    name_either b (flawed_as faults.SecondRoot written) (cond (not (is_qname written)) (flawed_as faults.BadName written) name) (λ h. h)
    (name_either (not (is_qname written)) (flawed_as faults.BadName written) name (λ h. h) (declared_fine (expand_element scope written) written))

element_fine : (span : Span) (r : Resolved) → FineName r → Fine (element_items span r)
element_fine span (Named name) h = (tt, tt)
element_fine span (Flawed flaw) h = (h, (tt, tt))

new_fine : (kept : List Name) (r : Resolved) (written : List ℕ) → FineName r → FineName (new_or_flaw kept r written)
unfolding new_or_flaw
new_fine kept (Named name) written h = name_either (has_name kept name) (flawed_as faults.DuplicateAttribute written) (Named name) (λ h. h) tt
new_fine kept (Flawed flaw) written h = h

attribute_fine : (scope : List Binding) (kept : List Name) (written : List ℕ) → FineName (attribute_resolved scope kept written)
unfolding attribute_resolved
attribute_fine scope kept written =
    let name = declared_or_flaw (expand_attribute scope written) written in
    name_either (not (is_qname written)) (flawed_as faults.BadName written) (new_or_flaw kept name written) (λ h. h)
    (new_fine kept name written (declared_fine (expand_attribute scope written) written))

one_attribute_fine : (scope : List Binding) (kept : List Name) (it : Attribute) → Fine (attribute_item it (resolved_if_attribute scope kept it))
unfolding resolved_if_attribute
one_attribute_fine scope kept it = by_test (is_declaration it.name) (attribute_resolved scope kept it.name) (attribute_fine scope kept it.name)
  where
    by_test : (t : Bool) (r : Resolved) → FineName r → Fine (attribute_item it (cond t None (Some r)))
    by_test true r h = tt
    by_test false (Named name) h = (tt, tt)
    by_test false (Flawed flaw) h = (h, tt)

attributes_fine : (scope : List Binding) (kept : List Name) (xs : List Attribute) → Fine (attribute_items scope kept xs)
unfolding attribute_items
attributes_fine scope kept [] = tt
attributes_fine scope kept (x ∷ xs) =
    let r = resolved_if_attribute scope kept x in
    fine_both (attribute_item x r) (attribute_items scope (kept ++ kept_name r) xs) (one_attribute_fine scope kept x) (attributes_fine scope (kept ++ kept_name r) xs)

start_fine : (state : EventState) (token : Token) → Fine (start_items state token)
unfolding start_items
start_fine state token =
    let all = tag_attributes token.from token.bytes in
    let scope = state.scope ++ own_bindings token in
    let a = run_items token.from state.run in
    let b = faults_as_items (character_faults readings.Value token.from token.bytes) in
    let c = faults_as_items (declaration_faults [] all) in
    let r = element_resolved (is_behind state) scope (start_name token.bytes) in
    let d = element_items (token_span token) r in
    let e = attribute_items scope [] all in
    fine_both (a ++ b ++ c ++ d ++ e) (items.Event TagEnd (token_span token) ∷ [])
    (fine_both (a ++ b ++ c ++ d) e
    (fine_both (a ++ b ++ c) d
    (fine_both (a ++ b) c (fine_both a b (run_fine token.from state.run) (characters_fine readings.Value token.from token.bytes))
    (as_items_fine (declaration_faults [] all) (declarations_fine [] all)))
    (element_fine (token_span token) r (resolved_fine (is_behind state) scope (start_name token.bytes))))
    (attributes_fine scope [] all))
    (tt, tt)

-- ---- any token but an end tag

fault_if_fine : (t : Bool) (kind : Kind) (token : Token) → ¬ IsOfEnd kind → Fine (token_fault_if t kind token)
fault_if_fine true kind token h = (h, tt)
fault_if_fine false kind token h = tt

data_fine : (reading : Reading) (t : Bool) (kind : Kind) (token : Token) → ¬ IsOfEnd kind → Fine (character_items reading t kind token)
data_fine reading t kind token h =
    fine_both (faults_as_items (character_faults reading token.from token.bytes)) (token_fault_if t kind token)
    (characters_fine reading token.from token.bytes) (fault_if_fine t kind token h)

first_fine : (state : EventState) (token : Token) → Fine (declaration_items state token)
unfolding declaration_items
first_fine state token = by_test state.came
  where
    by_test : (t : Bool) → Fine (cond t (token_fault_if true faults.Misplaced token) (token_fault_if (not (is_xml_declaration token.bytes)) faults.BadDecl token))
    by_test true = fault_if_fine true faults.Misplaced token (λ h. h)
    by_test false = fault_if_fine (not (is_xml_declaration token.bytes)) faults.BadDecl token (λ h. h)

pub others_fine : (kind : TokenKind) (state : EventState) (token : Token) → (kind ≡ kinds.End → ⊥) → Fine (items_by_kind kind state token)
unfolding doctype_items comment_items pi_items cdata_items text_items empty_items
others_fine kinds.Bom state token h = tt
others_fine kinds.Decl state token h = first_fine state token
others_fine kinds.Doctype state token h = fault_if_fine (state.started || state.doctype) faults.Misplaced token (λ k. k)
others_fine kinds.Comment state token h = data_fine readings.Plain (is_bad_comment token.bytes) faults.BadComment token (λ k. k)
others_fine kinds.Pi state token h = data_fine readings.Plain (is_bad_pi token.bytes) faults.BadPi token (λ k. k)
others_fine kinds.Cdata state token h = data_fine readings.Plain (not (is_inside state)) faults.TextOutside token (λ k. k)
others_fine kinds.Text state token h =
    data_fine readings.Text (not (is_inside state) && not (list_all is_space token.bytes)) faults.TextOutside token (λ k. k)
others_fine kinds.Bad state token h = fault_if_fine true faults.BadMarkup token (λ k. k)
others_fine kinds.Unclosed state token h = fault_if_fine true faults.Unclosed token (λ k. k)
others_fine kinds.Start state token h = start_fine state token
others_fine kinds.Empty state token h =
    fine_both (start_items state token) (items.Event Leave (token_span token) ∷ []) (start_fine state token) (tt, tt)
others_fine kinds.End state token h = absurd (h refl)
