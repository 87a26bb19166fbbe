-- How many elements begin among the items of a text: one for each tag that begins an element.
use Rattle.std.proofs.Common.{◌≡◌, ℕ, suc, ◌+◌, ◌-◌, ◌==◌, Bool, true, false, cond, Option, Some, None, List, [], ◌∷◌, ◌++◌, length, drop, reverse, map, refl, ap, sym, ◌∙◌, arith, length-append, zero-add}
use Rattle.std.specs.Prelude.{not, ◌&&◌, ◌||◌}
use Rattle.std.specs.List.{flat_map, list_all}
use Rattle.nx_base.specs.Characters.{is_space}
use Rattle.nx_base.specs.Trees.{Children, nil, string, element, children_flat, attributes_flat}
use Rattle.nx_base.specs.Trees as trees
use Rattle.nx_base.specs.declared.fault.Fault.{Fault}
use Rattle.nx_base.specs.declared.fault.Kind.{Kind}
use Rattle.nx_base.specs.declared.fault.Kind.TheVariants as kinds
use Rattle.nx_base.specs.declared.fault.Span.{Span}
use Rattle.nx_base.specs.declared.name.Name.{Name}
use Rattle.nx_base.specs.declared.token.Token.{Token}
use Rattle.nx_base.specs.declared.token.TokenKind.{TokenKind}
use Rattle.nx_base.specs.declared.token.TokenKind.TheVariants as tokens
use Rattle.nx_events.specs.declared.item.Event.{Event}
use Rattle.nx_events.specs.declared.item.Event.TheVariants.{Enter, EnterLost, Att, TagEnd, Chars, Leave}
use Rattle.nx_events.specs.declared.item.Item.{Item}
use Rattle.nx_events.specs.declared.item.Item.TheVariants as items
use Rattle.nx_events.specs.declared.flaw.Resolved.{Resolved}
use Rattle.nx_events.specs.declared.flaw.Resolved.TheVariants.{Named, Flawed}
use Rattle.nx_events.specs.declared.reading.Reading.{Reading}
use Rattle.nx_events.specs.declared.reading.Reading.TheVariants.{Plain, Text, Value}
use Rattle.nx_events.specs.declared.scope.Binding.{Binding}
use Rattle.nx_events.specs.declared.state.EventState.{EventState}
use Rattle.nx_events.specs.declared.state.OpenElement.{OpenElement}
use Rattle.nx_events.specs.declared.state.Run.{Run}
use Rattle.nx_events.specs.declared.tag.Attribute.{Attribute}
use Rattle.nx_events.specs.Among.{events_among}
use Rattle.nx_events.specs.CharacterFaults.{character_faults}
use Rattle.nx_events.specs.Declarations.{declaration_faults}
use Rattle.nx_events.specs.Elements.{element_resolved, element_items, resolved_if_attribute, attribute_item, kept_name, attribute_items}
use Rattle.nx_events.specs.Faults.{bare_fault, faults_as_items}
use Rattle.nx_events.specs.Items.{token_span, token_fault_if, is_inside, is_before, is_behind, declaration_items, doctype_items, character_items, comment_items, pi_items, cdata_items, text_items, own_bindings, start_items, empty_items, around_innermost, left_out, extra_end_items, closing_items, end_items, items_by_kind, items_of_token, state_behind, items_at_end, items_from}
use Rattle.nx_events.specs.Markup.{is_bad_comment, is_bad_pi}
use Rattle.nx_events.specs.Runs.{run_items}
use Rattle.nx_events.specs.Tags.{start_name, end_name, tag_attributes}
use Rattle.nx_events.specs.TreeEvents.{as_event}
use Rattle.nx_events.specs.XmlDeclaration.{is_xml_declaration}
use Rattle.rngx_read.specs.Elements.{declared_by, declared_of_token}

-- ---- among events, and among items

begun : List Event → ℕ
begun [] = 0
begun (Enter name ∷ more) = suc (begun more)
begun (EnterLost ∷ more) = suc (begun more)
begun (Att name value ∷ more) = begun more
begun (TagEnd ∷ more) = begun more
begun (Chars text ∷ more) = begun more
begun (Leave ∷ more) = begun more

pub entered : List Item → ℕ
entered [] = 0
entered (items.Event (Enter name) span ∷ more) = suc (entered more)
entered (items.Event EnterLost span ∷ more) = suc (entered more)
entered (items.Event (Att name value) span ∷ more) = entered more
entered (items.Event TagEnd span ∷ more) = entered more
entered (items.Event (Chars text) span ∷ more) = entered more
entered (items.Event Leave span ∷ more) = entered more
entered (items.Fault fault ∷ more) = entered more

entered_begun : (all : List Item) → entered all ≡ begun (events_among all)
unfolding entered begun
entered_begun [] = refl
entered_begun (items.Event (Enter name) span ∷ more) = ap suc (entered_begun more)
entered_begun (items.Event EnterLost span ∷ more) = ap suc (entered_begun more)
entered_begun (items.Event (Att name value) span ∷ more) = entered_begun more
entered_begun (items.Event TagEnd span ∷ more) = entered_begun more
entered_begun (items.Event (Chars text) span ∷ more) = entered_begun more
entered_begun (items.Event Leave span ∷ more) = entered_begun more
entered_begun (items.Fault fault ∷ more) = entered_begun more

entered_and : (xs ys : List Item) → entered (xs ++ ys) ≡ entered xs + entered ys
unfolding entered
entered_and [] ys = sym (zero-add (entered ys))
entered_and (items.Event (Enter name) span ∷ more) ys =
    let k : suc (entered more + entered ys) ≡ suc (entered more) + entered ys = omega arith in ap suc (entered_and more ys) ∙ k
entered_and (items.Event EnterLost span ∷ more) ys =
    let k : suc (entered more + entered ys) ≡ suc (entered more) + entered ys = omega arith in ap suc (entered_and more ys) ∙ k
entered_and (items.Event (Att name value) span ∷ more) ys = entered_and more ys
entered_and (items.Event TagEnd span ∷ more) ys = entered_and more ys
entered_and (items.Event (Chars text) span ∷ more) ys = entered_and more ys
entered_and (items.Event Leave span ∷ more) ys = entered_and more ys
entered_and (items.Fault fault ∷ more) ys = entered_and more ys

both : (xs ys : List Item) (m n : ℕ) → entered xs ≡ m → entered ys ≡ n → entered (xs ++ ys) ≡ m + n
both xs ys m n h k = entered_and xs ys ∙ omega (arith, h, k)

-- ---- the parts of a token's items

faults_enter : (xs : List Fault) → entered (faults_as_items xs) ≡ 0
unfolding entered
faults_enter [] = refl
faults_enter (x ∷ xs) = faults_enter xs

fault_enters : (t : Bool) (kind : Kind) (token : Token) → entered (token_fault_if t kind token) ≡ 0
unfolding entered
fault_enters true kind token = refl
fault_enters false kind token = refl

characters_enter : (reading : Reading) (t : Bool) (kind : Kind) (token : Token) → entered (character_items reading t kind token) ≡ 0
characters_enter reading t kind token =
    both (faults_as_items (character_faults reading token.from token.bytes)) (token_fault_if t kind token) 0 0
    (faults_enter (character_faults reading token.from token.bytes)) (fault_enters t kind token)

run_enters : (at : ℕ) (run : Option Run) → entered (run_items at run) ≡ 0
unfolding run_items entered
run_enters at None = refl
run_enters at (Some run) = by_test (length run.string == 0)
  where
    by_test : (t : Bool) → entered (cond t [] (items.Event (Chars run.string) (record { from = at - (run.gap + run.len); to = at - run.gap }) ∷ []))
        ≡ 0
    by_test true = refl
    by_test false = refl

attribute_enters : (it : Attribute) (r : Option Resolved) → entered (attribute_item it r) ≡ 0
unfolding entered
attribute_enters it None = refl
attribute_enters it (Some (Named name)) = refl
attribute_enters it (Some (Flawed flaw)) = refl

attributes_enter : (scope : List Binding) (kept : List Name) (xs : List Attribute) → entered (attribute_items scope kept xs) ≡ 0
unfolding attribute_items entered
attributes_enter scope kept [] = refl
attributes_enter scope kept (x ∷ xs) =
    let r = resolved_if_attribute scope kept x in
    both (attribute_item x r) (attribute_items scope (kept ++ kept_name r) xs) 0 0 (attribute_enters x r)
    (attributes_enter scope (kept ++ kept_name r) xs)

element_enters : (span : Span) (r : Resolved) → entered (element_items span r) ≡ 1
unfolding entered
element_enters span (Named name) = refl
element_enters span (Flawed flaw) = refl

left_enter : (kind : Kind) (span : Span) (xs : List OpenElement) → entered (flat_map (left_out kind span) xs) ≡ 0
unfolding entered
left_enter kind span [] = refl
left_enter kind span (x ∷ xs) = left_enter kind span xs

tag_end_enters : (span : Span) → entered (items.Event TagEnd span ∷ []) ≡ 0
unfolding entered
tag_end_enters span = refl

leave_enters : (span : Span) → entered (items.Event Leave span ∷ []) ≡ 0
unfolding entered
leave_enters span = refl

extra_enters : (token : Token) → entered (extra_end_items token) ≡ 0
unfolding entered
extra_enters token = refl

start_enters : (state : EventState) (token : Token) → entered (start_items state token) ≡ 1
unfolding start_items
start_enters state token =
    let attributes = tag_attributes token.from token.bytes in
    let scope = state.scope ++ own_bindings token in
    let r = element_resolved (is_behind state) scope (start_name token.bytes) in
    let x1 = both (run_items token.from state.run) (faults_as_items (character_faults Value token.from token.bytes)) 0 0
    (run_enters token.from state.run) (faults_enter (character_faults Value token.from token.bytes)) in
    let x2 = both _ (faults_as_items (declaration_faults [] attributes)) 0 0 x1 (faults_enter (declaration_faults [] attributes)) in
    let x3 = both _ (element_items (token_span token) r) 0 1 x2 (element_enters (token_span token) r) in
    let x4 = both _ (attribute_items scope [] attributes) 1 0 x3 (attributes_enter scope [] attributes) in
    both _ (items.Event TagEnd (token_span token) ∷ []) 1 0 x4 (tag_end_enters (token_span token))

empty_enters : (state : EventState) (token : Token) → entered (empty_items state token) ≡ 1
unfolding empty_items
empty_enters state token = both (start_items state token) (items.Event Leave (token_span token) ∷ []) 1 0 (start_enters state token)
    (leave_enters (token_span token))

closing_enters : (state : EventState) (token : Token) (found : Option ℕ) → entered (closing_items state token found) ≡ 0
closing_enters state token None = extra_enters token
closing_enters state token (Some n) =
    let inner = reverse (drop (suc n) state.elements) in
    let x1 = both (run_items token.from state.run) (flat_map (left_out kinds.MissingEnd (token_span token)) inner) 0 0
    (run_enters token.from state.run)
    (left_enter kinds.MissingEnd (token_span token) inner) in
    both _ (items.Event Leave (token_span token) ∷ []) 0 0 x1 (leave_enters (token_span token))

declaration_enters : (state : EventState) (token : Token) → entered (declaration_items state token) ≡ 0
unfolding declaration_items entered
declaration_enters state token = by_test state.came
  where
    by_test : (t : Bool) → entered (cond t (items.Fault (bare_fault kinds.Misplaced (token_span token)) ∷ [])
        (token_fault_if (not (is_xml_declaration token.bytes)) kinds.BadDecl token)) ≡ 0
    by_test true = refl
    by_test false = fault_enters (not (is_xml_declaration token.bytes)) kinds.BadDecl token

-- ---- a token's items, and all

kind_enters : (kind : TokenKind) (state : EventState) (token : Token) → entered (items_by_kind kind state token) ≡ length (declared_by kind token)
unfolding doctype_items comment_items pi_items cdata_items text_items end_items entered
kind_enters tokens.Bom state token = refl
kind_enters tokens.Decl state token = declaration_enters state token
kind_enters tokens.Doctype state token = fault_enters (state.started || state.doctype) kinds.Misplaced token
kind_enters tokens.Comment state token = characters_enter Plain (is_bad_comment token.bytes) kinds.BadComment token
kind_enters tokens.Pi state token = characters_enter Plain (is_bad_pi token.bytes) kinds.BadPi token
kind_enters tokens.Cdata state token = characters_enter Plain (not (is_inside state)) kinds.TextOutside token
kind_enters tokens.Text state token = characters_enter Text (not (is_inside state) && not (list_all is_space token.bytes)) kinds.TextOutside token
kind_enters tokens.Bad state token = fault_enters true kinds.BadMarkup token
kind_enters tokens.Unclosed state token = fault_enters true kinds.Unclosed token
kind_enters tokens.Start state token = start_enters state token
kind_enters tokens.Empty state token = empty_enters state token
kind_enters tokens.End state token = closing_enters state token (around_innermost (end_name token.bytes) state.elements)

token_enters : (state : EventState) (token : Token) → entered (items_of_token state token) ≡ length (declared_of_token token)
unfolding items_of_token
token_enters state token = kind_enters token.kind state token

end_enters : (state : EventState) (len : ℕ) → entered (items_at_end state len) ≡ 0
unfolding items_at_end entered
end_enters state len =
    let span : Span = record { from = len; to = len } in
    let x1 = both (run_items len state.run) (flat_map (left_out kinds.UnclosedElement span) (reverse state.elements)) 0 0 (run_enters len state.run)
    (left_enter kinds.UnclosedElement span (reverse state.elements)) in
    both (run_items len state.run ++ flat_map (left_out kinds.UnclosedElement span) (reverse state.elements))
    (cond (is_before state) (items.Fault (bare_fault kinds.NoRoot span) ∷ []) []) 0 0 x1 (by_test (is_before state))
  where
    by_test : (t : Bool) → entered (cond t (items.Fault (bare_fault kinds.NoRoot (record { from = len; to = len })) ∷ []) []) ≡ 0
    by_test true = refl
    by_test false = refl

-- one for each place where declarations are told
pub items_enter : (state : EventState) (all : List Token) (len : ℕ) → entered (items_from state all len) ≡ length (flat_map declared_of_token all)
unfolding items_from
items_enter state [] len = end_enters state len
items_enter state (token ∷ others) len =
    both (items_of_token state token) (items_from (state_behind state token) others len) (length (declared_of_token token))
    (length (flat_map declared_of_token others))
    (token_enters state token) (items_enter (state_behind state token) others len)
    ∙ sym (length-append (declared_of_token token) (flat_map declared_of_token others))

-- ---- the elements of a tree

unfoldable pub tally : Children → ℕ
tally nil = 0
tally (string text rest) = tally rest
tally (element name attributes children rest) = suc (tally children + tally rest)

attributes_tally : (attributes : List trees.Attribute) (after : List trees.Event) → begun (map as_event (attributes_flat attributes after))
    ≡ begun (map as_event after)
unfolding begun
attributes_tally [] after = refl
attributes_tally (a ∷ more) after = attributes_tally more after

flat_tally : (children : Children) (after : List trees.Event) → begun (map as_event (children_flat children after))
    ≡ tally children + begun (map as_event after)
unfolding begun tally
flat_tally nil after = sym (zero-add (begun (map as_event after)))
flat_tally (string text rest) after = flat_tally rest after
flat_tally (element name attributes children rest) after =
    let tag = attributes_tally attributes (trees.TagEnd ∷ children_flat children (trees.Leave ∷ children_flat rest after)) in
    let inner = flat_tally children (trees.Leave ∷ children_flat rest after) in
    let k : suc (tally children + (tally rest + begun (map as_event after))) ≡ suc (tally children + tally rest) + begun (map as_event after) =
    omega arith in
    ap suc (tag ∙ inner ∙ ap (λ (n : ℕ). tally children + n) (flat_tally rest after)) ∙ k

-- items that are the events of a tree
pub tree_tally : (all : List Item) (children : Children) → events_among all ≡ map as_event (children_flat children []) → entered all ≡ tally children
unfolding begun
tree_tally all children same =
    let k : tally children + 0 ≡ tally children = omega arith in
    entered_begun all ∙ ap begun same ∙ flat_tally children [] ∙ k
