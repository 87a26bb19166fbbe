-- The elements that are put together are those of the tree.
use Rattle.std.proofs.Common.{◌≡◌, ℕ, zero, suc, Bool, true, false, cond, List, [], ◌∷◌, ◌++◌, refl, sym, ap, ◌∙◌, append_assoc, map}
use Rattle.std.proofs.lemmas.List.{append-nil}
use Rattle.std.specs.Str.{bytes_eq}
use Rattle.nx_base.specs.Trees.{children_flat, attributes_flat}
use Rattle.nx_base.specs.Trees as trees
use Rattle.nx_base.specs.declared.fault.Span.{Span}
use Rattle.nx_base.specs.declared.name.Name.{Name}
use Rattle.nx_events.specs.Among.{events_among}
use Rattle.nx_events.specs.TreeEvents.{as_event}
use Rattle.nx_events.specs.declared.item.Event.{Event}
use Rattle.nx_events.specs.declared.item.Item.{Item}
use Rattle.nx_events.specs.declared.item.Item.TheVariants as items
use Rattle.rngx_read.specs.declared.element.Attribute.{Attribute}
use Rattle.rngx_read.specs.declared.element.Tag.{Tag}
use Rattle.rngx_read.specs.Building.{Frame, Built, bare, opened, passed_by, with_attribute, with_text, with_child, behind_event, behind_events, behind_item, behind_items, elements_and}
use Rattle.rngx_read.specs.Elements.{Nodes, no_nodes, string_then, node_then, without_declarations, declarations_and, Elements, no_elements, element_then, schema_namespace, plain_if, plain_attributes, strings_in, elements_in}

-- ---- rows

and_nothing : (elements : Elements) → elements_and elements no_elements ≡ elements
and_nothing no_elements = refl
and_nothing (element_then tag children rest) = ap (element_then tag children) (and_nothing rest)

and_assoc : (a b c : Elements) → elements_and (elements_and a b) c ≡ elements_and a (elements_and b c)
and_assoc no_elements b c = refl
and_assoc (element_then tag children rest) b c = ap (element_then tag children) (and_assoc rest b c)

plain_and : (ns : List ℕ) (attribute : Attribute) (more : List Attribute) → plain_if ns attribute [] ++ more ≡ plain_if ns attribute more
plain_and [] attribute more = refl
plain_and (b ∷ ns) attribute more = refl

-- elements of the schema are read, or n elements and one more are open that are passed over
abbrev reading : Frame → List Frame → List (List Name) → Built
reading inner outer declared = record { inner = inner; outer = outer; passed = zero; declared = declared }

abbrev passing : ℕ → Frame → List Frame → List (List Name) → Built
passing n inner outer declared = record { inner = inner; outer = outer; passed = suc n; declared = declared }

-- ---- inside of what is passed over, nothing changes but the declarations that come

attributes_passed : (attributes : List trees.Attribute) (after : List trees.Event) (inner : Frame) (outer : List Frame) (n : ℕ)
    (declared : List (List Name)) →
    behind_events (attributes_flat attributes after) (passing n inner outer declared)
    ≡ behind_events after (passing n inner outer declared)
unfolding behind_events
attributes_passed [] after inner outer n declared = refl
attributes_passed (a ∷ more) after inner outer n declared = attributes_passed more after inner outer n declared

nodes_passed : (nodes : Nodes) (after : List trees.Event) (inner : Frame) (outer : List Frame) (n : ℕ) (more : List (List Name)) →
    behind_events (children_flat (without_declarations nodes) after) (passing n inner outer (declarations_and nodes more))
    ≡ behind_events after (passing n inner outer more)
unfolding behind_events
nodes_passed no_nodes after inner outer n more = refl
nodes_passed (string_then text rest) after inner outer n more = nodes_passed rest after inner outer n more
nodes_passed (node_then name attributes own children rest) after inner outer n more =
    attributes_passed attributes (trees.TagEnd ∷ children_flat (without_declarations children)
    (trees.Leave ∷ children_flat (without_declarations rest) after)) inner outer (suc n)
    (declarations_and children (declarations_and rest more))
    ∙ nodes_passed children (trees.Leave ∷ children_flat (without_declarations rest) after) inner outer (suc n) (declarations_and rest more)
    ∙ nodes_passed rest after inner outer n more

-- ---- elements of the schema

-- a frame with these nodes in it
abbrev with_nodes : Frame → Nodes → Frame
with_nodes frame nodes = record {
  tag = record frame.tag { text = frame.tag.text ++ strings_in nodes };
  children = elements_and frame.children (elements_in frame.tag.scope nodes);
}

-- a frame with these attributes, with this text and with these children
abbrev attributed : Frame → List Attribute → Frame
attributed frame attributes = record frame { tag = record frame.tag { attributes = attributes } }

abbrev texted : Frame → List ℕ → Frame
texted frame text = record frame { tag = record frame.tag { text = text } }

abbrev parented : Frame → Elements → Frame
parented frame children = record frame { children = children }

abbrev with_attributes : Frame → List trees.Attribute → Frame
with_attributes frame attributes = attributed frame (frame.tag.attributes ++ plain_attributes attributes)

attributes_read : (attributes : List trees.Attribute) (after : List trees.Event) (frame : Frame) (outer : List Frame) (declared : List (List Name)) →
    behind_events (attributes_flat attributes after) (reading frame outer declared)
    ≡ behind_events after (reading (with_attributes frame attributes) outer declared)
unfolding behind_events
attributes_read [] after frame outer declared =
    ap (λ (l : List Attribute). behind_events after (reading (attributed frame l) outer declared))
    (sym (append-nil frame.tag.attributes))
attributes_read (a ∷ more) after frame outer declared =
    let one : Attribute = record { local = a.name.local; value = a.value } in
    attributes_read more after (with_attribute frame a.name a.value) outer declared
    ∙ ap (λ (l : List Attribute). behind_events after (reading (attributed frame l) outer declared))
    (append_assoc frame.tag.attributes (plain_if a.name.ns one []) (plain_attributes more)
    ∙ ap (λ (l : List Attribute). frame.tag.attributes ++ l) (plain_and a.name.ns one (plain_attributes more)))

-- the state behind nodes
abbrev Behind : Nodes → Type 0
Behind nodes = (after : List trees.Event) (frame : Frame) (outer : List Frame) (more : List (List Name)) →
    behind_events (children_flat (without_declarations nodes) after) (reading frame outer (declarations_and nodes more))
    ≡ behind_events after (reading (with_nodes frame nodes) outer more)

-- the element with this tag, whose content is read
abbrev read_tag : Name → List trees.Attribute → List Name → Nodes → Tag
read_tag name attributes scope children =
    record { local = name.local; attributes = plain_attributes attributes; scope = scope; text = strings_in children }

node_read : (name : Name) (attributes : List trees.Attribute) (own : List Name) (children rest : Nodes) → Behind children → Behind rest →
    Behind (node_then name attributes own children rest)
unfolding behind_events
node_read name attributes own children rest in_children in_rest after frame outer more = by_namespace (bytes_eq name.ns schema_namespace) refl
  where
    following : List trees.Event
    following = trees.Leave ∷ children_flat (without_declarations rest) after

    start : Built
    start = reading frame outer (own ∷ declarations_and children (declarations_and rest more))

    scope : List Name
    scope = frame.tag.scope ++ own

    tag : Tag
    tag = read_tag name attributes scope children

    by_namespace : (b : Bool) → bytes_eq name.ns schema_namespace ≡ b →
        behind_events (attributes_flat attributes (trees.TagEnd ∷ children_flat (without_declarations children) following))
        (cond b (opened name start) (passed_by start))
        ≡ behind_events after (reading
        (parented (texted frame (frame.tag.text ++ strings_in rest))
        (elements_and frame.children
        (cond b (element_then tag (elements_in scope children) (elements_in frame.tag.scope rest)) (elements_in frame.tag.scope rest))))
        outer more)
    by_namespace true e =
        attributes_read attributes (trees.TagEnd ∷ children_flat (without_declarations children) following) (bare name.local scope) (frame ∷ outer)
        (declarations_and children (declarations_and rest more))
        ∙ in_children following (with_attributes (bare name.local scope) attributes) (frame ∷ outer) (declarations_and rest more)
        ∙ in_rest after (with_child frame (record { tag = tag; children = elements_in scope children })) outer more
        ∙ ap (λ (l : Elements). behind_events after (reading (parented (texted frame (frame.tag.text ++ strings_in rest)) l) outer more))
        (and_assoc frame.children (element_then tag (elements_in scope children) no_elements) (elements_in frame.tag.scope rest))
    by_namespace false e =
        attributes_passed attributes (trees.TagEnd ∷ children_flat (without_declarations children) following) frame outer zero
        (declarations_and children (declarations_and rest more))
        ∙ nodes_passed children following frame outer zero (declarations_and rest more)
        ∙ in_rest after frame outer more

pub nodes_read : (nodes : Nodes) → Behind nodes
unfolding behind_events
nodes_read no_nodes after frame outer more =
    ap (λ (f : Frame). behind_events after (reading f outer more)) same
  where
    same : frame ≡ with_nodes frame no_nodes
    same =
        ap (λ (l : List ℕ). record { tag = record frame.tag { text = l }; children = frame.children }) (sym (append-nil frame.tag.text))
        ∙ ap (λ (e : Elements). record { tag = record frame.tag { text = frame.tag.text ++ [] }; children = e }) (sym (and_nothing frame.children))
nodes_read (string_then text rest) after frame outer more =
    nodes_read rest after (with_text frame text) outer more
    ∙ ap (λ (l : List ℕ). behind_events after
    (reading (parented (texted frame l) (elements_and frame.children (elements_in frame.tag.scope rest))) outer more))
    (append_assoc frame.tag.text text (strings_in rest))
nodes_read (node_then name attributes own children rest) after frame outer more =
    node_read name attributes own children rest (nodes_read children) (nodes_read rest) after frame outer more

-- nothing is read, and the declarations of these nodes come
abbrev pub before_all : Nodes → Built
before_all nodes = reading (bare [] []) [] (declarations_and nodes [])

-- all nodes of a text, outside of all elements
pub all_read : (nodes : Nodes) →
    (behind_events (children_flat (without_declarations nodes) []) (before_all nodes)).inner.children
    ≡ elements_in [] nodes
unfolding behind_events
all_read nodes = ap (λ (built : Built). built.inner.children) (nodes_read nodes [] (bare [] []) [] [])

-- ---- items

event_same : (event : trees.Event) (span : Span) (built : Built) → behind_event event built ≡ behind_item (items.Event (as_event event) span) built
event_same (trees.Enter name) span built = refl
event_same (trees.Att name value) span built = refl
event_same trees.TagEnd span built = refl
event_same (trees.Chars text) span built = refl
event_same trees.Leave span built = refl

-- items that are these events do the same
pub items_read : (all : List Item) (these : List trees.Event) (built : Built) → events_among all ≡ map as_event these →
    behind_items all built ≡ behind_events these built
unfolding behind_items behind_events
items_read [] [] built same = refl
items_read [] (e ∷ more) built same = let never : ⊥ = cc in absurd never
items_read (items.Fault fault ∷ rest) these built same = items_read rest these built same
items_read (items.Event event span ∷ rest) [] built same = let never : ⊥ = cc in absurd never
items_read (items.Event event span ∷ rest) (e ∷ more) built same =
    let first : event ≡ as_event e = cc in
    let others : events_among rest ≡ map as_event more = cc in
    ap (behind_items rest) (ap (λ (x : Event). behind_item (items.Event x span) built) first ∙ sym (event_same e span built))
    ∙ items_read rest more (behind_event e built) others

-- so what items put together that are the events of nodes is their elements
pub all_put : (all : List Item) (nodes : Nodes) (start : Built) → events_among all ≡ map as_event (children_flat (without_declarations nodes) []) →
    start ≡ before_all nodes → (behind_items all start).inner.children ≡ elements_in [] nodes
all_put all nodes start events is =
    ap (λ (built : Built). (behind_items all built).inner.children) is
    ∙ ap (λ (built : Built). built.inner.children)
    (items_read all (children_flat (without_declarations nodes) []) (before_all nodes) events)
    ∙ all_read nodes
