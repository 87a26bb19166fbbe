-- What elements hold is UTF-8, where the text is that they are read from.
use Rattle.std.proofs.Common.{ℕ, ◌==◌, Option, Some, None, List, [], ◌∷◌, ◌++◌, length, drop, map, codes, subst, IsUtf8}
use Rattle.std.specs.List.{AllByRecursion, flat_map}
use Rattle.std.specs.Str.{bytes_eq}
use Rattle.std.proofs.lemmas.Str.{IsUtf8-nil, IsUtf8-append}
use Rattle.nx_base.specs.Tokens.{tokens_of}
use Rattle.nx_base.specs.Trees.{children_flat, attributes_flat}
use Rattle.nx_base.specs.Trees as trees
use Rattle.nx_base.specs.declared.name.Name.{Name}
use Rattle.nx_base.specs.declared.token.Token.{Token}
use Rattle.nx_base.specs.declared.token.TokenKind.{TokenKind}
use Rattle.nx_base.specs.declared.token.TokenKind.TheVariants as kinds
use Rattle.nx_events.specs.Among.{events_among}
use Rattle.nx_events.specs.Declarations.{is_declaration, declaration_flaw, binding_unless, bindings_at, bindings}
use Rattle.nx_events.specs.InForce.{pair_unless_xml, pairs_of}
use Rattle.nx_events.specs.Items.{items_of_text, own_bindings}
use Rattle.nx_events.specs.Texts.{EventIsText, ItemsAreText}
use Rattle.nx_events.specs.TreeEvents.{as_event}
use Rattle.nx_events.specs.declared.flaw.Flaw.{Flaw}
use Rattle.nx_events.specs.declared.item.Item.{Item}
use Rattle.nx_events.specs.declared.item.Item.TheVariants as items
use Rattle.nx_events.specs.declared.scope.Binding.{Binding}
use Rattle.nx_events.specs.declared.tag.Attribute.{Attribute as TheAttribute}
use Rattle.nx_events.specs.Tags.{tag_attributes}
use Rattle.nx_events.proofs.Texts.{either_is}
use Rattle.nx_events.proofs.TextItems.{all_text}
use Rattle.nx_events.proofs.TextKinds.{HasContent, content_text}
use Rattle.nx_events.proofs.TextTags.{AttributesAreText, tag_text}
use Rattle.rngx_read.specs.declared.element.Attribute.{Attribute}
use Rattle.rngx_read.specs.declared.element.Tag.{Tag}
use Rattle.rngx_read.specs.Elements.{Nodes, no_nodes, string_then, node_then, without_declarations, declarations_and, declared_by, declared_of_token, IsReadAs, schema_namespace, Elements, no_elements, element_then, plain_if, plain_attributes, strings_in, elements_in}
use Rattle.rngx_read.specs.Marking.{AreTextTokens}
use Rattle.rngx_read.proofs.Lists.{all_append}

-- the URIs that are bound, and the values of attributes
abbrev pub UrisAreText : List Name → Type 0
UrisAreText pairs = AllByRecursion (λ (pair : Name). IsUtf8 pair.ns) pairs

abbrev pub ValuesAreText : List Attribute → Type 0
ValuesAreText attributes = AllByRecursion (λ (attribute : Attribute). IsUtf8 attribute.value) attributes

-- what a schema takes from a tag, and from elements
pub record TagIsText (tag : Tag) : Type 0 where
  pub values : ValuesAreText tag.attributes
  pub uris : UrisAreText tag.scope
  pub text : IsUtf8 tag.text

abbrev pub ElementsAreText : Elements → Type 0
ElementsAreText no_elements = Unit {0}
ElementsAreText (element_then tag children rest) = TagIsText tag × ElementsAreText children × ElementsAreText rest

-- ---- nodes

abbrev EventsAreText : List trees.Event → Type 0
EventsAreText events = AllByRecursion (λ (event : trees.Event). EventIsText (as_event event)) events

-- what is declared at tags
abbrev DeclaredIsText : List (List Name) → Type 0
DeclaredIsText declared = AllByRecursion UrisAreText declared

plain_text : (ns : List ℕ) (attribute : Attribute) (more : List Attribute) → IsUtf8 attribute.value → ValuesAreText more →
    ValuesAreText (plain_if ns attribute more)
plain_text [] attribute more one others = (one, others)
plain_text (b ∷ ns) attribute more one others = others

attributes_text : (attributes : List trees.Attribute) (after : List trees.Event) → EventsAreText (attributes_flat attributes after) →
    ValuesAreText (plain_attributes attributes) × EventsAreText after
attributes_text [] after e = (tt, e)
attributes_text (a ∷ more) after e =
    let others = attributes_text more after e.1 in
    (plain_text a.name.ns (record { local = a.name.local; value = a.value }) (plain_attributes more) e.0.1 others.0, others.1)

-- nodes, and what comes behind them
record NodesAreText (outer : List Name) (nodes : Nodes) (after : List trees.Event) (more : List (List Name)) : Type 0 where
  pub elements : ElementsAreText (elements_in outer nodes)
  pub strings : IsUtf8 (strings_in nodes)
  pub events : EventsAreText after
  pub declared : DeclaredIsText more

nodes_text : (nodes : Nodes) (outer : List Name) (after : List trees.Event) (more : List (List Name)) → UrisAreText outer →
    EventsAreText (children_flat (without_declarations nodes) after) → DeclaredIsText (declarations_and nodes more) →
    NodesAreText outer nodes after more
nodes_text no_nodes outer after more o e d = record { elements = tt; strings = IsUtf8-nil; events = e; declared = d }
nodes_text (string_then text rest) outer after more o e d =
    let others = nodes_text rest outer after more o e.1 d in
    record {
      elements = others.elements;
      strings = IsUtf8-append text (strings_in rest) e.0 others.strings;
      events = others.events;
      declared = others.declared;
    }
nodes_text (node_then name attributes own children rest) outer after more o e d =
    let following : List trees.Event = trees.Leave ∷ children_flat (without_declarations rest) after in
    let inner : UrisAreText (outer ++ own) = all_append (λ (pair : Name). IsUtf8 pair.ns) outer own o d.0 in
    let values = attributes_text attributes (trees.TagEnd ∷ children_flat (without_declarations children) following) e.1 in
    let within = nodes_text children (outer ++ own) following (declarations_and rest more) inner values.1.1 d.1 in
    let others = nodes_text rest outer after more o within.events.1 within.declared in
    record {
      elements =
          either_is ElementsAreText (bytes_eq name.ns schema_namespace)
          (element_then (record { local = name.local; attributes = plain_attributes attributes; scope = outer ++ own; text = strings_in children })
          (elements_in (outer ++ own) children) (elements_in outer rest))
          (elements_in outer rest)
          (record { values = values.0; uris = inner; text = within.strings }, within.elements, others.elements)
          others.elements;
      strings = others.strings;
      events = others.events;
      declared = others.declared;
    }

-- ---- events

events_text : (all : List Item) → ItemsAreText all → AllByRecursion EventIsText (events_among all)
events_text [] h = tt
events_text (items.Event event span ∷ more) h = (h.0, events_text more h.1)
events_text (items.Fault fault ∷ more) h = events_text more h.1

of_tree : (events : List trees.Event) → AllByRecursion EventIsText (map as_event events) → EventsAreText events
of_tree [] h = tt
of_tree (event ∷ events) h = (h.0, of_tree events h.1)

-- ---- declarations

module _ (it : TheAttribute) (value : IsUtf8 it.string) where
  binding_text : (flaw : Option Flaw) → AllByRecursion (λ (b : Binding). IsUtf8 b.uri) (binding_unless it flaw)
  binding_text None = (value, tt)
  binding_text (Some flaw) = tt

bindings_text : (before attributes : List TheAttribute) → AttributesAreText attributes →
    AllByRecursion (λ (b : Binding). IsUtf8 b.uri) (bindings before attributes)
unfolding bindings bindings_at
bindings_text before [] h = tt
bindings_text before (it ∷ more) h =
    all_append (λ (b : Binding). IsUtf8 b.uri) (bindings_at before it) (bindings (before ++ it ∷ []) more)
    (either_is (AllByRecursion (λ (b : Binding). IsUtf8 b.uri)) (is_declaration it.name) (binding_unless it (declaration_flaw before it)) []
    (binding_text it h.0.1 (declaration_flaw before it)) tt)
    (bindings_text (before ++ it ∷ []) more h.1)

pairs_text : (all : List Binding) → AllByRecursion (λ (b : Binding). IsUtf8 b.uri) all → UrisAreText (pairs_of all)
unfolding pairs_of
pairs_text [] h = tt
pairs_text (b ∷ more) h =
    all_append (λ (pair : Name). IsUtf8 pair.ns) (pair_unless_xml b) (pairs_of more)
    (either_is UrisAreText (bytes_eq b.prefix (codes "xml")) [] ((record { ns = b.uri; local = b.prefix }) ∷ []) tt (h.0, tt))
    (pairs_text more h.1)

own_text : (token : Token) → IsUtf8 (drop 1 token.bytes) → UrisAreText (pairs_of (own_bindings token))
own_text token u = pairs_text (own_bindings token) (bindings_text [] (tag_attributes token.from token.bytes) (tag_text token.from token.bytes u))

by_kind : (kind : TokenKind) (token : Token) (n : ℕ) → HasContent token.bytes kind n → DeclaredIsText (declared_by kind token)
by_kind kinds.Start token n h = (own_text token h, tt)
by_kind kinds.Empty token n h = (own_text token h, tt)
by_kind kinds.Bom token n h = tt
by_kind kinds.Decl token n h = tt
by_kind kinds.Doctype token n h = tt
by_kind kinds.Comment token n h = tt
by_kind kinds.Pi token n h = tt
by_kind kinds.Cdata token n h = tt
by_kind kinds.Text token n h = tt
by_kind kinds.Bad token n h = tt
by_kind kinds.Unclosed token n h = tt
by_kind kinds.End token n h = tt

declared_text : (tokens : List Token) → AreTextTokens tokens → DeclaredIsText (flat_map declared_of_token tokens)
declared_text [] h = tt
declared_text (token ∷ more) h =
    all_append UrisAreText (declared_of_token token) (flat_map declared_of_token more)
    (by_kind token.kind token (length token.bytes) (content_text token h.0.0 ((token.from == 0), h.0.1)))
    (declared_text more h.1)

-- ---- a text

pub read_text : (text : List ℕ) (nodes : Nodes) → AreTextTokens (tokens_of text) → IsReadAs text nodes → ElementsAreText (elements_in [] nodes)
read_text text nodes tokens is =
    let events = events_text (items_of_text text) (all_text (tokens_of text) (length text) tokens) in
    let of_nodes = subst (AllByRecursion EventIsText) is.events events in
    (nodes_text nodes [] [] [] tt (of_tree (children_flat (without_declarations nodes) []) of_nodes)
    (subst DeclaredIsText is.declared (declared_text (tokens_of text) tokens))).elements
