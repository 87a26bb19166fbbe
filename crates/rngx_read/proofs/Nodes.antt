-- A text without a fault is read as nodes, and as those of one row of elements.
use Rattle.std.proofs.Common.{◌≡◌, ℕ, suc, ◌+◌, List, [], ◌∷◌, map, length, refl, ap, sym, ◌∙◌, arith, IsUtf8}
use Rattle.nx_base.specs.Tokens.{tokens_of}
use Rattle.nx_base.specs.Trees.{Tree, Children, nil, string, element, alone, children_flat}
use Rattle.nx_base.specs.Trees as trees
use Rattle.nx_base.specs.declared.name.Name.{Name}
use Rattle.nx_document.specs.Document.{Document}
use Rattle.nx_document.proofs.Borders.{tokens_mark_first}
use Rattle.nx_document.proofs.Nesting.{document_reads}
use Rattle.nx_document.proofs.Prologs.{faultless_is_document}
use Rattle.nx_events.specs.Among.{faults_among, events_among}
use Rattle.nx_events.specs.Items.{items_of_text, first_state}
use Rattle.nx_events.specs.TreeEvents.{as_event}
use Rattle.nx_events.proofs.TreeEvents.{stay_apart}
use Rattle.rngx_read.specs.Building.{bare, behind_events}
use Rattle.rngx_read.specs.Elements.{Nodes, no_nodes, string_then, node_then, without_declarations, declarations_and, declared_of_text, IsReadAs, Elements, elements_in}
use Rattle.rngx_read.proofs.Building.{all_read}
use Rattle.rngx_read.proofs.Tallies.{tally, items_enter, tree_tally}

-- the declarations of a list, given to the elements of a tree in order, and what is left of them
record Given (children : Children) (declared : List (List Name)) (n : ℕ) : Type 0 where
  pub nodes : Nodes
  pub rest : List (List Name)
  pub same : without_declarations nodes ≡ children
  pub are : declared ≡ declarations_and nodes rest
  pub size : length rest ≡ n

give : (children : Children) (declared : List (List Name)) (n : ℕ) → length declared ≡ tally children + n → Given children declared n
unfolding tally
give nil declared n e =
    let k : length declared ≡ 0 + n = e in
    record { nodes = no_nodes; rest = declared; same = refl; are = refl; size = omega (arith, k) }
give (string text rest) declared n e =
    let g = give rest declared n e in
    record { nodes = string_then text g.nodes; rest = g.rest; same = ap (trees.string text) g.same; are = g.are; size = g.size }
give (element name attributes children rest) [] n e = let k : 0 ≡ suc (tally children + tally rest) + n = e in absurd (omega (arith, k))
give (element name attributes children rest) (own ∷ more) n e =
    let k : suc (length more) ≡ suc (tally children + tally rest) + n = e in
    let inner = give children more (tally rest + n) (omega (arith, k)) in
    let others = give rest inner.rest n inner.size in
    record {
      nodes = node_then name attributes own inner.nodes others.nodes;
      rest = others.rest;
      same =
          ap (λ (c : Children). trees.element name attributes c (without_declarations others.nodes)) inner.same
          ∙ ap (λ (c : Children). trees.element name attributes children c) others.same;
      are = ap (λ (s : List (List Name)). own ∷ s) (inner.are ∙ ap (declarations_and inner.nodes) others.are);
      size = others.size;
    }

none_left : {A : Type 0} (xs : List A) → length xs ≡ 0 → xs ≡ []
none_left [] e = refl
none_left (x ∷ xs) e = absurd (omega (arith, e))

-- a text without a fault is read as some nodes
pub read_as : (text : List ℕ) → IsUtf8 text → faults_among (items_of_text text) ≡ [] → (nodes : Nodes) × IsReadAs text nodes
read_as text utf8 none =
    let all = tokens_of text in
    let there : (tree : Tree) × Document all tree = faultless_is_document all (length text) (tokens_mark_first text utf8) none in
    let tree : Tree = there.0 in
    let events : events_among (items_of_text text) ≡ map as_event (children_flat (alone tree) []) =
    (document_reads all tree (length text) there.1).1 in
    let count : length (declared_of_text text) ≡ tally (alone tree) =
    sym (items_enter first_state (tokens_of text) (length text)) ∙ tree_tally (items_of_text text) (alone tree) events in
    let g = give (alone tree) (declared_of_text text) 0 (omega (arith, count)) in (
      g.nodes,
      record {
        no_fault = none;
        events = events ∙ ap (λ (c : Children). map as_event (children_flat c [])) (sym g.same);
        declared = g.are ∙ ap (declarations_and g.nodes) (none_left g.rest g.size);
      },
    )

-- what the nodes of a text hold of a schema's elements is fixed
pub elements_same : (text : List ℕ) (one other : Nodes) → IsReadAs text one → IsReadAs text other → elements_in [] one ≡ elements_in [] other
elements_same text one other is also =
    let put : List trees.Event → List (List Name) → Elements =
    λ events declared. (behind_events events (record { inner = bare [] []; outer = []; passed = 0; declared = declared })).inner.children in
    let events : children_flat (without_declarations one) [] ≡ children_flat (without_declarations other) [] =
    stay_apart _ _ (sym is.events ∙ also.events) in
    let declared : declarations_and one [] ≡ declarations_and other [] = sym is.declared ∙ also.declared in
    sym (all_read one) ∙ ap (λ e. put e (declarations_and one [])) events ∙ ap (λ d. put (children_flat (without_declarations other) []) d) declared
    ∙ all_read other
