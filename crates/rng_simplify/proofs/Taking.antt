-- All nodes are taken, from first to last.
use Rattle.std.proofs.Common.{◌≡◌, ◌≢◌, refl, sym, ap, ◌∙◌, subst, ℕ, zero, suc, ◌+◌, ◌<◌, inl, inr, List, [], length, map, get_or, replicate, Vec, Global, Contains, Result, arith}
use Rattle.std.proofs.lemmas.Option.{slice_get_within}
use Rattle.std.proofs.lemmas.List.{length-set, length-replicate, length-map, get_or-set_same, get_or_read}
use Rattle.rng_simplify.specs.declared.fault.SchemaFault.{SchemaFault}
use Rattle.rng_simplify.specs.declared.node.Node.{Node}
use Rattle.rng_simplify.specs.declared.resolve.Combined.{Combined}
use Rattle.rng_simplify.specs.declared.resolve.Table.{Table}
use Rattle.rng_simplify.specs.declared.resolve.Scope.{Scope}
use Rattle.rng_simplify.specs.declared.resolve.Scope.TheVariants.{Nowhere, Outside}
use Rattle.rng_simplify.specs.Refusals.{OkOrRefused}
use Rattle.rng_simplify.specs.Cells.{Cell, cell_of}
use Rattle.rng_simplify.specs.Cells as cell
use Rattle.rng_simplify.specs.CellMeanings.{IsCell}
use Rattle.rng_simplify.specs.NodePlaces.{inner_nodes, AreWellFormed, Stands, the_root}
use Rattle.rng_simplify.specs.ResolvedNodes.{combined_number, IsToDefinitions, IsLinkedAs, IsResolved, IsCombinedIn, IsCombinedOutside, IsCombined}
use Rattle.rnc_parse.specs.declared.surface.Defined.TheVariants as defined
use Rattle.rng_simplify.specs.declared.resolve.Target.{Target}
use Rattle.rng_simplify.specs.declared.resolve.Target.TheVariants.{Nothing}
use Rattle.rng_simplify.specs.Findings.{Findings, findings_at_first, IsPosted, outside, IsMidway, TakesCell, Numbering, AreNumbered}
use Rattle.rng_simplify.proofs.Nodes.{cell_there}
use Rattle.rng_simplify.proofs.Posts.{stands_by}
use Rattle.rng_simplify.proofs.Scopes.{set_cases, cell_taken, nowhere_taken}

-- ---- at first

nowhere_in_all : (n i : ℕ) → get_or (replicate n Nowhere) i Nowhere ≡ Nowhere
nowhere_in_all zero i = refl
nowhere_in_all (suc n) zero = refl
nowhere_in_all (suc n) (suc i) = nowhere_in_all n i

outside_somewhere : Outside ≢ Nowhere
outside_somewhere e = absurd cc

pub midway_begins : (cells : List Cell) (root : ℕ) → AreWellFormed cells root → IsMidway cells root (length cells) (findings_at_first (length cells) root)
midway_begins cells root formed =
    let count = length cells in
    let long : root < length (replicate count Nowhere) = omega (arith, formed.root_within, length-replicate count Nowhere) in
    record {
      all_scopes = length-set (replicate count Nowhere) root Outside ∙ length-replicate count Nowhere;
      all_links = length-replicate count Nothing;
      posted = λ i some. elim (set_cases (replicate count Nowhere) root Outside i) [
        | inl h ↦ subst (λ (s : Scope). IsPosted cells root (findings_at_first count root) s i) (sym h.0) (record { outers = []; stands = subst (λ k. Stands cells root [] k) h.1 the_root; is_scope = outside })
        | inr same ↦ absurd (some (same ∙ nowhere_in_all count i))
      ];
      root_known = λ none. outside_somewhere (sym (get_or-set_same (replicate count Nowhere) root Outside Nowhere long) ∙ none);
      inner_known = λ i j c le stands at inner. absurd (omega (arith, slice_get_within cells i c at, le));
      taken = λ outers i c le stands at. absurd (omega (arith, slice_get_within cells i c at, le));
      each_combined = λ number lt. absurd (omega (arith, lt));
    }

-- the same of what is found for nodes
pub begins : (nodes : List Node) (root count : ℕ) (now : Findings) → AreWellFormed (map cell_of nodes) root → count ≡ length nodes → now ≡ findings_at_first count root → IsMidway (map cell_of nodes) root (length nodes) now
begins nodes root count now formed is now_is =
    subst (λ n. IsMidway (map cell_of nodes) root n now) (length-map nodes cell_of)
    (subst (λ (f : Findings). IsMidway (map cell_of nodes) root (length (map cell_of nodes)) f) (sym (now_is ∙ ap (λ n. findings_at_first n root) (is ∙ sym (length-map nodes cell_of)))) (midway_begins (map cell_of nodes) root formed))

-- ---- a node

pub scope_read : (scopes : List Scope) (i : ℕ) (scope : Scope) → i < length scopes → scope ≡ get_or scopes i scope → get_or scopes i Nowhere ≡ scope
scope_read scopes i scope lt is = sym (get_or_read scopes i scope lt is Nowhere)

module _ (nodes : List Node) {root i : ℕ} {now : Findings} where
  pub links_within : i < length nodes → IsMidway (map cell_of nodes) root (i + 1) now → i < length now.links
  links_within lt midway = omega (arith, lt, midway.all_links, length-map nodes cell_of)

  pub scopes_within : i < length nodes → IsMidway (map cell_of nodes) root (i + 1) now → i < length now.scopes
  scopes_within lt midway = omega (arith, lt, midway.all_scopes, length-map nodes cell_of)

  pub inner_within : (node : Node) → AreWellFormed (map cell_of nodes) root → IsMidway (map cell_of nodes) root (i + 1) now → i < length nodes → node ≡ get_or nodes i node → (inner : ℕ) → Contains (inner_nodes (cell_of node)) inner → inner < length now.scopes
  inner_within node formed midway lt is inner among =
      let below = formed.inner_below i inner (cell_of node) (cell_there nodes i node lt is) among in
      omega (arith, below, scopes_within lt midway)

  pub node_nowhere : (scope : Scope) → AreWellFormed (map cell_of nodes) root → IsMidway (map cell_of nodes) root (i + 1) now → i < length nodes → scope ≡ get_or now.scopes i scope → scope ≡ Nowhere → IsMidway (map cell_of nodes) root i now
  node_nowhere scope formed midway lt read none = nowhere_taken formed midway (scope_read now.scopes i scope (scopes_within lt midway) read ∙ none)

  pub node_taken : {A : Type 0} (new : Findings) (node : Node) (scope : Scope) → AreWellFormed (map cell_of nodes) root → IsMidway (map cell_of nodes) root (i + 1) now → i < length nodes → node ≡ get_or nodes i node → scope ≡ get_or now.scopes i scope → scope ≢ Nowhere → (result : Result A SchemaFault) → TakesCell i scope (cell_of node) now new result → OkOrRefused (map cell_of nodes) root (λ done. IsMidway (map cell_of nodes) root i new) result
  node_taken new node scope formed midway lt is read some result taken =
      let here = scope_read now.scopes i scope (scopes_within lt midway) read in
      let posted : IsPosted (map cell_of nodes) root now scope i = subst (λ (s : Scope). IsPosted (map cell_of nodes) root now s i) here (midway.posted i (λ none. some (sym here ∙ none))) in
      cell_taken new (cell_of node) formed midway (cell_there nodes i node lt is) posted some result taken

-- ---- at last

module _ {cells : List Cell} {root : ℕ} {now : Findings} where
  -- what stands in the schema has a scope
  pub standing_known : (outers : List ℕ) (i : ℕ) → AreWellFormed cells root → IsMidway cells root 0 now → Stands cells root outers i → get_or now.scopes i Nowhere ≢ Nowhere
  standing_known outers i formed midway stands none =
      elim (stands_by stands) [
        | inl is ↦ midway.root_known (ap (λ k. get_or now.scopes k Nowhere) (sym is.root_is) ∙ none)
        | inr h ↦ midway.inner_known h.outer i h.cell (omega arith) (h.around, h.stands) h.is_cell h.inner none
      ]

-- the target of each node is of its kind
all_linked : (cells : List Cell) (root : ℕ) (now : Findings) (numbering : Numbering) → AreWellFormed cells root → IsMidway cells root 0 now → AreNumbered cells now.scopes (length cells) now.links numbering → (outers : List ℕ) (i : ℕ) (c : Cell) → Stands cells root outers i → IsCell cells i c → IsLinkedAs c (get_or numbering.links i Nothing)
all_linked cells root now numbering formed midway numbered outers i (cell.element class part) stands at = numbered.linked i class part (slice_get_within cells i (cell.element class part) at) (standing_known outers i formed midway stands) at
all_linked cells root now numbering formed midway numbered outers i (cell.ref name) stands at =
    let P : Target → Type 0 = IsToDefinitions in
    subst P (sym (numbered.other_links i (cell.ref name) at refl)) (midway.taken outers i (cell.ref name) (omega arith) stands at).0
all_linked cells root now numbering formed midway numbered outers i (cell.parent_ref name) stands at =
    let P : Target → Type 0 = IsToDefinitions in
    subst P (sym (numbered.other_links i (cell.parent_ref name) at refl)) (midway.taken outers i (cell.parent_ref name) (omega arith) stands at).0
all_linked cells root now numbering formed midway numbered outers i (cell.grammar clauses) stands at =
    let P : Target → Type 0 = IsToDefinitions in
    subst P (sym (numbered.other_links i (cell.grammar clauses) at refl)) (midway.taken outers i (cell.grammar clauses) (omega arith) stands at).0
all_linked cells root now numbering formed midway numbered outers i c stands at = tt

pub all_resolved : (cells : List Cell) (root : ℕ) (tables : List Table) (old : List Target) (scopes : Vec Scope Global) (links : Vec Target Global) (combined : Vec Combined Global) (elements : Vec ℕ Global) → AreWellFormed cells root → IsMidway cells root 0 (record { tables = tables; scopes = scopes.items; links = old; combined = combined.items }) → AreNumbered cells scopes.items (length cells) old (record { links = links.items; elements = elements.items }) → IsResolved cells root (record { scopes = scopes; links = links; combined = combined; elements = elements })
all_resolved cells root tables old scopes links combined elements formed midway numbered = record {
  all_scopes = midway.all_scopes;
  all_links = numbered.all_links ∙ midway.all_links;
  standing = λ i. (
    λ some. let posted = midway.posted i some in (posted.outers, posted.stands),
    λ standing. standing_known standing.0 i formed midway standing.1,
  );
  ref_combined = λ outers i name stands at.
      subst (λ link. IsCombinedIn cells combined.items outers (defined.Name name) link) (sym (ap combined_number (numbered.other_links i (cell.ref name) at refl))) (midway.taken outers i (cell.ref name) (omega arith) stands at).1;
  parent_ref_combined = λ outers i name stands at.
      subst (λ link. IsCombinedOutside cells combined.items outers (defined.Name name) link) (sym (ap combined_number (numbered.other_links i (cell.parent_ref name) at refl))) (midway.taken outers i (cell.parent_ref name) (omega arith) stands at).1;
  start_combined = λ i clauses standing at.
      subst (λ link. IsCombined cells combined.items i defined.Start link) (sym (ap combined_number (numbered.other_links i (cell.grammar clauses) at refl))) (midway.taken standing.0 i (cell.grammar clauses) (omega arith) standing.1 at).1;
  linked = λ i c standing at. all_linked cells root (record { tables = tables; scopes = scopes.items; links = old; combined = combined.items }) (record { links = links.items; elements = elements.items }) formed midway numbered standing.0 i c standing.1 at;
  each_combined = midway.each_combined;
  no_clash = λ i clauses name standing at. (midway.taken standing.0 i (cell.grammar clauses) (omega arith) standing.1 at).2 name;
  numbered = λ i class part standing at. numbered.numbered i class part (slice_get_within cells i (cell.element class part) at) (standing_known standing.0 i formed midway standing.1) at;
  each_number = λ number i there.
      let h = numbered.each_number number i there in
      let posted = midway.posted i h.1.stands in
      record { class = h.1.class; part = h.1.part; is_element = h.1.is_element; stands = (posted.outers, posted.stands); linked = h.1.linked };
}

-- the same of nodes
pub nodes_resolved : (nodes seen : List Node) (root : ℕ) (tables : List Table) (old : List Target) (scopes : Vec Scope Global) (seen_scopes : List Scope) (links : Vec Target Global) (combined : Vec Combined Global) (elements : Vec ℕ Global) → seen ≡ nodes → seen_scopes ≡ scopes.items → AreWellFormed (map cell_of nodes) root → IsMidway (map cell_of nodes) root 0 (record { tables = tables; scopes = scopes.items; links = old; combined = combined.items }) → AreNumbered (map cell_of seen) seen_scopes (length seen) old (record { links = links.items; elements = elements.items }) → IsResolved (map cell_of nodes) root (record { scopes = scopes; links = links; combined = combined; elements = elements })
nodes_resolved nodes seen root tables old scopes seen_scopes links combined elements is scopes_are formed midway numbered =
    all_resolved (map cell_of nodes) root tables old scopes links combined elements formed midway
    (subst (λ n. AreNumbered (map cell_of nodes) scopes.items n old (record { links = links.items; elements = elements.items })) (sym (length-map nodes cell_of))
    (subst (λ (ss : List Scope). AreNumbered (map cell_of nodes) ss (length nodes) old (record { links = links.items; elements = elements.items })) scopes_are
    (subst (λ (ns : List Node). AreNumbered (map cell_of ns) seen_scopes (length ns) old (record { links = links.items; elements = elements.items })) is numbered)))
