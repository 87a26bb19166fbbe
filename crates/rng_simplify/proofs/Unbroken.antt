-- A schema whose references are resolved, whose nodes are in order and whose classes are good isn't broken in these ways.
use Rattle.std.proofs.Common.{◌≡◌, refl, sym, ap, ◌∙◌, subst, ℕ, zero, suc, ◌+◌, ◌-◌, ◌<◌, inl, inr, Bool, true, false, cond, List, [], ◌∷◌, length, take, slice_get, Some, None, Contains, arith}
use Rattle.std.proofs.lemmas.Bool.{false≢true}
use Rattle.std.proofs.lemmas.Option.{none-some, slice_get_past}
use Rattle.rnc_parse.specs.declared.surface.Defined.{Defined}
use Rattle.rnc_parse.specs.declared.surface.Defined.TheVariants as defined
use Rattle.rng_simplify.specs.declared.node.Clause.{Clause}
use Rattle.rng_simplify.specs.declared.resolve.Combined.{Combined}
use Rattle.rng_simplify.specs.declared.resolve.Resolved.{Resolved}
use Rattle.rng_simplify.specs.Broken.{Has, IsUndefined, HasNoStart, HasClash, LeadsBack, HasBadExcept, HasXmlnsName, clash}
use Rattle.rng_simplify.specs.Cells.{Cell}
use Rattle.rng_simplify.specs.Cells as cell
use Rattle.rng_simplify.specs.Composed.{Composed, Clauses, same_defined, defines, defining, combines, bodies, clause_then}
use Rattle.rng_simplify.specs.Composed as composed
use Rattle.rng_simplify.specs.declared.node.Sign.{Sign}
use Rattle.rng_simplify.specs.declared.node.Sign.TheVariants as sign
use Rattle.rng_simplify.specs.CellMeanings.{IsCell, Denotes, DenoteAll, composed_by, is_element, is_attribute, is_list, is_ref, is_parent_ref, is_empty, is_text, is_not_allowed, is_value, is_type, is_grammar, is_one_or_more, is_joined, none_denoted, next_denoted}
use Rattle.rng_simplify.specs.GoodClasses.{AreGood}
use Rattle.rng_simplify.specs.Places.{Place, place, LeadsTo, to_part, to_definition, to_outer_definition, to_start, LeadsOn, in_one_step, in_more_steps}
use Rattle.rng_simplify.specs.NodePlaces.{cell_parts, bodies_of, AreWellFormed, Stands, a_part, a_definition, IsStanding, AreScopes}
use Rattle.rng_simplify.specs.NodePlaces as standing
use Rattle.rng_simplify.specs.ResolvedNodes.{clauses_of, IsCombined, IsCombinedIn, IsCombinedOutside, IsResolved, link_at, cell_leads, combined_leads, leads_if, leads, IsOrdered}
use Rattle.rng_simplify.specs.NodeWalks.{is_linked}
use Rattle.rng_simplify.proofs.Nodes.{in_none, in_first, in_more, in_cases, PartHasNode, part_has_node, node_of, HasNode}
use Rattle.rng_simplify.proofs.Posts.{innermost_stands, one_grammar}
use Rattle.rng_simplify.proofs.Scopes.{combines_denoted}
use Rattle.rng_simplify.proofs.Loops.{linked_leads, named_among}
use Rattle.rng_simplify.proofs.Walks.{place_in}

-- ---- what nodes stand for such patterns

-- the cell of a node that stands for such a pattern
abbrev pub CellOf : List Cell → (ℕ → ℕ) → ℕ → Composed → Type 0
CellOf cells number i (composed.ref name) = IsCell cells i (cell.ref name)
CellOf cells number i (composed.parent_ref name) = IsCell cells i (cell.parent_ref name)
CellOf cells number i (composed.grammar all) = (clauses : List Clause) × IsCell cells i (cell.grammar clauses) × DenoteAll cells number clauses all
CellOf cells number i (composed.element n class p) = (part : ℕ) × IsCell cells i (cell.element class part)
CellOf cells number i (composed.attribute class p) = (part : ℕ) × IsCell cells i (cell.attribute class part)
CellOf cells number i p = Unit {0}

joined_cell : (cells : List Cell) (number : ℕ → ℕ) (i : ℕ) (by : Sign) (p q : Composed) → CellOf cells number i (composed_by by p q)
joined_cell cells number i sign.Choice p q = tt
joined_cell cells number i sign.Group p q = tt
joined_cell cells number i sign.Interleave p q = tt

pub cell_of_pattern : {cells : List Cell} {number : ℕ → ℕ} {i : ℕ} {p : Composed} → Denotes cells number i p → CellOf cells number i p
cell_of_pattern (is_element at part) = (_, at)
cell_of_pattern (is_attribute at part) = (_, at)
cell_of_pattern (is_list at part) = tt
cell_of_pattern (is_ref at) = at
cell_of_pattern (is_parent_ref at) = at
cell_of_pattern (is_empty at) = tt
cell_of_pattern (is_text at) = tt
cell_of_pattern (is_not_allowed at) = tt
cell_of_pattern (is_value at) = tt
cell_of_pattern (is_type at part) = tt
cell_of_pattern (is_grammar at all) = (_, at, all)
cell_of_pattern (is_one_or_more at part) = tt
cell_of_pattern {cells = cells} {number = number} {i = i} (is_joined {p = p} {q = q} by at first second) = joined_cell cells number i by p q

-- ---- what is defined

defined_if : (b : Bool) (clause : Clause) (more : List Clause) (rest : Bool) (name : Defined) → (rest ≡ false → clauses_of name more ≡ []) → cond b true rest ≡ false → cond b (clause ∷ clauses_of name more) (clauses_of name more) ≡ []
defined_if true clause more rest name further none = absurd (false≢true (sym none))
defined_if false clause more rest name further none = further none

-- what isn't defined has no clauses
undefined_none : {cells : List Cell} {number : ℕ → ℕ} {clauses : List Clause} {all : Clauses} (name : Defined) → DenoteAll cells number clauses all → defines name all ≡ false → clauses_of name clauses ≡ []
undefined_none name none_denoted none = refl
undefined_none name (next_denoted {clause = clause} {more = more} {rest = rest} body others) none =
    defined_if (same_defined name clause.name) clause more (defines name rest) name (undefined_none name others) none

module _ (cells : List Cell) (root : ℕ) (found : Resolved) (formed : AreWellFormed cells root) (resolved : IsResolved cells root found) (number : ℕ → ℕ) (whole : Composed) (denotes : Denotes cells number root whole) where
  -- a joined name is defined
  combined_defined : (grammar : ℕ) (clauses : List Clause) (all : Clauses) (name : Defined) (n : ℕ) → IsCell cells grammar (cell.grammar clauses) → DenoteAll cells number clauses all → IsCombined cells found.combined.items grammar name n → defines name all ≡ false → ⊥
  combined_defined grammar clauses all name n at denoted h none =
      h.is_defined (ap (clauses_of name) (one_grammar cells grammar h.clauses clauses h.is_grammar at) ∙ undefined_none name denoted none)

  ref_defined : (outers : List ℕ) (scopes : List Clauses) (name : List ℕ) (n : ℕ) → AreScopes cells number outers scopes → IsCombinedIn cells found.combined.items outers (defined.Name name) n → IsUndefined scopes (composed.ref name) → ⊥
  ref_defined outers scopes name n standing.no_scopes h none = h
  ref_defined outers scopes name n (standing.further_scope {i = grammar} {clauses = clauses} {all = all} at denoted more) h none = combined_defined grammar clauses all (defined.Name name) n at denoted h none

  around_defined : (outers : List ℕ) (scopes : List Clauses) (inner : Clauses) (name : List ℕ) (n : ℕ) → AreScopes cells number outers scopes → IsCombinedIn cells found.combined.items outers (defined.Name name) n → IsUndefined (inner ∷ scopes) (composed.parent_ref name) → ⊥
  around_defined outers scopes inner name n standing.no_scopes h none = h
  around_defined outers scopes inner name n (standing.further_scope {i = grammar} {clauses = clauses} {all = all} at denoted more) h none = combined_defined grammar clauses all (defined.Name name) n at denoted h none

  parent_ref_defined : (outers : List ℕ) (scopes : List Clauses) (name : List ℕ) (n : ℕ) → AreScopes cells number outers scopes → IsCombinedOutside cells found.combined.items outers (defined.Name name) n → IsUndefined scopes (composed.parent_ref name) → ⊥
  parent_ref_defined outers scopes name n standing.no_scopes h none = h
  parent_ref_defined outers scopes name n (standing.further_scope {all = all} {outers = rest} {scopes = further} at denoted more) h none = around_defined rest further all name n more h none

  undefined_at : (scopes : List Clauses) (p : Composed) → HasNode cells number root (place scopes p) → IsUndefined scopes p → ⊥
  undefined_at scopes (composed.ref name) h none = ref_defined h.outers scopes name (link_at found h.node) h.are_scopes (resolved.ref_combined h.outers h.node name h.stands (cell_of_pattern h.denotes)) none
  undefined_at scopes (composed.parent_ref name) h none = parent_ref_defined h.outers scopes name (link_at found h.node) h.are_scopes (resolved.parent_ref_combined h.outers h.node name h.stands (cell_of_pattern h.denotes)) none
  undefined_at [] p h none = absurd none
  undefined_at (scope ∷ []) p h none = absurd none
  undefined_at (scope ∷ other ∷ scopes) p h none = absurd none

  pub none_undefined : Has whole IsUndefined → ⊥
  none_undefined h = undefined_at h.scopes h.pattern (node_of denotes h.occurs) h.is

  start_at : (scopes : List Clauses) (p : Composed) → HasNode cells number root (place scopes p) → HasNoStart scopes p → ⊥
  start_at scopes (composed.grammar all) h none =
      let grammar = cell_of_pattern h.denotes in
      combined_defined h.node grammar.0 all defined.Start (link_at found h.node) grammar.1 grammar.2 (resolved.start_combined h.node grammar.0 (h.outers, h.stands) grammar.1) none
  start_at scopes p h none = absurd none

  pub none_without_start : Has whole HasNoStart → ⊥
  none_without_start h = start_at h.scopes h.pattern (node_of denotes h.occurs) h.is

  clash_at : (scopes : List Clauses) (p : Composed) → HasNode cells number root (place scopes p) → HasClash scopes p → ⊥
  clash_at scopes (composed.grammar all) h clashes =
      let grammar = cell_of_pattern h.denotes in
      false≢true (sym (resolved.no_clash h.node grammar.0 clashes.0 (h.outers, h.stands) grammar.1) ∙ sym (ap clash (combines_denoted clashes.0 grammar.2)) ∙ clashes.1)
  clash_at scopes p h clashes = absurd clashes

  pub none_clashes : Has whole HasClash → ⊥
  none_clashes h = clash_at h.scopes h.pattern (node_of denotes h.occurs) h.is

-- ---- classes

module _ (cells : List Cell) (root : ℕ) (good : AreGood cells root) (number : ℕ → ℕ) (whole : Composed) (denotes : Denotes cells number root whole) where
  excepts_at : (scopes : List Clauses) (p : Composed) → HasNode cells number root (place scopes p) → HasBadExcept scopes p → ⊥
  excepts_at scopes (composed.element n class p) h bad =
      let at = cell_of_pattern h.denotes in
      false≢true (sym (good h.node (cell.element class at.0) (h.outers, h.stands) at.1).0 ∙ bad)
  excepts_at scopes (composed.attribute class p) h bad =
      let at = cell_of_pattern h.denotes in
      false≢true (sym (good h.node (cell.attribute class at.0) (h.outers, h.stands) at.1).0 ∙ bad)
  excepts_at scopes p h bad = absurd bad

  pub none_excepts : Has whole HasBadExcept → ⊥
  none_excepts h = excepts_at h.scopes h.pattern (node_of denotes h.occurs) h.is

  declares_at : (scopes : List Clauses) (p : Composed) → HasNode cells number root (place scopes p) → HasXmlnsName scopes p → ⊥
  declares_at scopes (composed.element n class p) h bad =
      let at = cell_of_pattern h.denotes in
      false≢true (sym (good h.node (cell.element class at.0) (h.outers, h.stands) at.1).1 ∙ bad)
  declares_at scopes (composed.attribute class p) h bad =
      let at = cell_of_pattern h.denotes in
      false≢true (sym (good h.node (cell.attribute class at.0) (h.outers, h.stands) at.1).1 ∙ bad)
  declares_at scopes p h bad = absurd bad

  pub none_declares : Has whole HasXmlnsName → ⊥
  none_declares h = declares_at h.scopes h.pattern (node_of denotes h.occurs) h.is

-- ---- what leads back

-- the node of what is defined under a name
named_node_if : {cells : List Cell} {number : ℕ → ℕ} (b : Bool) (name : Defined) (clause : Clause) (more : List Clause) (p : Composed) (rest : Clauses) (q : Composed) → Denotes cells number clause.body p → (Contains (bodies (defining name rest)) q → PartHasNode cells number (bodies_of (clauses_of name more)) q) → Contains (bodies (cond b (clause_then clause.name clause.combine p (defining name rest)) (defining name rest))) q → PartHasNode cells number (bodies_of (cond b (clause ∷ clauses_of name more) (clauses_of name more))) q
named_node_if {cells = cells} {number = number} true name clause more p rest q body further among =
    elim (in_cases p (bodies (defining name rest)) q among) [
      | inl is ↦ record { node = clause.body; denotes = subst (λ (r : Composed). Denotes cells number clause.body r) is body; within = in_first clause.body (bodies_of (clauses_of name more)) }
      | inr others ↦
          let h = further others in
          record { node = h.node; denotes = h.denotes; within = in_more clause.body (bodies_of (clauses_of name more)) h.node h.within }
    ]
named_node_if false name clause more p rest q body further among = further among

named_node : {cells : List Cell} {number : ℕ → ℕ} {clauses : List Clause} {all : Clauses} (name : Defined) (q : Composed) → DenoteAll cells number clauses all → Contains (bodies (defining name all)) q → PartHasNode cells number (bodies_of (clauses_of name clauses)) q
named_node name q none_denoted among = absurd (in_none among)
named_node name q (next_denoted {clause = clause} {more = more} {p = p} {rest = rest} body others) among =
    named_node_if (same_defined name clause.name) name clause more p rest q body (named_node name q others) among

-- what is at the front of a list is in it
taken_place : (xs : List ℕ) (k m x : ℕ) → slice_get (take k xs) m ≡ Some x → (m < k) × (slice_get xs m ≡ Some x)
taken_place xs zero m x h = absurd (none-some x h)
taken_place [] (suc k) m x h = absurd (none-some x h)
taken_place (y ∷ xs) (suc k) zero x h = (omega arith, h)
taken_place (y ∷ xs) (suc k) (suc m) x h =
    let rest = taken_place xs k m x h in
    (let lt = rest.0 in omega (arith, lt), rest.1)

-- a part is led to
pub part_lead : (count link : ℕ) (c : Cell) (j : ℕ) → Contains (cell_parts c) j → Contains (cell_leads count link c) j
part_lead count link (cell.element class part) j among = among
part_lead count link (cell.attribute class part) j among = among
part_lead count link (cell.listed part) j among = among
part_lead count link (cell.ref name) j among = absurd (in_none among)
part_lead count link (cell.parent_ref name) j among = absurd (in_none among)
part_lead count link cell.empty j among = among
part_lead count link cell.any_text j among = among
part_lead count link cell.not_allowed j among = among
part_lead count link (cell.value type text) j among = among
part_lead count link (cell.typed type params part) j among = among
part_lead count link (cell.grammar clauses) j among = absurd (in_none among)
part_lead count link (cell.one_or_more part) j among = among
part_lead count link (cell.joined sign first second) j among = among

-- grammars by the definitions that they are
abbrev OutersBy : List Cell → (ℕ → ℕ) → List ℕ → List Clauses → Type 0
OutersBy cells number outers [] = outers ≡ []
OutersBy cells number outers (all ∷ scopes) = (grammar : ℕ) × (rest : List ℕ) × (clauses : List Clause) × IsCell cells grammar (cell.grammar clauses) × DenoteAll cells number clauses all × AreScopes cells number rest scopes × (outers ≡ grammar ∷ rest)

outers_by : {cells : List Cell} {number : ℕ → ℕ} {outers : List ℕ} {scopes : List Clauses} → AreScopes cells number outers scopes → OutersBy cells number outers scopes
outers_by standing.no_scopes = refl
outers_by (standing.further_scope at denoted more) = (_, _, _, at, denoted, more, refl)

module _ (cells : List Cell) (root : ℕ) (found : Resolved) (formed : AreWellFormed cells root) (resolved : IsResolved cells root found) (order : List ℕ) (ordered : IsOrdered cells root found order) (number : ℕ → ℕ) where
  -- a place whose node has this place in the order
  pub record IsPlacedAt (at : Place) (n : ℕ) : Type 0 where
    pub node : HasNode cells number root at
    pub there : slice_get order n ≡ Some node.node

  -- what is led to comes earlier
  pub record ComesEarlier (n j : ℕ) : Type 0 where
    pub earlier : ℕ
    pub before : earlier < n
    pub there : slice_get order earlier ≡ Some j

  pub record IsPlacedBefore (at : Place) (n : ℕ) : Type 0 where
    pub earlier : ℕ
    pub before : earlier < n
    pub placed : IsPlacedAt at earlier

  comes_earlier : (n x j : ℕ) → slice_get order n ≡ Some x → Contains (leads cells found x) j → ComesEarlier n j
  comes_earlier n x j at among =
      let place = place_in (take n order) j (ordered.behind n x j at among) in
      let taken = taken_place order n place.0 j place.1 in
      record { earlier = place.0; before = taken.0; there = taken.1 }

  -- the bodies of combined definitions
  body_lead : (n : ℕ) (combination : Combined) (j : ℕ) → slice_get found.combined.items n ≡ Some combination → Contains combination.bodies.items j → Contains (leads cells found (length cells + n)) j
  body_lead n combination j at among =
      let past : slice_get cells (length cells + n) ≡ None = slice_get_past cells (length cells + n) (omega arith) in
      let same : length cells + n - length cells ≡ n = omega arith in
      subst (λ (all : List ℕ). Contains all j) (sym (ap (leads_if cells found (length cells + n)) past ∙ ap (λ m. combined_leads (slice_get found.combined.items m)) same ∙ ap combined_leads at)) among

  -- what is defined under a name, by way of its combined definitions
  defined_before : (n x : ℕ) (c : Cell) (grammar : ℕ) (rest : List ℕ) (clauses : List Clause) (all : Clauses) (scopes : List Clauses) (name : Defined) (q : Composed) → slice_get order n ≡ Some x → IsCell cells x c → is_linked c ≡ true → Stands cells root rest grammar → IsCell cells grammar (cell.grammar clauses) → DenoteAll cells number clauses all → AreScopes cells number rest scopes → IsCombined cells found.combined.items grammar name (link_at found x) → Contains (bodies (defining name all)) q → IsPlacedBefore (place (all ∷ scopes) q) n
  defined_before n x c grammar rest clauses all scopes name q at at_x linked stands at_grammar denoted are h among =
      let combination_led : Contains (leads cells found x) (length cells + link_at found x) = subst (λ (js : List ℕ). Contains js (length cells + link_at found x)) (sym (ap (leads_if cells found x) at_x ∙ linked_leads (length cells) (link_at found x) c linked)) (in_first (length cells + link_at found x) []) in
      let combination_there = comes_earlier n x (length cells + link_at found x) at combination_led in
      let body = named_node name q denoted among in
      let same : h.clauses ≡ clauses = one_grammar cells grammar h.clauses clauses h.is_grammar at_grammar in
      let within : Contains h.combination.bodies.items body.node = subst (λ (bs : List ℕ). Contains bs body.node) (sym (h.bodies_are ∙ ap (λ (cs : List Clause). bodies_of (clauses_of name cs)) same)) body.within in
      let body_there = comes_earlier combination_there.earlier (length cells + link_at found x) body.node combination_there.there (body_lead (link_at found x) h.combination body.node h.there within) in
      let first = combination_there.before in
      let second = body_there.before in
      record {
        earlier = body_there.earlier;
        before = omega (arith, first, second);
        placed = record {
          node = record { outers = grammar ∷ rest; node = body.node; stands = a_definition stands at_grammar (named_among name clauses body.node body.within); denotes = body.denotes; are_scopes = standing.further_scope at_grammar denoted are };
          there = body_there.there;
        };
      }

  step_before : {from to : Place} (n : ℕ) → IsPlacedAt from n → LeadsTo from to → IsPlacedBefore to n
  step_before n h (to_part within) =
      let part = part_has_node h.node.denotes within in
      let led = subst (λ (js : List ℕ). Contains js part.part.node) (sym (ap (leads_if cells found h.node.node) part.is_cell)) (part_lead (length cells) (link_at found h.node.node) part.cell part.part.node part.part.within) in
      let there = comes_earlier n h.node.node part.part.node h.there led in
      record {
        earlier = there.earlier;
        before = there.before;
        placed = record {
          node = record { outers = h.node.outers; node = part.part.node; stands = a_part h.node.stands part.is_cell part.part.within; denotes = part.part.denotes; are_scopes = h.node.are_scopes };
          there = there.there;
        };
      }
  step_before n h (to_definition {scope = all} {outer = scopes} {name = name} {p = q} within) =
      let by = outers_by h.node.are_scopes in
      let stands = subst (λ outers. Stands cells root outers h.node.node) by.6 h.node.stands in
      let at = cell_of_pattern h.node.denotes in
      defined_before n h.node.node (cell.ref name) by.0 by.1 by.2 all scopes (defined.Name name) q h.there at refl (innermost_stands stands).stands by.3 by.4 by.5 (resolved.ref_combined (by.0 ∷ by.1) h.node.node name stands at) within
  step_before n h (to_outer_definition {inner = inner} {scope = all} {outer = scopes} {name = name} {p = q} within) =
      let around = outers_by h.node.are_scopes in
      let by = outers_by around.5 in
      let outers_are : h.node.outers ≡ around.0 ∷ by.0 ∷ by.1 = around.6 ∙ ap (λ os. around.0 ∷ os) by.6 in
      let stands = subst (λ outers. Stands cells root outers h.node.node) outers_are h.node.stands in
      let at = cell_of_pattern h.node.denotes in
      defined_before n h.node.node (cell.parent_ref name) by.0 by.1 by.2 all scopes (defined.Name name) q h.there at refl (innermost_stands (innermost_stands stands).stands).stands by.3 by.4 by.5 (resolved.parent_ref_combined (around.0 ∷ by.0 ∷ by.1) h.node.node name stands at) within
  step_before n h (to_start {scopes = scopes} {clauses = all} {p = q} within) =
      let grammar = cell_of_pattern h.node.denotes in
      defined_before n h.node.node (cell.grammar grammar.0) h.node.node h.node.outers grammar.0 all scopes defined.Start q h.there grammar.1 refl h.node.stands grammar.1 grammar.2 h.node.are_scopes (resolved.start_combined h.node.node grammar.0 (h.node.outers, h.node.stands) grammar.1) within

  steps_before : {from to : Place} (n : ℕ) → IsPlacedAt from n → LeadsOn from to → IsPlacedBefore to n
  steps_before n h (in_one_step led) = step_before n h led
  steps_before n h (in_more_steps led more) =
      let first = step_before n h led in
      let second = steps_before first.earlier first.placed more in
      let one = first.before in
      let two = second.before in
      record { earlier = second.earlier; before = omega (arith, one, two); placed = second.placed }

  -- so nothing comes before itself for ever
  never_back : (limit n : ℕ) (at : Place) → n < limit → IsPlacedAt at n → LeadsOn at at → ⊥
  never_back zero n at lt h back = absurd (omega (arith, lt))
  never_back (suc limit) n at lt h back =
      let again = steps_before n h back in
      let before = again.before in
      never_back limit again.earlier at (omega (arith, before, lt)) again.placed back

  pub none_leads_back : (whole : Composed) → Denotes cells number root whole → Has whole LeadsBack → ⊥
  none_leads_back whole denotes h =
      let node = node_of denotes h.occurs in
      let at = place_in order node.node (ordered.each_node node.node (node.outers, node.stands)) in
      never_back (at.0 + 1) at.0 (place h.scopes h.pattern) (omega arith) (record { node = node; there = at.1 }) h.is
