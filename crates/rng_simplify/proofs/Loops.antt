-- What nodes and combined definitions lead to, and patterns that lead back to themselves.
use Rattle.std.proofs.Common.{◌≡◌, refl, sym, ap, ◌∙◌, subst, ℕ, zero, suc, ◌+◌, ◌-◌, ◌<◌, inl, inr, ◌⊎◌, Bool, true, false, cond, List, [], ◌∷◌, length, get_or, slice_get, Option, Some, None, Contains, arith}
use Rattle.std.proofs.lemmas.Option.{same_Some, slice_get_within, slice_get-get_or, slice_get_past}
use Rattle.std.proofs.lemmas.Bool.{false≢true}
use Rattle.nx_base.specs.declared.cause.Cause.TheVariants as cause
use Rattle.rnc_parse.specs.declared.surface.Defined.{Defined}
use Rattle.rnc_parse.specs.declared.surface.Defined.TheVariants as defined
use Rattle.rng_simplify.specs.declared.fault.SchemaFault.TheVariants.{Unreadable}
use Rattle.rng_simplify.specs.declared.node.Clause.{Clause}
use Rattle.rng_simplify.specs.declared.resolve.Combined.{Combined}
use Rattle.rng_simplify.specs.declared.resolve.Resolved.{Resolved}
use Rattle.rng_simplify.specs.Refusals.{IsRefusal}
use Rattle.rng_simplify.specs.Broken.{Has, LeadsBack}
use Rattle.rng_simplify.specs.Cells.{Cell}
use Rattle.rng_simplify.specs.Cells as cell
use Rattle.rng_simplify.specs.Composed.{Composed, Clauses, same_defined, defining, bodies, clause_then}
use Rattle.rng_simplify.specs.Composed as composed
use Rattle.rng_simplify.specs.CellMeanings.{IsCell, Denotes, DenoteAll, none_denoted, next_denoted}
use Rattle.rng_simplify.specs.Places.{Place, place, LeadsTo, to_part, to_definition, to_outer_definition, to_start, LeadsOn, in_one_step, in_more_steps}
use Rattle.rng_simplify.specs.NodePlaces.{cell_parts, bodies_of, AreWellFormed, Stands, a_part, a_definition, IsStanding, AreScopes}
use Rattle.rng_simplify.specs.NodePlaces as standing
use Rattle.rng_simplify.specs.ResolvedNodes.{clauses_of, IsCombined, IsCombinedIn, IsCombinedOutside, IsResolved, link_at, cell_leads, combined_leads, leads_if, leads}
use Rattle.rng_simplify.specs.NodeWalks.{IsMet, is_linked}
use Rattle.rng_simplify.proofs.Nodes.{in_none, in_first, in_more, in_cases, in_one, PartIs, part_denoted, denoted_by, place_of}
use Rattle.rng_simplify.proofs.Posts.{stands_within, innermost_stands, scopes_by, one_grammar, IsAt, at_once}

-- ---- lists

-- what passes a test is among all
filtered_among : (b : Bool) (clause : Clause) (more : List Clause) (name : Defined) (j : ℕ) → (Contains (bodies_of (clauses_of name more)) j → Contains (bodies_of more) j) → Contains (bodies_of (cond b (clause ∷ clauses_of name more) (clauses_of name more))) j → Contains (bodies_of (clause ∷ more)) j
filtered_among true clause more name j further among =
    elim (in_cases clause.body (bodies_of (clauses_of name more)) j among) [
      | inl is ↦ subst (λ k. Contains (bodies_of (clause ∷ more)) k) is (in_first clause.body (bodies_of more))
      | inr rest ↦ in_more clause.body (bodies_of more) j (further rest)
    ]
filtered_among false clause more name j further among = in_more clause.body (bodies_of more) j (further among)

pub named_among : (name : Defined) (clauses : List Clause) (j : ℕ) → Contains (bodies_of (clauses_of name clauses)) j → Contains (bodies_of clauses) j
named_among name [] j among = among
named_among name (clause ∷ more) j among = filtered_among (same_defined name clause.name) clause more name j (named_among name more j) among

-- a body under a name stands for one of what is defined under it
named_if : {cells : List Cell} {number : ℕ → ℕ} (b : Bool) (name : Defined) (clause : Clause) (more : List Clause) (p : Composed) (rest : Clauses) (j : ℕ) → Denotes cells number clause.body p → (Contains (bodies_of (clauses_of name more)) j → PartIs cells number (bodies (defining name rest)) j) → Contains (bodies_of (cond b (clause ∷ clauses_of name more) (clauses_of name more))) j → PartIs cells number (bodies (cond b (clause_then clause.name clause.combine p (defining name rest)) (defining name rest))) j
named_if {cells = cells} {number = number} true name clause more p rest j body further among =
    elim (in_cases clause.body (bodies_of (clauses_of name more)) j among) [
      | inl is ↦ record { pattern = p; denotes = subst (λ k. Denotes cells number k p) is body; within = in_first p (bodies (defining name rest)) }
      | inr others ↦
          let h = further others in
          record { pattern = h.pattern; denotes = h.denotes; within = in_more p (bodies (defining name rest)) h.pattern h.within }
    ]
named_if false name clause more p rest j body further among = further among

pub named_denoted : {cells : List Cell} {number : ℕ → ℕ} {clauses : List Clause} {all : Clauses} (name : Defined) (j : ℕ) → DenoteAll cells number clauses all → Contains (bodies_of (clauses_of name clauses)) j → PartIs cells number (bodies (defining name all)) j
named_denoted name j none_denoted among = absurd (in_none among)
named_denoted name j (next_denoted {clause = clause} {more = more} {p = p} {rest = rest} body others) among =
    named_if (same_defined name clause.name) name clause more p rest j body (named_denoted name j others) among

-- what is within a list is there
slice_get_there : (combined : List Combined) (n : ℕ) → n < length combined → (combination : Combined) × (slice_get combined n ≡ Some combination)
slice_get_there [] n lt = absurd (omega arith)
slice_get_there (combination ∷ combined) zero lt = (combination, refl)
slice_get_there (combination ∷ combined) (suc n) lt = slice_get_there combined n (omega arith)

-- what is linked leads to its combined definitions alone, all else to its parts
pub linked_leads : (count link : ℕ) (c : Cell) → is_linked c ≡ true → cell_leads count link c ≡ (count + link) ∷ []
linked_leads count link (cell.ref name) is = refl
linked_leads count link (cell.parent_ref name) is = refl
linked_leads count link (cell.grammar clauses) is = refl
linked_leads count link c is = absurd (false≢true is)

pub unlinked_leads : (count link : ℕ) (c : Cell) → is_linked c ≡ false → cell_leads count link c ≡ cell_parts c
unlinked_leads count link (cell.element class part) is = refl
unlinked_leads count link (cell.attribute class part) is = refl
unlinked_leads count link (cell.listed part) is = refl
unlinked_leads count link (cell.ref name) is = absurd (false≢true (sym is))
unlinked_leads count link (cell.parent_ref name) is = absurd (false≢true (sym is))
unlinked_leads count link cell.empty is = refl
unlinked_leads count link cell.any_text is = refl
unlinked_leads count link cell.not_allowed is = refl
unlinked_leads count link (cell.value type text) is = refl
unlinked_leads count link (cell.typed type params part) is = refl
unlinked_leads count link (cell.grammar clauses) is = absurd (false≢true (sym is))
unlinked_leads count link (cell.one_or_more part) is = refl
unlinked_leads count link (cell.joined sign first second) is = refl

-- ---- what is led to

module _ (cells : List Cell) (root : ℕ) (found : Resolved) where
  -- a part, the combined definitions of a reference or a grammar, a body of these
  pub data Lead : ℕ → ℕ → Type 0 where
    by_part : {x i : ℕ} {outers : List ℕ} {c : Cell} → Stands cells root outers x → IsCell cells x c → Contains (cell_parts c) i → Lead x i
    by_link : {x : ℕ} {outers : List ℕ} (c : Cell) → Stands cells root outers x → IsCell cells x c → is_linked c ≡ true → Lead x (length cells + link_at found x)
    by_body : {i : ℕ} (number : ℕ) (combination : Combined) → slice_get found.combined.items number ≡ Some combination → Contains combination.bodies.items i → Lead (length cells + number) i

  cell_lead : {outers : List ℕ} {x : ℕ} (c : Cell) (b : Bool) (i : ℕ) → is_linked c ≡ b → Stands cells root outers x → IsCell cells x c → Contains (cell_leads (length cells) (link_at found x) c) i → Lead x i
  cell_lead {x = x} c true i is stands at among = subst (λ k. Lead x k) (in_one (length cells + link_at found x) i (subst (λ (all : List ℕ). Contains all i) (linked_leads (length cells) (link_at found x) c is) among)) (by_link c stands at is)
  cell_lead {x = x} c false i is stands at among = by_part stands at (subst (λ (all : List ℕ). Contains all i) (unlinked_leads (length cells) (link_at found x) c is) among)

  -- what the place of combined definitions leads to
  combination_lead : (number i : ℕ) (combination : Option Combined) → slice_get found.combined.items number ≡ combination → Contains (combined_leads combination) i → Lead (length cells + number) i
  combination_lead number i (Some combination) at among = by_body number combination at among
  combination_lead number i None at among = absurd (in_none among)

  pub lead_of : {x i : ℕ} → AreWellFormed cells root → IsMet cells root found x → Contains (leads cells found x) i → Lead x i
  lead_of {x = x} {i = i} formed (inl (outers, stands)) among =
      let at = slice_get-get_or cells x cell.empty (stands_within formed stands) in
      let c = get_or cells x cell.empty in
      cell_lead c (is_linked c) i refl stands at (subst (λ (found_cell : Option Cell). Contains (leads_if cells found x found_cell) i) at among)
  lead_of {x = x} {i = i} formed (inr (number, lt, is)) among =
      let past : slice_get cells x ≡ None = slice_get_past cells x (omega (arith, is)) in
      let there : x - length cells ≡ number = omega (arith, is) in
      let joined : Contains (combined_leads (slice_get found.combined.items (x - length cells))) i = subst (λ (found_cell : Option Cell). Contains (leads_if cells found x found_cell) i) past among in
      subst (λ k. Lead k i) (sym is) (combination_lead number i (slice_get found.combined.items number) refl (subst (λ n. Contains (combined_leads (slice_get found.combined.items n)) i) there joined))

  -- ---- the combined definitions of a link are there

  combined_within : (grammar : ℕ) (name : Defined) (number : ℕ) → IsCombined cells found.combined.items grammar name number → number < length found.combined.items
  combined_within grammar name number h = slice_get_within found.combined.items number h.combination h.there

  combined_in_within : (outers : List ℕ) (name : Defined) (number : ℕ) → IsCombinedIn cells found.combined.items outers name number → number < length found.combined.items
  combined_in_within [] name number h = absurd h
  combined_in_within (grammar ∷ outers) name number h = combined_within grammar name number h

  combined_outside_within : (outers : List ℕ) (name : Defined) (number : ℕ) → IsCombinedOutside cells found.combined.items outers name number → number < length found.combined.items
  combined_outside_within [] name number h = absurd h
  combined_outside_within (inner ∷ outers) name number h = combined_in_within outers name number h

  pub link_within : (outers : List ℕ) (x : ℕ) (c : Cell) → IsResolved cells root found → Stands cells root outers x → IsCell cells x c → is_linked c ≡ true → link_at found x < length found.combined.items
  link_within outers x (cell.ref name) resolved stands at linked = combined_in_within outers (defined.Name name) (link_at found x) (resolved.ref_combined outers x name stands at)
  link_within outers x (cell.parent_ref name) resolved stands at linked = combined_outside_within outers (defined.Name name) (link_at found x) (resolved.parent_ref_combined outers x name stands at)
  link_within outers x (cell.grammar clauses) resolved stands at linked = combined_within x defined.Start (link_at found x) (resolved.start_combined x clauses (outers, stands) at)
  link_within outers x c resolved stands at linked = absurd (false≢true linked)

  -- the bodies of combined definitions stand in their grammar
  pub body_stands : (number i : ℕ) (combination : Combined) → IsResolved cells root found → slice_get found.combined.items number ≡ Some combination → Contains combination.bodies.items i → IsStanding cells root i
  body_stands number i combination resolved at among =
      let h = resolved.each_combined number (slice_get_within found.combined.items number combination at) in
      let same : combination ≡ h.is_combined.combination = same_Some combination h.is_combined.combination (sym at ∙ h.is_combined.there) in
      let named : Contains (bodies_of (clauses_of h.name h.is_combined.clauses)) i = subst (λ (bs : List ℕ). Contains bs i) (ap (λ (j : Combined). j.bodies.items) same ∙ h.is_combined.bodies_are) among in
      (h.grammar ∷ h.stands.0, a_definition h.stands.1 h.is_combined.is_grammar (named_among h.name h.is_combined.clauses i named))

  -- what is led to stands in the schema, or is the place of combined definitions
  pub lead_met : {x i : ℕ} → IsResolved cells root found → Lead x i → IsMet cells root found i
  lead_met resolved (by_part {outers = outers} stands at among) = inl (outers, a_part stands at among)
  lead_met resolved (by_link {x = x} {outers = outers} c stands at linked) = inr (link_at found x, link_within outers x c resolved stands at linked, refl)
  lead_met resolved (by_body {i = i} number combination at among) = inl (body_stands number i combination resolved at among)

  -- ---- by places

  module _ (formed : AreWellFormed cells root) (resolved : IsResolved cells root found) (number : ℕ → ℕ) where
    -- a place leads to all bodies of combined definitions
    pub record LeadsToAll (here : Place) (combination : Combined) : Type 0 where
      pub each : (i : ℕ) (there : Place) → Contains combination.bodies.items i → IsAt cells root number i there → LeadsTo here there

    -- the places of the bodies of combined definitions
    pub record IsDefinitionAt (all : Clauses) (rest : List Clauses) (name : Defined) (there : Place) : Type 0 where
      pub pattern : Composed
      pub within : Contains (bodies (defining name all)) pattern
      pub place_is : there ≡ place (all ∷ rest) pattern

    body_at : (grammar : ℕ) (outers : List ℕ) (clauses : List Clause) (all : Clauses) (rest : List Clauses) (name : Defined) (n : ℕ) → Stands cells root outers grammar → IsCell cells grammar (cell.grammar clauses) → DenoteAll cells number clauses all → AreScopes cells number outers rest → (h : IsCombined cells found.combined.items grammar name n) → (i : ℕ) (there : Place) → Contains h.combination.bodies.items i → IsAt cells root number i there → IsDefinitionAt all rest name there
    body_at grammar outers clauses all rest name n stands at denoted scopes h i there among is_at =
        let same : h.clauses ≡ clauses = one_grammar cells grammar h.clauses clauses h.is_grammar at in
        let named : Contains (bodies_of (clauses_of name clauses)) i = subst (λ (bs : List ℕ). Contains bs i) (h.bodies_are ∙ ap (λ (cs : List Clause). bodies_of (clauses_of name cs)) same) among in
        let part = named_denoted name i denoted named in
        let here : IsAt cells root number i (place (all ∷ rest) part.pattern) = record { outers = grammar ∷ outers; stands = a_definition stands at (named_among name clauses i named); are_scopes = standing.further_scope at denoted scopes; denotes = part.denotes } in
        record { pattern = part.pattern; within = part.within; place_is = at_once formed is_at here }

    -- what a reference leads to
    ref_leads : (x : ℕ) (name : List ℕ) (outers : List ℕ) (scopes : List Clauses) → Stands cells root outers x → AreScopes cells number outers scopes → IsCombinedIn cells found.combined.items outers (defined.Name name) (link_at found x) → (combination : Combined) → slice_get found.combined.items (link_at found x) ≡ Some combination → LeadsToAll (place scopes (composed.ref name)) combination
    ref_leads x name [] scopes stands are h combination at = absurd h
    ref_leads x name (grammar ∷ outers) scopes stands are h combination at =
        let by = scopes_by are in
        let around = innermost_stands stands in
        let same : h.combination ≡ combination = same_Some h.combination combination (sym h.there ∙ at) in
        record {
          each = λ i there among is_at.
              let body = body_at grammar outers by.0 by.1 by.2 (defined.Name name) (link_at found x) around.stands by.3 by.4 by.5 h i there (subst (λ (j : Combined). Contains j.bodies.items i) (sym same) among) is_at in
              subst (λ (from : Place). LeadsTo from there) (ap (λ ss. place ss (composed.ref name)) (sym by.6))
              (subst (λ (to : Place). LeadsTo (place (by.1 ∷ by.2) (composed.ref name)) to) (sym body.place_is) (to_definition body.within));
        }

    parent_ref_leads : (x : ℕ) (name : List ℕ) (outers : List ℕ) (scopes : List Clauses) → Stands cells root outers x → AreScopes cells number outers scopes → IsCombinedOutside cells found.combined.items outers (defined.Name name) (link_at found x) → (combination : Combined) → slice_get found.combined.items (link_at found x) ≡ Some combination → LeadsToAll (place scopes (composed.parent_ref name)) combination
    parent_ref_leads x name [] scopes stands are h combination at = absurd h
    parent_ref_leads x name (inner ∷ []) scopes stands are h combination at = absurd h
    parent_ref_leads x name (inner ∷ grammar ∷ outers) scopes stands are h combination at =
        let by = scopes_by are in
        let further = scopes_by by.5 in
        let around = innermost_stands (innermost_stands stands).stands in
        let same : h.combination ≡ combination = same_Some h.combination combination (sym h.there ∙ at) in
        let scopes_are : scopes ≡ by.1 ∷ further.1 ∷ further.2 = by.6 ∙ ap (λ ss. by.1 ∷ ss) further.6 in
        record {
          each = λ i there among is_at.
              let body = body_at grammar outers further.0 further.1 further.2 (defined.Name name) (link_at found x) around.stands further.3 further.4 further.5 h i there (subst (λ (j : Combined). Contains j.bodies.items i) (sym same) among) is_at in
              subst (λ (from : Place). LeadsTo from there) (ap (λ ss. place ss (composed.parent_ref name)) (sym scopes_are))
              (subst (λ (to : Place). LeadsTo (place (by.1 ∷ further.1 ∷ further.2) (composed.parent_ref name)) to) (sym body.place_is) (to_outer_definition body.within));
        }

    grammar_leads : (x : ℕ) (clauses : List Clause) (all : Clauses) (outers : List ℕ) (scopes : List Clauses) → Stands cells root outers x → IsCell cells x (cell.grammar clauses) → DenoteAll cells number clauses all → AreScopes cells number outers scopes → IsCombined cells found.combined.items x defined.Start (link_at found x) → (combination : Combined) → slice_get found.combined.items (link_at found x) ≡ Some combination → LeadsToAll (place scopes (composed.grammar all)) combination
    grammar_leads x clauses all outers scopes stands at_x denoted are h combination at =
        let same : h.combination ≡ combination = same_Some h.combination combination (sym h.there ∙ at) in
        record {
          each = λ i there among is_at.
              let body = body_at x outers clauses all scopes defined.Start (link_at found x) stands at_x denoted are h i there (subst (λ (j : Combined). Contains j.bodies.items i) (sym same) among) is_at in
              subst (λ (to : Place). LeadsTo (place scopes (composed.grammar all)) to) (sym body.place_is) (to_start body.within);
        }

    link_leads : (x : ℕ) (here : Place) (c : Cell) → IsAt cells root number x here → IsCell cells x c → is_linked c ≡ true → (combination : Combined) → slice_get found.combined.items (link_at found x) ≡ Some combination → LeadsToAll here combination
    link_leads x here (cell.ref name) is_at at linked combination there =
        subst (λ (p : Composed). LeadsToAll (place here.scopes p) combination) (sym (denoted_by (cell.ref name) at is_at.denotes))
        (ref_leads x name is_at.outers here.scopes is_at.stands is_at.are_scopes (resolved.ref_combined is_at.outers x name is_at.stands at) combination there)
    link_leads x here (cell.parent_ref name) is_at at linked combination there =
        subst (λ (p : Composed). LeadsToAll (place here.scopes p) combination) (sym (denoted_by (cell.parent_ref name) at is_at.denotes))
        (parent_ref_leads x name is_at.outers here.scopes is_at.stands is_at.are_scopes (resolved.parent_ref_combined is_at.outers x name is_at.stands at) combination there)
    link_leads x here (cell.grammar clauses) is_at at linked combination there =
        let grammar = denoted_by (cell.grammar clauses) at is_at.denotes in
        subst (λ (p : Composed). LeadsToAll (place here.scopes p) combination) (sym grammar.2)
        (grammar_leads x clauses grammar.0 is_at.outers here.scopes is_at.stands at grammar.1 is_at.are_scopes (resolved.start_combined x clauses (is_at.outers, is_at.stands) at) combination there)
    link_leads x here c is_at at linked combination there = absurd (false≢true linked)

    -- ---- from place to place

    -- a step from a place leads to a place, or to combined definitions to whose bodies the place leads
    pub record LeadsHere (here : Place) (k : ℕ) : Type 0 where
      pub there : Place
      pub is_at : IsAt cells root number k there
      pub led : LeadsTo here there

    pub record LeadsToCombination (here : Place) (k : ℕ) : Type 0 where
      pub number_of_combination : ℕ
      pub combination : Combined
      pub is : k ≡ length cells + number_of_combination
      pub at : slice_get found.combined.items number_of_combination ≡ Some combination
      pub led : LeadsToAll here combination

    node_below : {x : ℕ} {here : Place} → IsAt cells root number x here → x < length cells
    node_below is_at = stands_within formed is_at.stands

    lead_from : {x k : ℕ} (here : Place) → IsAt cells root number x here → Lead x k → LeadsHere here k ⊎ LeadsToCombination here k
    lead_from here is_at (by_part stands at among) =
        let part = part_denoted at among is_at.denotes in
        inl (record {
          there = place here.scopes part.pattern;
          is_at = record { outers = is_at.outers; stands = a_part is_at.stands at among; are_scopes = is_at.are_scopes; denotes = part.denotes };
          led = to_part part.within;
        })
    lead_from here is_at (by_link {x = x} {outers = outers} c stands at linked) =
        let within = link_within outers x c resolved stands at linked in
        let there = slice_get_there found.combined.items (link_at found x) within in
        inr (record { number_of_combination = link_at found x; combination = there.0; is = refl; at = there.1; led = link_leads x here c is_at at linked there.0 there.1 })
    lead_from here is_at (by_body n combination at among) = absurd (omega (arith, node_below is_at))

    lead_from_combination : {x k : ℕ} (here : Place) (n : ℕ) (combination : Combined) → x ≡ length cells + n → slice_get found.combined.items n ≡ Some combination → LeadsToAll here combination → (whole : Composed) → Denotes cells number root whole → Lead x k → LeadsHere here k
    lead_from_combination here n combination is at led whole denotes (by_part stands at_x among) = absurd (omega (arith, is, stands_within formed stands))
    lead_from_combination here n combination is at led whole denotes (by_link c stands at_x linked) = absurd (omega (arith, is, stands_within formed stands))
    lead_from_combination here n combination is at led whole denotes (by_body {i = i} m other there among) =
        let same_number : n ≡ m = omega (arith, is) in
        let same : other ≡ combination = same_Some other combination (sym there ∙ ap (slice_get found.combined.items) (sym same_number) ∙ at) in
        let stands = body_stands m i other resolved there among in
        let h = place_of denotes stands.1 in
        let is_at : IsAt cells root number i (place h.scopes h.pattern) = record { outers = stands.0; stands = stands.1; are_scopes = h.are_scopes; denotes = h.denotes } in
        record { there = place h.scopes h.pattern; is_at = is_at; led = led.each i (place h.scopes h.pattern) (subst (λ (j : Combined). Contains j.bodies.items i) same among) is_at }

-- from one to another by one step or more
pub data Chain (cells : List Cell) (root : ℕ) (found : Resolved) : ℕ → ℕ → Type 0 where
  last_lead : {x y : ℕ} → Lead cells root found x y → Chain cells root found x y
  further_lead : {x k y : ℕ} → Lead cells root found x k → Chain cells root found k y → Chain cells root found x y

-- and by one step more
pub chain_on : {cells : List Cell} {root : ℕ} {found : Resolved} {x k y : ℕ} → Chain cells root found x k → Lead cells root found k y → Chain cells root found x y
chain_on (last_lead first) next = further_lead first (last_lead next)
chain_on (further_lead first more) next = further_lead first (chain_on more next)

module _ (cells : List Cell) (root : ℕ) (found : Resolved) (formed : AreWellFormed cells root) (resolved : IsResolved cells root found) (number : ℕ → ℕ) (whole : Composed) (denotes : Denotes cells number root whole) where
  -- a place leads on to the place of a node
  abbrev ReachesAll : Place → ℕ → Type 0
  ReachesAll here y = (there : Place) → IsAt cells root number y there → LeadsOn here there

  arrives : {here : Place} {y : ℕ} → LeadsHere cells root found formed resolved number here y → ReachesAll here y
  arrives {here = here} h there is_at = in_one_step (subst (λ (to : Place). LeadsTo here to) (at_once formed h.is_at is_at) h.led)

  mutual
    from_place : {x y : ℕ} (here : Place) → IsAt cells root number x here → Chain cells root found x y → ReachesAll here y
    from_place here is_at (last_lead lead) =
        elim (lead_from cells root found formed resolved number here is_at lead) [
          | inl h ↦ arrives h
          | inr h ↦ λ there at_there. absurd (omega (arith, h.is, stands_within formed at_there.stands))
        ]
    from_place here is_at (further_lead lead more) =
        elim (lead_from cells root found formed resolved number here is_at lead) [
          | inl h ↦ λ there at_there. in_more_steps h.led (from_place h.there h.is_at more there at_there)
          | inr h ↦ from_combination here h.number_of_combination h.combination h.is h.at h.led more
        ]

    from_combination : {x y : ℕ} (here : Place) (n : ℕ) (combination : Combined) → x ≡ length cells + n → slice_get found.combined.items n ≡ Some combination → LeadsToAll cells root found formed resolved number here combination → Chain cells root found x y → ReachesAll here y
    from_combination here n combination is at led (last_lead lead) = arrives (lead_from_combination cells root found formed resolved number here n combination is at led whole denotes lead)
    from_combination here n combination is at led (further_lead lead more) =
        let h = lead_from_combination cells root found formed resolved number here n combination is at led whole denotes lead in
        λ there at_there. in_more_steps h.led (from_place h.there h.is_at more there at_there)

  -- a node that leads back to itself
  node_leads_back : {outers : List ℕ} {x : ℕ} → Stands cells root outers x → Chain cells root found x x → Has whole LeadsBack
  node_leads_back {outers = outers} {x = x} stands chain =
      let h = place_of denotes stands in
      let is_at : IsAt cells root number x (place h.scopes h.pattern) = record { outers = outers; stands = stands; are_scopes = h.are_scopes; denotes = h.denotes } in
      record { scopes = h.scopes; pattern = h.pattern; occurs = h.occurs; is = from_place (place h.scopes h.pattern) is_at chain (place h.scopes h.pattern) is_at }

  -- what combined definitions lead to stands in the schema
  combination_lead_stands : {x k : ℕ} (n : ℕ) → x ≡ length cells + n → Lead cells root found x k → IsStanding cells root k
  combination_lead_stands n is (by_part stands at_x among) = absurd (omega (arith, is, stands_within formed stands))
  combination_lead_stands n is (by_link c stands at_x linked) = absurd (omega (arith, is, stands_within formed stands))
  combination_lead_stands n is (by_body {i = i} m combination there among) = body_stands cells root found m i combination resolved there among

  -- from combined definitions by way of the first node back to that node
  combination_leads_back : {x y : ℕ} (n : ℕ) → x ≡ length cells + n → x ≡ y → Chain cells root found x y → Has whole LeadsBack
  combination_leads_back n is back (last_lead lead) =
      let stands = combination_lead_stands n is lead in
      absurd (omega (arith, is, back, stands_within formed stands.1))
  combination_leads_back n is back (further_lead {x = x} {k = k} {y = y} lead more) =
      let stands = combination_lead_stands n is lead in
      node_leads_back stands.1 (chain_on more (subst (λ z. Lead cells root found z k) back lead))

-- what leads back to itself is refused
pub loop_refused : {cells : List Cell} {root : ℕ} {found : Resolved} {x : ℕ} → AreWellFormed cells root → IsResolved cells root found → IsMet cells root found x → Chain cells root found x x → IsRefusal cells root (Unreadable cause.RefLoop)
loop_refused {cells = cells} {root = root} {found = found} formed resolved (inl (outers, stands)) chain number whole denotes = node_leads_back cells root found formed resolved number whole denotes stands chain
loop_refused {cells = cells} {root = root} {found = found} formed resolved (inr (n, lt, is)) chain number whole denotes = combination_leads_back cells root found formed resolved number whole denotes n is refl chain
