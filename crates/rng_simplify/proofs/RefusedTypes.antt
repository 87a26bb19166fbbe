-- Where a node has no type, the schema is broken for that cause.
use Rattle.std.proofs.Common.{◌≡◌, sym, subst, ℕ, inl, inr, List, [], slice_get, Some, Contains, arith}
use Rattle.std.specs.Prelude.{slice_index}
use Rattle.std.proofs.lemmas.Option.{slice_get_within}
use Rattle.nx_base.specs.declared.cause.Cause.{Cause}
use Rattle.nx_base.specs.declared.cause.Cause.TheVariants as cause
use Rattle.rnc_parse.specs.declared.surface.TypeName.{TypeName}
use Rattle.rnc_parse.specs.declared.surface.Param.{Param}
use Rattle.rng_simplify.specs.declared.form.Forms.{Forms}
use Rattle.rng_simplify.specs.declared.resolve.Resolved.{Resolved}
use Rattle.rng_simplify.specs.Broken.{WholeIsBroken}
use Rattle.rng_simplify.specs.Cells.{Cell}
use Rattle.rng_simplify.specs.Cells as cell
use Rattle.rng_simplify.specs.Composed.{Composed, Clauses}
use Rattle.rng_simplify.specs.Composed as composed
use Rattle.rng_simplify.specs.CellMeanings.{IsCell, Denotes}
use Rattle.rng_simplify.specs.NodeForms.{form_of, IsBefore, IsInOrder, AreForms}
use Rattle.rng_simplify.specs.Places.{place, Occurs}
use Rattle.rng_simplify.specs.ResolvedNodes.{number_at, IsResolved, IsOrdered}
use Rattle.rng_simplify.specs.Simple.{Simple}
use Rattle.rng_simplify.specs.NodePlaces.{Stands, a_part, IsStanding}
use Rattle.rng_simplify.specs.NodeTypes.{HasNoValueType, HasNoTypeTaken, HasNoType, IsFirstRefused}
use Rattle.rng_simplify.proofs.Forming.{cell_leads_are}
use Rattle.rng_simplify.proofs.Nodes.{in_first, denoted_by, HasPlace, place_of}
use Rattle.rng_simplify.proofs.Simplifying.{in_order, in_place, node_is_simple, taken_of}
use Rattle.rng_simplify.proofs.Typed.{are_taken}

module _ (cells : List Cell) (root : ℕ) (found : Resolved) (resolved : IsResolved cells root found) (order : List ℕ)
    (ordered : IsOrdered cells root found order) (forms : Forms) (all_formed : AreForms cells found order forms) (whole : Composed)
    (denotes : Denotes cells (number_at found) root whole) where
  ordered_so : IsInOrder cells found order
  ordered_so = in_order cells root found resolved order ordered

  -- a node of the order stands in the schema
  pub stands_there : (end i : ℕ) (c : Cell) → slice_get order end ≡ Some i → IsCell cells i c → IsStanding cells root i
  stands_there end i c there at = elim (ordered.nothing_else i (in_place order end i there)) [
    | inl stands ↦ stands
    | inr combination ↦ let inside = slice_get_within cells i c at in let is = combination.2 in absurd (omega arith)
  ]

  so_occurs : (scopes : List Clauses) (p q : Composed) → p ≡ q → Occurs whole (place scopes p) → Occurs whole (place scopes q)
  so_occurs scopes p q is occurs = let P : Composed → Type 0 = λ r. Occurs whole (place scopes r) in subst P is occurs

  -- a value without a type
  value_is_broken : (scopes : List Clauses) (p : Composed) (type : TypeName) (text : List ℕ) → p ≡ composed.value type text →
      Occurs whole (place scopes p) → (why : Cause) → HasNoValueType type text why → WholeIsBroken whole why
  value_is_broken scopes p type text is occurs cause.UnknownType refused =
      record { scopes = scopes; pattern = composed.value type text; occurs = so_occurs scopes p _ is occurs; is = refused }
  value_is_broken scopes p type text is occurs cause.UnknownParam refused =
      record { scopes = scopes; pattern = composed.value type text; occurs = so_occurs scopes p _ is occurs; is = refused }
  value_is_broken scopes p type text is occurs cause.BadParam refused =
      record { scopes = scopes; pattern = composed.value type text; occurs = so_occurs scopes p _ is occurs; is = refused }
  value_is_broken scopes p type text is occurs cause.BadValue refused =
      record { scopes = scopes; pattern = composed.value type text; occurs = so_occurs scopes p _ is occurs; is = refused }
  value_is_broken scopes p type text is occurs why refused = absurd refused

  -- a type that is none, or from which something else or too much is taken
  type_is_broken : (scopes : List Clauses) (p q : Composed) (type : TypeName) (params : List Param) (part : ℕ) →
      p ≡ composed.typed type params q → Occurs whole (place scopes p) → Simple scopes q (form_of cells (taken_of cells forms) forms part) →
      (why : Cause) → HasNoTypeTaken cells forms.shapes type params (slice_index forms.of.items part) why → WholeIsBroken whole why
  type_is_broken scopes p q type params part is occurs simple cause.UnknownType refused =
      record { scopes = scopes; pattern = composed.typed type params q; occurs = so_occurs scopes p _ is occurs; is = refused }
  type_is_broken scopes p q type params part is occurs simple cause.UnknownParam refused =
      record { scopes = scopes; pattern = composed.typed type params q; occurs = so_occurs scopes p _ is occurs; is = refused }
  type_is_broken scopes p q type params part is occurs simple cause.BadParam refused =
      record { scopes = scopes; pattern = composed.typed type params q; occurs = so_occurs scopes p _ is occurs; is = refused }
  type_is_broken scopes p q type params part is occurs simple cause.TooManyExcepts refused = record {
    scopes = scopes;
    pattern = composed.typed type params q;
    occurs = so_occurs scopes p _ is occurs;
    is = (form_of cells (taken_of cells forms) forms part, refused.values, simple, refused.has_values.are (taken_of cells forms), refused.many);
  }
  type_is_broken scopes p q type params part is occurs simple cause.UnsupportedExcept refused = record {
    scopes = scopes;
    pattern = composed.typed type params q;
    occurs = so_occurs scopes p _ is occurs;
    is = elim refused [
      | inl none ↦ (form_of cells (taken_of cells forms) forms part, simple, inl (none.none (taken_of cells forms)))
      | inr foreign ↦ (form_of cells (taken_of cells forms) forms part, simple, inr (foreign.values, foreign.has_values.are (taken_of cells forms), foreign.foreign))
    ];
  }
  type_is_broken scopes p q type params part is occurs simple why refused = absurd refused

  -- the first node that has no type
  pub refused_is_broken : (why : Cause) → IsFirstRefused cells order forms why → WholeIsBroken whole why
  refused_is_broken why first =
      let stands = stands_there first.place first.node first.cell first.there first.is_cell in
      let there = place_of denotes stands.1 in
      by_cell first.cell first.is_cell stands.0 stands.1 there first.refused
    where
      by_cell : (c : Cell) → IsCell cells first.node c → (outers : List ℕ) (stands : Stands cells root outers first.node) →
          HasPlace cells (number_at found) whole outers first.node → HasNoType cells forms c why → WholeIsBroken whole why
      by_cell (cell.value type text) at outers stands there refused =
          value_is_broken there.scopes there.pattern type text (denoted_by _ at there.denotes) there.occurs why refused
      by_cell (cell.typed type params part) at outers stands there refused =
          let by = denoted_by _ at there.denotes in
          let P : List ℕ → Type 0 = λ all. Contains all part in
          let before : IsBefore order first.place part =
          (ordered_so).behind first.place first.node part first.there
          (subst P (sym (cell_leads_are cells found first.node (cell.typed type params part) at)) (in_first part [])) in
          let within = slice_get_within order first.place first.node first.there in
          let simple =
          node_is_simple cells root found resolved order ordered_so forms all_formed (taken_of cells forms) first.place part
          (omega arith) (are_taken cells order first.place forms first.types first.before) before outers there.scopes by.0
          (a_part stands at (in_first part [])) there.are_scopes by.1 in
          type_is_broken there.scopes there.pattern by.0 type params part by.2 there.occurs simple why refused
      by_cell (cell.element class part) at outers stands there refused = absurd refused
      by_cell (cell.attribute class part) at outers stands there refused = absurd refused
      by_cell (cell.listed part) at outers stands there refused = absurd refused
      by_cell (cell.ref name) at outers stands there refused = absurd refused
      by_cell (cell.parent_ref name) at outers stands there refused = absurd refused
      by_cell cell.empty at outers stands there refused = absurd refused
      by_cell cell.any_text at outers stands there refused = absurd refused
      by_cell cell.not_allowed at outers stands there refused = absurd refused
      by_cell (cell.grammar clauses) at outers stands there refused = absurd refused
      by_cell (cell.one_or_more part) at outers stands there refused = absurd refused
      by_cell (cell.joined by first second) at outers stands there refused = absurd refused
