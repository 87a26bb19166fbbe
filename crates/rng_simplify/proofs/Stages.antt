-- What is known of a schema in one piece from step to step, where its lists are seen as slices.
use Rattle.std.proofs.Common.{◌≡◌, subst, sym, ℕ, List, length, map, Option, Vec, Global, Result, Ok, Err}
use Rattle.rng_core.specs.declared.grammar.Grammar.{Grammar}
use Rattle.rng_simplify.specs.declared.compose.Whole.{Whole}
use Rattle.rng_simplify.specs.declared.fault.SchemaFault.{SchemaFault}
use Rattle.rng_simplify.specs.declared.form.Forms.{Forms}
use Rattle.rng_simplify.specs.declared.node.Node.{Node}
use Rattle.rng_simplify.specs.declared.resolve.Resolved.{Resolved}
use Rattle.rng_simplify.specs.declared.types.NodeType.{NodeType}
use Rattle.rng_simplify.specs.Refusals.{cells_of}
use Rattle.rng_simplify.specs.Cells.{cell_of}
use Rattle.rng_simplify.specs.CellTexts.{AreTexts}
use Rattle.rng_simplify.specs.NodeForms.{IsInOrder, IsKnown, AreForms, MakesForms}
use Rattle.rng_simplify.specs.Grammars.{IsSorted, HasForms, HasTypes, IsMeasured, GivesGrammar}
use Rattle.rng_simplify.specs.GoodClasses.{AreGood}
use Rattle.rng_simplify.specs.Limits.{AreElements, IsWithinLimits}
use Rattle.rng_simplify.specs.ResolvedNodes.{IsResolved, IsOrdered}
use Rattle.rng_simplify.specs.Shown.{AreOfSchema}
use Rattle.rng_simplify.specs.SpelledShapes.{IsReady, Builds}
use Rattle.rng_simplify.specs.NodePlaces.{AreWellFormed}
use Rattle.rng_simplify.specs.NodeTypes.{AreKnown, AreTypesBefore, MakesTypes}
use Rattle.rng_simplify.proofs.Grammars.{sorted_in_order, parts_known, no_forms, no_types, root_known, elements_known, not_limited, built_of, gives_built}
use Rattle.rng_simplify.proofs.Typed.{shapes_of_schema}

module _ (whole : Whole) (found : Resolved) (order nodes_order : List ℕ) (nodes : List Node) (nodes_are : nodes ≡ whole.nodes.items)
    (order_is : nodes_order ≡ order) (formed : AreWellFormed (cells_of whole) whole.root) (texts : AreTexts (cells_of whole))
    (resolved : IsResolved (cells_of whole) whole.root found) (good : AreGood (cells_of whole) whole.root)
    (ordered : IsOrdered (cells_of whole) whole.root found order) where
  sorted : IsSorted (cells_of whole) whole.root found nodes_order
  sorted =
      let P : List ℕ → Type 0 = λ ns. IsOrdered (cells_of whole) whole.root found ns in
      record { formed = formed; texts = texts; resolved = resolved; good = good; ordered = subst P (sym order_is) ordered }

  -- the order serves for forms
  pub serves : IsInOrder (map cell_of nodes) found nodes_order
  serves =
      let P : List Node → Type 0 = λ ns. IsInOrder (map cell_of ns) found nodes_order in
      subst P (sym nodes_are) (sorted_in_order (cells_of whole) whole.root found nodes_order sorted)

  pub texts_of_nodes : AreTexts (map cell_of nodes)
  texts_of_nodes = let P : List Node → Type 0 = λ ns. AreTexts (map cell_of ns) in subst P (sym nodes_are) texts

  pub without_forms : (refusal : SchemaFault) → MakesForms (map cell_of nodes) found nodes_order (Err refusal) →
      GivesGrammar (cells_of whole) whole.root (Err refusal)
  without_forms refusal h =
      let P : List Node → Type 0 = λ ns. MakesForms (map cell_of ns) found nodes_order (Err refusal) in
      no_forms (cells_of whole) whole.root found nodes_order refusal (subst P nodes_are h)

  module _ (forms : Forms) (forms_are : AreForms (map cell_of nodes) found nodes_order forms) where
    has : HasForms (cells_of whole) whole.root found nodes_order forms
    has =
        let P : List Node → Type 0 = λ ns. AreForms (map cell_of ns) found nodes_order forms in
        record { sorted = sorted; forms_are = subst P nodes_are forms_are }

    -- the shapes are those of the nodes
    pub of_schema : (count : ℕ) × AreOfSchema (map cell_of nodes) count forms.shapes
    of_schema =
        let P : List Node → Type 0 = λ ns. AreOfSchema (map cell_of ns) (length found.elements.items) forms.shapes in
        (length found.elements.items, subst P (sym nodes_are) (shapes_of_schema (cells_of whole) found nodes_order (length nodes_order) forms has.forms_are.formed))

    pub are_known : AreKnown (map cell_of nodes) nodes_order forms
    are_known =
        let P : List Node → Type 0 = λ ns. AreKnown (map cell_of ns) nodes_order forms in
        subst P (sym nodes_are) (parts_known (cells_of whole) whole.root found nodes_order forms has)

    pub without_types : (refusal : SchemaFault) → MakesTypes (map cell_of nodes) nodes_order forms (Err refusal) →
        GivesGrammar (cells_of whole) whole.root (Err refusal)
    without_types refusal h =
        let P : List Node → Type 0 = λ ns. MakesTypes (map cell_of ns) nodes_order forms (Err refusal) in
        no_types (cells_of whole) whole.root found nodes_order forms has refusal (subst P nodes_are h)

    -- the start and the contents of elements have forms
    pub start_known : IsKnown forms.shapes forms.of.items whole.root
    start_known = root_known (cells_of whole) whole.root found nodes_order forms has

    pub contents_known : (elements : List ℕ) → elements ≡ found.elements.items → AreElements (map cell_of nodes) forms elements
    contents_known elements elements_are =
        let P : List Node → Type 0 = λ ns. AreElements (map cell_of ns) forms elements in
        let Q : List ℕ → Type 0 = λ es. AreElements (cells_of whole) forms es in
        subst P (sym nodes_are) (subst Q (sym elements_are) (elements_known (cells_of whole) whole.root found nodes_order forms has))

    module _ (node_types types : List (Option NodeType)) (types_are : types ≡ node_types)
        (typed : AreTypesBefore (map cell_of nodes) nodes_order (length nodes_order) forms node_types) (elements : List ℕ)
        (elements_are : elements ≡ found.elements.items) where
      has_types : HasTypes (cells_of whole) whole.root found nodes_order forms types
      has_types =
          let P : List Node → Type 0 = λ ns. AreTypesBefore (map cell_of ns) nodes_order (length nodes_order) forms types in
          let Q : List (Option NodeType) → Type 0 = λ ts. AreTypesBefore (map cell_of nodes) nodes_order (length nodes_order) forms ts in
          record { formed = has; types_are = subst P nodes_are (subst Q (sym types_are) typed) }

      limits_as : (result : Result (Unit {0}) SchemaFault) → IsWithinLimits (map cell_of nodes) forms whole.root elements result →
          IsWithinLimits (cells_of whole) forms whole.root found.elements.items result
      limits_as result h =
          let P : List Node → Type 0 = λ ns. IsWithinLimits (map cell_of ns) forms whole.root elements result in
          let Q : List ℕ → Type 0 = λ es. IsWithinLimits (cells_of whole) forms whole.root es result in
          subst Q elements_are (subst P nodes_are h)

      pub beyond_limits : (refusal : SchemaFault) → IsWithinLimits (map cell_of nodes) forms whole.root elements (Err refusal) →
          GivesGrammar (cells_of whole) whole.root (Err refusal)
      beyond_limits refusal h =
          not_limited (cells_of whole) whole.root found nodes_order forms types has_types refusal (limits_as (Err refusal) h)

      module _ (limited : IsWithinLimits (map cell_of nodes) forms whole.root elements (Ok tt)) where
        measured : IsMeasured (cells_of whole) whole.root found nodes_order forms types
        measured = record { typed = has_types; limited = limits_as (Ok tt) limited }

        -- all is there of which patterns are built
        pub are_ready : IsReady (map cell_of nodes) types forms.shapes
        are_ready =
            let P : List Node → Type 0 = λ ns. IsReady (map cell_of ns) types forms.shapes in
            subst P (sym nodes_are) (built_of (cells_of whole) whole.root found nodes_order forms types measured)

        pub gives : (result : Result Grammar SchemaFault) → Builds (map cell_of nodes) types forms whole.root elements result →
            GivesGrammar (cells_of whole) whole.root result
        gives result h =
            let P : List Node → Type 0 = λ ns. Builds (map cell_of ns) types forms whole.root elements result in
            let Q : List ℕ → Type 0 = λ es. Builds (cells_of whole) types forms whole.root es result in
            gives_built (cells_of whole) whole.root found nodes_order forms types measured result (subst Q elements_are (subst P nodes_are h))
