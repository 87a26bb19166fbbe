-- The grammar of a schema in one piece has its simple form, and what refuses the schema is a cause that it has.
use Rattle.std.proofs.Common.{◌≡◌, ◌≢◌, refl, sym, ap, ◌∙◌, subst, ℕ, suc, ◌+◌, ◌^◌, ◌<◌, ◌≤◌, inl, inr, ◌⊎◌, List, [], ◌∷◌, length, map, slice_get, Option, Some, None, Result, Ok, Err, Contains, arith}
use Rattle.std.specs.List.{AllByRecursion, fold}
use Rattle.std.specs.Option.{option_map}
use Rattle.std.proofs.lemmas.List.{length-map}
use Rattle.std.proofs.lemmas.Option.{same_Some, slice_get_within, slice_get-map}
use Rattle.nx_base.specs.declared.cause.Cause.{Cause}
use Rattle.nx_base.specs.declared.cause.Cause.TheVariants as cause
use Rattle.rnc_parse.specs.declared.surface.TypeName.{TypeName}
use Rattle.rnc_parse.specs.declared.surface.Param.{Param}
use Rattle.rng_types.specs.declared.datatype.Datatype.{Datatype}
use Rattle.rng_types.specs.declared.datatype.Except.{Except}
use Rattle.rng_types.specs.declared.fault.TypeFault.{TypeFault}
use Rattle.rng_types.specs.declared.fault.TypeFault.TheVariants as type_fault
use Rattle.rng_core.specs.declared.grammar.Grammar.{Grammar}
use Rattle.rng_core.specs.Meaning.{pattern_of, definitions_of}
use Rattle.rng_core.specs.Names.{Class}
use Rattle.rng_core.specs.Patterns.{Definition}
use Rattle.rng_core.specs.Soundness.{IsSoundPattern, IsSoundDefinition}
use Rattle.rng_simplify.specs.declared.fault.SchemaFault.{SchemaFault}
use Rattle.rng_simplify.specs.declared.fault.SchemaFault.TheVariants as fault
use Rattle.rng_simplify.specs.declared.form.Forms.{Forms}
use Rattle.rng_simplify.specs.declared.node.Sign.{Sign}
use Rattle.rng_simplify.specs.declared.node.Sign.TheVariants as sign
use Rattle.rng_simplify.specs.declared.resolve.Resolved.{Resolved}
use Rattle.rng_simplify.specs.declared.types.NodeType.{NodeType}
use Rattle.rng_simplify.specs.Refusals.{IsRefusal}
use Rattle.rng_simplify.specs.Broken.{Has, HasRefusedType, IsBadValue, IsUnsupported, HasTooManyExcepts, node_limit, depth_limit, nodes_of_all as all_nodes, IsTooDeep, IsTooLarge, WholeIsBroken}
use Rattle.rng_simplify.specs.Cells.{Cell}
use Rattle.rng_simplify.specs.Cells as cell
use Rattle.rng_simplify.specs.Composed.{Composed, Clauses, numbers}
use Rattle.rng_simplify.specs.Composed as composed
use Rattle.rng_simplify.specs.Datatypes.{datatype_of, MayWrite, AreExcepts, no_except, own_value, own_value_beside, string_value, token_value, builtin_string, builtin_token}
use Rattle.rng_simplify.specs.CellMeanings.{IsCell, Denotes, composed_by, is_element, is_attribute, is_list, is_ref, is_parent_ref, is_empty, is_text, is_not_allowed, is_value, is_type, is_grammar, is_one_or_more, is_joined}
use Rattle.rng_simplify.specs.NodeForms.{form_of, IsKnown, IsBefore, IsInOrder, AreTaken, MakesForms}
use Rattle.rng_simplify.specs.Forms.{Form, FormDefinition, Value, values_of, nodes, depth}
use Rattle.rng_simplify.specs.Grammars.{IsSorted, HasForms, HasTypes, IsMeasured, IsGrammarOf, GivesGrammar}
use Rattle.rng_simplify.specs.Limits.{content_in, content_of, class_of_element, AreElements, nodes_of_all, AreWithinLimits, AreBeyondLimits, IsWithinLimits}
use Rattle.rng_simplify.specs.Places.{place}
use Rattle.rng_simplify.specs.ResolvedNodes.{number_at, link_at, leads}
use Rattle.rng_simplify.specs.Simple.{Simple}
use Rattle.rng_simplify.specs.SpelledShapes.{IsReady, AreDefinitions, no_definitions, next_definition, IsBuilt, Builds}
use Rattle.rng_simplify.specs.NodePlaces.{Stands, the_root, a_part, a_content, IsStanding, AreScopes, no_scopes}
use Rattle.rng_simplify.specs.NodeTypes.{AreKnown, IsTypeOf, known_at, MakesTypes}
use Rattle.rng_simplify.specs.Whole.{IsForm, IsDefinedAt}
use Rattle.rng_simplify.proofs.Dense.{numbers_distinct, each_number}
use Rattle.rng_simplify.proofs.Forming.{before_later, cell_leads_are}
use Rattle.rng_simplify.proofs.Nodes.{in_none, in_cases, in_first, denoted_by, HasNode, node_of}
use Rattle.rng_simplify.proofs.OneForm.{simple_one, start_same, definitions_same}
use Rattle.rng_simplify.proofs.RefusedTypes.{refused_is_broken}
use Rattle.rng_simplify.proofs.Simplifying.{in_order, node_is_simple, taken_of}
use Rattle.rng_simplify.proofs.Typed.{HaveTypes, definition_form, spelled_typed, definitions_typed, definitions_sound, have_types, is_ready, few_elements, are_taken}
use Rattle.rng_simplify.proofs.Unbroken.{cell_of_pattern, part_lead, none_undefined, none_without_start, none_clashes, none_excepts, none_declares, none_leads_back}
use Rattle.rng_simplify.proofs.Walks.{place_in}

-- ---- nodes in order

module _ (cells : List Cell) (root : ℕ) (found : Resolved) (order : List ℕ) (sorted : IsSorted cells root found order) where
  -- the order serves for forms
  pub sorted_in_order : IsInOrder cells found order
  sorted_in_order = in_order cells root found sorted.resolved order sorted.ordered

  -- each node that stands in the schema has its place
  pub stands_before : (i : ℕ) → IsStanding cells root i → IsBefore order (length order) i
  stands_before i stands =
      let at = place_in order i (sorted.ordered.each_node i stands) in
      record { place = at.0; before = slice_get_within order at.0 i at.1; there = at.1 }

module _ (cells : List Cell) (root : ℕ) (found : Resolved) (order : List ℕ) (forms : Forms) (has : HasForms cells root found order forms)
  where
    -- parts of nodes have shapes
    pub parts_known : AreKnown cells order forms
    parts_known = record {
      each_part = λ place i c there at j within.
          let P : List ℕ → Type 0 = λ all. Contains all j in
          let led : Contains (leads cells found i) j =
          subst P (sym (cell_leads_are cells found i c at)) (part_lead (length cells) (link_at found i) c j within) in
          let before = (sorted_in_order cells root found order has.sorted).behind place i j there led in
          let inside = slice_get_within order place i there in
          has.forms_are.formed.known j (before_later order place (length order) j (omega arith) before);
    }

    -- so has the whole
    pub root_known : IsKnown forms.shapes forms.of.items root
    root_known = has.forms_are.formed.known root (stands_before cells root found order has.sorted root ([], the_root))

    -- and the contents of elements
    pub elements_known : AreElements cells forms found.elements.items
    elements_known = record {
      each_is = λ place i there.
          let h = has.sorted.resolved.each_number place i there in
          record { class = h.class; part = h.part; is_cell = h.is_element };
      each_known = λ place i there.
          let h = has.sorted.resolved.each_number place i there in
          let content : content_of cells i ≡ h.part = ap content_in h.is_element in
          let P : ℕ → Type 0 = IsKnown forms.shapes forms.of.items in
          subst P (sym content) (has.forms_are.formed.known h.part (stands_before cells root found order has.sorted h.part
          (h.stands.0, a_content h.stands.1 h.is_element)));
    }

-- ---- simple forms of nodes

module _ (cells : List Cell) (root : ℕ) (found : Resolved) (order : List ℕ) (forms : Forms) (has : HasForms cells root found order forms)
    (taken : ℕ → List Value) where
  -- in front of a place
  form_before : (end i : ℕ) → end ≤ length order → AreTaken cells order end taken forms → IsBefore order end i →
      (outers : List ℕ) (scopes : List Clauses) (p : Composed) → Stands cells root outers i →
      AreScopes cells (number_at found) outers scopes → Denotes cells (number_at found) i p → Simple scopes p (form_of cells taken forms i)
  form_before end i within takes before outers scopes p stands are denotes =
      node_is_simple cells root found has.sorted.resolved order (sorted_in_order cells root found order has.sorted) forms has.forms_are
      taken end i within takes before outers scopes p stands are denotes

  -- anywhere
  form_anywhere : (i : ℕ) → AreTaken cells order (length order) taken forms → (outers : List ℕ) (scopes : List Clauses) (p : Composed) →
      Stands cells root outers i → AreScopes cells (number_at found) outers scopes → Denotes cells (number_at found) i p →
      Simple scopes p (form_of cells taken forms i)
  form_anywhere i takes outers scopes p stands are denotes =
      form_before (length order) i (omega arith) takes (stands_before cells root found order has.sorted i (outers, stands)) outers scopes p
      stands are denotes

-- ---- the form of the schema

-- a sum over what is made of a list
sum_of_forms : {A B : Type 0} (f : B → ℕ) (g : A → B) (xs : List A) (start : ℕ) →
    fold (λ n y. n + f y) start (map g xs) ≡ fold (λ n x. n + f (g x)) start xs
sum_of_forms f g [] start = refl
sum_of_forms f g (x ∷ xs) start = sum_of_forms f g xs (start + f (g x))

-- an element's number and class are those of its node
same_element : {n m : ℕ} {c d : Class} {p q : Composed} → composed.element n c p ≡ composed.element m d q → n ≡ m
same_element h = cc

module _ (cells : List Cell) (root : ℕ) (found : Resolved) (order : List ℕ) (forms : Forms) (has : HasForms cells root found order forms)
    (taken : ℕ → List Value) (takes : AreTaken cells order (length order) taken forms) (whole : Composed)
    (denotes : Denotes cells (number_at found) root whole) where
  abbrev start : Form
  start = form_of cells taken forms root

  abbrev definitions : List FormDefinition
  definitions = map (definition_form cells taken forms) found.elements.items

  -- the node of an element has its definition
  defined_node : (scopes : List Clauses) (n : ℕ) (class : Class) (p : Composed) →
      HasNode cells (number_at found) root (place scopes (composed.element n class p)) → IsDefinedAt definitions scopes n class p
  defined_node scopes n class p h =
      let at = cell_of_pattern h.denotes in
      let by = denoted_by (cell.element class at.0) at.1 h.denotes in
      let number_is : n ≡ number_at found h.node = same_element by.2 in
      let content_same : p ≡ by.0 = same_content by.2 in
      let there : slice_get found.elements.items (number_at found h.node) ≡ Some h.node =
      has.sorted.resolved.numbered h.node class at.0 (h.outers, h.stands) at.1 in
      let content : content_of cells h.node ≡ at.0 = ap content_in at.1 in
      let class_is : class_of_element (slice_get cells h.node) ≡ class = ap class_of_element at.1 in
      let P : Composed → Type 0 = λ q. Simple scopes q (form_of cells taken forms at.0) in
      record {
        content = form_of cells taken forms at.0;
        there =
            slice_get-map (definition_form cells taken forms) found.elements.items n
            ∙ ap (λ k. option_map (definition_form cells taken forms) (slice_get found.elements.items k)) number_is
            ∙ ap (option_map (definition_form cells taken forms)) there
            ∙ ap (λ c. Some (record { class = c; content = form_of cells taken forms (content_of cells h.node) })) class_is
            ∙ ap (λ k. Some (record { class = class; content = form_of cells taken forms k })) content;
        simple = subst P (sym content_same) (form_anywhere cells root found order forms has taken at.0 takes h.outers scopes by.0
            (a_content h.stands at.1) h.are_scopes by.1);
      }
    where
      same_content : {n m : ℕ} {c d : Class} {p q : Composed} → composed.element n c p ≡ composed.element m d q → p ≡ q
      same_content h = cc

  -- the forms of the whole and of its elements' contents are its simple form
  pub is_form : IsForm whole start definitions
  is_form = record {
    start_is = form_anywhere cells root found order forms has taken root takes [] [] whole the_root no_scopes denotes;
    distinct = numbers_distinct cells root found whole has.sorted.formed has.sorted.resolved denotes;
    each_number = λ n.
        let all : length definitions ≡ length found.elements.items = length-map found.elements.items (definition_form cells taken forms) in
        let h = each_number cells root found whole has.sorted.formed has.sorted.resolved denotes n in
        (λ among. let below = h.0 among in omega arith, λ below. h.1 (omega arith));
    each_element = λ scopes n class p occurs. defined_node scopes n class p (node_of denotes occurs);
  }

  -- ---- how large it is

  all_nodes_are : all_nodes start definitions ≡ nodes_of_all cells taken forms root found.elements.items
  all_nodes_are = ap (λ n. nodes start + n)
      (sum_of_forms (λ (definition : FormDefinition). nodes definition.content) (definition_form cells taken forms) found.elements.items 0)

  -- what is beyond the limits is too large
  pub too_large : AreBeyondLimits cells taken forms root found.elements.items → IsTooLarge whole
  too_large (inl many) =
      record { start = start; definitions = definitions; form = is_form; large = inl (let same = all_nodes_are in omega arith) }
  too_large (inr (inl deep)) = record { start = start; definitions = definitions; form = is_form; large = inr (inl deep) }
  too_large (inr (inr (n, i, there, deep))) = record {
    start = start;
    definitions = definitions;
    form = is_form;
    large = inr (inr (
      n,
      definition_form cells taken forms i,
      slice_get-map (definition_form cells taken forms) found.elements.items n
          ∙ ap (option_map (definition_form cells taken forms)) there,
      deep,
    ));
  }

  -- what is within them isn't
  deep_element : (n : ℕ) (definition : FormDefinition) (i : Option ℕ) → slice_get found.elements.items n ≡ i →
      option_map (definition_form cells taken forms) i ≡ Some definition → AreWithinLimits cells taken forms root found.elements.items →
      depth_limit < depth definition.content → ⊥
  deep_element n definition None at is limited deep = let never : ⊥ = cc in never
  deep_element n definition (Some i) at is limited deep =
      let same : depth (form_of cells taken forms (content_of cells i)) ≡ depth definition.content =
      ap (λ (d : FormDefinition). depth d.content) (same_Some _ definition is) in
      let shallow = limited.each_shallow n i at in
      absurd (omega arith)

  never_large : AreWithinLimits cells taken forms root found.elements.items →
      (node_limit < all_nodes start definitions) ⊎ IsTooDeep start definitions → ⊥
  never_large limited (inl many) = let few = limited.few in let same = all_nodes_are in absurd (omega arith)
  never_large limited (inr (inl deep)) = let shallow = limited.shallow in absurd (omega arith)
  never_large limited (inr (inr (n, definition, there, deep))) =
      deep_element n definition (slice_get found.elements.items n) refl
      (sym (slice_get-map (definition_form cells taken forms) found.elements.items n) ∙ there) limited deep

  pub never_too_large : AreWithinLimits cells taken forms root found.elements.items → IsTooLarge whole → ⊥
  never_too_large limited h =
      let P : Form → Type 0 = λ q. (node_limit < all_nodes q h.definitions) ⊎ IsTooDeep q h.definitions in
      let Q : List FormDefinition → Type 0 = λ ds. (node_limit < all_nodes start ds) ⊎ IsTooDeep start ds in
      never_large limited (subst Q (definitions_same whole h.start h.definitions h.form start definitions is_form)
      (subst P (start_same whole h.start h.definitions h.form start definitions is_form) h.large))

-- ---- nodes of values and types

abbrev TypeCellOf : List Cell → (ℕ → ℕ) → ℕ → Composed → Type 0
TypeCellOf cells number i (composed.value type text) = IsCell cells i (cell.value type text)
TypeCellOf cells number i (composed.typed type params except) =
    (part : ℕ) × IsCell cells i (cell.typed type params part) × Denotes cells number part except
TypeCellOf cells number i p = Unit {0}

joined_type_cell : (cells : List Cell) (number : ℕ → ℕ) (i : ℕ) (by : Sign) (p q : Composed) →
    TypeCellOf cells number i (composed_by by p q)
joined_type_cell cells number i sign.Choice p q = tt
joined_type_cell cells number i sign.Group p q = tt
joined_type_cell cells number i sign.Interleave p q = tt

type_cell : {cells : List Cell} {number : ℕ → ℕ} {i : ℕ} {p : Composed} → Denotes cells number i p → TypeCellOf cells number i p
type_cell (is_element at part) = tt
type_cell (is_attribute at part) = tt
type_cell (is_list at part) = tt
type_cell (is_ref at) = tt
type_cell (is_parent_ref at) = tt
type_cell (is_empty at) = tt
type_cell (is_text at) = tt
type_cell (is_not_allowed at) = tt
type_cell (is_value at) = at
type_cell (is_type at part) = (_, at, part)
type_cell (is_grammar at all) = tt
type_cell (is_one_or_more at part) = tt
type_cell {cells = cells} {number = number} {i = i} (is_joined {p = p} {q = q} by at first second) = joined_type_cell cells number i by p q

-- a name has one type, or none
pub not_both : (datatype : Datatype) (why : TypeFault) (named : Result Datatype TypeFault) → named ≡ Ok datatype → named ≡ Err why → ⊥
not_both datatype why named is isnt =
    let same : ◌≡◌ {A = Result Datatype TypeFault} (Ok datatype) (Err why) = sym is ∙ isnt in
    let never : ⊥ = cc in
    never

pub one_type : (datatype other : Datatype) (named : Result Datatype TypeFault) → named ≡ Ok datatype → named ≡ Ok other → datatype ≡ other
one_type datatype other named is also =
    let same : ◌≡◌ {A = Result Datatype TypeFault} (Ok datatype) (Ok other) = sym is ∙ also in
    cc

-- what is taken from a type is of the type itself, or of a built-in one
none_foreign : {type : TypeName} {datatype : Datatype} {values : List Value} {excepts : List Except} →
    AreExcepts type datatype values excepts → (v : Value) → Contains values v → v.type ≢ type → v.type ≢ builtin_string →
    v.type ≢ builtin_token → ⊥
none_foreign no_except v within own string token = in_none within
none_foreign {type = type} (own_value {text = text} {values = values} accepted more) v within own string token =
    elim (in_cases (record { type = type; text = text }) values v within) [
      | inl is ↦ own (sym (ap (λ (w : Value). w.type) is))
      | inr further ↦ none_foreign more v further own string token
    ]
none_foreign {type = type} (own_value_beside {text = text} {values = values} refused more) v within own string token =
    elim (in_cases (record { type = type; text = text }) values v within) [
      | inl is ↦ own (sym (ap (λ (w : Value). w.type) is))
      | inr further ↦ none_foreign more v further own string token
    ]
none_foreign (string_value {text = text} {values = values} other more) v within own string token =
    elim (in_cases (record { type = builtin_string; text = text }) values v within) [
      | inl is ↦ string (sym (ap (λ (w : Value). w.type) is))
      | inr further ↦ none_foreign more v further own string token
    ]
none_foreign (token_value {text = text} {values = values} other more) v within own string token =
    elim (in_cases (record { type = builtin_token; text = text }) values v within) [
      | inl is ↦ token (sym (ap (λ (w : Value). w.type) is))
      | inr further ↦ none_foreign more v further own string token
    ]

module _ (cells : List Cell) (root : ℕ) (found : Resolved) (order : List ℕ) (forms : Forms) (types : List (Option NodeType))
    (has : HasTypes cells root found order forms types) where
  -- what is taken from all types
  pub all_taken : AreTaken cells order (length order) (taken_of cells forms) forms
  all_taken = are_taken cells order (length order) forms types has.types_are

  type_at : (i : ℕ) (c : Cell) → IsStanding cells root i → IsCell cells i c → IsTypeOf cells forms c (known_at types i)
  type_at i c stands at = has.types_are.each_is i c (stands_before cells root found order has.formed.sorted i stands) at

  module _ (whole : Composed) (denotes : Denotes cells (number_at found) root whole) where
    refused_at : (why : TypeFault) (scopes : List Clauses) (p : Composed) → HasNode cells (number_at found) root (place scopes p) →
        HasRefusedType why scopes p → ⊥
    refused_at why scopes (composed.value type text) h is =
        let t = type_at h.node (cell.value type text) (h.outers, h.stands) (type_cell h.denotes) in
        not_both t.node_type.datatype why (datatype_of type []) t.named is
    refused_at why scopes (composed.typed type params except) h is =
        let at = type_cell h.denotes in
        let t = type_at h.node (cell.typed type params at.0) (h.outers, h.stands) at.1 in
        not_both t.node_type.datatype why (datatype_of type params) t.named is
    refused_at why scopes p h is = absurd is

    none_refused : (why : TypeFault) → Has whole (HasRefusedType why) → ⊥
    none_refused why h = refused_at why h.scopes h.pattern (node_of denotes h.occurs) h.is

    bad_at : (scopes : List Clauses) (p : Composed) → HasNode cells (number_at found) root (place scopes p) → IsBadValue scopes p → ⊥
    bad_at scopes (composed.value type text) h is =
        let t = type_at h.node (cell.value type text) (h.outers, h.stands) (type_cell h.denotes) in
        let P : Datatype → Type 0 = λ d. MayWrite d text in
        is.2 (subst P (one_type t.node_type.datatype is.0 (datatype_of type []) t.named is.1) t.may_write)
    bad_at scopes p h is = absurd is

    none_bad : Has whole IsBadValue → ⊥
    none_bad h = bad_at h.scopes h.pattern (node_of denotes h.occurs) h.is

    -- the simple form of what is taken from a type has the values that are taken
    same_taken : (scopes : List Clauses) (type : TypeName) (params : List Param) (except : Composed)
        (h : HasNode cells (number_at found) root (place scopes (composed.typed type params except))) (part : ℕ) →
        IsCell cells h.node (cell.typed type params part) → Denotes cells (number_at found) part except → (q : Form) →
        Simple scopes except q → q ≡ form_of cells (taken_of cells forms) forms part
    same_taken scopes type params except h part at denoted q simple =
        simple_one simple (form_anywhere cells root found order forms has.formed
        (taken_of cells forms) part all_taken h.outers scopes except (a_part h.stands at (in_first part [])) h.are_scopes denoted)

    many_at : (scopes : List Clauses) (p : Composed) → HasNode cells (number_at found) root (place scopes p) → HasTooManyExcepts scopes p → ⊥
    many_at scopes (composed.typed type params except) h (q, values, simple, are, many) =
        let at = type_cell h.denotes in
        let t = type_at h.node (cell.typed type params at.0) (h.outers, h.stands) at.1 in
        let form_same = same_taken scopes type params except h at.0 at.1 at.2 q simple in
        let same : values ≡ t.taken.values =
        same_Some values t.taken.values (sym are ∙ ap values_of form_same ∙ t.taken.has_values.are (taken_of cells forms)) in
        let counted = ap length same in
        let allowed = t.taken.allowed in
        absurd (omega arith)
    many_at scopes p h is = absurd is

    none_many : Has whole HasTooManyExcepts → ⊥
    none_many h = many_at h.scopes h.pattern (node_of denotes h.occurs) h.is

    unsupported_at : (scopes : List Clauses) (p : Composed) → HasNode cells (number_at found) root (place scopes p) → IsUnsupported scopes p →
        ⊥
    unsupported_at scopes (composed.typed type params except) h (q, simple, inl none) =
        let at = type_cell h.denotes in
        let t = type_at h.node (cell.typed type params at.0) (h.outers, h.stands) at.1 in
        let form_same = same_taken scopes type params except h at.0 at.1 at.2 q simple in
        let same : None ≡ Some t.taken.values = sym none ∙ ap values_of form_same ∙ t.taken.has_values.are (taken_of cells forms) in
        let never : ⊥ = cc in
        never
    unsupported_at scopes (composed.typed type params except) h (q, simple, inr (values, are, foreign)) =
        let at = type_cell h.denotes in
        let t = type_at h.node (cell.typed type params at.0) (h.outers, h.stands) at.1 in
        let form_same = same_taken scopes type params except h at.0 at.1 at.2 q simple in
        let same : values ≡ t.taken.values =
        same_Some values t.taken.values (sym are ∙ ap values_of form_same ∙ t.taken.has_values.are (taken_of cells forms)) in
        let P : List Value → Type 0 = λ vs. Contains vs foreign.v in
        none_foreign t.taken.takes foreign.v (subst P same foreign.among) foreign.not_own foreign.not_string foreign.not_token
    unsupported_at scopes p h is = absurd is

    none_unsupported : Has whole IsUnsupported → ⊥
    none_unsupported h = unsupported_at h.scopes h.pattern (node_of denotes h.occurs) h.is

    -- a schema with its types, within the limits, isn't broken
    pub never_broken : AreWithinLimits cells (taken_of cells forms) forms root found.elements.items → (why : Cause) →
        WholeIsBroken whole why → ⊥
    never_broken limited cause.NoDefinition h =
        none_undefined cells root found has.formed.sorted.formed has.formed.sorted.resolved (number_at found) whole denotes h
    never_broken limited cause.NoStart h =
        none_without_start cells root found has.formed.sorted.formed has.formed.sorted.resolved (number_at found) whole denotes h
    never_broken limited cause.CombineClash h =
        none_clashes cells root found has.formed.sorted.formed has.formed.sorted.resolved (number_at found) whole denotes h
    never_broken limited cause.RefLoop h = none_leads_back cells root found has.formed.sorted.formed has.formed.sorted.resolved order
        has.formed.sorted.ordered (number_at found) whole denotes h
    never_broken limited cause.BadExcept h = none_excepts cells root has.formed.sorted.good (number_at found) whole denotes h
    never_broken limited cause.XmlnsName h = none_declares cells root has.formed.sorted.good (number_at found) whole denotes h
    never_broken limited cause.UnknownType h = none_refused type_fault.UnknownType h
    never_broken limited cause.UnknownParam h = none_refused type_fault.UnknownParam h
    never_broken limited cause.BadParam h = none_refused type_fault.BadParam h
    never_broken limited cause.BadValue h = none_bad h
    never_broken limited cause.TooManyExcepts h = none_many h
    never_broken limited cause.UnsupportedExcept h = none_unsupported h
    never_broken limited cause.TooLarge h =
        never_too_large cells root found order forms has.formed (taken_of cells forms) all_taken whole denotes limited h
    never_broken limited why h = absurd h

-- ---- what refuses the schema

-- refused whatever numbers its elements have, it is refused with some
pub so_refused : (cells : List Cell) (root : ℕ) (refusal : SchemaFault) → IsRefusal cells root refusal →
    GivesGrammar cells root (Err refusal)
so_refused cells root (fault.Unreadable why) h = record { number = λ i. i; broken = h (λ i. i) }
so_refused cells root fault.NoMemory h = tt
so_refused cells root fault.Failed h = h
so_refused cells root (fault.Absent a) h = h
so_refused cells root (fault.NotUtf8 a at) h = h
so_refused cells root (fault.BadUri a) h = h

pub no_forms : (cells : List Cell) (root : ℕ) (found : Resolved) (order : List ℕ) (refusal : SchemaFault) →
    MakesForms cells found order (Err refusal) → GivesGrammar cells root (Err refusal)
no_forms cells root found order fault.NoMemory h = tt
no_forms cells root found order fault.Failed h = absurd h
no_forms cells root found order (fault.Unreadable why) h = absurd h
no_forms cells root found order (fault.Absent a) h = absurd h
no_forms cells root found order (fault.NotUtf8 a at) h = absurd h
no_forms cells root found order (fault.BadUri a) h = absurd h

pub no_types : (cells : List Cell) (root : ℕ) (found : Resolved) (order : List ℕ) (forms : Forms) → HasForms cells root found order forms →
    (refusal : SchemaFault) → MakesTypes cells order forms (Err refusal) → GivesGrammar cells root (Err refusal)
no_types cells root found order forms has (fault.Unreadable why) h = record {
  number = number_at found;
  broken = λ whole denotes. refused_is_broken cells root found has.sorted.resolved order has.sorted.ordered forms has.forms_are whole
      denotes why h;
}
no_types cells root found order forms has fault.NoMemory h = tt
no_types cells root found order forms has fault.Failed h = absurd h
no_types cells root found order forms has (fault.Absent a) h = absurd h
no_types cells root found order forms has (fault.NotUtf8 a at) h = absurd h
no_types cells root found order forms has (fault.BadUri a) h = absurd h

pub not_limited : (cells : List Cell) (root : ℕ) (found : Resolved) (order : List ℕ) (forms : Forms) (types : List (Option NodeType)) →
    HasTypes cells root found order forms types → (refusal : SchemaFault) →
    IsWithinLimits cells forms root found.elements.items (Err refusal) → GivesGrammar cells root (Err refusal)
not_limited cells root found order forms types has (fault.Unreadable cause.TooLarge) h = record {
  number = number_at found;
  broken = λ whole denotes. too_large cells root found order forms has.formed (taken_of cells forms)
      (all_taken cells root found order forms types has) whole denotes (h (taken_of cells forms));
}
not_limited cells root found order forms types has (fault.Unreadable why) h = absurd h
not_limited cells root found order forms types has fault.NoMemory h = absurd h
not_limited cells root found order forms types has fault.Failed h = absurd h
not_limited cells root found order forms types has (fault.Absent a) h = absurd h
not_limited cells root found order forms types has (fault.NotUtf8 a at) h = absurd h
not_limited cells root found order forms types has (fault.BadUri a) h = absurd h

-- ---- what is built

same_count : {cells : List Cell} {types : List (Option NodeType)} {forms : Forms} {elements : List ℕ} {definitions : List Definition} →
    AreDefinitions cells types forms elements definitions → length definitions ≡ length elements
same_count no_definitions = refl
same_count (next_definition is more) = ap (λ n. suc n) (same_count more)

module _ (cells : List Cell) (root : ℕ) (found : Resolved) (order : List ℕ) (forms : Forms) (types : List (Option NodeType))
    (measured : IsMeasured cells root found order forms types) where
  few : length found.elements.items < 2 ^ 32
  few = few_elements cells (taken_of cells forms) forms root found.elements.items (measured.limited (taken_of cells forms))

  abbrev have : HaveTypes cells types forms.shapes (taken_of cells forms) (length found.elements.items)
  have =
      have_types cells found order forms measured.typed.formed.forms_are types measured.typed.types_are measured.typed.formed.sorted.texts

  -- all is there of which patterns are built
  pub built_of : IsReady cells types forms.shapes
  built_of =
      is_ready cells found order forms measured.typed.formed.forms_are types measured.typed.types_are measured.typed.formed.sorted.texts few

  -- what is built is the grammar of the schema
  grammar_is : (grammar : Grammar) → IsBuilt cells types forms root found.elements.items grammar → IsGrammarOf cells root grammar
  grammar_is grammar built =
      let count : length (definitions_of grammar) ≡ length found.elements.items = same_count built.definitions_are in
      let start_is = spelled_typed cells types forms.shapes (taken_of cells forms) (length found.elements.items) have built.start_is in
      let P : ℕ → Type 0 = λ n. IsSoundPattern n (pattern_of grammar.start) in
      let Q : ℕ → Type 0 = λ n. AllByRecursion (IsSoundDefinition n) (definitions_of grammar) in
      record {
        number = number_at found;
        simplified = λ whole denotes. record {
          unbroken = never_broken cells root found order forms types measured.typed whole denotes (measured.limited (taken_of cells forms));
          start_form = form_of cells (taken_of cells forms) forms root;
          definition_forms = map (definition_form cells (taken_of cells forms) forms) found.elements.items;
          form = is_form cells root found order forms measured.typed.formed (taken_of cells forms)
              (all_taken cells root found order forms types measured.typed) whole denotes;
          start_is = start_is.typed;
          definitions_are =
              definitions_typed cells types forms (taken_of cells forms) (length found.elements.items) have built.definitions_are;
        };
        sound = record {
          few = let below = few in omega arith;
          start_is = subst P (sym count) start_is.sound;
          definitions_are = subst Q (sym count)
              (definitions_sound cells types forms (taken_of cells forms) (length found.elements.items) have built.definitions_are);
        };
      }

  pub gives_built : (result : Result Grammar SchemaFault) → Builds cells types forms root found.elements.items result →
      GivesGrammar cells root result
  gives_built (Ok grammar) built = grammar_is grammar built
  gives_built (Err fault.NoMemory) built = tt
  gives_built (Err fault.Failed) built = built
  gives_built (Err (fault.Absent a)) built = built
  gives_built (Err (fault.NotUtf8 a at)) built = built
  gives_built (Err (fault.BadUri a)) built = built
  gives_built (Err (fault.Unreadable why)) built = absurd built
