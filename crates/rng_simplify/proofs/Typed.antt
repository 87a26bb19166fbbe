-- What spells out a shape is its form with types, and sound.
use Rattle.std.proofs.Common.{◌≡◌, refl, sym, ap, ◌∙◌, subst, ℕ, zero, suc, ◌+◌, ◌^◌, ◌<◌, ◌≤◌, inl, inr, ◌⊎◌, List, [], ◌∷◌, length, map, set, slice_get, Option, Some, None, Ok, arith}
use Rattle.std.specs.Prelude.{slice_index, IsTrue}
use Rattle.std.specs.List.{AllByRecursion, fold}
use Rattle.std.proofs.lemmas.Bool.{cases_lt}
use Rattle.std.proofs.lemmas.List.{length-set, get_or-set_same, get_or-set_other}
use Rattle.std.proofs.lemmas.Option.{same_Some, slice_get_within, slice_get-get_or, get_or_from_slice_get}
use Rattle.rnc_parse.specs.declared.surface.TypeName.{TypeName}
use Rattle.rnc_parse.specs.declared.surface.Param.{Param}
use Rattle.rng_types.specs.declared.datatype.Datatype.{Datatype}
use Rattle.rng_types.specs.WellMade.{is_well_made}
use Rattle.rng_types.proofs.Made.{named_are_well_made}
use Rattle.rng_core.specs.Names.{Class}
use Rattle.rng_core.specs.Patterns.{Pattern, Definition}
use Rattle.rng_core.specs.Patterns as pattern
use Rattle.rng_core.specs.Soundness.{IsSoundClass, IsSoundExcept, IsSoundPattern, sound_not_allowed, sound_empty, sound_text, sound_data, sound_value, sound_list, sound_attribute, sound_ref, sound_one_or_more, sound_choice, sound_group, sound_interleave, IsSoundDefinition}
use Rattle.rng_simplify.specs.declared.form.Forms.{Forms}
use Rattle.rng_simplify.specs.declared.node.Sign.{Sign}
use Rattle.rng_simplify.specs.declared.node.Sign.TheVariants as sign
use Rattle.rng_simplify.specs.declared.resolve.Resolved.{Resolved}
use Rattle.rng_simplify.specs.declared.shape.Shape.{Shape}
use Rattle.rng_simplify.specs.declared.shape.Shape.TheVariants as shape
use Rattle.rng_simplify.specs.declared.types.NodeType.{NodeType}
use Rattle.rng_simplify.specs.Cells.{Cell}
use Rattle.rng_simplify.specs.Cells as cell
use Rattle.rng_simplify.specs.Datatypes.{datatype_of, params_of, AreExcepts, Typed, typed_not_allowed, typed_empty, typed_text, typed_value, typed_type, typed_list, typed_attribute, typed_ref, typed_one_or_more, typed_choice, typed_group, typed_interleave, AreTyped, none_typed, next_typed}
use Rattle.rng_simplify.specs.CellMeanings.{IsCell}
use Rattle.rng_simplify.specs.Forms.{Form, FormDefinition, Value, values_of, nodes}
use Rattle.rng_simplify.specs.Forms as form
use Rattle.rng_simplify.specs.NodeForms.{form_of, IsBefore, AreAlike, AreFormed, AreForms, AreTaken}
use Rattle.rng_simplify.specs.Limits.{content_in, content_of, class_of_element, AreWithinLimits}
use Rattle.rng_simplify.specs.Shown.{joined_form, value_in, type_in, params_in, class_in, form_by, form_at, AreOfSchema}
use Rattle.rng_simplify.specs.SpelledShapes.{joined_pattern, IsShape, IsLiteral, IsTyped, IsAttribute, Spells, spells_not_allowed, spells_empty, spells_text, spells_value, spells_type, spells_ref, spells_list, spells_attribute, spells_one_or_more, spells_joined, IsDefinition, AreDefinitions, no_definitions, next_definition, HasKnownType, IsReady}
use Rattle.rng_simplify.specs.CellTexts.{AreTexts}
use Rattle.rng_simplify.specs.NodeTypes.{IsTypeOfValue, HasValues, known_at, AreTypesBefore}
use Rattle.rng_simplify.proofs.Forming.{none_before, before_later}
use Rattle.rng_simplify.proofs.Showing.{shows_by_parts}
use Rattle.rng_simplify.proofs.Spelling.{some_nodes}
use Rattle.rng_simplify.proofs.Simplifying.{taken_of, part_in, values_or_none}

-- the type of a name and params is well made
made_by : (type : TypeName) (params : List Param) (datatype : Datatype) → datatype_of type params ≡ Ok datatype → IsTrue (is_well_made datatype)
made_by type params datatype named = named_are_well_made type.library type.name (params_of params) datatype named

-- these values are taken from the type, so
pub record IsTakenSo (type : TypeName) (params : List Param) (values : List Value) (known : Option NodeType) : Type 0 where
  pub node_type : NodeType
  pub there : known ≡ Some node_type
  pub named : datatype_of type params ≡ Ok node_type.datatype
  pub takes : AreExcepts type node_type.datatype values node_type.excepts
  pub few : length node_type.excepts ≤ 128
  pub sound : AllByRecursion (IsSoundExcept node_type.datatype) node_type.excepts

-- shapes whose types are known
pub record HaveTypes (cells : List Cell) (types : List (Option NodeType)) (shapes : List Shape) (taken : ℕ → List Value) (count : ℕ) : Type 0 where
  pub of_schema : AreOfSchema cells count shapes
  pub texts : AreTexts cells
  pub value_has : (n i : ℕ) (type : TypeName) (text : List ℕ) → slice_get shapes n ≡ Some (shape.Value i) → IsCell cells i (cell.value type text) → IsTypeOfValue type text (known_at types i)
  pub type_has : (n i : ℕ) (type : TypeName) (params : List Param) (part : ℕ) → slice_get shapes n ≡ Some (shape.Typed i) → IsCell cells i (cell.typed type params part) → IsTakenSo type params (taken i) (known_at types i)

module _ (cells : List Cell) (types : List (Option NodeType)) (shapes : List Shape) (taken : ℕ → List Value) (count : ℕ) (have : HaveTypes cells types shapes taken count) where
  -- a form with its types, and sound
  pub record IsTypedSound (p : Form) (q : Pattern) : Type 0 where
    pub typed : Typed p q
    pub sound : IsSoundPattern count q

  so_typed : (p r : Form) (q s : Pattern) → p ≡ r → q ≡ s → IsTypedSound r s → IsTypedSound p q
  so_typed p r q s is also h =
      let P : Form → Type 0 = λ f. IsTypedSound f q in
      let Q : Pattern → Type 0 = λ g. IsTypedSound r g in
      subst P (sym is) (subst Q (sym also) h)

  form_is : (n : ℕ) (s : Shape) → IsShape shapes n s → form_at cells taken shapes n ≡ form_by cells taken (form_at cells taken shapes) s
  form_is n s is = shows_by_parts cells taken shapes n s is.there is.behind

  literal_typed : (n i : ℕ) (q : Pattern) → IsShape shapes n (shape.Value i) → IsLiteral cells types i q → IsTypedSound (form_at cells taken shapes n) q
  literal_typed n i q is literal =
      let known = have.value_has n i literal.type literal.text is.there literal.is_cell in
      let same : known.node_type ≡ literal.node_type = same_Some _ _ (sym known.there ∙ literal.known) in
      let also : q ≡ pattern.literal known.node_type.datatype literal.text = literal.is ∙ ap (λ (t : NodeType). pattern.literal t.datatype literal.text) (sym same) in
      so_typed _ (form.value (record { type = literal.type; text = literal.text })) q (pattern.literal known.node_type.datatype literal.text)
      (form_is n (shape.Value i) is ∙ ap (λ o. form.value (value_in o)) literal.is_cell) also
      (record { typed = typed_value known.named; sound = sound_value (made_by literal.type [] known.node_type.datatype known.named) known.may_write.accepted known.may_write.of_chars })

  type_typed : (n i : ℕ) (q : Pattern) → IsShape shapes n (shape.Typed i) → IsTyped types i q → IsTypedSound (form_at cells taken shapes n) q
  type_typed n i q is of_type =
      let cell_is = have.of_schema.each_is n (shape.Typed i) is.there in
      let known = have.type_has n i cell_is.0 cell_is.1 cell_is.2 is.there cell_is.3 in
      let same : known.node_type ≡ of_type.node_type = same_Some _ _ (sym known.there ∙ of_type.known) in
      let also : q ≡ pattern.typed known.node_type.datatype known.node_type.excepts = of_type.is ∙ ap (λ (t : NodeType). pattern.typed t.datatype t.excepts) (sym same) in
      so_typed _ (form.typed cell_is.0 cell_is.1 (taken i)) q (pattern.typed known.node_type.datatype known.node_type.excepts)
      (form_is n (shape.Typed i) is ∙ ap (λ o. form.typed (type_in o) (params_in o) (taken i)) cell_is.3) also
      (record { typed = typed_type known.named known.takes; sound = sound_data (made_by cell_is.0 cell_is.1 known.node_type.datatype known.named) known.few known.sound })

  attribute_typed : (n i part : ℕ) (value q : Pattern) → IsShape shapes n (shape.Attribute i part) → IsTypedSound (form_at cells taken shapes part) value → IsAttribute cells i value q → IsTypedSound (form_at cells taken shapes n) q
  attribute_typed n i part value q is h of_class =
      so_typed _ (form.attribute of_class.class (form_at cells taken shapes part)) q (pattern.attribute of_class.class value)
      (form_is n (shape.Attribute i part) is ∙ ap (λ o. form.attribute (class_in o) (form_at cells taken shapes part)) of_class.is_cell) of_class.is
      (record { typed = typed_attribute h.typed; sound = sound_attribute (have.texts.each_is i (cell.attribute of_class.class of_class.part) of_class.is_cell) h.sound })

  joined_typed : (by : Sign) (p r : Form) (q s : Pattern) → IsTypedSound p q → IsTypedSound r s → IsTypedSound (joined_form by p r) (joined_pattern by q s)
  joined_typed sign.Choice p r q s one other = record { typed = typed_choice one.typed other.typed; sound = sound_choice one.sound other.sound }
  joined_typed sign.Group p r q s one other = record { typed = typed_group one.typed other.typed; sound = sound_group one.sound other.sound }
  joined_typed sign.Interleave p r q s one other = record { typed = typed_interleave one.typed other.typed; sound = sound_interleave one.sound other.sound }

  -- what spells out a shape
  pub spelled_typed : {n : ℕ} {q : Pattern} → Spells cells types shapes n q → IsTypedSound (form_at cells taken shapes n) q
  spelled_typed (spells_not_allowed is) = so_typed _ _ _ _ (form_is _ _ is) refl (record { typed = typed_not_allowed; sound = sound_not_allowed })
  spelled_typed (spells_empty is) = so_typed _ _ _ _ (form_is _ _ is) refl (record { typed = typed_empty; sound = sound_empty })
  spelled_typed (spells_text is) = so_typed _ _ _ _ (form_is _ _ is) refl (record { typed = typed_text; sound = sound_text })
  spelled_typed (spells_value is literal) = literal_typed _ _ _ is literal
  spelled_typed (spells_type is of_type) = type_typed _ _ _ is of_type
  spelled_typed (spells_ref {n = n} {number = number} is) = so_typed _ _ _ _ (form_is _ _ is) refl (record { typed = typed_ref; sound = sound_ref (have.of_schema.each_is n (shape.Ref number) is.there) })
  spelled_typed (spells_list is spells) =
      let h = spelled_typed spells in
      so_typed _ _ _ _ (form_is _ _ is) refl (record { typed = typed_list h.typed; sound = sound_list h.sound })
  spelled_typed (spells_attribute is spells of_class) = attribute_typed _ _ _ _ _ is (spelled_typed spells) of_class
  spelled_typed (spells_one_or_more is spells) =
      let h = spelled_typed spells in
      so_typed _ _ _ _ (form_is _ _ is) refl (record { typed = typed_one_or_more h.typed; sound = sound_one_or_more h.sound })
  spelled_typed (spells_joined by is one other) = so_typed _ _ _ _ (form_is _ _ is) refl (joined_typed by _ _ _ _ (spelled_typed one) (spelled_typed other))

-- ---- definitions

-- the form of an element's definition
abbrev pub definition_form : List Cell → (ℕ → List Value) → Forms → ℕ → FormDefinition
definition_form cells taken forms i = record { class = class_of_element (slice_get cells i); content = form_of cells taken forms (content_of cells i) }

module _ (cells : List Cell) (types : List (Option NodeType)) (forms : Forms) (taken : ℕ → List Value) (count : ℕ) (have : HaveTypes cells types forms.shapes taken count) where
  definition_typed : (i : ℕ) (d : Definition) → IsDefinition cells types forms i d → IsTypedSound cells types forms.shapes taken count have (form_of cells taken forms (content_of cells i)) d.content
  definition_typed i d is =
      let h = spelled_typed cells types forms.shapes taken count have is.content in
      let P : ℕ → Type 0 = λ k. IsTypedSound cells types forms.shapes taken count have (form_of cells taken forms k) d.content in
      subst P (sym (ap content_in is.is_cell)) h

  -- the definitions of elements are typed
  pub definitions_typed : {elements : List ℕ} {definitions : List Definition} → AreDefinitions cells types forms elements definitions → AreTyped (map (definition_form cells taken forms) elements) definitions
  definitions_typed no_definitions = none_typed
  definitions_typed (next_definition {i = i} {elements = elements} {definition = d} {definitions = ds} first more) =
      let h = definition_typed i d first in
      let class_is : d.class ≡ class_of_element (slice_get cells i) = first.class_is ∙ sym (ap class_of_element first.is_cell) in
      let P : Class → Type 0 = λ c. AreTyped (definition_form cells taken forms i ∷ map (definition_form cells taken forms) elements) (record { class = c; content = d.content } ∷ ds) in
      subst P (sym class_is) (next_typed h.typed (definitions_typed more))

  -- and sound
  pub definitions_sound : {elements : List ℕ} {definitions : List Definition} → AreDefinitions cells types forms elements definitions → AllByRecursion (IsSoundDefinition count) definitions
  definitions_sound no_definitions = tt
  definitions_sound (next_definition {i = i} {definition = d} first more) =
      let h = definition_typed i d first in
      let P : Class → Type 0 = λ c. IsSoundClass c in (
        record { class_is = subst P (sym first.class_is) (have.texts.each_is i (cell.element first.class first.part) first.is_cell); content_is = h.sound },
        definitions_sound more,
      )

-- ---- what the stages before give

equal_or_not : (a b : ℕ) → (a ≡ b) ⊎ (a ≡ b → ⊥)
equal_or_not a b = elim (cases_lt a b) [
  | inl less ↦ inr (λ e. omega arith)
  | inr least ↦ elim (cases_lt b a) [
    | inl more ↦ inr (λ e. omega arith)
    | inr most ↦ inl (omega arith)
  ]
]

is_it_there : (o : Option ℕ) (i : ℕ) → (o ≡ Some i) ⊎ (o ≡ Some i → ⊥)
is_it_there None i = inr (λ h. let never : ⊥ = cc in never)
is_it_there (Some j) i = elim (equal_or_not j i) [
  | inl same ↦ inl (ap (λ k. Some k) same)
  | inr other ↦ inr (λ h. other (same_Some j i h))
]

-- a node stands in front of the place, or not
before_or_not : (order : List ℕ) (end i : ℕ) → IsBefore order end i ⊎ (IsBefore order end i → ⊥)
before_or_not order zero i = inr (none_before order i)
before_or_not order (suc end) i =
    elim (before_or_not order end i) [
      | inl before ↦ inl (before_later order end (suc end) i (omega arith) before)
      | inr not_before ↦ elim (is_it_there (slice_get order end) i) [
        | inl there ↦ inl (record { place = end; before = omega arith; there = there })
        | inr other ↦ inr (λ h.
            let less = h.before in
            elim (cases_lt h.place end) [
              | inl earlier ↦ not_before (record { place = h.place; before = earlier; there = h.there })
              | inr later ↦
                  let here : h.place ≡ end = omega arith in
                  let P : ℕ → Type 0 = λ k. slice_get order k ≡ Some i in
                  other (subst P here h.there)
            ])
      ]
    ]

-- the cells with another one at a place
cells_but : List Cell → ℕ → List Cell
cells_but cells i = set cells i cell.not_allowed

others_same : (cells : List Cell) (i j : ℕ) (c : Cell) → (j ≡ i → ⊥) → IsCell cells j c → IsCell (cells_but cells i) j c
unfolding cells_but
others_same cells i j c other at =
    let within = slice_get_within cells j c at in
    let all = length-set cells i cell.not_allowed in
    slice_get-get_or (set cells i cell.not_allowed) j c (omega arith)
    ∙ ap (λ d. Some d) (get_or-set_other cells i j cell.not_allowed c other ∙ get_or_from_slice_get cells j c c at)

here_changed : (cells : List Cell) (i : ℕ) (c : Cell) → IsCell (cells_but cells i) i c → c ≡ cell.not_allowed
unfolding cells_but
here_changed cells i c at =
    let within = slice_get_within (set cells i cell.not_allowed) i c at in
    let all = length-set cells i cell.not_allowed in
    sym (get_or_from_slice_get (set cells i cell.not_allowed) i c c at) ∙ get_or-set_same cells i cell.not_allowed c (omega arith)

module _ (cells : List Cell) (found : Resolved) (order : List ℕ) (end : ℕ) (forms : Forms) (formed : AreFormed cells found order end forms) where
  alike_but : (i : ℕ) → (IsBefore order end i → ⊥) → AreAlike cells (cells_but cells i) order end
  alike_but i not_before = record {
    alike = λ j c h at. others_same cells i j c (λ same. let P : ℕ → Type 0 = IsBefore order end in not_before (subst P same h)) at;
  }

  -- the node of a value and of a type is one in front of the place
  pub value_before : (n i : ℕ) → slice_get forms.shapes n ≡ Some (shape.Value i) → IsBefore order end i
  value_before n i there = elim (before_or_not order end i) [
    | inl before ↦ before
    | inr not_before ↦
        let h = (formed.of_schema (cells_but cells i) (alike_but i not_before)).each_is n (shape.Value i) there in
        let changed : cell.value h.0 h.1 ≡ cell.not_allowed = here_changed cells i (cell.value h.0 h.1) h.2 in
        let never : ⊥ = cc in
        absurd never
  ]

  pub type_before : (n i : ℕ) → slice_get forms.shapes n ≡ Some (shape.Typed i) → IsBefore order end i
  type_before n i there = elim (before_or_not order end i) [
    | inl before ↦ before
    | inr not_before ↦
        let h = (formed.of_schema (cells_but cells i) (alike_but i not_before)).each_is n (shape.Typed i) there in
        let changed : cell.typed h.0 h.1 h.2 ≡ cell.not_allowed = here_changed cells i (cell.typed h.0 h.1 h.2) h.3 in
        let never : ⊥ = cc in
        absurd never
  ]

  pub shapes_of_schema : AreOfSchema cells (length found.elements.items) forms.shapes
  shapes_of_schema = formed.of_schema cells (record { alike = λ i c h at. at })

-- the values that a type's form has are what is taken from it
pub taken_values : (cells : List Cell) (forms : Forms) (i : ℕ) (type : TypeName) (params : List Param) (part : ℕ) (values : List Value) → IsCell cells i (cell.typed type params part) → HasValues cells forms.shapes (slice_index forms.of.items part) values → taken_of cells forms i ≡ values
unfolding taken_of
taken_values cells forms i type params part values at has =
    ap (λ o. values_or_none (values_of (form_of cells (λ k. []) forms (part_in o)))) at
    ∙ ap values_or_none (has.are (λ k. []))

-- what is taken from types in front of a place is known where they have their types
pub are_taken : (cells : List Cell) (order : List ℕ) (end : ℕ) (forms : Forms) (types : List (Option NodeType)) → AreTypesBefore cells order end forms types → AreTaken cells order end (taken_of cells forms) forms
are_taken cells order end forms types before = record {
  each_is = λ i type params part h at.
      let known = before.each_is i (cell.typed type params part) h at in
      known.taken.has_values.are (taken_of cells forms)
      ∙ ap (λ vs. Some vs) (sym (taken_values cells forms i type params part known.taken.values at known.taken.has_values));
}

module _ (cells : List Cell) (found : Resolved) (order : List ℕ) (forms : Forms) (all_formed : AreForms cells found order forms) (types : List (Option NodeType)) (before : AreTypesBefore cells order (length order) forms types) (texts : AreTexts cells) where
  -- all that patterns are built of have their types
  pub have_types : HaveTypes cells types forms.shapes (taken_of cells forms) (length found.elements.items)
  have_types = record {
    of_schema = shapes_of_schema cells found order (length order) forms all_formed.formed;
    texts = texts;
    value_has = λ n i type text there at.
        before.each_is i (cell.value type text) (value_before cells found order (length order) forms all_formed.formed n i there) at;
    type_has = λ n i type params part there at.
        let known = before.each_is i (cell.typed type params part) (type_before cells found order (length order) forms all_formed.formed n i there) at in
        let P : List Value → Type 0 = λ values. AreExcepts type known.node_type.datatype values known.node_type.excepts in
        record {
          node_type = known.node_type;
          there = known.there;
          named = known.named;
          takes = subst P (sym (taken_values cells forms i type params part known.taken.values at known.taken.has_values)) known.taken.takes;
          few = known.taken.few;
          sound = known.taken.sound;
        };
  }

  known_type : (n : ℕ) (s : Shape) → slice_get forms.shapes n ≡ Some s → HasKnownType types s
  known_type n shape.NotAllowed there = tt
  known_type n shape.Empty there = tt
  known_type n shape.Text there = tt
  known_type n (shape.Value i) there =
      let cell_is = have_types.of_schema.each_is n (shape.Value i) there in
      let known = have_types.value_has n i cell_is.0 cell_is.1 there cell_is.2 in
      (known.node_type, known.there)
  known_type n (shape.Typed i) there =
      let cell_is = have_types.of_schema.each_is n (shape.Typed i) there in
      let known = have_types.type_has n i cell_is.0 cell_is.1 cell_is.2 there cell_is.3 in
      (known.node_type, known.there)
  known_type n (shape.Ref number) there = tt
  known_type n (shape.List part) there = tt
  known_type n (shape.Attribute i part) there = tt
  known_type n (shape.OneOrMore part) there = tt
  known_type n (shape.Joined by first second) there = tt

  -- patterns can be built
  pub is_ready : length found.elements.items < 2 ^ 32 → IsReady cells types forms.shapes
  is_ready few = record {
    count = length found.elements.items;
    few = few;
    of_schema = have_types.of_schema;
    all_types = before.all;
    each_known = known_type;
  }

-- ---- few elements

each_counts : (f : ℕ → ℕ) → ((i : ℕ) → 0 < f i) → (elements : List ℕ) (start : ℕ) → start + length elements ≤ fold (λ a i. a + f i) start elements
each_counts f some [] start = omega arith
each_counts f some (i ∷ elements) start =
    let rest = each_counts f some elements (start + f i) in
    let one = some i in
    omega arith

-- within the limits there are fewer than 2^32
pub few_elements : (cells : List Cell) (taken : ℕ → List Value) (forms : Forms) (root : ℕ) (elements : List ℕ) → AreWithinLimits cells taken forms root elements → length elements < 2 ^ 32
few_elements cells taken forms root elements within =
    let counted = each_counts (λ i. nodes (form_of cells taken forms (content_of cells i))) (λ i. some_nodes (form_of cells taken forms (content_of cells i))) elements 0 in
    let few = within.few in
    omega arith
