-- Each simple form has its types, where the schema isn't broken for one of them.
use Rattle.std.proofs.Common.{◌≡◌, refl, sym, ◌∙◌, subst, ℕ, Bool, true, false, cond, inl, inr, List, [], ◌∷◌, Option, Some, None, Result, Ok, Err, Contains}
use Rattle.std.specs.List.{AllByRecursion, list_all}
use Rattle.rng_types.specs.declared.datatype.Datatype.{Datatype}
use Rattle.rng_types.specs.declared.datatype.Except.{Except}
use Rattle.rng_types.specs.declared.datatype.Except.TheVariants.{Own, BuiltinString, BuiltinToken}
use Rattle.rng_types.specs.declared.datatype.Param.{Param as TypeParam}
use Rattle.rng_types.specs.declared.fault.TypeFault.{TypeFault}
use Rattle.rng_types.specs.declared.fault.TypeFault.TheVariants as fault
use Rattle.rng_types.specs.Naming.{type_of_found, type_with, is_taken, is_literal}
use Rattle.rng_types.specs.Table.{TypeRow, type_named}
use Rattle.rnc_parse.specs.declared.surface.Combine.{Combine}
use Rattle.rnc_parse.specs.declared.surface.Combine.TheVariants as combine
use Rattle.rnc_parse.specs.declared.surface.Defined.{Defined}
use Rattle.rnc_parse.specs.declared.surface.Param.{Param}
use Rattle.rnc_parse.specs.declared.surface.TypeName.{TypeName}
use Rattle.rnc_parse.specs.Written.{joined}
use Rattle.rng_core.specs.Names.{Class}
use Rattle.rng_core.specs.Patterns.{Pattern}
use Rattle.rng_core.specs.Patterns as pattern
use Rattle.rng_simplify.specs.Broken.{Has, HasRefusedType, IsForeign, IsUnsupported}
use Rattle.rng_simplify.specs.Composed.{Composed, Clauses, defining, combines}
use Rattle.rng_simplify.specs.Composed as composed
use Rattle.rng_simplify.specs.Datatypes.{datatype_of, params_of, builtin_string, builtin_token, AreExcepts, no_except, own_value, own_value_beside, string_value, token_value, Typed, typed_not_allowed, typed_empty, typed_text, typed_value, typed_type, typed_list, typed_attribute, typed_ref, typed_one_or_more, typed_choice, typed_group, typed_interleave}
use Rattle.rng_simplify.specs.Forms.{Form, Value, list_of, attribute_of, one_or_more_of, choice_of, group_of, interleave_of, combine_of, combined_by, values_of}
use Rattle.rng_simplify.specs.Forms as form
use Rattle.rng_simplify.specs.Places.{place, Occurs, further_in, a_part, a_definition}
use Rattle.rng_simplify.specs.Simple.{Simple, Defines, AreSimple, simple_element, simple_attribute, simple_list, simple_empty, simple_text, simple_not_allowed, simple_value, simple_type, simple_one_or_more, simple_choice, simple_group, simple_interleave, simple_grammar, simple_ref, simple_parent_ref, combined_in_order, none_simple, next_simple}
use Rattle.rng_simplify.proofs.Decisions.{accepts_decided, type_decided}
use Rattle.rng_simplify.proofs.Nodes.{in_first, in_more}
use Rattle.rng_simplify.proofs.Returning.{defining_among, outer_occurs}

-- a form has types
abbrev pub HasTypes : Form → Type 0
HasTypes q = (r : Pattern) × Typed q r

-- ---- forms of forms

list_typed : (q : Form) → HasTypes q → HasTypes (list_of q)
list_typed form.not_allowed h = h
list_typed q h = (pattern.listed h.0, typed_list h.1)

attribute_typed : (class : Class) (q : Form) → HasTypes q → HasTypes (attribute_of class q)
attribute_typed class form.not_allowed h = h
attribute_typed class q h = (pattern.attribute class h.0, typed_attribute h.1)

repeated_typed : (q : Form) → HasTypes q → HasTypes (one_or_more_of q)
repeated_typed form.not_allowed h = h
repeated_typed form.empty h = h
repeated_typed q h = (pattern.one_or_more h.0, typed_one_or_more h.1)

choice_typed : (q r : Form) → HasTypes q → HasTypes r → HasTypes (choice_of q r)
choice_typed form.not_allowed r h k = k
choice_typed q form.not_allowed h k = h
choice_typed form.empty form.empty h k = h
choice_typed q form.empty h k = (pattern.choice pattern.empty h.0, typed_choice typed_empty h.1)
choice_typed q r h k = (pattern.choice h.0 k.0, typed_choice h.1 k.1)

group_typed : (q r : Form) → HasTypes q → HasTypes r → HasTypes (group_of q r)
group_typed form.not_allowed r h k = h
group_typed q form.not_allowed h k = k
group_typed form.empty r h k = k
group_typed q form.empty h k = h
group_typed q r h k = (pattern.group h.0 k.0, typed_group h.1 k.1)

interleave_typed : (q r : Form) → HasTypes q → HasTypes r → HasTypes (interleave_of q r)
interleave_typed form.not_allowed r h k = h
interleave_typed q form.not_allowed h k = k
interleave_typed form.empty r h k = k
interleave_typed q form.empty h k = h
interleave_typed q r h k = (pattern.interleave h.0 k.0, typed_interleave h.1 k.1)

combined_typed : (by : Combine) (q r : Form) → HasTypes q → HasTypes r → HasTypes (combined_by by q r)
combined_typed combine.Alone q r h k = choice_typed q r h k
combined_typed combine.Choice q r h k = choice_typed q r h k
combined_typed combine.Interleave q r h k = interleave_typed q r h k

joined_typed : (by : Combine) (first : Form) (more : List Form) → HasTypes first → AllByRecursion HasTypes more →
    HasTypes (joined (combined_by by) first more)
joined_typed by first [] h all = h
joined_typed by first (next ∷ more) h all = joined_typed by (combined_by by first next) more (combined_typed by first next h all.0) all.1

-- ---- types by their names

-- a name and params stand for a type, or are refused for one of three causes
data Named : Result Datatype TypeFault → Type 0 where
  a_type : (datatype : Datatype) → Named (Ok datatype)
  no_type : Named (Err fault.UnknownType)
  no_param : Named (Err fault.UnknownParam)
  no_literal : Named (Err fault.BadParam)

named_if : (taken literal : Bool) (datatype : Datatype) →
    Named (cond taken (cond literal (Ok datatype) (Err fault.BadParam)) (Err fault.UnknownParam))
named_if true true datatype = a_type datatype
named_if true false datatype = no_literal
named_if false literal datatype = no_param

found_named : (row : Option TypeRow) (params : List TypeParam) → Named (type_of_found row params)
found_named None params = no_type
found_named (Some row) params = named_if (list_all (is_taken row) params) (list_all (is_literal row) params) (type_with row params)

is_named : (type : TypeName) (params : List Param) → Named (datatype_of type params)
is_named type params = found_named (type_named type.library type.name) (params_of params)

-- ---- what is taken from a type

-- these values can be taken from the type
abbrev CanBeTaken : TypeName → Datatype → List Value → Type 0
CanBeTaken type datatype values = (excepts : List Except) × AreExcepts type datatype values excepts

excepts_there : (type : TypeName) (datatype : Datatype) (values : List Value) → (IsForeign type values → ⊥) →
    CanBeTaken type datatype values
excepts_there type datatype [] none = ([], no_except)
excepts_there type datatype (v ∷ values) none = with_more (excepts_there type datatype values (λ h. none (record {
  v = h.v;
  among = in_more v values h.v h.among;
  not_own = h.not_own;
  not_string = h.not_string;
  not_token = h.not_token;
})))
  where
    own : v.type ≡ type → CanBeTaken type datatype values → CanBeTaken type datatype (v ∷ values)
    own is rest =
        let P : TypeName → Type 0 = λ t. CanBeTaken type datatype (record { type = t; text = v.text } ∷ values) in
        subst P (sym is) (elim (accepts_decided datatype v.text) [
          | inl accepted ↦ (Own v.text ∷ rest.0, own_value accepted rest.1)
          | inr refused ↦ (rest.0, own_value_beside refused rest.1)
        ])

    with_more : CanBeTaken type datatype values → CanBeTaken type datatype (v ∷ values)
    with_more rest =
        let P : TypeName → Type 0 = λ t. CanBeTaken type datatype (record { type = t; text = v.text } ∷ values) in
        elim (type_decided v.type type) [
          | inl is ↦ own is rest
          | inr not_own ↦ elim (type_decided v.type builtin_string) [
            | inl is ↦ subst P (sym is) (BuiltinString v.text ∷ rest.0, string_value (λ same. not_own (is ∙ sym same)) rest.1)
            | inr not_string ↦ elim (type_decided v.type builtin_token) [
              | inl is ↦ subst P (sym is) (BuiltinToken v.text ∷ rest.0, token_value (λ same. not_own (is ∙ sym same)) rest.1)
              | inr not_token ↦ absurd (none (record {
                v = v;
                among = in_first v values;
                not_own = not_own;
                not_string = not_string;
                not_token = not_token;
              }))
            ]
          ]
        ]

-- ---- types of what stands in the schema

-- no type is refused, and what is taken from one can be
pub record AreTypable (whole : Composed) : Type 0 where
  pub no_unknown_type : Has whole (HasRefusedType fault.UnknownType) → ⊥
  pub no_unknown_param : Has whole (HasRefusedType fault.UnknownParam) → ⊥
  pub no_bad_param : Has whole (HasRefusedType fault.BadParam) → ⊥
  pub all_supported : Has whole IsUnsupported → ⊥

module _ (whole : Composed) (typable : AreTypable whole) where
  -- a node with a type
  type_there : (scopes : List Clauses) (p : Composed) (named : Result Datatype TypeFault) → Named named →
      Occurs whole (place scopes p) → ((why : TypeFault) → named ≡ Err why → HasRefusedType why scopes p) →
      (datatype : Datatype) × (named ≡ Ok datatype)
  type_there scopes p _ (a_type datatype) occurs refused = (datatype, refl)
  type_there scopes p _ no_type occurs refused = absurd (typable.no_unknown_type (record {
    scopes = scopes;
    pattern = p;
    occurs = occurs;
    is = refused fault.UnknownType refl;
  }))
  type_there scopes p _ no_param occurs refused = absurd (typable.no_unknown_param (record {
    scopes = scopes;
    pattern = p;
    occurs = occurs;
    is = refused fault.UnknownParam refl;
  }))
  type_there scopes p _ no_literal occurs refused = absurd (typable.no_bad_param (record {
    scopes = scopes;
    pattern = p;
    occurs = occurs;
    is = refused fault.BadParam refl;
  }))

  value_typed : (scopes : List Clauses) (type : TypeName) (text : List ℕ) → Occurs whole (place scopes (composed.value type text)) →
      HasTypes (form.value (record { type = type; text = text }))
  value_typed scopes type text occurs =
      let t =
      type_there scopes (composed.value type text) (datatype_of type []) (is_named type []) occurs (λ why is. is) in
      (pattern.literal t.0 text, typed_value t.1)

  data_typed : (scopes : List Clauses) (type : TypeName) (params : List Param) (except : Composed) (q : Form) (values : List Value) →
      Occurs whole (place scopes (composed.typed type params except)) → Simple scopes except q → values_of q ≡ Some values →
      HasTypes (form.typed type params values)
  data_typed scopes type params except q values occurs simple are =
      let t =
      type_there scopes (composed.typed type params except) (datatype_of type params) (is_named type params) occurs (λ why is. is) in
      let taken = excepts_there type t.0 values (λ foreign. typable.all_supported (record {
        scopes = scopes;
        pattern = composed.typed type params except;
        occurs = occurs;
        is = (q, simple, inr (values, are, foreign));
      })) in
      (pattern.typed t.0 taken.0, typed_type t.1 taken.1)

  mutual
    -- the types of a simple form
    pub simple_typed : {scopes : List Clauses} {p : Composed} {q : Form} → Simple scopes p q → Occurs whole (place scopes p) → HasTypes q
    simple_typed (simple_element {number = number}) occurs = (pattern.ref number, typed_ref)
    simple_typed (simple_attribute {class = class} {p = p} {q = q} part) occurs =
        attribute_typed class q (simple_typed part (further_in occurs (a_part (in_first p []))))
    simple_typed (simple_list {p = p} {q = q} part) occurs = list_typed q (simple_typed part (further_in occurs (a_part (in_first p []))))
    simple_typed simple_empty occurs = (pattern.empty, typed_empty)
    simple_typed simple_text occurs = (pattern.any_text, typed_text)
    simple_typed simple_not_allowed occurs = (pattern.not_allowed, typed_not_allowed)
    simple_typed (simple_value {scopes = scopes} {type = type} {text = text}) occurs = value_typed scopes type text occurs
    simple_typed (simple_type {scopes = scopes} {type = type} {params = params} {except = except} {q = q} {values = values} part are)
        occurs =
        data_typed scopes type params except q values occurs part are
    simple_typed (simple_one_or_more {p = p} {q = q} part) occurs =
        repeated_typed q (simple_typed part (further_in occurs (a_part (in_first p []))))
    simple_typed (simple_choice {p1 = p1} {p2 = p2} {q1 = q1} {q2 = q2} one other) occurs =
        choice_typed q1 q2 (simple_typed one (further_in occurs (a_part (in_first p1 (p2 ∷ [])))))
        (simple_typed other (further_in occurs (a_part (in_more p1 (p2 ∷ []) p2 (in_first p2 [])))))
    simple_typed (simple_group {p1 = p1} {p2 = p2} {q1 = q1} {q2 = q2} one other) occurs =
        group_typed q1 q2 (simple_typed one (further_in occurs (a_part (in_first p1 (p2 ∷ [])))))
        (simple_typed other (further_in occurs (a_part (in_more p1 (p2 ∷ []) p2 (in_first p2 [])))))
    simple_typed (simple_interleave {p1 = p1} {p2 = p2} {q1 = q1} {q2 = q2} one other) occurs =
        interleave_typed q1 q2 (simple_typed one (further_in occurs (a_part (in_first p1 (p2 ∷ [])))))
        (simple_typed other (further_in occurs (a_part (in_more p1 (p2 ∷ []) p2 (in_first p2 [])))))
    simple_typed (simple_grammar start) occurs = defines_typed start occurs
    simple_typed (simple_ref named) occurs = defines_typed named (outer_occurs occurs)
    simple_typed (simple_parent_ref named) occurs = defines_typed named (outer_occurs (outer_occurs occurs))

    defines_typed : {scope : Clauses} {outer : List Clauses} {name : Defined} {q : Form} → Defines scope outer name q →
        Occurs whole (place outer (composed.grammar scope)) → HasTypes q
    defines_typed (combined_in_order {scope = scope} {outer = outer} {name = name} {first = first} {more = more} are is) occurs =
        let all : HasTypes first × AllByRecursion HasTypes more =
        all_typed are (λ p among. further_in occurs (a_definition (defining_among name scope p among))) in
        subst HasTypes (sym is) (joined_typed (combine_of (combines (defining name scope))) first more all.0 all.1)

    all_typed : {scopes : List Clauses} {ps : List Composed} {qs : List Form} → AreSimple scopes ps qs →
        ((p : Composed) → Contains ps p → Occurs whole (place scopes p)) → AllByRecursion HasTypes qs
    all_typed none_simple each = tt
    all_typed (next_simple {p = p} {ps = ps} one more) each =
        (simple_typed one (each p (in_first p ps)), all_typed more (λ r among. each r (in_more p ps r among)))
