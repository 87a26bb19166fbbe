-- A schema in one piece has a grammar, or it is broken.
use Rattle.std.proofs.Common.{◌≡◌, refl, ap, subst, ℕ, zero, suc, ◌<◌, ◌≤◌, inl, inr, ◌⊎◌, List, [], ◌∷◌, slice_get, Some, Contains, arith}
use Rattle.std.proofs.lemmas.Bool.{cases_lt}
use Rattle.std.proofs.lemmas.Option.{none-some, same_Some}
use Rattle.nx_base.specs.declared.cause.Cause.{Cause}
use Rattle.nx_base.specs.declared.cause.Cause.TheVariants as cause
use Rattle.rng_types.specs.declared.fault.TypeFault.TheVariants as fault
use Rattle.rng_simplify.specs.Broken.{IsUndefined, HasNoStart, HasClash, HasBadExcept, HasXmlnsName, HasRefusedType, IsBadValue, IsUnsupported, HasTooManyExcepts, node_limit, depth_limit, nodes_of_all, IsTooDeep, IsTooLarge, WholeIsBroken}
use Rattle.rng_simplify.specs.Composed.{Composed, Clauses, numbers}
use Rattle.rng_simplify.specs.Composed as composed
use Rattle.rng_simplify.specs.Exact.{IsSimplifiedOrBroken, PieceIsSimplifiedOrBroken}
use Rattle.rng_simplify.specs.Forms.{Form, FormDefinition, depth}
use Rattle.rng_simplify.specs.Places.{Place, place, Occurs, the_whole, further_in, a_part}
use Rattle.rng_simplify.specs.Whole.{IsForm}
use Rattle.rng_simplify.proofs.Deciding.{Decided, some_or_none, has_or_not}
use Rattle.rng_simplify.proofs.Defining.{IsFormed, whole_form}
use Rattle.rng_simplify.proofs.Ending.{Finishes, never_back, all_finish}
use Rattle.rng_simplify.proofs.Decisions.{undefined_decided, start_decided, clash_decided, excepts_decided, declares_decided, refused_decided, bad_decided, HasExcept, many_decided, unsupported_decided}
use Rattle.rng_simplify.proofs.Nodes.{in_first}
use Rattle.rng_simplify.proofs.Numbering.{numbered, numbered_in_order, unnumbered_same}
use Rattle.rng_simplify.proofs.OneForm.{start_same, definitions_same}
use Rattle.rng_simplify.proofs.Typable.{AreTypable, simple_typed}

-- ---- how large it is

-- some definition has a longer path, or none has
deep_in : (definitions : List FormDefinition) → Decided ((number : ℕ) × (definition : FormDefinition)
    × (slice_get definitions number ≡ Some definition) × (depth_limit < depth definition.content))
deep_in [] = inr (λ h. none-some h.1 h.2)
deep_in (first ∷ more) = elim (cases_lt depth_limit (depth first.content)) [
  | inl deep ↦ inl (0, first, refl, deep)
  | inr shallow ↦ elim (deep_in more) [
    | inl h ↦ inl (suc h.0, h.1, h.2, h.3)
    | inr none ↦ inr (λ h. deeper first more shallow none h.0 h.1 h.2 h.3)
  ]
]
  where
    deeper : (first : FormDefinition) (more : List FormDefinition) → depth first.content ≤ depth_limit →
        ((number : ℕ) × (definition : FormDefinition) × (slice_get more number ≡ Some definition)
        × (depth_limit < depth definition.content) → ⊥) → (number : ℕ) (definition : FormDefinition) →
        slice_get (first ∷ more) number ≡ Some definition → depth_limit < depth definition.content → ⊥
    deeper first more shallow none zero definition there deep =
        let same = ap (λ (d : FormDefinition). depth d.content) (same_Some first definition there) in absurd (omega arith)
    deeper first more shallow none (suc number) definition there deep = none (number, definition, there, deep)

large_by : (start : Form) (definitions : List FormDefinition) →
    Decided ((node_limit < nodes_of_all start definitions) ⊎ IsTooDeep start definitions)
large_by start definitions = elim (cases_lt node_limit (nodes_of_all start definitions)) [
  | inl many ↦ inl (inl many)
  | inr few ↦ elim (cases_lt depth_limit (depth start)) [
    | inl deep ↦ inl (inr (inl deep))
    | inr shallow ↦ elim (deep_in definitions) [
      | inl deep ↦ inl (inr (inr deep))
      | inr none ↦ inr (λ h. within start definitions few shallow none h)
    ]
  ]
]
  where
    within : (start : Form) (definitions : List FormDefinition) → nodes_of_all start definitions ≤ node_limit →
        depth start ≤ depth_limit → ((number : ℕ) × (definition : FormDefinition)
        × (slice_get definitions number ≡ Some definition) × (depth_limit < depth definition.content) → ⊥) →
        (node_limit < nodes_of_all start definitions) ⊎ IsTooDeep start definitions → ⊥
    within start definitions few shallow none (inl many) = absurd (omega arith)
    within start definitions few shallow none (inr (inl deep)) = absurd (omega arith)
    within start definitions few shallow none (inr (inr deep)) = none deep

large_decided : (whole : Composed) (start : Form) (definitions : List FormDefinition) → IsForm whole start definitions →
    Decided (IsTooLarge whole)
large_decided whole start definitions is = elim (large_by start definitions) [
  | inl large ↦ inl (record { start = start; definitions = definitions; form = is; large = large })
  | inr never ↦ inr (λ h.
      let P : Form → Type 0 = λ q. (node_limit < nodes_of_all q h.definitions) ⊎ IsTooDeep q h.definitions in
      let Q : List FormDefinition → Type 0 = λ ds. (node_limit < nodes_of_all start ds) ⊎ IsTooDeep start ds in
      never (subst Q (definitions_same whole h.start h.definitions h.form start definitions is)
      (subst P (start_same whole h.start h.definitions h.form start definitions is) h.large)))
]

-- ---- each cause

-- what is taken from a type has a form where all that stands in the schema has
except_formed : (whole : Composed) → ((at : Place) → Occurs whole at → Finishes at) → (p : Composed) (scopes : List Clauses) →
    Occurs whole (place scopes p) → HasExcept scopes p
except_formed whole all (composed.typed type params except) scopes occurs =
    (all (place scopes except) (further_in occurs (a_part (in_first except [])))).has_form
except_formed whole all p scopes occurs = tt

-- the schema is broken for a cause but the limits
abbrev BreaksOtherwise : Composed → Cause → Type 0
BreaksOtherwise whole cause.TooLarge = ⊥
BreaksOtherwise whole why = WholeIsBroken whole why

otherwise_breaks : (whole : Composed) (why : Cause) → BreaksOtherwise whole why → WholeIsBroken whole why
otherwise_breaks whole cause.TooLarge h = absurd h
otherwise_breaks whole why h = h

module _ (whole : Composed) (all : (at : Place) → Occurs whole at → Finishes at) where
  cause_decided : (why : Cause) → Decided (BreaksOtherwise whole why)
  cause_decided cause.NoDefinition = has_or_not whole IsUndefined (λ scopes p occurs. undefined_decided scopes p)
  cause_decided cause.NoStart = has_or_not whole HasNoStart (λ scopes p occurs. start_decided scopes p)
  cause_decided cause.CombineClash = has_or_not whole HasClash (λ scopes p occurs. clash_decided scopes p)
  cause_decided cause.RefLoop = inr (λ h. never_back (all (place h.scopes h.pattern) h.occurs).ends_there h.is)
  cause_decided cause.BadExcept = has_or_not whole HasBadExcept (λ scopes p occurs. excepts_decided scopes p)
  cause_decided cause.XmlnsName = has_or_not whole HasXmlnsName (λ scopes p occurs. declares_decided scopes p)
  cause_decided cause.UnknownType =
      has_or_not whole (HasRefusedType fault.UnknownType) (λ scopes p occurs. refused_decided fault.UnknownType scopes p)
  cause_decided cause.UnknownParam =
      has_or_not whole (HasRefusedType fault.UnknownParam) (λ scopes p occurs. refused_decided fault.UnknownParam scopes p)
  cause_decided cause.BadParam =
      has_or_not whole (HasRefusedType fault.BadParam) (λ scopes p occurs. refused_decided fault.BadParam scopes p)
  cause_decided cause.BadValue = has_or_not whole IsBadValue (λ scopes p occurs. bad_decided scopes p)
  cause_decided cause.TooManyExcepts =
      has_or_not whole HasTooManyExcepts (λ scopes p occurs. many_decided scopes p (except_formed whole all p scopes occurs))
  cause_decided cause.UnsupportedExcept =
      has_or_not whole IsUnsupported (λ scopes p occurs. unsupported_decided scopes p (except_formed whole all p scopes occurs))
  cause_decided why = inr (λ h. h)

-- those causes
abbrev other_causes : List Cause
other_causes =
    cause.NoDefinition ∷ cause.NoStart ∷ cause.CombineClash ∷ cause.RefLoop ∷ cause.BadExcept ∷ cause.XmlnsName ∷ cause.UnknownType
    ∷ cause.UnknownParam ∷ cause.BadParam ∷ cause.BadValue ∷ cause.TooManyExcepts ∷ cause.UnsupportedExcept ∷ []

module _ (whole : Composed) (none : (why : Cause) → Contains other_causes why → BreaksOtherwise whole why → ⊥) where
  none_broken : (IsTooLarge whole → ⊥) → (why : Cause) → WholeIsBroken whole why → ⊥
  none_broken small cause.NoDefinition h = none cause.NoDefinition (0, omega arith, refl) h
  none_broken small cause.NoStart h = none cause.NoStart (1, omega arith, refl) h
  none_broken small cause.CombineClash h = none cause.CombineClash (2, omega arith, refl) h
  none_broken small cause.RefLoop h = none cause.RefLoop (3, omega arith, refl) h
  none_broken small cause.BadExcept h = none cause.BadExcept (4, omega arith, refl) h
  none_broken small cause.XmlnsName h = none cause.XmlnsName (5, omega arith, refl) h
  none_broken small cause.UnknownType h = none cause.UnknownType (6, omega arith, refl) h
  none_broken small cause.UnknownParam h = none cause.UnknownParam (7, omega arith, refl) h
  none_broken small cause.BadParam h = none cause.BadParam (8, omega arith, refl) h
  none_broken small cause.BadValue h = none cause.BadValue (9, omega arith, refl) h
  none_broken small cause.TooManyExcepts h = none cause.TooManyExcepts (10, omega arith, refl) h
  none_broken small cause.UnsupportedExcept h = none cause.UnsupportedExcept (11, omega arith, refl) h
  none_broken small cause.TooLarge h = small h
  none_broken small why h = h

  -- so all types are there
  all_typable : AreTypable whole
  all_typable = record {
    no_unknown_type = none cause.UnknownType (6, omega arith, refl);
    no_unknown_param = none cause.UnknownParam (7, omega arith, refl);
    no_bad_param = none cause.BadParam (8, omega arith, refl);
    all_supported = none cause.UnsupportedExcept (11, omega arith, refl);
  }

-- ---- all of them

-- a schema whose elements are numbered in order
decided_in_order : (whole : Composed) → ((i n : ℕ) → slice_get (numbers whole) i ≡ Some n → n ≡ i) → IsSimplifiedOrBroken whole
decided_in_order whole in_order = elim (all_finish whole) [
  | inr broken ↦ inr broken
  | inl all ↦ elim (some_or_none (BreaksOtherwise whole) other_causes (λ why among. cause_decided whole all why)) [
    | inl h ↦ inr (h.0, otherwise_breaks whole h.0 h.2)
    | inr none ↦
        let formed : (scopes : List Clauses) (p : Composed) → Occurs whole (place scopes p) → IsFormed scopes p = λ scopes p occurs.
        let h = (all (place scopes p) occurs).has_form in
        let t = simple_typed whole (all_typable whole none) h.1 occurs in
        record { form = h.0; simple = h.1; pattern = t.0; typed = t.1 } in
        let start = formed [] whole the_whole in
        let form = whole_form whole in_order formed start.form start.simple in
        elim (large_decided whole start.form form.definitions form.form) [
          | inl large ↦ inr (cause.TooLarge, large)
          | inr small ↦ inl (
            start.pattern,
            form.patterns,
            record {
              unbroken = none_broken whole none small;
              start_form = start.form;
              definition_forms = form.definitions;
              form = form.form;
              start_is = start.typed;
              definitions_are = form.typed;
            },
          )
        ]
  ]
]

pub simplified_or_broken : PieceIsSimplifiedOrBroken
simplified_or_broken whole =
    (numbered 0 whole, unnumbered_same 0 whole, decided_in_order (numbered 0 whole) (numbered_in_order whole))
