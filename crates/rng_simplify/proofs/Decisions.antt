-- Whether a schema in one piece is broken for a cause.
use Rattle.std.proofs.Common.{◌≡◌, ◌≢◌, refl, sym, ap, ◌∙◌, subst, ℕ, Bool, true, false, cond, inl, inr, ◌⊎◌, List, [], ◌∷◌, length, Option, Some, None, Result, Ok, Err, Contains, arith}
use Rattle.std.specs.List.{list_all}
use Rattle.std.specs.Cmp.Lexicographic.{bytes_decides}
use Rattle.std.specs.Str.{bytes_eq}
use Rattle.std.proofs.lemmas.Bool.{cases_lt, false≢true}
use Rattle.std.proofs.lemmas.Option.{same_Some}
use Rattle.nx_base.specs.Characters.{is_of_chars}
use Rattle.rng_types.specs.declared.datatype.Datatype.{Datatype}
use Rattle.rng_types.specs.declared.fault.TypeFault.{TypeFault}
use Rattle.rng_types.specs.declared.fault.TypeFault.TheVariants as fault
use Rattle.rng_types.specs.Facets.{meets}
use Rattle.rng_types.specs.Types.{Accepts, seen_by, has_few_digits}
use Rattle.rng_types.specs.Words.{has_form}
use Rattle.rnc_parse.specs.declared.surface.Combine.{Combine}
use Rattle.rnc_parse.specs.declared.surface.Defined.{Defined}
use Rattle.rnc_parse.specs.declared.surface.Defined.TheVariants as defined
use Rattle.rnc_parse.specs.declared.surface.Param.{Param}
use Rattle.rnc_parse.specs.declared.surface.TypeName.{TypeName}
use Rattle.rng_simplify.specs.Broken.{IsUndefined, HasNoStart, clash, HasClash, HasBadExcept, HasXmlnsName, HasRefusedType, IsBadValue, IsForeign, IsUnsupported, except_limit, HasTooManyExcepts}
use Rattle.rng_simplify.specs.Classes.{has_bad_except, names_declarations, names_declarations_of_attribute}
use Rattle.rng_simplify.specs.Composed.{Composed, Clauses, end_of_clauses, clause_then, same_defined, defines, defining, combines, names_of}
use Rattle.rng_simplify.specs.Composed as composed
use Rattle.rng_simplify.specs.Datatypes.{datatype_of, MayWrite, builtin_string, builtin_token}
use Rattle.rng_simplify.specs.Forms.{Form, Value, values_of}
use Rattle.rng_simplify.specs.Places.{place}
use Rattle.rng_simplify.specs.Simple.{Simple}
use Rattle.rng_simplify.proofs.Deciding.{Decided, some_or_none}
use Rattle.rng_simplify.proofs.Ending.{HasForm}
use Rattle.rng_simplify.proofs.Gathering.{same_name}
use Rattle.rng_simplify.proofs.Grammars.{not_both, one_type}
use Rattle.rng_simplify.proofs.Nodes.{in_first, in_more}
use Rattle.rng_simplify.proofs.OneForm.{simple_one}

pub is_true : (b : Bool) → Decided (b ≡ true)
is_true true = inl refl
is_true false = inr (λ h. false≢true h)

is_false : (b : Bool) → Decided (b ≡ false)
is_false true = inr (λ h. false≢true (sym h))
is_false false = inl refl

-- ---- references, starts and definitions

pub undefined_decided : (scopes : List Clauses) (p : Composed) → Decided (IsUndefined scopes p)
undefined_decided [] (composed.ref name) = inl tt
undefined_decided (scope ∷ outer) (composed.ref name) = is_false (defines (defined.Name name) scope)
undefined_decided [] (composed.parent_ref name) = inl tt
undefined_decided (inner ∷ []) (composed.parent_ref name) = inl tt
undefined_decided (inner ∷ scope ∷ outer) (composed.parent_ref name) = is_false (defines (defined.Name name) scope)
undefined_decided [] p = inr (λ h. h)
undefined_decided (scope ∷ []) p = inr (λ h. h)
undefined_decided (scope ∷ other ∷ scopes) p = inr (λ h. h)

pub start_decided : (scopes : List Clauses) (p : Composed) → Decided (HasNoStart scopes p)
start_decided scopes (composed.grammar clauses) = is_false (defines defined.Start clauses)
start_decided scopes p = inr (λ h. h)

-- a name is among those that are defined, or there are no definitions of it
named_if : (b : Bool) (name other : Defined) (combine : Combine) (p : Composed) (rest more : Clauses) → (b ≡ true → name ≡ other) →
    Contains (names_of more) name ⊎ (combines rest ≡ []) →
    Contains (other ∷ names_of more) name ⊎ (combines (cond b (clause_then other combine p rest) rest) ≡ [])
named_if true name other combine p rest more same further =
    let P : Defined → Type 0 = λ n. Contains (other ∷ names_of more) n in
    inl (subst P (sym (same refl)) (in_first other (names_of more)))
named_if false name other combine p rest more same (inl among) = inl (in_more other (names_of more) name among)
named_if false name other combine p rest more same (inr none) = inr none

named_or_none : (name : Defined) (clauses : Clauses) → Contains (names_of clauses) name ⊎ (combines (defining name clauses) ≡ [])
named_or_none name end_of_clauses = inr refl
named_or_none name (clause_then other combine p more) =
    named_if (same_defined name other) name other combine p (defining name more) more (same_name name other) (named_or_none name more)

pub clash_decided : (scopes : List Clauses) (p : Composed) → Decided (HasClash scopes p)
clash_decided scopes (composed.grammar clauses) =
    elim (some_or_none (λ name. clash (combines (defining name clauses)) ≡ true) (names_of clauses)
    (λ name among. is_true (clash (combines (defining name clauses))))) [
      | inl h ↦ inl (h.0, h.2)
      | inr none ↦ inr (λ h. elim (named_or_none h.0 clauses) [
        | inl among ↦ none h.0 among h.1
        | inr nothing ↦ false≢true (sym (ap clash nothing) ∙ h.1)
      ])
    ]
clash_decided scopes p = inr (λ h. h)

-- ---- classes

pub excepts_decided : (scopes : List Clauses) (p : Composed) → Decided (HasBadExcept scopes p)
excepts_decided scopes (composed.element number class p) = is_true (has_bad_except class)
excepts_decided scopes (composed.attribute class p) = is_true (has_bad_except class)
excepts_decided scopes p = inr (λ h. h)

pub declares_decided : (scopes : List Clauses) (p : Composed) → Decided (HasXmlnsName scopes p)
declares_decided scopes (composed.element number class p) = is_true (names_declarations class)
declares_decided scopes (composed.attribute class p) = is_true (names_declarations_of_attribute class)
declares_decided scopes p = inr (λ h. h)

-- ---- types

fault_decided : (one other : TypeFault) → Decided (one ≡ other)
fault_decided fault.UnknownType fault.UnknownType = inl refl
fault_decided fault.UnknownParam fault.UnknownParam = inl refl
fault_decided fault.BadParam fault.BadParam = inl refl
fault_decided fault.TooManyExcepts fault.TooManyExcepts = inl refl
fault_decided fault.NoMemory fault.NoMemory = inl refl
fault_decided one other = inr (λ h. let never : ⊥ = cc in never)

fault_of : (one other : TypeFault) → ◌≡◌ {A = Result Datatype TypeFault} (Err one) (Err other) → one ≡ other
fault_of one other h = cc

error_decided : (result : Result Datatype TypeFault) (why : TypeFault) → Decided (result ≡ Err why)
error_decided (Ok datatype) why = inr (λ h. let never : ⊥ = cc in never)
error_decided (Err other) why = elim (fault_decided other why) [
  | inl same ↦ inl (ap (λ f. Err f) same)
  | inr differ ↦ inr (λ h. differ (fault_of other why h))
]

pub refused_decided : (why : TypeFault) (scopes : List Clauses) (p : Composed) → Decided (HasRefusedType why scopes p)
refused_decided why scopes (composed.value type text) = error_decided (datatype_of type []) why
refused_decided why scopes (composed.typed type params except) = error_decided (datatype_of type params) why
refused_decided why scopes p = inr (λ h. h)

pub accepts_decided : (datatype : Datatype) (text : List ℕ) → Decided (Accepts datatype text)
accepts_decided datatype text = elim (is_true (has_form datatype.form (seen_by datatype text))) [
  | inr none ↦ inr (λ h. none h.form)
  | inl formed ↦ elim (is_true (list_all (meets datatype.form (seen_by datatype text)) datatype.facets)) [
    | inr none ↦ inr (λ h. none h.facets)
    | inl met ↦ inl (record { form = formed; facets = met })
  ]
]

may_write_decided : (datatype : Datatype) (text : List ℕ) → Decided (MayWrite datatype text)
may_write_decided datatype text = elim (accepts_decided datatype text) [
  | inr none ↦ inr (λ h. none h.accepted)
  | inl accepted ↦ elim (is_true (has_few_digits datatype.form (seen_by datatype text))) [
    | inr none ↦ inr (λ h. none h.few_digits)
    | inl few ↦ elim (is_true (is_of_chars text)) [
      | inr none ↦ inr (λ h. none h.of_chars)
      | inl chars ↦ inl (record { accepted = accepted; few_digits = few; of_chars = chars })
    ]
  ]
]

value_decided : (type : TypeName) (text : List ℕ) (result : Result Datatype TypeFault) → datatype_of type [] ≡ result →
    Decided ((datatype : Datatype) × (datatype_of type [] ≡ Ok datatype) × (MayWrite datatype text → ⊥))
value_decided type text (Err why) is = inr (λ h. not_both h.0 why (datatype_of type []) h.1 is)
value_decided type text (Ok datatype) is = elim (may_write_decided datatype text) [
  | inr none ↦ inl (datatype, is, none)
  | inl may ↦ inr (λ h.
      let P : Datatype → Type 0 = λ d. MayWrite d text in
      h.2 (subst P (one_type datatype h.0 (datatype_of type []) is h.1) may))
]

pub bad_decided : (scopes : List Clauses) (p : Composed) → Decided (IsBadValue scopes p)
bad_decided scopes (composed.value type text) = value_decided type text (datatype_of type []) refl
bad_decided scopes p = inr (λ h. h)

-- ---- what is taken from types

pub type_decided : (one other : TypeName) → Decided (one ≡ other)
type_decided one other = elim (is_true (bytes_eq one.library other.library)) [
  | inr none ↦ inr (λ h. none ((bytes_decides one.library other.library).1 (ap (λ (t : TypeName). t.library) h)))
  | inl library ↦ elim (is_true (bytes_eq one.name other.name)) [
    | inr none ↦ inr (λ h. none ((bytes_decides one.name other.name).1 (ap (λ (t : TypeName). t.name) h)))
    | inl name ↦ inl (same_type one other ((bytes_decides one.library other.library).0 library)
        ((bytes_decides one.name other.name).0 name))
  ]
]
  where
    same_type : (one other : TypeName) → one.library ≡ other.library → one.name ≡ other.name → one ≡ other
    same_type one other library name =
        ap (λ l. record { library = l; name = one.name }) library ∙ ap (λ n. record { library = other.library; name = n }) name

abbrev Foreign : TypeName → Value → Type 0
Foreign type v = (v.type ≢ type) × (v.type ≢ builtin_string) × (v.type ≢ builtin_token)

foreign_value : (type : TypeName) (v : Value) → Decided (Foreign type v)
foreign_value type v = elim (type_decided v.type type) [
  | inl same ↦ inr (λ h. h.0 same)
  | inr not_own ↦ elim (type_decided v.type builtin_string) [
    | inl same ↦ inr (λ h. h.1 same)
    | inr not_string ↦ elim (type_decided v.type builtin_token) [
      | inl same ↦ inr (λ h. h.2 same)
      | inr not_token ↦ inl (not_own, not_string, not_token)
    ]
  ]
]

foreign_decided : (type : TypeName) (values : List Value) → Decided (IsForeign type values)
foreign_decided type values = elim (some_or_none (Foreign type) values (λ v among. foreign_value type v)) [
  | inl h ↦ inl (record { v = h.0; among = h.1; not_own = h.2.0; not_string = h.2.1; not_token = h.2.2 })
  | inr none ↦ inr (λ h. none h.v h.among (h.not_own, h.not_string, h.not_token))
]

module _ (scopes : List Clauses) (type : TypeName) (params : List Param) (except : Composed) (q : Form) (simple : Simple scopes except q)
  where
    -- other values are the same
    same_values : (r : Form) (values others : List Value) → Simple scopes except r → values_of q ≡ Some values →
        values_of r ≡ Some others → values ≡ others
    same_values r values others again are also =
        same_Some values others (sym are ∙ ap values_of (simple_one simple again) ∙ also)

    no_values : (r : Form) (values : List Value) → Simple scopes except r → values_of q ≡ None → values_of r ≡ Some values → ⊥
    no_values r values again none are =
        let both : None ≡ Some values = sym none ∙ ap values_of (simple_one simple again) ∙ are in let never : ⊥ = cc in never

    many_at : (values : Option (List Value)) → values_of q ≡ values →
        Decided (HasTooManyExcepts scopes (composed.typed type params except))
    many_at None none = inr (λ h. no_values h.0 h.1 h.2 none h.3)
    many_at (Some values) are = elim (cases_lt except_limit (length values)) [
      | inl many ↦ inl (q, values, simple, are, many)
      | inr few ↦ inr (λ h.
          let same = ap length (same_values h.0 values h.1 h.2 are h.3) in
          let many = h.4 in
          absurd (omega arith))
    ]

    unsupported_not : (values : List Value) → values_of q ≡ Some values → (IsForeign type values → ⊥) →
        IsUnsupported scopes (composed.typed type params except) → ⊥
    unsupported_not values are none (r, again, inl nothing) =
        let both : None ≡ Some values = sym nothing ∙ sym (ap values_of (simple_one simple again)) ∙ are in let never : ⊥ = cc in never
    unsupported_not values are none (r, again, inr (others, also, foreign)) =
        let P : List Value → Type 0 = IsForeign type in
        none (subst P (sym (same_values r values others again are also)) foreign)

    unsupported_at : (values : Option (List Value)) → values_of q ≡ values →
        Decided (IsUnsupported scopes (composed.typed type params except))
    unsupported_at None none = inl (q, simple, inl none)
    unsupported_at (Some values) are = elim (foreign_decided type values) [
      | inl foreign ↦ inl (q, simple, inr (values, are, foreign))
      | inr none ↦ inr (λ h. unsupported_not values are none h)
    ]

-- what is taken from a type has a simple form
abbrev pub HasExcept : List Clauses → Composed → Type 0
HasExcept scopes (composed.typed type params except) = HasForm (place scopes except)
HasExcept scopes p = Unit {0}

pub many_decided : (scopes : List Clauses) (p : Composed) → HasExcept scopes p → Decided (HasTooManyExcepts scopes p)
many_decided scopes (composed.typed type params except) h = many_at scopes type params except h.0 h.1 (values_of h.0) refl
many_decided scopes p h = inr (λ never. never)

pub unsupported_decided : (scopes : List Clauses) (p : Composed) → HasExcept scopes p → Decided (IsUnsupported scopes p)
unsupported_decided scopes (composed.typed type params except) h = unsupported_at scopes type params except h.0 h.1 (values_of h.0) refl
unsupported_decided scopes p h = inr (λ never. never)
