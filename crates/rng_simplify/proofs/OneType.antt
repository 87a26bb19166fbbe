-- A form has one pattern with types, and a schema in one piece has one grammar.
use Rattle.std.proofs.Common.{◌≡◌, ◌≢◌, refl, sym, ap, ◌∙◌, subst, List, [], ◌∷◌, length, Result, Ok, arith}
use Rattle.rng_types.specs.declared.datatype.Datatype.{Datatype}
use Rattle.rng_types.specs.declared.datatype.Except.{Except}
use Rattle.rng_types.specs.declared.datatype.Except.TheVariants.{Own, BuiltinString, BuiltinToken}
use Rattle.rng_types.specs.declared.fault.TypeFault.{TypeFault}
use Rattle.rng_types.specs.Types.{Accepts}
use Rattle.rnc_parse.specs.declared.surface.TypeName.{TypeName}
use Rattle.rng_core.specs.Patterns.{Pattern, Definition}
use Rattle.rng_core.specs.Patterns as pattern
use Rattle.rng_simplify.specs.Composed.{Composed}
use Rattle.rng_simplify.specs.Datatypes.{datatype_of, builtin_string, builtin_token, AreExcepts, no_except, own_value, own_value_beside, string_value, token_value, Typed, AreTyped, typed_not_allowed, typed_empty, typed_text, typed_value, typed_type, typed_list, typed_attribute, typed_ref, typed_one_or_more, typed_choice, typed_group, typed_interleave, none_typed, next_typed}
use Rattle.rng_simplify.specs.Forms.{Form, FormDefinition, Value}
use Rattle.rng_simplify.specs.Forms as form
use Rattle.rng_simplify.specs.Grammars.{IsSimplified}
use Rattle.rng_simplify.proofs.OneForm.{start_same, definitions_same}

one_datatype : (datatype other : Datatype) (named : Result Datatype TypeFault) → named ≡ Ok datatype → named ≡ Ok other → datatype ≡ other
one_datatype datatype other named is also =
    let same : ◌≡◌ {A = Result Datatype TypeFault} (Ok datatype) (Ok other) = sym is ∙ also in
    cc

-- ---- what is taken from a type

string_is_no_token : builtin_string ≡ builtin_token → ⊥
string_is_no_token same =
    let lengths : length builtin_string.name ≡ length builtin_token.name = ap (λ (type : TypeName). length type.name) same in
    absurd (omega (arith, lengths))

module _ (type : TypeName) (datatype : Datatype) where
  -- one value takes this, before what others take
  pub data TakesFirst (v : Value) (values : List Value) (excepts : List Except) : Type 0 where
    takes_own : (more : List Except) → v.type ≡ type → Accepts datatype v.text → AreExcepts type datatype values more →
        excepts ≡ Own v.text ∷ more → TakesFirst v values excepts
    takes_nothing : v.type ≡ type → ¬ Accepts datatype v.text → AreExcepts type datatype values excepts → TakesFirst v values excepts
    takes_string : (more : List Except) → v.type ≡ builtin_string → type ≢ builtin_string → AreExcepts type datatype values more →
        excepts ≡ BuiltinString v.text ∷ more → TakesFirst v values excepts
    takes_token : (more : List Except) → v.type ≡ builtin_token → type ≢ builtin_token → AreExcepts type datatype values more →
        excepts ≡ BuiltinToken v.text ∷ more → TakesFirst v values excepts

  abbrev TakenBy : List Value → List Except → Type 0
  TakenBy [] excepts = excepts ≡ []
  TakenBy (v ∷ values) excepts = TakesFirst v values excepts

  taken_by : {values : List Value} {excepts : List Except} → AreExcepts type datatype values excepts → TakenBy values excepts
  taken_by no_except = refl
  taken_by (own_value accepted more) = takes_own _ refl accepted more refl
  taken_by (own_value_beside refused more) = takes_nothing refl refused more
  taken_by (string_value other more) = takes_string _ refl other more refl
  taken_by (token_value other more) = takes_token _ refl other more refl

  excepts_one : {values : List Value} {some others : List Except} → AreExcepts type datatype values some →
      AreExcepts type datatype values others → some ≡ others
  excepts_one no_except again = sym (taken_by again)
  excepts_one (own_value {text = text} accepted more) again = elim (taken_by again) [
    | takes_own rest own also others is ↦ ap (λ es. Own text ∷ es) (excepts_one more others) ∙ sym is
    | takes_nothing own refused others ↦ absurd (refused accepted)
    | takes_string rest string other others is ↦ absurd (other string)
    | takes_token rest token other others is ↦ absurd (other token)
  ]
  excepts_one (own_value_beside refused more) again = elim (taken_by again) [
    | takes_own rest own accepted others is ↦ absurd (refused accepted)
    | takes_nothing own also others ↦ excepts_one more others
    | takes_string rest string other others is ↦ absurd (other string)
    | takes_token rest token other others is ↦ absurd (other token)
  ]
  excepts_one (string_value {text = text} other more) again = elim (taken_by again) [
    | takes_own rest own accepted others is ↦ absurd (other (sym own))
    | takes_nothing own refused others ↦ absurd (other (sym own))
    | takes_string rest string also others is ↦ ap (λ es. BuiltinString text ∷ es) (excepts_one more others) ∙ sym is
    | takes_token rest token also others is ↦ absurd (string_is_no_token token)
  ]
  excepts_one (token_value {text = text} other more) again = elim (taken_by again) [
    | takes_own rest own accepted others is ↦ absurd (other (sym own))
    | takes_nothing own refused others ↦ absurd (other (sym own))
    | takes_string rest string also others is ↦ absurd (string_is_no_token (sym string))
    | takes_token rest token also others is ↦ ap (λ es. BuiltinToken text ∷ es) (excepts_one more others) ∙ sym is
  ]

-- ---- forms

abbrev TypedBy : Form → Pattern → Type 0
TypedBy form.not_allowed q = q ≡ pattern.not_allowed
TypedBy form.empty q = q ≡ pattern.empty
TypedBy form.any_text q = q ≡ pattern.any_text
TypedBy (form.value v) q = (datatype : Datatype) × (datatype_of v.type [] ≡ Ok datatype) × (q ≡ pattern.literal datatype v.text)
TypedBy (form.typed type params values) q =
    (datatype : Datatype) × (excepts : List Except) × (datatype_of type params ≡ Ok datatype) × AreExcepts type datatype values excepts
    × (q ≡ pattern.typed datatype excepts)
TypedBy (form.listed p) q = (r : Pattern) × Typed p r × (q ≡ pattern.listed r)
TypedBy (form.attribute class p) q = (r : Pattern) × Typed p r × (q ≡ pattern.attribute class r)
TypedBy (form.ref number) q = q ≡ pattern.ref number
TypedBy (form.one_or_more p) q = (r : Pattern) × Typed p r × (q ≡ pattern.one_or_more r)
TypedBy (form.choice p1 p2) q = (r1 : Pattern) × (r2 : Pattern) × Typed p1 r1 × Typed p2 r2 × (q ≡ pattern.choice r1 r2)
TypedBy (form.group p1 p2) q = (r1 : Pattern) × (r2 : Pattern) × Typed p1 r1 × Typed p2 r2 × (q ≡ pattern.group r1 r2)
TypedBy (form.interleave p1 p2) q = (r1 : Pattern) × (r2 : Pattern) × Typed p1 r1 × Typed p2 r2 × (q ≡ pattern.interleave r1 r2)

typed_by : {p : Form} {q : Pattern} → Typed p q → TypedBy p q
typed_by typed_not_allowed = refl
typed_by typed_empty = refl
typed_by typed_text = refl
typed_by (typed_value named) = (_, named, refl)
typed_by (typed_type named taken) = (_, _, named, taken, refl)
typed_by (typed_list part) = (_, part, refl)
typed_by (typed_attribute part) = (_, part, refl)
typed_by typed_ref = refl
typed_by (typed_one_or_more part) = (_, part, refl)
typed_by (typed_choice one other) = (_, _, one, other, refl)
typed_by (typed_group one other) = (_, _, one, other, refl)
typed_by (typed_interleave one other) = (_, _, one, other, refl)

pub typed_one : {p : Form} {q r : Pattern} → Typed p q → Typed p r → q ≡ r
typed_one typed_not_allowed again = sym (typed_by again)
typed_one typed_empty again = sym (typed_by again)
typed_one typed_text again = sym (typed_by again)
typed_one (typed_value {v = v} {datatype = datatype} named) again =
    let h = typed_by again in
    ap (λ d. pattern.literal d v.text) (one_datatype datatype h.0 (datatype_of v.type []) named h.1) ∙ sym h.2
typed_one (typed_type {type = type} {params = params} {values = values} {datatype = datatype} {excepts = excepts} named taken) again =
    let h = typed_by again in
    let same : datatype ≡ h.0 = one_datatype datatype h.0 (datatype_of type params) named h.2 in
    let P : Datatype → Type 0 = λ d. AreExcepts type d values excepts in
    ap (λ d. pattern.typed d excepts) same ∙ ap (pattern.typed h.0) (excepts_one type h.0 (subst P same taken) h.3) ∙ sym h.4
typed_one (typed_list part) again = let h = typed_by again in ap pattern.listed (typed_one part h.1) ∙ sym h.2
typed_one (typed_attribute {class = class} part) again =
    let h = typed_by again in ap (pattern.attribute class) (typed_one part h.1) ∙ sym h.2
typed_one typed_ref again = sym (typed_by again)
typed_one (typed_one_or_more part) again = let h = typed_by again in ap pattern.one_or_more (typed_one part h.1) ∙ sym h.2
typed_one (typed_choice {q2 = second} one other) again =
    let h = typed_by again in
    ap (λ f. pattern.choice f second) (typed_one one h.2) ∙ ap (pattern.choice h.0) (typed_one other h.3) ∙ sym h.4
typed_one (typed_group {q2 = second} one other) again =
    let h = typed_by again in
    ap (λ f. pattern.group f second) (typed_one one h.2) ∙ ap (pattern.group h.0) (typed_one other h.3) ∙ sym h.4
typed_one (typed_interleave {q2 = second} one other) again =
    let h = typed_by again in
    ap (λ f. pattern.interleave f second) (typed_one one h.2) ∙ ap (pattern.interleave h.0) (typed_one other h.3) ∙ sym h.4

-- ---- definitions

abbrev AreTypedBy : List FormDefinition → List Definition → Type 0
AreTypedBy [] ds = ds ≡ []
AreTypedBy (f ∷ fs) ds =
    (q : Pattern) × (more : List Definition) × Typed f.content q × AreTyped fs more × (ds ≡ record { class = f.class; content = q } ∷ more)

are_typed_by : {fs : List FormDefinition} {ds : List Definition} → AreTyped fs ds → AreTypedBy fs ds
are_typed_by none_typed = refl
are_typed_by (next_typed one more) = (_, _, one, more, refl)

pub are_typed_one : {fs : List FormDefinition} {ds es : List Definition} → AreTyped fs ds → AreTyped fs es → ds ≡ es
are_typed_one none_typed again = sym (are_typed_by again)
are_typed_one (next_typed {class = class} {qs = ds} one more) again =
    let h = are_typed_by again in
    ap (λ (q : Pattern). record { class = class; content = q } ∷ ds) (typed_one one h.2)
    ∙ ap (λ rest. record { class = class; content = h.0 } ∷ rest) (are_typed_one more h.3) ∙ sym h.4

-- a schema in one piece has one grammar
pub grammar_one : (whole : Composed) (start other : Pattern) (definitions others : List Definition) → IsSimplified whole start definitions →
    IsSimplified whole other others → (start ≡ other) × (definitions ≡ others)
grammar_one whole start other definitions others is also =
    let P : Form → Type 0 = λ p. Typed p start in
    let Q : List FormDefinition → Type 0 = λ ps. AreTyped ps definitions in (
      typed_one
          (subst P (start_same whole is.start_form is.definition_forms is.form also.start_form also.definition_forms also.form) is.start_is)
          also.start_is,
      are_typed_one (subst Q (definitions_same whole is.start_form is.definition_forms is.form also.start_form also.definition_forms also.form) is.definitions_are) also.definitions_are,
    )
