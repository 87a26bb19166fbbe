-- Where each element has a form, the schema has one: its elements in order, each with its number.
use Rattle.std.proofs.Common.{◌≡◌, refl, sym, ap, ◌∙◌, subst, ℕ, zero, suc, ◌<◌, inl, inr, List, [], ◌∷◌, ◌++◌, length, map, slice_get, Some, Contains, option_map, arith}
use Rattle.std.proofs.lemmas.List.{length-map, map-append}
use Rattle.std.proofs.lemmas.Option.{same_Some, none-some, slice_get-map, slice_get_within, slice_get-get_or}
use Rattle.rng_core.specs.Names.{Class}
use Rattle.rng_core.specs.Patterns.{Pattern, Definition}
use Rattle.rng_simplify.specs.Composed.{Composed, Clauses, end_of_clauses, clause_then, numbers, numbers_in}
use Rattle.rng_simplify.specs.Composed as composed
use Rattle.rng_simplify.specs.Datatypes.{Typed, AreTyped, none_typed, next_typed}
use Rattle.rng_simplify.specs.Forms.{Form, FormDefinition}
use Rattle.rng_simplify.specs.Places.{Place, place, Occurs, further_in, a_content}
use Rattle.rng_simplify.specs.Simple.{Simple}
use Rattle.rng_simplify.specs.Whole.{IsForm, IsDefinedAt}
use Rattle.rng_simplify.proofs.Deciding.{place_occurs}
use Rattle.rng_simplify.proofs.Nodes.{in_none, in_cases, in_first, in_more}
use Rattle.rng_simplify.proofs.Returning.{places, places_in, occurs_among}
use Rattle.rng_simplify.proofs.WalkTurns.{distinct_by_place}
use Rattle.rng_simplify.proofs.Walks.{place_in, in_by_place}

-- ---- elements in order

-- an element where it stands
pub record Element : Type 0 where
  pub scopes : List Clauses
  pub number : ℕ
  pub class : Class
  pub content : Composed

abbrev pub place_of : Element → Place
place_of e = place e.scopes (composed.element e.number e.class e.content)

abbrev element_then : Composed → List Clauses → List Element → List Element
element_then (composed.element number class p) scopes rest =
    record { scopes = scopes; number = number; class = class; content = p } ∷ rest
element_then p scopes rest = rest

abbrev elements : List Place → List Element
elements [] = []
elements (at ∷ more) = element_then at.pattern at.scopes (elements more)

element_apart : (p : Composed) (scopes : List Clauses) (rest others : List Element) →
    element_then p scopes (rest ++ others) ≡ element_then p scopes rest ++ others
element_apart (composed.element number class p) scopes rest others = refl
element_apart p scopes rest others = refl

elements_apart : (xs ys : List Place) → elements (xs ++ ys) ≡ elements xs ++ elements ys
elements_apart [] ys = refl
elements_apart (at ∷ xs) ys =
    ap (element_then at.pattern at.scopes) (elements_apart xs ys) ∙ element_apart at.pattern at.scopes (elements xs) (elements ys)

abbrev numbers_of : List Element → List ℕ
numbers_of es = map (λ (e : Element). e.number) es

-- two lists of places, each with these numbers
both_numbers : (xs ys : List Place) (first second : List ℕ) → numbers_of (elements xs) ≡ first → numbers_of (elements ys) ≡ second →
    numbers_of (elements (xs ++ ys)) ≡ first ++ second
both_numbers xs ys first second one other =
    ap numbers_of (elements_apart xs ys) ∙ map-append (λ (e : Element). e.number) (elements xs) (elements ys)
    ∙ ap (λ ns. ns ++ numbers_of (elements ys)) one ∙ ap (λ ns. first ++ ns) other

mutual
  numbers_are : (scopes : List Clauses) (p : Composed) → numbers_of (elements (places scopes p)) ≡ numbers p
  numbers_are scopes (composed.element number class p) = ap (λ ns. number ∷ ns) (numbers_are scopes p)
  numbers_are scopes (composed.attribute class p) = numbers_are scopes p
  numbers_are scopes (composed.listed p) = numbers_are scopes p
  numbers_are scopes (composed.ref name) = refl
  numbers_are scopes (composed.parent_ref name) = refl
  numbers_are scopes composed.empty = refl
  numbers_are scopes composed.any_text = refl
  numbers_are scopes composed.not_allowed = refl
  numbers_are scopes (composed.value type text) = refl
  numbers_are scopes (composed.typed type params except) = numbers_are scopes except
  numbers_are scopes (composed.grammar clauses) = numbers_are_in (clauses ∷ scopes) clauses
  numbers_are scopes (composed.one_or_more p) = numbers_are scopes p
  numbers_are scopes (composed.choice p q) =
      both_numbers (places scopes p) (places scopes q) (numbers p) (numbers q) (numbers_are scopes p) (numbers_are scopes q)
  numbers_are scopes (composed.group p q) =
      both_numbers (places scopes p) (places scopes q) (numbers p) (numbers q) (numbers_are scopes p) (numbers_are scopes q)
  numbers_are scopes (composed.interleave p q) =
      both_numbers (places scopes p) (places scopes q) (numbers p) (numbers q) (numbers_are scopes p) (numbers_are scopes q)

  numbers_are_in : (scopes : List Clauses) (clauses : Clauses) → numbers_of (elements (places_in scopes clauses)) ≡ numbers_in clauses
  numbers_are_in scopes end_of_clauses = refl
  numbers_are_in scopes (clause_then name combine p more) =
      both_numbers (places scopes p) (places_in scopes more) (numbers p) (numbers_in more) (numbers_are scopes p)
      (numbers_are_in scopes more)

-- those behind a place stay
stays : (p : Composed) (scopes : List Clauses) (rest : List Element) (e : Element) → Contains rest e →
    Contains (element_then p scopes rest) e
stays (composed.element number class p) scopes rest e among =
    in_more (record { scopes = scopes; number = number; class = class; content = p }) rest e among
stays p scopes rest e among = among

-- an element at a listed place is listed
element_listed : (xs : List Place) (e : Element) → Contains xs (place_of e) → Contains (elements xs) e
element_listed [] e among = absurd (in_none among)
element_listed (at ∷ xs) e among = elim (in_cases at xs (place_of e) among) [
  | inl is ↦ let P : Place → Type 0 = λ k. Contains (element_then k.pattern k.scopes (elements xs)) e in
      subst P (sym is) (in_first e (elements xs))
  | inr further ↦ stays at.pattern at.scopes (elements xs) e (element_listed xs e further)
]

-- and no other
from_then : (p : Composed) (scopes : List Clauses) (xs : List Place) (rest : List Element) (e : Element) →
    (Contains rest e → Contains xs (place_of e)) → Contains (element_then p scopes rest) e → Contains (place scopes p ∷ xs) (place_of e)
from_then (composed.element number class p) scopes xs rest e further among =
    elim (in_cases (record { scopes = scopes; number = number; class = class; content = p }) rest e among) [
      | inl is ↦ let P : Element → Type 0 = λ k. Contains (place scopes (composed.element number class p) ∷ xs) (place_of k) in
          subst P is (in_first (place scopes (composed.element number class p)) xs)
      | inr more ↦ in_more (place scopes (composed.element number class p)) xs (place_of e) (further more)
    ]
from_then p scopes xs rest e further among = in_more (place scopes p) xs (place_of e) (further among)

from_listed : (xs : List Place) (e : Element) → Contains (elements xs) e → Contains xs (place_of e)
from_listed [] e among = absurd (in_none among)
from_listed (at ∷ xs) e among = from_then at.pattern at.scopes xs (elements xs) e (from_listed xs e) among

-- ---- definitions

-- an element's content has a form with its types
pub record IsFormed (scopes : List Clauses) (p : Composed) : Type 0 where
  pub form : Form
  pub simple : Simple scopes p form
  pub pattern : Pattern
  pub typed : Typed form pattern

-- the definition at a place is that of an element
abbrev IsAt : List FormDefinition → ℕ → Element → Type 0
IsAt definitions i e =
    (q : Form) × (slice_get definitions i ≡ Some (record { class = e.class; content = q })) × Simple e.scopes e.content q

-- definitions of elements, in order
record AreDefinitions (es : List Element) : Type 0 where
  definitions : List FormDefinition
  patterns : List Definition
  typed : AreTyped definitions patterns
  as_many : length definitions ≡ length es
  each_at : (i : ℕ) (e : Element) → slice_get es i ≡ Some e → IsAt definitions i e

defined_at : (e : Element) (es : List Element) (first : IsFormed e.scopes e.content) (rest : AreDefinitions es) (i : ℕ) (other : Element) →
    slice_get (e ∷ es) i ≡ Some other → IsAt (record { class = e.class; content = first.form } ∷ rest.definitions) i other
defined_at e es first rest zero other there =
    let P : Element → Type 0 = IsAt (record { class = e.class; content = first.form } ∷ rest.definitions) 0 in
    subst P (same_Some e other there) (first.form, refl, first.simple)
defined_at e es first rest (suc i) other there = rest.each_at i other there

all_defined : (es : List Element) → ((e : Element) → Contains es e → IsFormed e.scopes e.content) → AreDefinitions es
all_defined [] each =
    record { definitions = []; patterns = []; typed = none_typed; as_many = refl; each_at = λ i e there. absurd (none-some e there) }
all_defined (e ∷ es) each =
    let first = each e (in_first e es) in
    let rest = all_defined es (λ other among. each other (in_more e es other among)) in
    record {
      definitions = record { class = e.class; content = first.form } ∷ rest.definitions;
      patterns = record { class = e.class; content = first.pattern } ∷ rest.patterns;
      typed = next_typed first.typed rest.typed;
      as_many = ap suc rest.as_many;
      each_at = defined_at e es first rest;
    }

-- what is in a list has a place
element_place : (es : List Element) (e : Element) → Contains es e → (i : ℕ) × (slice_get es i ≡ Some e)
element_place es e (i, within, is) = (i, slice_get-get_or es i e within ∙ ap (λ x. Some x) is)

number_there : (ns : List ℕ) (i : ℕ) → i < length ns → (n : ℕ) × (slice_get ns i ≡ Some n)
number_there [] i within = absurd (omega arith)
number_there (n ∷ ns) zero within = (n, refl)
number_there (n ∷ ns) (suc i) within = number_there ns i (omega arith)

-- a schema whose elements are numbered in order, with a form for all that stands in it
pub record IsWholeForm (whole : Composed) (start : Form) : Type 0 where
  pub definitions : List FormDefinition
  pub form : IsForm whole start definitions
  pub patterns : List Definition
  pub typed : AreTyped definitions patterns

module _ (whole : Composed) (in_order : (i n : ℕ) → slice_get (numbers whole) i ≡ Some n → n ≡ i)
    (each : (scopes : List Clauses) (p : Composed) → Occurs whole (place scopes p) → IsFormed scopes p) (start : Form)
    (start_is : Simple [] whole start) where
  abbrev all : List Element
  all = elements (places [] whole)

  defined : AreDefinitions all
  defined = all_defined all (λ e among.
      each e.scopes e.content (further_in (place_occurs whole (place_of e) (from_listed (places [] whole) e among)) a_content))

  as_many : length (numbers whole) ≡ length defined.definitions
  as_many = sym (ap length (numbers_are [] whole)) ∙ length-map all (λ (e : Element). e.number) ∙ sym defined.as_many

  has_number : (n : ℕ) → Contains (numbers whole) n → n < length defined.definitions
  has_number n among =
      let at = place_in (numbers whole) n among in
      let same : n ≡ at.0 = in_order at.0 n at.1 in
      let within : at.0 < length (numbers whole) = slice_get_within (numbers whole) at.0 n at.1 in
      omega (arith, as_many)

  number_has : (n : ℕ) → n < length defined.definitions → Contains (numbers whole) n
  number_has n below =
      let at = number_there (numbers whole) n (omega (arith, as_many)) in
      let P : ℕ → Type 0 = Contains (numbers whole) in
      subst P (in_order n at.0 at.1) (in_by_place (numbers whole) n at.0 at.1)

  element_defined : (scopes : List Clauses) (number : ℕ) (class : Class) (p : Composed) →
      Occurs whole (place scopes (composed.element number class p)) → IsDefinedAt defined.definitions scopes number class p
  element_defined scopes number class p occurs =
      let e : Element = record { scopes = scopes; number = number; class = class; content = p } in
      let at = element_place all e (element_listed (places [] whole) e (occurs_among occurs)) in
      let numbered : slice_get (numbers whole) at.0 ≡ Some number =
      sym (ap (λ ns. slice_get ns at.0) (numbers_are [] whole)) ∙ slice_get-map (λ (k : Element). k.number) all at.0
      ∙ ap (option_map (λ (k : Element). k.number)) at.1 in
      let d = defined.each_at at.0 e at.1 in
      let same : at.0 ≡ number = sym (in_order at.0 number numbered) in
      record { content = d.0; there = sym (ap (slice_get defined.definitions) same) ∙ d.1; simple = d.2 }

  pub whole_form : IsWholeForm whole start
  whole_form = record {
    definitions = defined.definitions;
    form = record {
      start_is = start_is;
      distinct = distinct_by_place (numbers whole)
          (λ k m i one other. sym (in_order k i one) ∙ in_order m i other);
      each_number = λ n. (has_number n, number_has n);
      each_element = element_defined;
    };
    patterns = defined.patterns;
    typed = defined.typed;
  }
