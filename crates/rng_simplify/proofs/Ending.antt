-- Each pattern of a schema in one piece has a simple form, or the schema is broken.
use Rattle.std.specs.Prelude.{if◌then◌else◌}
use Rattle.std.proofs.Common.{◌≡◌, refl, sym, ap, ◌∙◌, subst, ℕ, zero, suc, ◌+◌, ◌<◌, ◌≤◌, Bool, true, false, inl, inr, ◌⊎◌, List, [], ◌∷◌, length, map, slice_get, Option, Some, None, Contains, arith}
use Rattle.std.proofs.lemmas.Option.{same_Some, slice_get-get_or}
use Rattle.nx_base.specs.declared.cause.Cause.{Cause}
use Rattle.nx_base.specs.declared.cause.Cause.TheVariants as cause
use Rattle.rnc_parse.specs.declared.surface.Combine.{Combine}
use Rattle.rnc_parse.specs.declared.surface.Defined.{Defined}
use Rattle.rnc_parse.specs.declared.surface.Defined.TheVariants as defined
use Rattle.rnc_parse.specs.declared.surface.Param.{Param}
use Rattle.rnc_parse.specs.declared.surface.TypeName.{TypeName}
use Rattle.rnc_parse.specs.Written.{joined}
use Rattle.rng_simplify.specs.Broken.{Has, LeadsBack, WholeIsBroken}
use Rattle.rng_simplify.specs.Composed.{Composed, Clauses, end_of_clauses, clause_then, same_defined, defines, defining, combines, bodies}
use Rattle.rng_simplify.specs.Composed as composed
use Rattle.rng_simplify.specs.Forms.{Form, Value, list_of, attribute_of, one_or_more_of, choice_of, group_of, interleave_of, combine_of, combined_by, values_of}
use Rattle.rng_simplify.specs.Forms as form
use Rattle.rng_simplify.specs.Places.{Place, place, parts, Occurs, LeadsTo, to_part, to_definition, to_outer_definition, to_start, LeadsOn, in_one_step, in_more_steps}
use Rattle.rng_simplify.specs.Simple.{Simple, Defines, AreSimple, simple_element, simple_attribute, simple_list, simple_empty, simple_text, simple_not_allowed, simple_value, simple_type, simple_one_or_more, simple_choice, simple_group, simple_interleave, simple_grammar, simple_ref, simple_parent_ref, combined_in_order, none_simple, next_simple}
use Rattle.rng_simplify.proofs.Deciding.{all_or, place_occurs}
use Rattle.rng_simplify.proofs.Nodes.{in_none, in_cases, in_first, in_more, in_one}
use Rattle.rng_simplify.proofs.Renumbered.{among_from, among_map}
use Rattle.rng_simplify.proofs.Returning.{places, occurs_among, some_twice, leads_then, occurs_lead}

-- ---- the places to which a place leads

abbrev named_led : List Clauses → Defined → List Place
named_led [] name = []
named_led (scope ∷ outer) name = map (λ p. place (scope ∷ outer) p) (bodies (defining name scope))

abbrev outer_led : List Clauses → Defined → List Place
outer_led [] name = []
outer_led (inner ∷ outer) name = named_led outer name

abbrev led_from : Composed → List Clauses → List Place
led_from (composed.element number class p) scopes = []
led_from (composed.attribute class p) scopes = place scopes p ∷ []
led_from (composed.listed p) scopes = place scopes p ∷ []
led_from (composed.ref name) scopes = named_led scopes (defined.Name name)
led_from (composed.parent_ref name) scopes = outer_led scopes (defined.Name name)
led_from composed.empty scopes = []
led_from composed.any_text scopes = []
led_from composed.not_allowed scopes = []
led_from (composed.value type text) scopes = []
led_from (composed.typed type params except) scopes = place scopes except ∷ []
led_from (composed.grammar clauses) scopes = named_led (clauses ∷ scopes) defined.Start
led_from (composed.one_or_more p) scopes = place scopes p ∷ []
led_from (composed.choice p q) scopes = place scopes p ∷ place scopes q ∷ []
led_from (composed.group p q) scopes = place scopes p ∷ place scopes q ∷ []
led_from (composed.interleave p q) scopes = place scopes p ∷ place scopes q ∷ []

one_listed : (scopes : List Clauses) (p q : Composed) → Contains (p ∷ []) q → Contains (place scopes p ∷ []) (place scopes q)
one_listed scopes p q within =
    let P : Composed → Type 0 = λ r. Contains (place scopes p ∷ []) (place scopes r) in
    subst P (in_one p q within) (in_first (place scopes p) [])

two_listed : (scopes : List Clauses) (p r q : Composed) → Contains (p ∷ r ∷ []) q →
    Contains (place scopes p ∷ place scopes r ∷ []) (place scopes q)
two_listed scopes p r q within =
    let P : Composed → Type 0 = λ s. Contains (place scopes p ∷ place scopes r ∷ []) (place scopes s) in
    elim (in_cases p (r ∷ []) q within) [
      | inl is ↦ subst P is (in_first (place scopes p) (place scopes r ∷ []))
      | inr further ↦ subst P (in_one r q further)
          (in_more (place scopes p) (place scopes r ∷ []) (place scopes r) (in_first (place scopes r) []))
    ]

part_listed : (p : Composed) (scopes : List Clauses) (q : Composed) → Contains (parts p) q → Contains (led_from p scopes) (place scopes q)
part_listed (composed.element number class p) scopes q within = absurd (in_none within)
part_listed (composed.attribute class p) scopes q within = one_listed scopes p q within
part_listed (composed.listed p) scopes q within = one_listed scopes p q within
part_listed (composed.ref name) scopes q within = absurd (in_none within)
part_listed (composed.parent_ref name) scopes q within = absurd (in_none within)
part_listed composed.empty scopes q within = absurd (in_none within)
part_listed composed.any_text scopes q within = absurd (in_none within)
part_listed composed.not_allowed scopes q within = absurd (in_none within)
part_listed (composed.value type text) scopes q within = absurd (in_none within)
part_listed (composed.typed type params except) scopes q within = one_listed scopes except q within
part_listed (composed.grammar clauses) scopes q within = absurd (in_none within)
part_listed (composed.one_or_more p) scopes q within = one_listed scopes p q within
part_listed (composed.choice p r) scopes q within = two_listed scopes p r q within
part_listed (composed.group p r) scopes q within = two_listed scopes p r q within
part_listed (composed.interleave p r) scopes q within = two_listed scopes p r q within

-- each is listed
led_listed : {at to : Place} → LeadsTo at to → Contains (led_from at.pattern at.scopes) to
led_listed (to_part {scopes = scopes} {p = p} {q = q} within) = part_listed p scopes q within
led_listed (to_definition {scope = scope} {outer = outer} {name = name} {p = p} within) =
    among_map (λ q. place (scope ∷ outer) q) (bodies (defining (defined.Name name) scope)) p within
led_listed (to_outer_definition {scope = scope} {outer = outer} {name = name} {p = p} within) =
    among_map (λ q. place (scope ∷ outer) q) (bodies (defining (defined.Name name) scope)) p within
led_listed (to_start {scopes = scopes} {clauses = clauses} {p = p} within) =
    among_map (λ q. place (clauses ∷ scopes) q) (bodies (defining defined.Start clauses)) p within

-- and nothing else is
one_leads : (at : Place) (p : Composed) (to : Place) → Contains (parts at.pattern) p → Contains (place at.scopes p ∷ []) to → LeadsTo at to
one_leads at p to within among =
    let P : Place → Type 0 = LeadsTo at in subst P (in_one (place at.scopes p) to among) (to_part within)

two_lead : (at : Place) (p q : Composed) (to : Place) → Contains (parts at.pattern) p → Contains (parts at.pattern) q →
    Contains (place at.scopes p ∷ place at.scopes q ∷ []) to → LeadsTo at to
two_lead at p q to one other among = elim (in_cases (place at.scopes p) (place at.scopes q ∷ []) to among) [
  | inl is ↦ let P : Place → Type 0 = LeadsTo at in subst P is (to_part one)
  | inr further ↦ one_leads at q to other further
]

ref_leads : (scopes : List Clauses) (name : List ℕ) (to : Place) → Contains (named_led scopes (defined.Name name)) to →
    LeadsTo (place scopes (composed.ref name)) to
ref_leads [] name to among = absurd (in_none among)
ref_leads (scope ∷ outer) name to among =
    let h = among_from (λ q. place (scope ∷ outer) q) (bodies (defining (defined.Name name) scope)) to among in
    let P : Place → Type 0 = LeadsTo (place (scope ∷ outer) (composed.ref name)) in
    subst P h.is (to_definition h.among)

parent_ref_leads : (scopes : List Clauses) (name : List ℕ) (to : Place) → Contains (outer_led scopes (defined.Name name)) to →
    LeadsTo (place scopes (composed.parent_ref name)) to
parent_ref_leads [] name to among = absurd (in_none among)
parent_ref_leads (inner ∷ []) name to among = absurd (in_none among)
parent_ref_leads (inner ∷ scope ∷ outer) name to among =
    let h = among_from (λ q. place (scope ∷ outer) q) (bodies (defining (defined.Name name) scope)) to among in
    let P : Place → Type 0 = LeadsTo (place (inner ∷ scope ∷ outer) (composed.parent_ref name)) in
    subst P h.is (to_outer_definition h.among)

start_leads : (scopes : List Clauses) (clauses : Clauses) (to : Place) → Contains (named_led (clauses ∷ scopes) defined.Start) to →
    LeadsTo (place scopes (composed.grammar clauses)) to
start_leads scopes clauses to among =
    let h = among_from (λ q. place (clauses ∷ scopes) q) (bodies (defining defined.Start clauses)) to among in
    let P : Place → Type 0 = LeadsTo (place scopes (composed.grammar clauses)) in
    subst P h.is (to_start h.among)

second : (p q : Composed) → Contains (p ∷ q ∷ []) q
second p q = in_more p (q ∷ []) q (in_first q [])

listed_leads : (p : Composed) (scopes : List Clauses) (to : Place) → Contains (led_from p scopes) to → LeadsTo (place scopes p) to
listed_leads (composed.element number class p) scopes to among = absurd (in_none among)
listed_leads (composed.attribute class p) scopes to among =
    one_leads (place scopes (composed.attribute class p)) p to (in_first p []) among
listed_leads (composed.listed p) scopes to among = one_leads (place scopes (composed.listed p)) p to (in_first p []) among
listed_leads (composed.ref name) scopes to among = ref_leads scopes name to among
listed_leads (composed.parent_ref name) scopes to among = parent_ref_leads scopes name to among
listed_leads composed.empty scopes to among = absurd (in_none among)
listed_leads composed.any_text scopes to among = absurd (in_none among)
listed_leads composed.not_allowed scopes to among = absurd (in_none among)
listed_leads (composed.value type text) scopes to among = absurd (in_none among)
listed_leads (composed.typed type params except) scopes to among =
    one_leads (place scopes (composed.typed type params except)) except to (in_first except []) among
listed_leads (composed.grammar clauses) scopes to among = start_leads scopes clauses to among
listed_leads (composed.one_or_more p) scopes to among = one_leads (place scopes (composed.one_or_more p)) p to (in_first p []) among
listed_leads (composed.choice p q) scopes to among =
    two_lead (place scopes (composed.choice p q)) p q to (in_first p (q ∷ [])) (second p q) among
listed_leads (composed.group p q) scopes to among =
    two_lead (place scopes (composed.group p q)) p q to (in_first p (q ∷ [])) (second p q) among
listed_leads (composed.interleave p q) scopes to among =
    two_lead (place scopes (composed.interleave p q)) p q to (in_first p (q ∷ [])) (second p q) among

-- ---- what leads to nothing for ever

-- whatever a place leads to comes to an end
pub data Ends : Place → Type 0 where
  ends : {at : Place} → ((to : Place) → LeadsTo at to → Ends to) → Ends at

-- a way back begins with a step, from which there is a way back, too
turned : {at to : Place} → LeadsOn at to → to ≡ at → (mid : Place) × LeadsTo at mid × LeadsOn mid mid
turned {to = to} (in_one_step led) is =
    let P : Place → Type 0 = λ from. LeadsTo from to in (to, led, in_one_step (subst P (sym is) led))
turned (in_more_steps {mid = mid} led more) is =
    let P : Place → Type 0 = λ from. LeadsTo from mid in (mid, led, leads_then more (in_one_step (subst P (sym is) led)))

pub never_back : {at : Place} → Ends at → LeadsOn at at → ⊥
never_back (ends each) back = let t = turned back refl in never_back (each t.0 t.1) t.2

-- ---- a way through a schema

module _ (whole : Composed) where
  -- so many steps from a place that stands in the schema
  data Way : ℕ → Place → Type 0 where
    begun : {at : Place} → Occurs whole at → Way 0 at
    gone_on : {n : ℕ} {from to : Place} → Way n from → LeadsTo from to → Way (suc n) to

  way_occurs : {n : ℕ} {at : Place} → Way n at → Occurs whole at
  way_occurs (begun occurs) = occurs
  way_occurs (gone_on way led) = occurs_lead led (way_occurs way)

  -- the place so many steps before
  passed : {n : ℕ} {at : Place} → Way n at → ℕ → Place
  passed {at = at} (begun occurs) i = at
  passed {at = at} (gone_on way led) zero = at
  passed (gone_on way led) (suc i) = passed way i

  passed_occurs : {n : ℕ} {at : Place} (way : Way n at) (i : ℕ) → Occurs whole (passed way i)
  unfolding passed
  passed_occurs (begun occurs) i = occurs
  passed_occurs (gone_on way led) zero = occurs_lead led (way_occurs way)
  passed_occurs (gone_on way led) (suc i) = passed_occurs way i

  passed_last : {n : ℕ} {at : Place} (way : Way n at) → passed way 0 ≡ at
  unfolding passed
  passed_last (begun occurs) = refl
  passed_last (gone_on way led) = refl

  -- an earlier one leads on to a later one
  passed_leads : {n : ℕ} {at : Place} (way : Way n at) (i j : ℕ) → i < j → j ≤ n → LeadsOn (passed way j) (passed way i)
  unfolding passed
  passed_leads (begun occurs) i j less within = absurd (omega arith)
  passed_leads (gone_on way led) i zero less within = absurd (omega arith)
  passed_leads (gone_on {to = to} way led) zero (suc zero) less within =
      let P : Place → Type 0 = λ from. LeadsTo from to in in_one_step (subst P (sym (passed_last way)) led)
  passed_leads (gone_on {to = to} way led) zero (suc (suc j)) less within =
      let P : Place → Type 0 = λ from. LeadsTo from to in
      leads_then (passed_leads way zero (suc j) (omega arith) (omega arith)) (in_one_step (subst P (sym (passed_last way)) led))
  passed_leads (gone_on way led) (suc i) (suc j) less within = passed_leads way i j (omega arith) (omega arith)

  index : {n : ℕ} {at : Place} (way : Way n at) (i : ℕ) →
      (k : ℕ) × (k < length (places [] whole)) × (slice_get (places [] whole) k ≡ Some (passed way i))
  index way i =
      let among = occurs_among (passed_occurs way i) in
      (among.0, among.1, slice_get-get_or (places [] whole) among.0 (passed way i) among.1 ∙ ap (λ x. Some x) among.2)

  -- one of more steps than there are places comes back to one
  comes_back : {n : ℕ} {at : Place} (way : Way n at) → length (places [] whole) ≤ n → Has whole LeadsBack
  comes_back way long =
      let twice = some_twice (length (places [] whole)) (λ i. (index way i).0) (λ i within. (index way i).1) in
      let late : Place = passed way twice.first in
      let early : Place = passed way twice.second in
      let within : twice.second ≤ length (places [] whole) = twice.within in
      let same : late ≡ early =
      same_Some late early (sym (index way twice.first).2 ∙ ap (slice_get (places [] whole)) twice.same ∙ (index way twice.second).2) in
      let P : Place → Type 0 = λ to. LeadsOn early to in
      record {
        scopes = early.scopes;
        pattern = early.pattern;
        occurs = passed_occurs way twice.second;
        is = subst P same (passed_leads way twice.first twice.second twice.before (omega arith));
      }

-- ---- simple forms

abbrev pub HasForm : Place → Type 0
HasForm at = (q : Form) × Simple at.scopes at.pattern q

-- a place that doesn't lead back to itself, and has a simple form
pub record Finishes (at : Place) : Type 0 where
  pub ends_there : Ends at
  pub has_form : HasForm at

abbrev pub Breaks : Composed → Type 0
Breaks whole = (why : Cause) × WholeIsBroken whole why

forms_of : (scopes : List Clauses) (ps : List Composed) → ((p : Composed) → Contains ps p → HasForm (place scopes p)) →
    (qs : List Form) × AreSimple scopes ps qs
forms_of scopes [] each = ([], none_simple)
forms_of scopes (p ∷ ps) each =
    let first = each p (in_first p ps) in
    let rest = forms_of scopes ps (λ q among. each q (in_more p ps q among)) in
    (first.0 ∷ rest.0, next_simple first.1 rest.1)

none_of : {scopes : List Clauses} {ps : List Composed} → AreSimple scopes ps [] → ps ≡ []
none_of none_simple = refl

undefined_if : (b : Bool) (name other : Defined) (combine : Combine) (p : Composed) (rest more : Clauses) →
    (bodies rest ≡ [] → defines name more ≡ false) → bodies (if b then clause_then other combine p rest else rest) ≡ [] →
    (if b then true else defines name more) ≡ false
undefined_if true name other combine p rest more further none = let never : ⊥ = cc in absurd never
undefined_if false name other combine p rest more further none = further none

-- what has no definition isn't defined
undefined_by : (name : Defined) (clauses : Clauses) → bodies (defining name clauses) ≡ [] → defines name clauses ≡ false
undefined_by name end_of_clauses none = refl
undefined_by name (clause_then other combine p more) none =
    undefined_if (same_defined name other) name other combine p (defining name more) more (undefined_by name more) none

abbrev DefinesOr : Clauses → List Clauses → Defined → Type 0
DefinesOr scope outer name = ((q : Form) × Defines scope outer name q) ⊎ (defines name scope ≡ false)

defines_with : (scope : Clauses) (outer : List Clauses) (name : Defined) (qs : List Form) →
    AreSimple (scope ∷ outer) (bodies (defining name scope)) qs → DefinesOr scope outer name
defines_with scope outer name [] are = inr (undefined_by name scope (none_of are))
defines_with scope outer name (first ∷ more) are =
    inl (joined (combined_by (combine_of (combines (defining name scope)))) first more, combined_in_order are refl)

defines_or : (scope : Clauses) (outer : List Clauses) (name : Defined) →
    ((to : Place) → Contains (named_led (scope ∷ outer) name) to → HasForm to) → DefinesOr scope outer name
defines_or scope outer name each =
    let forms = forms_of (scope ∷ outer) (bodies (defining name scope)) (λ p among.
    each (place (scope ∷ outer) p) (among_map (λ q. place (scope ∷ outer) q) (bodies (defining name scope)) p among)) in
    defines_with scope outer name forms.0 forms.1

module _ (whole : Composed) where
  ref_form : (scopes : List Clauses) (name : List ℕ) → Occurs whole (place scopes (composed.ref name)) →
      ((to : Place) → Contains (named_led scopes (defined.Name name)) to → HasForm to) →
      HasForm (place scopes (composed.ref name)) ⊎ Breaks whole
  ref_form [] name occurs each =
      inr (cause.NoDefinition, record { scopes = []; pattern = composed.ref name; occurs = occurs; is = tt })
  ref_form (scope ∷ outer) name occurs each = elim (defines_or scope outer (defined.Name name) each) [
    | inl named ↦ inl (named.0, simple_ref named.1)
    | inr none ↦
        inr (cause.NoDefinition, record { scopes = scope ∷ outer; pattern = composed.ref name; occurs = occurs; is = none })
  ]

  parent_ref_form : (scopes : List Clauses) (name : List ℕ) → Occurs whole (place scopes (composed.parent_ref name)) →
      ((to : Place) → Contains (outer_led scopes (defined.Name name)) to → HasForm to) →
      HasForm (place scopes (composed.parent_ref name)) ⊎ Breaks whole
  parent_ref_form [] name occurs each =
      inr (cause.NoDefinition, record { scopes = []; pattern = composed.parent_ref name; occurs = occurs; is = tt })
  parent_ref_form (inner ∷ []) name occurs each =
      inr (cause.NoDefinition, record { scopes = inner ∷ []; pattern = composed.parent_ref name; occurs = occurs; is = tt })
  parent_ref_form (inner ∷ scope ∷ outer) name occurs each = elim (defines_or scope outer (defined.Name name) each) [
    | inl named ↦ inl (named.0, simple_parent_ref named.1)
    | inr none ↦ inr (
      cause.NoDefinition,
      record {
        scopes = inner ∷ scope ∷ outer;
        pattern = composed.parent_ref name;
        occurs = occurs;
        is = none;
      },
    )
  ]

  grammar_form : (scopes : List Clauses) (clauses : Clauses) → Occurs whole (place scopes (composed.grammar clauses)) →
      ((to : Place) → Contains (named_led (clauses ∷ scopes) defined.Start) to → HasForm to) →
      HasForm (place scopes (composed.grammar clauses)) ⊎ Breaks whole
  grammar_form scopes clauses occurs each = elim (defines_or clauses scopes defined.Start each) [
    | inl named ↦ inl (named.0, simple_grammar named.1)
    | inr none ↦ inr (cause.NoStart, record { scopes = scopes; pattern = composed.grammar clauses; occurs = occurs; is = none })
  ]

  type_form : (scopes : List Clauses) (type : TypeName) (params : List Param) (except : Composed) →
      Occurs whole (place scopes (composed.typed type params except)) → (q : Form) → Simple scopes except q →
      (values : Option (List Value)) → values_of q ≡ values → HasForm (place scopes (composed.typed type params except)) ⊎ Breaks whole
  type_form scopes type params except occurs q simple (Some values) are = inl (form.typed type params values, simple_type simple are)
  type_form scopes type params except occurs q simple None none = inr (
    cause.UnsupportedExcept,
    record {
      scopes = scopes;
      pattern = composed.typed type params except;
      occurs = occurs;
      is = (q, simple, inl none);
    },
  )

  -- a pattern has a simple form where all to which it leads has one, or the schema is broken
  form_by : (p : Composed) (scopes : List Clauses) → Occurs whole (place scopes p) →
      ((to : Place) → Contains (led_from p scopes) to → HasForm to) → HasForm (place scopes p) ⊎ Breaks whole
  form_by (composed.element number class p) scopes occurs each = inl (form.ref number, simple_element)
  form_by (composed.attribute class p) scopes occurs each =
      let h = each (place scopes p) (in_first (place scopes p) []) in inl (attribute_of class h.0, simple_attribute h.1)
  form_by (composed.listed p) scopes occurs each =
      let h = each (place scopes p) (in_first (place scopes p) []) in inl (list_of h.0, simple_list h.1)
  form_by (composed.ref name) scopes occurs each = ref_form scopes name occurs each
  form_by (composed.parent_ref name) scopes occurs each = parent_ref_form scopes name occurs each
  form_by composed.empty scopes occurs each = inl (form.empty, simple_empty)
  form_by composed.any_text scopes occurs each = inl (form.any_text, simple_text)
  form_by composed.not_allowed scopes occurs each = inl (form.not_allowed, simple_not_allowed)
  form_by (composed.value type text) scopes occurs each = inl (form.value (record { type = type; text = text }), simple_value)
  form_by (composed.typed type params except) scopes occurs each =
      let h = each (place scopes except) (in_first (place scopes except) []) in
      type_form scopes type params except occurs h.0 h.1 (values_of h.0) refl
  form_by (composed.grammar clauses) scopes occurs each = grammar_form scopes clauses occurs each
  form_by (composed.one_or_more p) scopes occurs each =
      let h = each (place scopes p) (in_first (place scopes p) []) in inl (one_or_more_of h.0, simple_one_or_more h.1)
  form_by (composed.choice p q) scopes occurs each =
      let h = each (place scopes p) (in_first (place scopes p) (place scopes q ∷ [])) in
      let k = each (place scopes q) (in_more (place scopes p) (place scopes q ∷ []) (place scopes q) (in_first (place scopes q) [])) in
      inl (choice_of h.0 k.0, simple_choice h.1 k.1)
  form_by (composed.group p q) scopes occurs each =
      let h = each (place scopes p) (in_first (place scopes p) (place scopes q ∷ [])) in
      let k = each (place scopes q) (in_more (place scopes p) (place scopes q ∷ []) (place scopes q) (in_first (place scopes q) [])) in
      inl (group_of h.0 k.0, simple_group h.1 k.1)
  form_by (composed.interleave p q) scopes occurs each =
      let h = each (place scopes p) (in_first (place scopes p) (place scopes q ∷ [])) in
      let k = each (place scopes q) (in_more (place scopes p) (place scopes q ∷ []) (place scopes q) (in_first (place scopes q) [])) in
      inl (interleave_of h.0 k.0, simple_interleave h.1 k.1)

  finishes : (fuel n : ℕ) (at : Place) → Way whole n at → fuel + n ≡ length (places [] whole) → Finishes at ⊎ Breaks whole
  finishes zero n at way is = inr (cause.RefLoop, comes_back whole way (omega (arith, is)))
  finishes (suc fuel) n at way is =
      elim (all_or (Breaks whole) Finishes (led_from at.pattern at.scopes) (λ to among.
      finishes fuel (suc n) to (gone_on way (listed_leads at.pattern at.scopes to among)) (omega (arith, is)))) [
        | inr broken ↦ inr broken
        | inl all ↦ elim (form_by at.pattern at.scopes (way_occurs whole way) (λ to among. (all to among).has_form)) [
          | inr broken ↦ inr broken
          | inl has ↦ inl (record { ends_there = ends (λ to led. (all to (led_listed led)).ends_there); has_form = has })
        ]
      ]

  -- so it is with all that stands in the schema
  pub all_finish : ((at : Place) → Occurs whole at → Finishes at) ⊎ Breaks whole
  all_finish = elim (all_or (Breaks whole) Finishes (places [] whole) (λ at among.
      finishes (length (places [] whole)) 0 at (begun (place_occurs whole at among)) (omega arith))) [
        | inr broken ↦ inr broken
        | inl all ↦ inl (λ at occurs. all at (occurs_among occurs))
      ]
