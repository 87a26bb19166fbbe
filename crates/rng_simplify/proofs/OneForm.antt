-- A pattern has one simple form, and so has a schema in one piece.
use Rattle.std.proofs.Common.{◌≡◌, refl, sym, ap, ◌∙◌, subst, ℕ, ◌<◌, inl, inr, List, [], ◌∷◌, length, get_or, Some, Contains, arith}
use Rattle.std.proofs.lemmas.Bool.{cases_lt}
use Rattle.std.proofs.lemmas.List.{ext_get_or}
use Rattle.std.proofs.lemmas.List.Elements.{Contains-append_cases}
use Rattle.std.proofs.lemmas.Option.{same_Some, get_or_from_slice_get}
use Rattle.rnc_parse.specs.declared.surface.Defined.{Defined}
use Rattle.rnc_parse.specs.declared.surface.Defined.TheVariants as defined
use Rattle.rng_core.specs.Names.{Class, any_name}
use Rattle.rng_simplify.specs.Composed.{Composed, Clauses, end_of_clauses, clause_then, defining, combines, bodies, numbers, numbers_in}
use Rattle.rng_simplify.specs.Composed as composed
use Rattle.rng_simplify.specs.Forms.{Form, FormDefinition, Value, list_of, attribute_of, one_or_more_of, choice_of, group_of, interleave_of, combine_of, values_of}
use Rattle.rng_simplify.specs.Forms as form
use Rattle.rng_simplify.specs.NodeForms.{bodies_form}
use Rattle.rng_simplify.specs.Places.{place, Occurs, the_whole, further_in, a_part, a_content, a_definition}
use Rattle.rng_simplify.specs.Simple.{Simple, Defines, AreSimple, simple_element, simple_attribute, simple_list, simple_empty, simple_text, simple_not_allowed, simple_value, simple_type, simple_one_or_more, simple_choice, simple_group, simple_interleave, simple_grammar, simple_ref, simple_parent_ref, combined_in_order, none_simple, next_simple}
use Rattle.rng_simplify.specs.Whole.{IsForm}
use Rattle.rng_simplify.proofs.Nodes.{in_none, in_cases, in_first, in_more}

-- ---- what a simple form is, by the pattern

abbrev RefBy : List Clauses → List ℕ → Form → Type 0
RefBy [] name q = ⊥
RefBy (scope ∷ outer) name q = Defines scope outer (defined.Name name) q

abbrev ParentRefBy : List Clauses → List ℕ → Form → Type 0
ParentRefBy [] name q = ⊥
ParentRefBy (inner ∷ scopes) name q = RefBy scopes name q

abbrev BothBy : List Clauses → Composed → Composed → (Form → Form → Form) → Form → Type 0
BothBy scopes p1 p2 by q = (q1 : Form) × (q2 : Form) × Simple scopes p1 q1 × Simple scopes p2 q2 × (q ≡ by q1 q2)

abbrev SimpleBy : Composed → List Clauses → Form → Type 0
SimpleBy (composed.element number class p) scopes q = q ≡ form.ref number
SimpleBy (composed.attribute class p) scopes q = (r : Form) × Simple scopes p r × (q ≡ attribute_of class r)
SimpleBy (composed.listed p) scopes q = (r : Form) × Simple scopes p r × (q ≡ list_of r)
SimpleBy (composed.ref name) scopes q = RefBy scopes name q
SimpleBy (composed.parent_ref name) scopes q = ParentRefBy scopes name q
SimpleBy composed.empty scopes q = q ≡ form.empty
SimpleBy composed.any_text scopes q = q ≡ form.any_text
SimpleBy composed.not_allowed scopes q = q ≡ form.not_allowed
SimpleBy (composed.value type text) scopes q = q ≡ form.value (record { type = type; text = text })
SimpleBy (composed.typed type params except) scopes q =
    (r : Form) × (values : List Value) × Simple scopes except r × (values_of r ≡ Some values) × (q ≡ form.typed type params values)
SimpleBy (composed.grammar clauses) scopes q = Defines clauses scopes defined.Start q
SimpleBy (composed.one_or_more p) scopes q = (r : Form) × Simple scopes p r × (q ≡ one_or_more_of r)
SimpleBy (composed.choice p1 p2) scopes q = BothBy scopes p1 p2 choice_of q
SimpleBy (composed.group p1 p2) scopes q = BothBy scopes p1 p2 group_of q
SimpleBy (composed.interleave p1 p2) scopes q = BothBy scopes p1 p2 interleave_of q

simple_by : {scopes : List Clauses} {p : Composed} {q : Form} → Simple scopes p q → SimpleBy p scopes q
simple_by simple_element = refl
simple_by (simple_attribute part) = (_, part, refl)
simple_by (simple_list part) = (_, part, refl)
simple_by simple_empty = refl
simple_by simple_text = refl
simple_by simple_not_allowed = refl
simple_by simple_value = refl
simple_by (simple_type part values) = (_, _, part, values, refl)
simple_by (simple_one_or_more part) = (_, part, refl)
simple_by (simple_choice one other) = (_, _, one, other, refl)
simple_by (simple_group one other) = (_, _, one, other, refl)
simple_by (simple_interleave one other) = (_, _, one, other, refl)
simple_by (simple_grammar start) = start
simple_by (simple_ref named) = named
simple_by (simple_parent_ref named) = named

-- what a name stands for is its definitions' forms, joined
abbrev DefinesBy : Clauses → List Clauses → Defined → Form → Type 0
DefinesBy scope outer name q =
    (first : Form) × (more : List Form) × AreSimple (scope ∷ outer) (bodies (defining name scope)) (first ∷ more)
    × (q ≡ bodies_form (combine_of (combines (defining name scope))) (first ∷ more))

defines_by : {scope : Clauses} {outer : List Clauses} {name : Defined} {q : Form} → Defines scope outer name q →
    DefinesBy scope outer name q
defines_by (combined_in_order are is) = (_, _, are, is)

abbrev AreSimpleBy : List Composed → List Clauses → List Form → Type 0
AreSimpleBy [] scopes qs = qs ≡ []
AreSimpleBy (p ∷ ps) scopes qs =
    (first : Form) × (more : List Form) × Simple scopes p first × AreSimple scopes ps more × (qs ≡ first ∷ more)

are_simple_by : {scopes : List Clauses} {ps : List Composed} {qs : List Form} → AreSimple scopes ps qs → AreSimpleBy ps scopes qs
are_simple_by none_simple = refl
are_simple_by (next_simple one more) = (_, _, one, more, refl)

-- ---- there is one

mutual
  pub simple_one : {scopes : List Clauses} {p : Composed} {q r : Form} → Simple scopes p q → Simple scopes p r → q ≡ r
  simple_one simple_element again = sym (simple_by again)
  simple_one (simple_attribute {class = class} part) again =
      let h = simple_by again in ap (attribute_of class) (simple_one part h.1) ∙ sym h.2
  simple_one (simple_list part) again = let h = simple_by again in ap list_of (simple_one part h.1) ∙ sym h.2
  simple_one simple_empty again = sym (simple_by again)
  simple_one simple_text again = sym (simple_by again)
  simple_one simple_not_allowed again = sym (simple_by again)
  simple_one simple_value again = sym (simple_by again)
  simple_one (simple_type {type = type} {params = params} {values = values} part are) again =
      let h = simple_by again in
      let same : values ≡ h.1 = same_Some values h.1 (sym are ∙ ap values_of (simple_one part h.2) ∙ h.3) in
      ap (form.typed type params) same ∙ sym h.4
  simple_one (simple_one_or_more part) again = let h = simple_by again in ap one_or_more_of (simple_one part h.1) ∙ sym h.2
  simple_one (simple_choice {q2 = second} one other) again =
      let h = simple_by again in
      ap (λ f. choice_of f second) (simple_one one h.2) ∙ ap (choice_of h.0) (simple_one other h.3) ∙ sym h.4
  simple_one (simple_group {q2 = second} one other) again =
      let h = simple_by again in
      ap (λ f. group_of f second) (simple_one one h.2) ∙ ap (group_of h.0) (simple_one other h.3) ∙ sym h.4
  simple_one (simple_interleave {q2 = second} one other) again =
      let h = simple_by again in
      ap (λ f. interleave_of f second) (simple_one one h.2) ∙ ap (interleave_of h.0) (simple_one other h.3) ∙ sym h.4
  simple_one (simple_grammar start) again = defines_one start (simple_by again)
  simple_one (simple_ref named) again = defines_one named (simple_by again)
  simple_one (simple_parent_ref named) again = defines_one named (simple_by again)

  defines_one : {scope : Clauses} {outer : List Clauses} {name : Defined} {q r : Form} → Defines scope outer name q →
      Defines scope outer name r → q ≡ r
  defines_one (combined_in_order {scope = scope} {name = name} are is) again =
      let h = defines_by again in
      is ∙ ap (bodies_form (combine_of (combines (defining name scope)))) (are_simple_one are h.2) ∙ sym h.3

  are_simple_one : {scopes : List Clauses} {ps : List Composed} {qs rs : List Form} → AreSimple scopes ps qs → AreSimple scopes ps rs →
      qs ≡ rs
  are_simple_one none_simple again = sym (are_simple_by again)
  are_simple_one (next_simple {qs = qs} one more) again =
      let h = are_simple_by again in
      ap (λ f. f ∷ qs) (simple_one one h.2) ∙ ap (λ fs. h.0 ∷ fs) (are_simple_one more h.3) ∙ sym h.4

-- ---- elements by their numbers

-- an element of this number stands in the schema
pub record IsElementOf (whole : Composed) (n : ℕ) : Type 0 where
  pub scopes : List Clauses
  pub class : Class
  pub pattern : Composed
  pub occurs : Occurs whole (place scopes (composed.element n class pattern))

mutual
  pub number_occurs : (whole : Composed) (scopes : List Clauses) (p : Composed) (n : ℕ) → Occurs whole (place scopes p) →
      Contains (numbers p) n → IsElementOf whole n
  number_occurs whole scopes (composed.element number class p) n occurs among =
      elim (in_cases number (numbers p) n among) [
        | inl is ↦ let P : ℕ → Type 0 = λ m. Occurs whole (place scopes (composed.element m class p)) in
            record { scopes = scopes; class = class; pattern = p; occurs = subst P is occurs }
        | inr more ↦ number_occurs whole scopes p n (further_in occurs a_content) more
      ]
  number_occurs whole scopes (composed.attribute class p) n occurs among =
      number_occurs whole scopes p n (further_in occurs (a_part (in_first p []))) among
  number_occurs whole scopes (composed.listed p) n occurs among =
      number_occurs whole scopes p n (further_in occurs (a_part (in_first p []))) among
  number_occurs whole scopes (composed.ref name) n occurs among = absurd (in_none among)
  number_occurs whole scopes (composed.parent_ref name) n occurs among = absurd (in_none among)
  number_occurs whole scopes composed.empty n occurs among = absurd (in_none among)
  number_occurs whole scopes composed.any_text n occurs among = absurd (in_none among)
  number_occurs whole scopes composed.not_allowed n occurs among = absurd (in_none among)
  number_occurs whole scopes (composed.value type text) n occurs among = absurd (in_none among)
  number_occurs whole scopes (composed.typed type params except) n occurs among =
      number_occurs whole scopes except n (further_in occurs (a_part (in_first except []))) among
  number_occurs whole scopes (composed.grammar clauses) n occurs among =
      number_occurs_in whole scopes clauses clauses n occurs (λ q within. within) among
  number_occurs whole scopes (composed.one_or_more p) n occurs among =
      number_occurs whole scopes p n (further_in occurs (a_part (in_first p []))) among
  number_occurs whole scopes (composed.choice p q) n occurs among =
      elim (Contains-append_cases (numbers p) (numbers q) n among) [
        | inl first ↦ number_occurs whole scopes p n (further_in occurs (a_part (in_first p (q ∷ [])))) first
        | inr second ↦ number_occurs whole scopes q n (further_in occurs (a_part (in_more p (q ∷ []) q (in_first q [])))) second
      ]
  number_occurs whole scopes (composed.group p q) n occurs among =
      elim (Contains-append_cases (numbers p) (numbers q) n among) [
        | inl first ↦ number_occurs whole scopes p n (further_in occurs (a_part (in_first p (q ∷ [])))) first
        | inr second ↦ number_occurs whole scopes q n (further_in occurs (a_part (in_more p (q ∷ []) q (in_first q [])))) second
      ]
  number_occurs whole scopes (composed.interleave p q) n occurs among =
      elim (Contains-append_cases (numbers p) (numbers q) n among) [
        | inl first ↦ number_occurs whole scopes p n (further_in occurs (a_part (in_first p (q ∷ [])))) first
        | inr second ↦ number_occurs whole scopes q n (further_in occurs (a_part (in_more p (q ∷ []) q (in_first q [])))) second
      ]

  number_occurs_in : (whole : Composed) (scopes : List Clauses) (all clauses : Clauses) (n : ℕ) →
      Occurs whole (place scopes (composed.grammar all)) → ((q : Composed) → Contains (bodies clauses) q → Contains (bodies all) q) →
      Contains (numbers_in clauses) n → IsElementOf whole n
  number_occurs_in whole scopes all end_of_clauses n occurs within among = absurd (in_none among)
  number_occurs_in whole scopes all (clause_then name combine p more) n occurs within among =
      elim (Contains-append_cases (numbers p) (numbers_in more) n among) [
        | inl first ↦ number_occurs whole (all ∷ scopes) p n (further_in occurs (a_definition (within p (in_first p (bodies more))))) first
        | inr others ↦ number_occurs_in whole scopes all more n occurs (λ q there. within q (in_more p (bodies more) q there)) others
      ]

-- ---- a schema in one piece has one simple form

abbrev no_definition : FormDefinition
no_definition = record { class = any_name; content = form.empty }

module _ (whole : Composed) (start : Form) (definitions : List FormDefinition) (is : IsForm whole start definitions) (other : Form)
    (others : List FormDefinition) (also : IsForm whole other others) where
  pub start_same : start ≡ other
  start_same = simple_one is.start_is also.start_is

  same_length : length definitions ≡ length others
  same_length =
      elim (cases_lt (length definitions) (length others)) [
        | inl less ↦
            let among = (also.each_number (length definitions)).1 less in
            let again = (is.each_number (length definitions)).0 among in
            omega arith
        | inr more ↦ elim (cases_lt (length others) (length definitions)) [
          | inl less ↦
              let among = (is.each_number (length others)).1 less in
              let again = (also.each_number (length others)).0 among in
              omega arith
          | inr least ↦ omega arith
        ]
      ]

  same_definition : (n : ℕ) → n < length definitions → get_or definitions n no_definition ≡ get_or others n no_definition
  same_definition n below =
      let e = number_occurs whole [] whole n the_whole ((is.each_number n).1 below) in
      let one = is.each_element e.scopes n e.class e.pattern e.occurs in
      let two = also.each_element e.scopes n e.class e.pattern e.occurs in
      get_or_from_slice_get definitions n (record { class = e.class; content = one.content }) no_definition one.there
      ∙ ap (λ (q : Form). record { class = e.class; content = q }) (simple_one one.simple two.simple)
      ∙ sym (get_or_from_slice_get others n (record { class = e.class; content = two.content }) no_definition two.there)

  pub definitions_same : definitions ≡ others
  definitions_same = ext_get_or no_definition definitions others same_length same_definition
