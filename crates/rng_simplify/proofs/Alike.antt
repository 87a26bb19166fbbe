-- Simple forms of a schema in one piece are the same whatever numbers its elements have, but for those numbers.
use Rattle.std.proofs.Common.{◌≡◌, refl, sym, ap, ◌∙◌, subst, ℕ, Bool, true, false, List, [], ◌∷◌, ◌++◌, map}
use Rattle.std.specs.Prelude.{if◌then◌else◌}
use Rattle.std.specs.Option.{option_map, option_and_then}
use Rattle.rnc_parse.specs.declared.surface.Combine.{Combine}
use Rattle.rnc_parse.specs.declared.surface.Combine.TheVariants as combine
use Rattle.rnc_parse.specs.declared.surface.Defined.{Defined}
use Rattle.rnc_parse.specs.Written.{joined}
use Rattle.rng_core.specs.Names.{Class}
use Rattle.rng_simplify.specs.Composed.{Composed, Clauses, end_of_clauses, clause_then, same_defined, defining, combines, bodies}
use Rattle.rng_simplify.specs.Composed as composed
use Rattle.rng_simplify.specs.Forms.{Form, Value, list_of, attribute_of, one_or_more_of, choice_of, group_of, interleave_of, combine_of, combined_by, values_of}
use Rattle.rng_simplify.specs.Forms as form
use Rattle.rng_simplify.specs.Places.{parts}
use Rattle.rng_simplify.specs.Simple.{Simple, Defines, AreSimple, simple_element, simple_attribute, simple_list, simple_empty, simple_text, simple_not_allowed, simple_value, simple_type, simple_one_or_more, simple_choice, simple_group, simple_interleave, simple_grammar, simple_ref, simple_parent_ref, combined_in_order, none_simple, next_simple}
use Rattle.rng_simplify.specs.Unnumbered.{unnumbered, unnumbered_in}

-- ---- forms without numbers

abbrev pub plain : Form → Form
plain form.not_allowed = form.not_allowed
plain form.empty = form.empty
plain form.any_text = form.any_text
plain (form.value v) = form.value v
plain (form.typed type params values) = form.typed type params values
plain (form.listed p) = form.listed (plain p)
plain (form.attribute class p) = form.attribute class (plain p)
plain (form.ref number) = form.ref 0
plain (form.one_or_more p) = form.one_or_more (plain p)
plain (form.choice p q) = form.choice (plain p) (plain q)
plain (form.group p q) = form.group (plain p) (plain q)
plain (form.interleave p q) = form.interleave (plain p) (plain q)

list_plain : (p : Form) → plain (list_of p) ≡ list_of (plain p)
list_plain form.not_allowed = refl
list_plain p = refl

attribute_plain : (class : Class) (p : Form) → plain (attribute_of class p) ≡ attribute_of class (plain p)
attribute_plain class form.not_allowed = refl
attribute_plain class p = refl

one_or_more_plain : (p : Form) → plain (one_or_more_of p) ≡ one_or_more_of (plain p)
one_or_more_plain form.not_allowed = refl
one_or_more_plain form.empty = refl
one_or_more_plain p = refl

choice_plain : (p q : Form) → plain (choice_of p q) ≡ choice_of (plain p) (plain q)
choice_plain form.not_allowed q = refl
choice_plain p form.not_allowed = refl
choice_plain form.empty form.empty = refl
choice_plain p form.empty = refl
choice_plain p q = refl

group_plain : (p q : Form) → plain (group_of p q) ≡ group_of (plain p) (plain q)
group_plain form.not_allowed q = refl
group_plain p form.not_allowed = refl
group_plain form.empty q = refl
group_plain p form.empty = refl
group_plain p q = refl

interleave_plain : (p q : Form) → plain (interleave_of p q) ≡ interleave_of (plain p) (plain q)
interleave_plain form.not_allowed q = refl
interleave_plain p form.not_allowed = refl
interleave_plain form.empty q = refl
interleave_plain p form.empty = refl
interleave_plain p q = refl

combined_plain : (c : Combine) (p q : Form) → plain (combined_by c p q) ≡ combined_by c (plain p) (plain q)
combined_plain combine.Alone p q = choice_plain p q
combined_plain combine.Choice p q = choice_plain p q
combined_plain combine.Interleave p q = interleave_plain p q

joined_plain : (c : Combine) (first : Form) (more : List Form) →
    plain (joined (combined_by c) first more) ≡ joined (combined_by c) (plain first) (map plain more)
joined_plain c first [] = refl
joined_plain c first (next ∷ more) =
    joined_plain c (combined_by c first next) more ∙ ap (λ p. joined (combined_by c) p (map plain more)) (combined_plain c first next)

values_plain : (p : Form) → values_of (plain p) ≡ values_of p
values_plain form.not_allowed = refl
values_plain form.empty = refl
values_plain form.any_text = refl
values_plain (form.value v) = refl
values_plain (form.typed type params values) = refl
values_plain (form.listed p) = refl
values_plain (form.attribute class p) = refl
values_plain (form.ref number) = refl
values_plain (form.one_or_more p) = refl
values_plain (form.choice p q) =
    ap (λ v. option_and_then (λ first. option_map (λ second. first ++ second) (values_of (plain q))) v) (values_plain p)
    ∙ ap (λ v. option_and_then (λ first. option_map (λ second. first ++ second) v) (values_of p)) (values_plain q)
values_plain (form.group p q) = refl
values_plain (form.interleave p q) = refl

-- forms that are the same but for numbers have the same values
pub values_same : (p q : Form) → plain p ≡ plain q → values_of p ≡ values_of q
values_same p q same = sym (values_plain p) ∙ ap values_of same ∙ values_plain q

-- ---- patterns by what they are without numbers

abbrev NumberedBy : Composed → Composed → Type 0
NumberedBy (composed.element number class r) p = (m : ℕ) × (q : Composed) × (p ≡ composed.element m class q) × (unnumbered q ≡ r)
NumberedBy (composed.attribute class r) p = (q : Composed) × (p ≡ composed.attribute class q) × (unnumbered q ≡ r)
NumberedBy (composed.listed r) p = (q : Composed) × (p ≡ composed.listed q) × (unnumbered q ≡ r)
NumberedBy (composed.ref name) p = p ≡ composed.ref name
NumberedBy (composed.parent_ref name) p = p ≡ composed.parent_ref name
NumberedBy composed.empty p = p ≡ composed.empty
NumberedBy composed.any_text p = p ≡ composed.any_text
NumberedBy composed.not_allowed p = p ≡ composed.not_allowed
NumberedBy (composed.value type text) p = p ≡ composed.value type text
NumberedBy (composed.typed type params r) p = (q : Composed) × (p ≡ composed.typed type params q) × (unnumbered q ≡ r)
NumberedBy (composed.grammar clauses) p = (all : Clauses) × (p ≡ composed.grammar all) × (unnumbered_in all ≡ clauses)
NumberedBy (composed.one_or_more r) p = (q : Composed) × (p ≡ composed.one_or_more q) × (unnumbered q ≡ r)
NumberedBy (composed.choice r1 r2) p =
    (q1 : Composed) × (q2 : Composed) × (p ≡ composed.choice q1 q2) × (unnumbered q1 ≡ r1) × (unnumbered q2 ≡ r2)
NumberedBy (composed.group r1 r2) p =
    (q1 : Composed) × (q2 : Composed) × (p ≡ composed.group q1 q2) × (unnumbered q1 ≡ r1) × (unnumbered q2 ≡ r2)
NumberedBy (composed.interleave r1 r2) p =
    (q1 : Composed) × (q2 : Composed) × (p ≡ composed.interleave q1 q2) × (unnumbered q1 ≡ r1) × (unnumbered q2 ≡ r2)

numbered_by : (p : Composed) → NumberedBy (unnumbered p) p
numbered_by (composed.element number class p) = (number, p, refl, refl)
numbered_by (composed.attribute class p) = (p, refl, refl)
numbered_by (composed.listed p) = (p, refl, refl)
numbered_by (composed.ref name) = refl
numbered_by (composed.parent_ref name) = refl
numbered_by composed.empty = refl
numbered_by composed.any_text = refl
numbered_by composed.not_allowed = refl
numbered_by (composed.value type text) = refl
numbered_by (composed.typed type params p) = (p, refl, refl)
numbered_by (composed.grammar clauses) = (clauses, refl, refl)
numbered_by (composed.one_or_more p) = (p, refl, refl)
numbered_by (composed.choice p q) = (p, q, refl, refl, refl)
numbered_by (composed.group p q) = (p, q, refl, refl, refl)
numbered_by (composed.interleave p q) = (p, q, refl, refl, refl)

-- a pattern that is the same but for numbers
pub alike_by : (p other : Composed) → unnumbered p ≡ unnumbered other → NumberedBy (unnumbered p) other
alike_by p other same = let P : Composed → Type 0 = λ r. NumberedBy r other in subst P (sym same) (numbered_by other)

-- grammars that are the same but for numbers
pub record IsAlikeScope (scope : Clauses) (outer others : List Clauses) : Type 0 where
  pub other : Clauses
  pub rest : List Clauses
  pub is : others ≡ other ∷ rest
  pub scope_same : unnumbered_in scope ≡ unnumbered_in other
  pub outer_same : map unnumbered_in outer ≡ map unnumbered_in rest

pub alike_scope : (scope : Clauses) (outer others : List Clauses) → map unnumbered_in (scope ∷ outer) ≡ map unnumbered_in others →
    IsAlikeScope scope outer others
alike_scope scope outer [] same = let never : ⊥ = cc in absurd never
alike_scope scope outer (other ∷ rest) same = record { other = other; rest = rest; is = refl; scope_same = cc; outer_same = cc }

-- the parts of a pattern without numbers
pub parts_unnumbered : (p : Composed) → parts (unnumbered p) ≡ map unnumbered (parts p)
parts_unnumbered (composed.element number class p) = refl
parts_unnumbered (composed.attribute class p) = refl
parts_unnumbered (composed.listed p) = refl
parts_unnumbered (composed.ref name) = refl
parts_unnumbered (composed.parent_ref name) = refl
parts_unnumbered composed.empty = refl
parts_unnumbered composed.any_text = refl
parts_unnumbered composed.not_allowed = refl
parts_unnumbered (composed.value type text) = refl
parts_unnumbered (composed.typed type params except) = refl
parts_unnumbered (composed.grammar clauses) = refl
parts_unnumbered (composed.one_or_more p) = refl
parts_unnumbered (composed.choice p q) = refl
parts_unnumbered (composed.group p q) = refl
parts_unnumbered (composed.interleave p q) = refl

-- ---- definitions of a name

defining_if : (b : Bool) (name : Defined) (c : Combine) (p : Composed) (rest more : Clauses) → unnumbered_in rest ≡ more →
    unnumbered_in (if b then clause_then name c p rest else rest) ≡ (if b then clause_then name c (unnumbered p) more else more)
defining_if true name c p rest more same = ap (clause_then name c (unnumbered p)) same
defining_if false name c p rest more same = same

defining_unnumbered : (name : Defined) (clauses : Clauses) → unnumbered_in (defining name clauses) ≡ defining name (unnumbered_in clauses)
defining_unnumbered name end_of_clauses = refl
defining_unnumbered name (clause_then other c p more) = defining_if (same_defined name other) other c p (defining name more)
    (defining name (unnumbered_in more)) (defining_unnumbered name more)

combines_plain : (clauses : Clauses) → combines (unnumbered_in clauses) ≡ combines clauses
combines_plain end_of_clauses = refl
combines_plain (clause_then name c p more) = ap (λ cs. c ∷ cs) (combines_plain more)

bodies_plain : (clauses : Clauses) → bodies (unnumbered_in clauses) ≡ map unnumbered (bodies clauses)
bodies_plain end_of_clauses = refl
bodies_plain (clause_then name c p more) = ap (λ ps. unnumbered p ∷ ps) (bodies_plain more)

defining_same : (name : Defined) (scope other : Clauses) → unnumbered_in scope ≡ unnumbered_in other →
    unnumbered_in (defining name scope) ≡ unnumbered_in (defining name other)
defining_same name scope other same = defining_unnumbered name scope ∙ ap (defining name) same ∙ sym (defining_unnumbered name other)

pub bodies_same : (name : Defined) (scope other : Clauses) → unnumbered_in scope ≡ unnumbered_in other →
    map unnumbered (bodies (defining name scope)) ≡ map unnumbered (bodies (defining name other))
bodies_same name scope other same =
    sym (bodies_plain (defining name scope)) ∙ ap bodies (defining_same name scope other same) ∙ bodies_plain (defining name other)

combines_same : (name : Defined) (scope other : Clauses) → unnumbered_in scope ≡ unnumbered_in other →
    combines (defining name scope) ≡ combines (defining name other)
combines_same name scope other same =
    sym (combines_plain (defining name scope)) ∙ ap combines (defining_same name scope other same) ∙ combines_plain (defining name other)

-- ---- simple forms

-- a simple form that is the same but for numbers
pub record HasAlike (scopes : List Clauses) (p : Composed) (q : Form) : Type 0 where
  pub form : Form
  pub simple : Simple scopes p form
  pub same : plain q ≡ plain form

record DefinesAlike (scope : Clauses) (outer : List Clauses) (name : Defined) (q : Form) : Type 0 where
  form : Form
  defines : Defines scope outer name form
  same : plain q ≡ plain form

record HaveAlike (scopes : List Clauses) (ps : List Composed) (qs : List Form) : Type 0 where
  forms : List Form
  simple : AreSimple scopes ps forms
  same : map plain qs ≡ map plain forms

-- of a pattern that is this one
of_this : {scopes : List Clauses} {q : Form} (p other : Composed) → other ≡ p → HasAlike scopes p q → HasAlike scopes other q
of_this {scopes = scopes} {q = q} p other is h = let P : Composed → Type 0 = λ r. HasAlike scopes r q in subst P (sym is) h

both_alike : (by : Form → Form → Form) → ((p q : Form) → plain (by p q) ≡ by (plain p) (plain q)) → (p q r s : Form) → plain p ≡ plain r →
    plain q ≡ plain s → plain (by p q) ≡ plain (by r s)
both_alike by commutes p q r s one other = commutes p q ∙ ap (λ f. by f (plain q)) one ∙ ap (by (plain r)) other ∙ sym (commutes r s)

-- definitions of as many patterns
defines_of : (scope : Clauses) (outer : List Clauses) (name : Defined) (c : Combine) (first : Form) (more : List Form) (q : Form)
    (forms : List Form) → c ≡ combine_of (combines (defining name scope)) → q ≡ joined (combined_by c) first more →
    map plain (first ∷ more) ≡ map plain forms → AreSimple (scope ∷ outer) (bodies (defining name scope)) forms →
    DefinesAlike scope outer name q
defines_of scope outer name c first more q [] c_is is same are = let never : ⊥ = cc in absurd never
defines_of scope outer name c first more q (other ∷ others) c_is is same are =
    let head : plain first ≡ plain other = cc in
    let tail : map plain more ≡ map plain others = cc in
    record {
      form = joined (combined_by (combine_of (combines (defining name scope)))) other others;
      defines = combined_in_order are refl;
      same =
          ap plain is
          ∙ joined_plain c first more
          ∙ ap (λ p. joined (combined_by c) p (map plain more)) head
          ∙ ap (joined (combined_by c) (plain other)) tail
          ∙ sym (joined_plain c other others)
          ∙ ap (λ d. plain (joined (combined_by d) other others)) c_is;
    }

mutual
  pub simple_alike : {scopes : List Clauses} {p : Composed} {q : Form} → Simple scopes p q → (others : List Clauses) (other : Composed) →
      map unnumbered_in scopes ≡ map unnumbered_in others → unnumbered p ≡ unnumbered other → HasAlike others other q
  simple_alike {p = p} (simple_element {number = number} {class = class} {p = inner}) others other around same =
      let h = alike_by (composed.element number class inner) other same in
      of_this _ other h.2 (record { form = form.ref h.0; simple = simple_element; same = refl })
  simple_alike (simple_attribute {class = class} {p = inner} {q = q} part) others other around same =
      let h = alike_by (composed.attribute class inner) other same in
      let r = simple_alike part others h.0 around (sym h.2) in
      of_this _ other h.1 (record { form = attribute_of class r.form; simple = simple_attribute r.simple; same = attribute_plain class q ∙ ap (attribute_of class) r.same ∙ sym (attribute_plain class r.form) })
  simple_alike (simple_list {p = inner} {q = q} part) others other around same =
      let h = alike_by (composed.listed inner) other same in
      let r = simple_alike part others h.0 around (sym h.2) in
      of_this _ other h.1 (record { form = list_of r.form; simple = simple_list r.simple; same = list_plain q ∙ ap list_of r.same ∙ sym (list_plain r.form) })
  simple_alike simple_empty others other around same =
      of_this _ other (alike_by composed.empty other same) (record { form = form.empty; simple = simple_empty; same = refl })
  simple_alike simple_text others other around same =
      of_this _ other (alike_by composed.any_text other same) (record { form = form.any_text; simple = simple_text; same = refl })
  simple_alike simple_not_allowed others other around same = of_this _ other (alike_by composed.not_allowed other same)
      (record { form = form.not_allowed; simple = simple_not_allowed; same = refl })
  simple_alike (simple_value {type = type} {text = text}) others other around same =
      of_this _ other (alike_by (composed.value type text) other same)
      (record { form = form.value (record { type = type; text = text }); simple = simple_value; same = refl })
  simple_alike (simple_type {type = type} {params = params} {except = except} {q = q} {values = values} part are) others other around same =
      let h = alike_by (composed.typed type params except) other same in
      let r = simple_alike part others h.0 around (sym h.2) in
      of_this _ other h.1 (record { form = form.typed type params values; simple = simple_type r.simple (sym (values_same q r.form r.same) ∙ are); same = refl })
  simple_alike (simple_one_or_more {p = inner} {q = q} part) others other around same =
      let h = alike_by (composed.one_or_more inner) other same in
      let r = simple_alike part others h.0 around (sym h.2) in
      of_this _ other h.1 (record { form = one_or_more_of r.form; simple = simple_one_or_more r.simple; same = one_or_more_plain q ∙ ap one_or_more_of r.same ∙ sym (one_or_more_plain r.form) })
  simple_alike (simple_choice {p1 = p1} {p2 = p2} {q1 = q1} {q2 = q2} one two) others other around same =
      let h = alike_by (composed.choice p1 p2) other same in
      let r = simple_alike one others h.0 around (sym h.3) in
      let s = simple_alike two others h.1 around (sym h.4) in
      of_this _ other h.2 (record { form = choice_of r.form s.form; simple = simple_choice r.simple s.simple; same = both_alike choice_of choice_plain q1 q2 r.form s.form r.same s.same })
  simple_alike (simple_group {p1 = p1} {p2 = p2} {q1 = q1} {q2 = q2} one two) others other around same =
      let h = alike_by (composed.group p1 p2) other same in
      let r = simple_alike one others h.0 around (sym h.3) in
      let s = simple_alike two others h.1 around (sym h.4) in
      of_this _ other h.2 (record { form = group_of r.form s.form; simple = simple_group r.simple s.simple; same = both_alike group_of group_plain q1 q2 r.form s.form r.same s.same })
  simple_alike (simple_interleave {p1 = p1} {p2 = p2} {q1 = q1} {q2 = q2} one two) others other around same =
      let h = alike_by (composed.interleave p1 p2) other same in
      let r = simple_alike one others h.0 around (sym h.3) in
      let s = simple_alike two others h.1 around (sym h.4) in
      of_this _ other h.2 (record { form = interleave_of r.form s.form; simple = simple_interleave r.simple s.simple; same = both_alike interleave_of interleave_plain q1 q2 r.form s.form r.same s.same })
  simple_alike (simple_grammar {clauses = clauses} start) others other around same =
      let h = alike_by (composed.grammar clauses) other same in
      let r = defines_alike start h.0 others (sym h.2) around in
      of_this _ other h.1 (record { form = r.form; simple = simple_grammar r.defines; same = r.same })
  simple_alike {q = q} (simple_ref {scope = scope} {outer = outer} {name = name} named) others other around same =
      let h = alike_scope scope outer others around in
      let r = defines_alike named h.other h.rest h.scope_same h.outer_same in
      let P : List Clauses → Type 0 = λ ss. HasAlike ss other q in
      subst P (sym h.is) (of_this _ other (alike_by (composed.ref name) other same) (record { form = r.form; simple = simple_ref r.defines; same = r.same }))
  simple_alike {q = q} (simple_parent_ref {inner = inner} {scope = scope} {outer = outer} {name = name} named) others other around same =
      let g = alike_scope inner (scope ∷ outer) others around in
      let h = alike_scope scope outer g.rest g.outer_same in
      let r = defines_alike named h.other h.rest h.scope_same h.outer_same in
      let is : others ≡ g.other ∷ h.other ∷ h.rest = g.is ∙ ap (λ ss. g.other ∷ ss) h.is in
      let P : List Clauses → Type 0 = λ ss. HasAlike ss other q in
      subst P (sym is) (of_this _ other (alike_by (composed.parent_ref name) other same) (record { form = r.form; simple = simple_parent_ref r.defines; same = r.same }))

  defines_alike : {scope : Clauses} {outer : List Clauses} {name : Defined} {q : Form} → Defines scope outer name q →
      (other : Clauses) (rest : List Clauses) → unnumbered_in scope ≡ unnumbered_in other →
      map unnumbered_in outer ≡ map unnumbered_in rest → DefinesAlike other rest name q
  defines_alike (combined_in_order {scope = scope} {outer = outer} {name = name} {first = first} {q = q} {more = more} are is) other rest same
      around =
      let h =
      all_alike are (other ∷ rest) (bodies (defining name other))
      (ap (λ c. c ∷ map unnumbered_in outer) same ∙ ap (λ cs. unnumbered_in other ∷ cs) around) (bodies_same name scope other same)
      in
      defines_of other rest name (combine_of (combines (defining name scope))) first more q h.forms
      (ap combine_of (combines_same name scope other same)) is h.same h.simple

  all_alike : {scopes : List Clauses} {ps : List Composed} {qs : List Form} → AreSimple scopes ps qs →
      (others : List Clauses) (alike : List Composed) → map unnumbered_in scopes ≡ map unnumbered_in others →
      map unnumbered ps ≡ map unnumbered alike → HaveAlike others alike qs
  all_alike none_simple others [] around same = record { forms = []; simple = none_simple; same = refl }
  all_alike none_simple others (p ∷ alike) around same = let never : ⊥ = cc in absurd never
  all_alike (next_simple one more) others [] around same = let never : ⊥ = cc in absurd never
  all_alike (next_simple {p = p} {q = q} {ps = ps} {qs = qs} one more) others (other ∷ alike) around same =
      let head : unnumbered p ≡ unnumbered other = cc in
      let tail : map unnumbered ps ≡ map unnumbered alike = cc in
      let r = simple_alike one others other around head in
      let s = all_alike more others alike around tail in
      record { forms = r.form ∷ s.forms; simple = next_simple r.simple s.simple; same = ap (λ f. f ∷ map plain qs) r.same ∙ ap (λ fs. plain r.form ∷ fs) s.same }
