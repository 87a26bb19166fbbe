-- Pieces and forms whose elements have other numbers.
use Rattle.std.proofs.Common.{◌≡◌, ℕ, suc, Bool, true, false, List, [], ◌∷◌, ◌++◌, map, length, refl, sym, ap, ap₂, subst, ◌∙◌, arith}
use Rattle.std.proofs.lemmas.List.{length-append}
use Rattle.std.specs.Prelude.{if◌then◌else◌, Contains}
use Rattle.std.specs.Option.{option_map, option_and_then}
use Rattle.rnc_parse.specs.Written.{joined}
use Rattle.rnc_parse.specs.declared.surface.Combine.{Combine}
use Rattle.rnc_parse.specs.declared.surface.Combine.TheVariants as combine
use Rattle.rnc_parse.specs.declared.surface.Defined.{Defined}
use Rattle.rng_core.specs.Names.{Class}
use Rattle.rng_core.specs.Patterns.{Pattern}
use Rattle.rng_simplify.specs.Composed.{Composed, Clauses, end_of_clauses, clause_then, same_defined, defining, combines, bodies, numbers, numbers_in}
use Rattle.rng_simplify.specs.Composed as composed
use Rattle.rng_simplify.specs.Datatypes.{Typed, typed_not_allowed, typed_empty, typed_text, typed_value, typed_type, typed_list, typed_attribute, typed_ref, typed_one_or_more, typed_choice, typed_group, typed_interleave}
use Rattle.rng_simplify.specs.Forms.{Form, Value, list_of, attribute_of, one_or_more_of, choice_of, group_of, interleave_of, combine_of, combined_by, values_of}
use Rattle.rng_simplify.specs.Forms as form
use Rattle.rng_simplify.specs.Places.{Place, place, parts, IsIn, a_part, a_content, a_definition, Occurs, the_whole, further_in}
use Rattle.rng_simplify.specs.Simple.{Simple, Defines, AreSimple, simple_element, simple_attribute, simple_list, simple_empty, simple_text, simple_not_allowed, simple_value, simple_type, simple_one_or_more, simple_choice, simple_group, simple_interleave, simple_grammar, simple_ref, simple_parent_ref, combined_in_order, none_simple, next_simple}
use Rattle.rng_simplify.specs.Unnumbered.{unnumbered, unnumbered_in}
use Rattle.rng_simplify.proofs.Renumbered.{among_map}
use Rattle.nx_numbering.specs.Numbers.{renumbered}
use Rattle.nx_numbering.proofs.Lists.{parted_alike, map-parts, map-long}

-- ---- pieces

abbrev mutual
  pub mapped : (ℕ → ℕ) → Composed → Composed
  mapped f (composed.element number class p) = composed.element (f number) class (mapped f p)
  mapped f (composed.attribute class p) = composed.attribute class (mapped f p)
  mapped f (composed.listed p) = composed.listed (mapped f p)
  mapped f (composed.ref name) = composed.ref name
  mapped f (composed.parent_ref name) = composed.parent_ref name
  mapped f composed.empty = composed.empty
  mapped f composed.any_text = composed.any_text
  mapped f composed.not_allowed = composed.not_allowed
  mapped f (composed.value type text) = composed.value type text
  mapped f (composed.typed type params except) = composed.typed type params (mapped f except)
  mapped f (composed.grammar clauses) = composed.grammar (mapped_in f clauses)
  mapped f (composed.one_or_more p) = composed.one_or_more (mapped f p)
  mapped f (composed.choice p q) = composed.choice (mapped f p) (mapped f q)
  mapped f (composed.group p q) = composed.group (mapped f p) (mapped f q)
  mapped f (composed.interleave p q) = composed.interleave (mapped f p) (mapped f q)

  pub mapped_in : (ℕ → ℕ) → Clauses → Clauses
  mapped_in f end_of_clauses = end_of_clauses
  mapped_in f (clause_then name c p more) = clause_then name c (mapped f p) (mapped_in f more)

-- as many elements have numbers
both_long : (a b c d : List ℕ) → length a ≡ length c → length b ≡ length d → length (a ++ b) ≡ length (c ++ d)
both_long a b c d one other = omega (arith, one, other, length-append a b, length-append c d)

mutual
  as_many : (p : Composed) → length (numbers (unnumbered p)) ≡ length (numbers p)
  as_many (composed.element number class p) = ap suc (as_many p)
  as_many (composed.attribute class p) = as_many p
  as_many (composed.listed p) = as_many p
  as_many (composed.ref name) = refl
  as_many (composed.parent_ref name) = refl
  as_many composed.empty = refl
  as_many composed.any_text = refl
  as_many composed.not_allowed = refl
  as_many (composed.value type text) = refl
  as_many (composed.typed type params except) = as_many except
  as_many (composed.grammar clauses) = as_many_in clauses
  as_many (composed.one_or_more p) = as_many p
  as_many (composed.choice p q) = both_long (numbers (unnumbered p)) (numbers (unnumbered q)) (numbers p) (numbers q) (as_many p) (as_many q)
  as_many (composed.group p q) = both_long (numbers (unnumbered p)) (numbers (unnumbered q)) (numbers p) (numbers q) (as_many p) (as_many q)
  as_many (composed.interleave p q) = both_long (numbers (unnumbered p)) (numbers (unnumbered q)) (numbers p) (numbers q) (as_many p) (as_many q)

  as_many_in : (clauses : Clauses) → length (numbers_in (unnumbered_in clauses)) ≡ length (numbers_in clauses)
  as_many_in end_of_clauses = refl
  as_many_in (clause_then name c p more) = both_long (numbers (unnumbered p)) (numbers_in (unnumbered_in more)) (numbers p) (numbers_in more) (as_many p) (as_many_in more)

pub same_many : (p q : Composed) → unnumbered p ≡ unnumbered q → length (numbers p) ≡ length (numbers q)
same_many p q same = sym (as_many p) ∙ ap (λ x. length (numbers x)) same ∙ as_many q

same_many_in : (p q : Clauses) → unnumbered_in p ≡ unnumbered_in q → length (numbers_in p) ≡ length (numbers_in q)
same_many_in p q same = sym (as_many_in p) ∙ ap (λ x. length (numbers_in x)) same ∙ as_many_in q

-- a piece that is the same but for numbers is this one with those numbers
mutual
  pub with_numbers : (f : ℕ → ℕ) (p q : Composed) → unnumbered p ≡ unnumbered q → map f (numbers p) ≡ numbers q → mapped f p ≡ q
  with_numbers f (composed.element number class p) (composed.element other class' q) same are =
      let head : f number ≡ other = cc in
      let tail : map f (numbers p) ≡ numbers q = cc in
      let classes : class ≡ class' = cc in
      let inner : unnumbered p ≡ unnumbered q = cc in
      let on = with_numbers f p q inner tail in
      cc
  with_numbers f (composed.attribute class p) (composed.attribute class' q) same are =
      let classes : class ≡ class' = cc in
      let inner : unnumbered p ≡ unnumbered q = cc in
      let on = with_numbers f p q inner are in
      cc
  with_numbers f (composed.listed p) (composed.listed q) same are =
      let inner : unnumbered p ≡ unnumbered q = cc in
      ap composed.listed (with_numbers f p q inner are)
  with_numbers f (composed.ref name) (composed.ref other) same are = same
  with_numbers f (composed.parent_ref name) (composed.parent_ref other) same are = same
  with_numbers f composed.empty composed.empty same are = refl
  with_numbers f composed.any_text composed.any_text same are = refl
  with_numbers f composed.not_allowed composed.not_allowed same are = refl
  with_numbers f (composed.value type text) (composed.value other more) same are = same
  with_numbers f (composed.typed type params p) (composed.typed other more q) same are =
      let types : type ≡ other = cc in
      let all : params ≡ more = cc in
      let inner : unnumbered p ≡ unnumbered q = cc in
      let on = with_numbers f p q inner are in
      cc
  with_numbers f (composed.grammar clauses) (composed.grammar others) same are =
      let inner : unnumbered_in clauses ≡ unnumbered_in others = cc in
      ap composed.grammar (with_numbers_in f clauses others inner are)
  with_numbers f (composed.one_or_more p) (composed.one_or_more q) same are =
      let inner : unnumbered p ≡ unnumbered q = cc in
      ap composed.one_or_more (with_numbers f p q inner are)
  with_numbers f (composed.choice p1 p2) (composed.choice q1 q2) same are =
      let one : unnumbered p1 ≡ unnumbered q1 = cc in
      let other : unnumbered p2 ≡ unnumbered q2 = cc in
      let split = parted_alike (map f (numbers p1)) (map f (numbers p2)) (numbers q1) (numbers q2) (map-long f (numbers p1) ∙ same_many p1 q1 one) (sym (map-parts f (numbers p1) (numbers p2)) ∙ are) in
      ap₂ composed.choice (with_numbers f p1 q1 one split.front) (with_numbers f p2 q2 other split.behind)
  with_numbers f (composed.group p1 p2) (composed.group q1 q2) same are =
      let one : unnumbered p1 ≡ unnumbered q1 = cc in
      let other : unnumbered p2 ≡ unnumbered q2 = cc in
      let split = parted_alike (map f (numbers p1)) (map f (numbers p2)) (numbers q1) (numbers q2) (map-long f (numbers p1) ∙ same_many p1 q1 one) (sym (map-parts f (numbers p1) (numbers p2)) ∙ are) in
      ap₂ composed.group (with_numbers f p1 q1 one split.front) (with_numbers f p2 q2 other split.behind)
  with_numbers f (composed.interleave p1 p2) (composed.interleave q1 q2) same are =
      let one : unnumbered p1 ≡ unnumbered q1 = cc in
      let other : unnumbered p2 ≡ unnumbered q2 = cc in
      let split = parted_alike (map f (numbers p1)) (map f (numbers p2)) (numbers q1) (numbers q2) (map-long f (numbers p1) ∙ same_many p1 q1 one) (sym (map-parts f (numbers p1) (numbers p2)) ∙ are) in
      ap₂ composed.interleave (with_numbers f p1 q1 one split.front) (with_numbers f p2 q2 other split.behind)
  with_numbers f p q same are = let never : ⊥ = cc in absurd never

  with_numbers_in : (f : ℕ → ℕ) (p q : Clauses) → unnumbered_in p ≡ unnumbered_in q → map f (numbers_in p) ≡ numbers_in q → mapped_in f p ≡ q
  with_numbers_in f end_of_clauses end_of_clauses same are = refl
  with_numbers_in f (clause_then name c p more) (clause_then other d q rest) same are =
      let names : name ≡ other = cc in
      let ways : c ≡ d = cc in
      let one : unnumbered p ≡ unnumbered q = cc in
      let others : unnumbered_in more ≡ unnumbered_in rest = cc in
      let split = parted_alike (map f (numbers p)) (map f (numbers_in more)) (numbers q) (numbers_in rest) (map-long f (numbers p) ∙ same_many p q one) (sym (map-parts f (numbers p) (numbers_in more)) ∙ are) in
      let first = with_numbers f p q one split.front in
      let on = with_numbers_in f more rest others split.behind in
      cc
  with_numbers_in f p q same are = let never : ⊥ = cc in absurd never

-- ---- forms

abbrev pub formed : (ℕ → ℕ) → Form → Form
formed f form.not_allowed = form.not_allowed
formed f form.empty = form.empty
formed f form.any_text = form.any_text
formed f (form.value v) = form.value v
formed f (form.typed type params values) = form.typed type params values
formed f (form.listed p) = form.listed (formed f p)
formed f (form.attribute class p) = form.attribute class (formed f p)
formed f (form.ref number) = form.ref (f number)
formed f (form.one_or_more p) = form.one_or_more (formed f p)
formed f (form.choice p q) = form.choice (formed f p) (formed f q)
formed f (form.group p q) = form.group (formed f p) (formed f q)
formed f (form.interleave p q) = form.interleave (formed f p) (formed f q)

list_formed : (f : ℕ → ℕ) (p : Form) → formed f (list_of p) ≡ list_of (formed f p)
list_formed f form.not_allowed = refl
list_formed f p = refl

attribute_formed : (f : ℕ → ℕ) (class : Class) (p : Form) → formed f (attribute_of class p) ≡ attribute_of class (formed f p)
attribute_formed f class form.not_allowed = refl
attribute_formed f class p = refl

one_or_more_formed : (f : ℕ → ℕ) (p : Form) → formed f (one_or_more_of p) ≡ one_or_more_of (formed f p)
one_or_more_formed f form.not_allowed = refl
one_or_more_formed f form.empty = refl
one_or_more_formed f p = refl

choice_formed : (f : ℕ → ℕ) (p q : Form) → formed f (choice_of p q) ≡ choice_of (formed f p) (formed f q)
choice_formed f form.not_allowed q = refl
choice_formed f p form.not_allowed = refl
choice_formed f form.empty form.empty = refl
choice_formed f p form.empty = refl
choice_formed f p q = refl

group_formed : (f : ℕ → ℕ) (p q : Form) → formed f (group_of p q) ≡ group_of (formed f p) (formed f q)
group_formed f form.not_allowed q = refl
group_formed f p form.not_allowed = refl
group_formed f form.empty q = refl
group_formed f p form.empty = refl
group_formed f p q = refl

interleave_formed : (f : ℕ → ℕ) (p q : Form) → formed f (interleave_of p q) ≡ interleave_of (formed f p) (formed f q)
interleave_formed f form.not_allowed q = refl
interleave_formed f p form.not_allowed = refl
interleave_formed f form.empty q = refl
interleave_formed f p form.empty = refl
interleave_formed f p q = refl

combined_formed : (f : ℕ → ℕ) (c : Combine) (p q : Form) → formed f (combined_by c p q) ≡ combined_by c (formed f p) (formed f q)
combined_formed f combine.Alone p q = choice_formed f p q
combined_formed f combine.Choice p q = choice_formed f p q
combined_formed f combine.Interleave p q = interleave_formed f p q

joined_formed : (f : ℕ → ℕ) (c : Combine) (first : Form) (more : List Form) → formed f (joined (combined_by c) first more) ≡ joined (combined_by c) (formed f first) (map (formed f) more)
joined_formed f c first [] = refl
joined_formed f c first (next ∷ more) =
    joined_formed f c (combined_by c first next) more ∙ ap (λ p. joined (combined_by c) p (map (formed f) more)) (combined_formed f c first next)

values_formed : (f : ℕ → ℕ) (p : Form) → values_of (formed f p) ≡ values_of p
values_formed f form.not_allowed = refl
values_formed f form.empty = refl
values_formed f form.any_text = refl
values_formed f (form.value v) = refl
values_formed f (form.typed type params values) = refl
values_formed f (form.listed p) = refl
values_formed f (form.attribute class p) = refl
values_formed f (form.ref number) = refl
values_formed f (form.one_or_more p) = refl
values_formed f (form.choice p q) =
    ap (λ v. option_and_then (λ first. option_map (λ second. first ++ second) (values_of (formed f q))) v) (values_formed f p)
    ∙ ap (λ v. option_and_then (λ first. option_map (λ second. first ++ second) v) (values_of p)) (values_formed f q)
values_formed f (form.group p q) = refl
values_formed f (form.interleave p q) = refl

-- ---- definitions of a name

defining_if : (f : ℕ → ℕ) (b : Bool) (name : Defined) (c : Combine) (p : Composed) (rest more : Clauses) → mapped_in f rest ≡ more →
    mapped_in f (if b then clause_then name c p rest else rest) ≡ (if b then clause_then name c (mapped f p) more else more)
defining_if f true name c p rest more same = ap (clause_then name c (mapped f p)) same
defining_if f false name c p rest more same = same

defining_mapped : (f : ℕ → ℕ) (name : Defined) (clauses : Clauses) → mapped_in f (defining name clauses) ≡ defining name (mapped_in f clauses)
defining_mapped f name end_of_clauses = refl
defining_mapped f name (clause_then other c p more) = defining_if f (same_defined name other) other c p (defining name more) (defining name (mapped_in f more)) (defining_mapped f name more)

combines_mapped : (f : ℕ → ℕ) (clauses : Clauses) → combines (mapped_in f clauses) ≡ combines clauses
combines_mapped f end_of_clauses = refl
combines_mapped f (clause_then name c p more) = ap (λ cs. c ∷ cs) (combines_mapped f more)

bodies_mapped : (f : ℕ → ℕ) (clauses : Clauses) → bodies (mapped_in f clauses) ≡ map (mapped f) (bodies clauses)
bodies_mapped f end_of_clauses = refl
bodies_mapped f (clause_then name c p more) = ap (λ ps. mapped f p ∷ ps) (bodies_mapped f more)

-- ---- simple forms

-- of a form that is this one
same_form : {scopes : List Clauses} {p : Composed} (q r : Form) → q ≡ r → Simple scopes p q → Simple scopes p r
same_form {scopes = scopes} {p = p} q r same h = let P : Form → Type 0 = λ x. Simple scopes p x in subst P same h

mutual
  pub simple_mapped : {scopes : List Clauses} {p : Composed} {q : Form} (f : ℕ → ℕ) → Simple scopes p q → Simple (map (mapped_in f) scopes) (mapped f p) (formed f q)
  simple_mapped f simple_element = simple_element
  simple_mapped f (simple_attribute {class = class} {q = q} part) = same_form (attribute_of class (formed f q)) (formed f (attribute_of class q)) (sym (attribute_formed f class q)) (simple_attribute (simple_mapped f part))
  simple_mapped f (simple_list {q = q} part) = same_form (list_of (formed f q)) (formed f (list_of q)) (sym (list_formed f q)) (simple_list (simple_mapped f part))
  simple_mapped f simple_empty = simple_empty
  simple_mapped f simple_text = simple_text
  simple_mapped f simple_not_allowed = simple_not_allowed
  simple_mapped f simple_value = simple_value
  simple_mapped f (simple_type {q = q} part are) = simple_type (simple_mapped f part) (values_formed f q ∙ are)
  simple_mapped f (simple_one_or_more {q = q} part) = same_form (one_or_more_of (formed f q)) (formed f (one_or_more_of q)) (sym (one_or_more_formed f q)) (simple_one_or_more (simple_mapped f part))
  simple_mapped f (simple_choice {q1 = q1} {q2 = q2} one other) = same_form (choice_of (formed f q1) (formed f q2)) (formed f (choice_of q1 q2)) (sym (choice_formed f q1 q2)) (simple_choice (simple_mapped f one) (simple_mapped f other))
  simple_mapped f (simple_group {q1 = q1} {q2 = q2} one other) = same_form (group_of (formed f q1) (formed f q2)) (formed f (group_of q1 q2)) (sym (group_formed f q1 q2)) (simple_group (simple_mapped f one) (simple_mapped f other))
  simple_mapped f (simple_interleave {q1 = q1} {q2 = q2} one other) = same_form (interleave_of (formed f q1) (formed f q2)) (formed f (interleave_of q1 q2)) (sym (interleave_formed f q1 q2)) (simple_interleave (simple_mapped f one) (simple_mapped f other))
  simple_mapped f (simple_grammar start) = simple_grammar (defines_mapped f start)
  simple_mapped f (simple_ref named) = simple_ref (defines_mapped f named)
  simple_mapped f (simple_parent_ref named) = simple_parent_ref (defines_mapped f named)

  defines_mapped : {scope : Clauses} {outer : List Clauses} {name : Defined} {q : Form} (f : ℕ → ℕ) → Defines scope outer name q → Defines (mapped_in f scope) (map (mapped_in f) outer) name (formed f q)
  defines_mapped f (combined_in_order {scope = scope} {outer = outer} {name = name} {first = first} {q = q} {more = more} are is) =
      let all : map (mapped f) (bodies (defining name scope)) ≡ bodies (defining name (mapped_in f scope)) = sym (bodies_mapped f (defining name scope)) ∙ ap bodies (defining_mapped f name scope) in
      let ways : combines (defining name scope) ≡ combines (defining name (mapped_in f scope)) = sym (combines_mapped f (defining name scope)) ∙ ap combines (defining_mapped f name scope) in
      let P : List Composed → Type 0 = λ ps. AreSimple (map (mapped_in f) (scope ∷ outer)) ps (map (formed f) (first ∷ more)) in
      combined_in_order (subst P all (are_mapped f are))
      (ap (formed f) is ∙ joined_formed f (combine_of (combines (defining name scope))) first more ∙ ap (λ cs. joined (combined_by (combine_of cs)) (formed f first) (map (formed f) more)) ways)

  are_mapped : {scopes : List Clauses} {ps : List Composed} {qs : List Form} (f : ℕ → ℕ) → AreSimple scopes ps qs → AreSimple (map (mapped_in f) scopes) (map (mapped f) ps) (map (formed f) qs)
  are_mapped f none_simple = none_simple
  are_mapped f (next_simple one more) = next_simple (simple_mapped f one) (are_mapped f more)

-- ---- where elements stand

abbrev pub mapped_at : (ℕ → ℕ) → Place → Place
mapped_at f at = place (map (mapped_in f) at.scopes) (mapped f at.pattern)

parts_mapped : (f : ℕ → ℕ) (p : Composed) → parts (mapped f p) ≡ map (mapped f) (parts p)
parts_mapped f (composed.element number class p) = refl
parts_mapped f (composed.attribute class p) = refl
parts_mapped f (composed.listed p) = refl
parts_mapped f (composed.ref name) = refl
parts_mapped f (composed.parent_ref name) = refl
parts_mapped f composed.empty = refl
parts_mapped f composed.any_text = refl
parts_mapped f composed.not_allowed = refl
parts_mapped f (composed.value type text) = refl
parts_mapped f (composed.typed type params except) = refl
parts_mapped f (composed.grammar clauses) = refl
parts_mapped f (composed.one_or_more p) = refl
parts_mapped f (composed.choice p q) = refl
parts_mapped f (composed.group p q) = refl
parts_mapped f (composed.interleave p q) = refl

in_mapped : {outer inner : Place} (f : ℕ → ℕ) → IsIn outer inner → IsIn (mapped_at f outer) (mapped_at f inner)
in_mapped f (a_part {p = p} {q = q} within) =
    let P : List Composed → Type 0 = λ ps. Contains ps (mapped f q) in
    a_part (subst P (sym (parts_mapped f p)) (among_map (mapped f) (parts p) q within))
in_mapped f a_content = a_content
in_mapped f (a_definition {clauses = clauses} {p = p} within) =
    let P : List Composed → Type 0 = λ ps. Contains ps (mapped f p) in
    a_definition (subst P (sym (bodies_mapped f clauses)) (among_map (mapped f) (bodies clauses) p within))

pub occurs_mapped : {whole : Composed} {at : Place} (f : ℕ → ℕ) → Occurs whole at → Occurs (mapped f whole) (mapped_at f at)
occurs_mapped f the_whole = the_whole
occurs_mapped f (further_in occurs within) = further_in (occurs_mapped f occurs) (in_mapped f within)

-- ---- types

pub typed_formed : {p : Form} {q : Pattern} (f : ℕ → ℕ) → Typed p q → Typed (formed f p) (renumbered f q)
typed_formed f typed_not_allowed = typed_not_allowed
typed_formed f typed_empty = typed_empty
typed_formed f typed_text = typed_text
typed_formed f (typed_value named) = typed_value named
typed_formed f (typed_type named are) = typed_type named are
typed_formed f (typed_list h) = typed_list (typed_formed f h)
typed_formed f (typed_attribute h) = typed_attribute (typed_formed f h)
typed_formed f typed_ref = typed_ref
typed_formed f (typed_one_or_more h) = typed_one_or_more (typed_formed f h)
typed_formed f (typed_choice h k) = typed_choice (typed_formed f h) (typed_formed f k)
typed_formed f (typed_group h k) = typed_group (typed_formed f h) (typed_formed f k)
typed_formed f (typed_interleave h k) = typed_interleave (typed_formed f h) (typed_formed f k)
