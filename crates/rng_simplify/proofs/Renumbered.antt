-- A schema in one piece is broken for the same causes, whatever numbers its elements have.
use Rattle.std.proofs.lemmas.Option.{same_Some, slice_get_within}
use Rattle.std.proofs.Common.{◌≡◌, Some, Ok, Err, arith, ◌<◌, refl, sym, ap, ◌∙◌, subst, ℕ, Bool, true, false, inl, inr, ◌⊎◌, List, [], ◌∷◌, map, Contains}
use Rattle.std.specs.Prelude.{if◌then◌else◌}
use Rattle.nx_base.specs.declared.cause.Cause.{Cause}
use Rattle.nx_base.specs.declared.cause.Cause.TheVariants as cause
use Rattle.nx_host.specs.Files.{FileMap}
use Rattle.nx_host.specs.Uri.{JoinsIsDecided}
use Rattle.rng_types.specs.declared.fault.TypeFault.{TypeFault}
use Rattle.rng_types.specs.declared.fault.TypeFault.TheVariants as type_fault
use Rattle.rnc_parse.specs.declared.surface.Combine.{Combine}
use Rattle.rnc_parse.specs.declared.surface.Defined.{Defined}
use Rattle.rnc_parse.specs.declared.surface.Defined.TheVariants as defined
use Rattle.rng_core.specs.Names.{Class}
use Rattle.rng_core.specs.declared.grammar.Grammar.{Grammar}
use Rattle.rng_core.specs.Meaning.{pattern_of, definitions_of}
use Rattle.rng_core.specs.Patterns.{Pattern, Definition}
use Rattle.rng_simplify.specs.declared.fault.SchemaFault.{SchemaFault}
use Rattle.rng_simplify.specs.declared.fault.SchemaFault.TheVariants as fault
use Rattle.rng_simplify.specs.Unambiguous.{ArePassed}
use Rattle.rng_simplify.specs.Broken.{Has, IsUndefined, HasNoStart, clash, HasClash, LeadsBack, HasBadExcept, HasXmlnsName, HasRefusedType, IsBadValue, IsUnsupported, HasTooManyExcepts, node_limit, nodes_of_all, IsTooDeep, IsTooLarge, WholeIsBroken, PieceIsBroken, IsBroken}
use Rattle.rng_simplify.specs.Composed.{Composed, Clauses, end_of_clauses, clause_then, same_defined, defines, defining, combines, bodies}
use Rattle.rng_simplify.specs.Composed as composed
use Rattle.rng_simplify.specs.Forms.{Form, FormDefinition, depth}
use Rattle.rng_simplify.specs.Places.{Place, place, parts, IsIn, a_part, a_content, a_definition, Occurs, the_whole, further_in}
use Rattle.rng_simplify.specs.Simplified.{Simplifies, Answers}
use Rattle.rng_simplify.specs.Whole.{IsForm}
use Rattle.rng_simplify.specs.Unnumbered.{unnumbered, unnumbered_in}
use Rattle.rng_simplify.proofs.Alike.{plain, alike_by, simple_alike, values_same, parts_unnumbered}
use Rattle.rng_simplify.proofs.Nodes.{in_none, in_cases, in_first, in_more}
use Rattle.rng_simplify.proofs.OneForm.{simple_one, number_occurs}
use Rattle.rng_simplify.proofs.OneComposed.{defines_unnumbered, piece_one}
use Rattle.rng_simplify.proofs.Passed.{are_passed}
use Rattle.rng_simplify.proofs.Returning.{returns_again}
use Rattle.rng_simplify.proofs.Sizes.{depth_same, starts, same_total}

-- ---- lists

pub record IsFrom {A B : Type 0} (f : A → B) (xs : List A) (y : B) : Type 0 where
  pub from : A
  pub among : Contains xs from
  pub is : f from ≡ y

pub among_from : {A B : Type 0} (f : A → B) (xs : List A) (y : B) → Contains (map f xs) y → IsFrom f xs y
among_from f [] y h = absurd (in_none h)
among_from f (x ∷ xs) y h = elim (in_cases (f x) (map f xs) y h) [
  | inl is ↦ record { from = x; among = in_first x xs; is = is }
  | inr more ↦ let rest = among_from f xs y more in record { from = rest.from; among = in_more x xs rest.from rest.among; is = rest.is }
]

pub among_map : {A B : Type 0} (f : A → B) (xs : List A) (x : A) → Contains xs x → Contains (map f xs) (f x)
among_map f [] x h = absurd (in_none h)
among_map {B = B} f (first ∷ xs) x h = elim (in_cases first xs x h) [
  | inl is ↦ let P : B → Type 0 = λ y. Contains (f first ∷ map f xs) y in subst P (ap f is) (in_first (f first) (map f xs))
  | inr more ↦ in_more (f first) (map f xs) (f x) (among_map f xs x more)
]

-- ---- parts without numbers

bodies_unnumbered : (clauses : Clauses) → bodies (unnumbered_in clauses) ≡ map unnumbered (bodies clauses)
bodies_unnumbered end_of_clauses = refl
bodies_unnumbered (clause_then name combine p more) = ap (λ ps. unnumbered p ∷ ps) (bodies_unnumbered more)

-- an element, and a grammar, without numbers
record IsElementWith (p : Composed) (class : Class) (content : Composed) : Type 0 where
  number : ℕ
  inner : Composed
  is : p ≡ composed.element number class inner
  content_is : unnumbered inner ≡ content

element_with : (p : Composed) (number : ℕ) (class : Class) (content : Composed) → unnumbered p ≡ composed.element number class content →
    IsElementWith p class content
element_with (composed.element m other inner) number class content h =
    let same : other ≡ class = cc in
    let content_is : unnumbered inner ≡ content = cc in
    record { number = m; inner = inner; is = ap (λ c. composed.element m c inner) same; content_is = content_is }
element_with p number class content h = let never : ⊥ = cc in absurd never

record IsGrammarWith (p : Composed) (clauses : Clauses) : Type 0 where
  inner : Clauses
  is : p ≡ composed.grammar inner
  clauses_are : unnumbered_in inner ≡ clauses

grammar_with : (p : Composed) (clauses : Clauses) → unnumbered p ≡ composed.grammar clauses → IsGrammarWith p clauses
grammar_with (composed.grammar inner) clauses h = record { inner = inner; is = refl; clauses_are = cc }
grammar_with p clauses h = let never : ⊥ = cc in absurd never

-- ---- places without numbers

abbrev unnumbered_at : Place → Place
unnumbered_at at = place (map unnumbered_in at.scopes) (unnumbered at.pattern)

in_unnumbered : {outer inner : Place} → IsIn outer inner → IsIn (unnumbered_at outer) (unnumbered_at inner)
in_unnumbered (a_part {p = p} {q = q} within) =
    let P : List Composed → Type 0 = λ ps. Contains ps (unnumbered q) in
    a_part (subst P (sym (parts_unnumbered p)) (among_map unnumbered (parts p) q within))
in_unnumbered a_content = a_content
in_unnumbered (a_definition {clauses = clauses} {p = p} within) =
    let P : List Composed → Type 0 = λ ps. Contains ps (unnumbered p) in
    a_definition (subst P (sym (bodies_unnumbered clauses)) (among_map unnumbered (bodies clauses) p within))

occurs_unnumbered : {whole : Composed} {at : Place} → Occurs whole at → Occurs (unnumbered whole) (unnumbered_at at)
occurs_unnumbered the_whole = the_whole
occurs_unnumbered (further_in occurs within) = further_in (occurs_unnumbered occurs) (in_unnumbered within)

-- a place with numbers
record IsNumberedAt (whole : Composed) (at : Place) : Type 0 where
  scopes : List Clauses
  pattern : Composed
  occurs : Occurs whole (place scopes pattern)
  scopes_are : map unnumbered_in scopes ≡ at.scopes
  pattern_is : unnumbered pattern ≡ at.pattern

inner_numbered : {whole : Composed} {outer inner : Place} → IsIn outer inner → IsNumberedAt whole outer → IsNumberedAt whole inner
inner_numbered (a_part {p = p} {q = q} within) h =
    let P : Composed → Type 0 = λ r. Contains (parts r) q in
    let Q : List Composed → Type 0 = λ rs. Contains rs q in
    let from = among_from unnumbered (parts h.pattern) q (subst Q (parts_unnumbered h.pattern) (subst P (sym h.pattern_is) within)) in
    record { scopes = h.scopes; pattern = from.from; occurs = further_in h.occurs (a_part from.among); scopes_are = h.scopes_are; pattern_is = from.is }
inner_numbered {whole = whole} (a_content {number = number} {class = class} {p = p}) h =
    let element = element_with h.pattern number class p h.pattern_is in
    let P : Composed → Type 0 = λ r. Occurs whole (place h.scopes r) in
    record { scopes = h.scopes; pattern = element.inner; occurs = further_in (subst P element.is h.occurs) a_content; scopes_are = h.scopes_are; pattern_is = element.content_is }
inner_numbered {whole = whole} (a_definition {scopes = scopes} {clauses = clauses} {p = p} within) h =
    let grammar = grammar_with h.pattern clauses h.pattern_is in
    let P : Composed → Type 0 = λ r. Occurs whole (place h.scopes r) in
    let Q : Clauses → Type 0 = λ cs. Contains (bodies cs) p in
    let R : List Composed → Type 0 = λ rs. Contains rs p in
    let from =
    among_from unnumbered (bodies grammar.inner) p
    (subst R (bodies_unnumbered grammar.inner) (subst Q (sym grammar.clauses_are) within)) in
    record {
      scopes = grammar.inner ∷ h.scopes;
      pattern = from.from;
      occurs = further_in (subst P grammar.is h.occurs) (a_definition from.among);
      scopes_are = ap (λ cs. cs ∷ map unnumbered_in h.scopes) grammar.clauses_are ∙ ap (λ ss. clauses ∷ ss) h.scopes_are;
      pattern_is = from.is;
    }

numbered_at : {whole : Composed} {at : Place} (other : Composed) → whole ≡ unnumbered other → Occurs whole at → IsNumberedAt other at
numbered_at other same the_whole = record { scopes = []; pattern = other; occurs = the_whole; scopes_are = refl; pattern_is = sym same }
numbered_at other same (further_in occurs within) = inner_numbered within (numbered_at other same occurs)

-- what stands in a piece stands in one with other numbers
has_other : (kind : List Clauses → Composed → Type 0) →
    ((scopes : List Clauses) (p : Composed) → kind scopes p → kind (map unnumbered_in scopes) (unnumbered p)) →
    ((scopes : List Clauses) (p : Composed) → kind (map unnumbered_in scopes) (unnumbered p) → kind scopes p) → (whole other : Composed) →
    unnumbered whole ≡ unnumbered other → Has whole kind → Has other kind
has_other kind there back whole other same h =
    let n = numbered_at other same (occurs_unnumbered h.occurs) in
    let P : List Clauses → Type 0 = λ scopes. kind scopes (unnumbered h.pattern) in
    let Q : Composed → Type 0 = λ p. kind (map unnumbered_in n.scopes) p in
    record { scopes = n.scopes; pattern = n.pattern; occurs = n.occurs; is = back n.scopes n.pattern (subst Q (sym n.pattern_is) (subst P (sym n.scopes_are) (there h.scopes h.pattern h.is))) }

-- and so for a kind that is the same whatever the numbers are
has_alike : (kind : List Clauses → Composed → Type 0) → ((scopes others : List Clauses) (p other : Composed) → map unnumbered_in scopes ≡ map unnumbered_in others → unnumbered p ≡ unnumbered other → kind scopes p → kind others other) → (whole other : Composed) → unnumbered whole ≡ unnumbered other → Has whole kind → Has other kind
has_alike kind alike whole other same h =
    let n = numbered_at other same (occurs_unnumbered h.occurs) in
    record { scopes = n.scopes; pattern = n.pattern; occurs = n.occurs; is = alike h.scopes n.scopes h.pattern n.pattern (sym n.scopes_are) (sym n.pattern_is) h.is }

many_alike : (scopes others : List Clauses) (p other : Composed) → map unnumbered_in scopes ≡ map unnumbered_in others →
    unnumbered p ≡ unnumbered other → HasTooManyExcepts scopes p → HasTooManyExcepts others other
many_alike scopes others (composed.typed type params except) other around same (q, values, simple, are, many) =
    let h = alike_by (composed.typed type params except) other same in
    let r = simple_alike simple others h.0 around (sym h.2) in
    let P : Composed → Type 0 = HasTooManyExcepts others in
    subst P (sym h.1) (r.form, values, r.simple, sym (values_same q r.form r.same) ∙ are, many)
many_alike scopes others p other around same h = absurd h

unsupported_alike : (scopes others : List Clauses) (p other : Composed) → map unnumbered_in scopes ≡ map unnumbered_in others →
    unnumbered p ≡ unnumbered other → IsUnsupported scopes p → IsUnsupported others other
unsupported_alike scopes others (composed.typed type params except) other around same (q, simple, inl none) =
    let h = alike_by (composed.typed type params except) other same in
    let r = simple_alike simple others h.0 around (sym h.2) in
    let P : Composed → Type 0 = IsUnsupported others in
    subst P (sym h.1) (r.form, r.simple, inl (sym (values_same q r.form r.same) ∙ none))
unsupported_alike scopes others (composed.typed type params except) other around same (q, simple, inr (values, are, foreign)) =
    let h = alike_by (composed.typed type params except) other same in
    let r = simple_alike simple others h.0 around (sym h.2) in
    let P : Composed → Type 0 = IsUnsupported others in
    subst P (sym h.1) (r.form, r.simple, inr (values, sym (values_same q r.form r.same) ∙ are, foreign))
unsupported_alike scopes others p other around same h = absurd h

-- what leads back leads back
back_other : (whole other : Composed) → unnumbered whole ≡ unnumbered other → Has whole LeadsBack → Has other LeadsBack
back_other whole other same h =
    let n = numbered_at other same (occurs_unnumbered h.occurs) in
    returns_again other (place h.scopes h.pattern) (place n.scopes n.pattern) n.occurs (sym n.scopes_are, sym n.pattern_is) h.is

-- ---- kinds

undefined_there : (scopes : List Clauses) (p : Composed) → IsUndefined scopes p → IsUndefined (map unnumbered_in scopes) (unnumbered p)
undefined_there [] (composed.ref name) h = h
undefined_there (scope ∷ outer) (composed.ref name) h = defines_unnumbered (defined.Name name) scope ∙ h
undefined_there [] (composed.parent_ref name) h = h
undefined_there (inner ∷ []) (composed.parent_ref name) h = h
undefined_there (inner ∷ scope ∷ outer) (composed.parent_ref name) h = defines_unnumbered (defined.Name name) scope ∙ h
undefined_there [] p h = absurd h
undefined_there (scope ∷ []) p h = absurd h
undefined_there (scope ∷ other ∷ scopes) p h = absurd h

undefined_back : (scopes : List Clauses) (p : Composed) → IsUndefined (map unnumbered_in scopes) (unnumbered p) → IsUndefined scopes p
undefined_back [] (composed.ref name) h = h
undefined_back (scope ∷ outer) (composed.ref name) h = sym (defines_unnumbered (defined.Name name) scope) ∙ h
undefined_back [] (composed.parent_ref name) h = h
undefined_back (inner ∷ []) (composed.parent_ref name) h = h
undefined_back (inner ∷ scope ∷ outer) (composed.parent_ref name) h = sym (defines_unnumbered (defined.Name name) scope) ∙ h
undefined_back [] p h = absurd h
undefined_back (scope ∷ []) p h = absurd h
undefined_back (scope ∷ other ∷ scopes) p h = absurd h

start_there : (scopes : List Clauses) (p : Composed) → HasNoStart scopes p → HasNoStart (map unnumbered_in scopes) (unnumbered p)
start_there scopes (composed.grammar clauses) h = defines_unnumbered defined.Start clauses ∙ h
start_there scopes p h = absurd h

start_back : (scopes : List Clauses) (p : Composed) → HasNoStart (map unnumbered_in scopes) (unnumbered p) → HasNoStart scopes p
start_back scopes (composed.grammar clauses) h = sym (defines_unnumbered defined.Start clauses) ∙ h
start_back scopes p h = absurd h

combines_if : (b : Bool) (name : Defined) (combine : Combine) (p q : Composed) (some others : Clauses) → combines some ≡ combines others →
    combines (if b then clause_then name combine p some else some) ≡ combines (if b then clause_then name combine q others else others)
combines_if true name combine p q some others same = ap (λ cs. combine ∷ cs) same
combines_if false name combine p q some others same = same

combines_unnumbered : (name : Defined) (clauses : Clauses) →
    combines (defining name (unnumbered_in clauses)) ≡ combines (defining name clauses)
combines_unnumbered name end_of_clauses = refl
combines_unnumbered name (clause_then other combine p more) =
    combines_if (same_defined name other) other combine (unnumbered p) p (defining name (unnumbered_in more)) (defining name more)
    (combines_unnumbered name more)

clash_there : (scopes : List Clauses) (p : Composed) → HasClash scopes p → HasClash (map unnumbered_in scopes) (unnumbered p)
clash_there scopes (composed.grammar clauses) h = (h.0, ap clash (combines_unnumbered h.0 clauses) ∙ h.1)
clash_there scopes p h = absurd h

clash_back : (scopes : List Clauses) (p : Composed) → HasClash (map unnumbered_in scopes) (unnumbered p) → HasClash scopes p
clash_back scopes (composed.grammar clauses) h = (h.0, sym (ap clash (combines_unnumbered h.0 clauses)) ∙ h.1)
clash_back scopes p h = absurd h

except_there : (scopes : List Clauses) (p : Composed) → HasBadExcept scopes p → HasBadExcept (map unnumbered_in scopes) (unnumbered p)
except_there scopes (composed.element number class p) h = h
except_there scopes (composed.attribute class p) h = h
except_there scopes p h = absurd h

except_back : (scopes : List Clauses) (p : Composed) → HasBadExcept (map unnumbered_in scopes) (unnumbered p) → HasBadExcept scopes p
except_back scopes (composed.element number class p) h = h
except_back scopes (composed.attribute class p) h = h
except_back scopes p h = absurd h

xmlns_there : (scopes : List Clauses) (p : Composed) → HasXmlnsName scopes p → HasXmlnsName (map unnumbered_in scopes) (unnumbered p)
xmlns_there scopes (composed.element number class p) h = h
xmlns_there scopes (composed.attribute class p) h = h
xmlns_there scopes p h = absurd h

xmlns_back : (scopes : List Clauses) (p : Composed) → HasXmlnsName (map unnumbered_in scopes) (unnumbered p) → HasXmlnsName scopes p
xmlns_back scopes (composed.element number class p) h = h
xmlns_back scopes (composed.attribute class p) h = h
xmlns_back scopes p h = absurd h

type_there : (why : TypeFault) (scopes : List Clauses) (p : Composed) → HasRefusedType why scopes p →
    HasRefusedType why (map unnumbered_in scopes) (unnumbered p)
type_there why scopes (composed.value type text) h = h
type_there why scopes (composed.typed type params except) h = h
type_there why scopes p h = absurd h

type_back : (why : TypeFault) (scopes : List Clauses) (p : Composed) → HasRefusedType why (map unnumbered_in scopes) (unnumbered p) →
    HasRefusedType why scopes p
type_back why scopes (composed.value type text) h = h
type_back why scopes (composed.typed type params except) h = h
type_back why scopes p h = absurd h

value_there : (scopes : List Clauses) (p : Composed) → IsBadValue scopes p → IsBadValue (map unnumbered_in scopes) (unnumbered p)
value_there scopes (composed.value type text) h = h
value_there scopes p h = absurd h

value_back : (scopes : List Clauses) (p : Composed) → IsBadValue (map unnumbered_in scopes) (unnumbered p) → IsBadValue scopes p
value_back scopes (composed.value type text) h = h
value_back scopes p h = absurd h

-- ---- sizes

-- what is too large is too large
module _ (whole other : Composed) (same : unnumbered whole ≡ unnumbered other) (begin : Form) (others : List FormDefinition)
    (also : IsForm other begin others) where
  large_other : (start : Form) (definitions : List FormDefinition) → IsForm whole start definitions →
      (node_limit < nodes_of_all start definitions) ⊎ IsTooDeep start definitions →
      (node_limit < nodes_of_all begin others) ⊎ IsTooDeep begin others
  large_other start definitions is (inl many) =
      let totals = same_total whole other start begin definitions others is also same in inl (omega arith)
  large_other start definitions is (inr (inl deep)) =
      let depths = depth_same start begin (starts whole other start begin definitions others is also same) in inr (inl (omega arith))
  large_other start definitions is (inr (inr (number, definition, there, deep))) =
      let e =
      number_occurs whole [] whole number the_whole ((is.each_number number).1 (slice_get_within definitions number definition there))
      in
      let d = is.each_element e.scopes number e.class e.pattern e.occurs in
      let n = numbered_at other same (occurs_unnumbered e.occurs) in
      let h = alike_by (composed.element number e.class e.pattern) n.pattern (sym n.pattern_is) in
      let P : Composed → Type 0 = λ p. Occurs other (place n.scopes p) in
      let f = also.each_element n.scopes h.0 e.class h.1 (subst P h.2 n.occurs) in
      let r = simple_alike d.simple n.scopes h.1 (sym n.scopes_are) (sym h.3) in
      let depths = depth_same d.content f.content (r.same ∙ ap plain (simple_one r.simple f.simple)) in
      let here : depth definition.content ≡ depth d.content =
      ap (λ (k : FormDefinition). depth k.content) (same_Some definition _ (sym there ∙ d.there)) in
      inr (inr (h.0, record { class = e.class; content = f.content }, f.there, omega arith))

  too_large_other : IsTooLarge whole → IsTooLarge other
  too_large_other h = record { start = begin; definitions = others; form = also; large = large_other h.start h.definitions h.form h.large }

-- ---- causes

broken_other : (whole other : Composed) → unnumbered whole ≡ unnumbered other → (begin : Form) (others : List FormDefinition) →
    IsForm other begin others → (why : Cause) → WholeIsBroken whole why → WholeIsBroken other why
broken_other whole other same begin others form cause.NoDefinition h =
    has_other IsUndefined undefined_there undefined_back whole other same h
broken_other whole other same begin others form cause.NoStart h = has_other HasNoStart start_there start_back whole other same h
broken_other whole other same begin others form cause.CombineClash h = has_other HasClash clash_there clash_back whole other same h
broken_other whole other same begin others form cause.BadExcept h = has_other HasBadExcept except_there except_back whole other same h
broken_other whole other same begin others form cause.XmlnsName h = has_other HasXmlnsName xmlns_there xmlns_back whole other same h
broken_other whole other same begin others form cause.UnknownType h = has_other (HasRefusedType type_fault.UnknownType)
    (type_there type_fault.UnknownType) (type_back type_fault.UnknownType) whole other same h
broken_other whole other same begin others form cause.UnknownParam h = has_other (HasRefusedType type_fault.UnknownParam)
    (type_there type_fault.UnknownParam) (type_back type_fault.UnknownParam) whole other same h
broken_other whole other same begin others form cause.BadParam h =
    has_other (HasRefusedType type_fault.BadParam) (type_there type_fault.BadParam) (type_back type_fault.BadParam) whole other same h
broken_other whole other same begin others form cause.BadValue h = has_other IsBadValue value_there value_back whole other same h
broken_other whole other same begin others form cause.TooManyExcepts h = has_alike HasTooManyExcepts many_alike whole other same h
broken_other whole other same begin others form cause.UnsupportedExcept h = has_alike IsUnsupported unsupported_alike whole other same h
broken_other whole other same begin others form cause.RefLoop h = back_other whole other same h
broken_other whole other same begin others form cause.TooLarge h = too_large_other whole other same begin others form h
broken_other whole other same begin others form why h = absurd h

module _ (decided : JoinsIsDecided) (files : FileMap) (uri : List ℕ) (start : Pattern) (definitions : List Definition)
    (simplified : Simplifies files uri start definitions) where
  piece_never : (why : Cause) → PieceIsBroken files uri why → ⊥
  piece_never why h = simplified.unbroken why (broken_other h.whole simplified.whole (piece_one decided files uri h.whole simplified.whole h.composed simplified.composed) simplified.start_form simplified.definition_forms simplified.form why h.broken)

  passed : ArePassed files uri
  passed = are_passed decided files uri simplified.whole simplified.composed

  -- files that have a grammar are not broken
  pub never_broken : (why : Cause) → IsBroken files uri why → ⊥
  never_broken cause.BadEscape h = passed.none_refused cause.BadEscape h
  never_broken cause.BadLiteral h = passed.none_refused cause.BadLiteral h
  never_broken cause.BadCharacter h = passed.none_refused cause.BadCharacter h
  never_broken cause.Syntax h = passed.none_refused cause.Syntax h
  never_broken cause.TooDeep h = passed.none_refused cause.TooDeep h
  never_broken cause.UndeclaredPrefix h = passed.none_refused cause.UndeclaredPrefix h
  never_broken cause.Twice h = passed.none_refused cause.Twice h
  never_broken cause.BadMarkup h = passed.none_refused cause.BadMarkup h
  never_broken cause.BadForm h = passed.none_refused cause.BadForm h
  never_broken cause.NotGrammar h = passed.grammars_included h
  never_broken cause.IncludeLoop h = passed.no_loop h
  never_broken cause.NoDefinition (inl h) = passed.replaced_defined h
  never_broken cause.NoDefinition (inr h) = piece_never cause.NoDefinition h
  never_broken why h = piece_never why h

-- nor are they refused for another cause than want of memory or of the files
pub no_refusal : JoinsIsDecided → (files : FileMap) (uri : List ℕ) (before after before_again after_again : ℕ) (grammar : Grammar) (refusal : SchemaFault) →
    Answers (Some files) uri before after (Ok grammar) → Answers (Some files) uri before_again after_again (Err refusal) →
    (refusal ≡ fault.NoMemory) ⊎ (refusal ≡ fault.Failed)
no_refusal decided files uri before after before_again after_again grammar fault.NoMemory h r = inl refl
no_refusal decided files uri before after before_again after_again grammar fault.Failed h r = inr refl
no_refusal decided files uri before after before_again after_again grammar (fault.Absent absent) h r =
    absurd ((are_passed decided files uri h.0.whole h.0.composed).none_absent absent r.1)
no_refusal decided files uri before after before_again after_again grammar (fault.NotUtf8 wrong at) h r =
    absurd ((are_passed decided files uri h.0.whole h.0.composed).all_texts wrong at r.1)
no_refusal decided files uri before after before_again after_again grammar (fault.BadUri text) h r =
    absurd ((are_passed decided files uri h.0.whole h.0.composed).no_bad_uri text r.1)
no_refusal decided files uri before after before_again after_again grammar (fault.Unreadable why) h r =
    absurd (never_broken decided files uri (pattern_of grammar.start) (definitions_of grammar) h.0 why r.1)
