-- A piece of files is one whatever numbers its elements have.
use Rattle.std.specs.Prelude.{if◌then◌else◌}
use Rattle.std.proofs.Common.{◌≡◌, refl, sym, ap, ◌∙◌, subst, Bool, true, false, List, [], ◌∷◌}
use Rattle.nx_host.specs.Files.{FileMap}
use Rattle.rnc_parse.specs.declared.surface.Combine.{Combine}
use Rattle.rnc_parse.specs.declared.surface.Defined.{Defined}
use Rattle.rnc_parse.specs.Written.{WrittenPattern, WrittenItems, WrittenReplacements, WrittenSurface, a_grammar}
use Rattle.rnc_parse.specs.Written as written
use Rattle.rng_simplify.specs.Classes.{class_in}
use Rattle.rng_simplify.specs.Composed.{Composed, Clauses, end_of_clauses, clause_then, then_clauses, defines, but_for, names_of}
use Rattle.rng_simplify.specs.Composed as composed
use Rattle.rng_simplify.specs.ComposedFiles.{Context, DefinesEach, Composes, by_element, by_attribute, by_list, by_ref, by_parent_ref, by_empty, by_text, by_not_allowed, by_value, by_type, by_type_but, by_external, by_grammar, by_optional, by_zero_or_more, by_one_or_more, by_mixed, by_choice, by_group, by_interleave, ComposesFile, of_pattern, of_grammar, Gathers, no_item, definition, division, inclusion, GathersAnew, none_anew, definition_anew, division_anew}
use Rattle.rng_simplify.specs.Exact.{NumbersAreFree}
use Rattle.rng_simplify.specs.Unnumbered.{unnumbered, unnumbered_in}
use Rattle.rng_simplify.proofs.Alike.{alike_by}
use Rattle.rng_simplify.proofs.OneComposed.{defines_same}

-- ---- clauses with other numbers

-- they begin with a clause that is the same
record BeginsWith (name : Defined) (combine : Combine) (p : Composed) (more others : Clauses) : Type 0 where
  body : Composed
  rest : Clauses
  is : others ≡ clause_then name combine body rest
  body_same : unnumbered body ≡ unnumbered p
  rest_same : unnumbered_in rest ≡ unnumbered_in more

begins_with : (name : Defined) (combine : Combine) (p : Composed) (more others : Clauses) →
    unnumbered_in others ≡ unnumbered_in (clause_then name combine p more) → BeginsWith name combine p more others
begins_with name combine p more end_of_clauses same = let never : ⊥ = cc in absurd never
begins_with name combine p more (clause_then other also q rest) same =
    let names : other ≡ name = cc in
    let combines : also ≡ combine = cc in
    let bodies : unnumbered q ≡ unnumbered p = cc in
    let rests : unnumbered_in rest ≡ unnumbered_in more = cc in
    record {
      body = q;
      rest = rest;
      is = ap (λ n. clause_then n also q rest) names ∙ ap (λ c. clause_then name c q rest) combines;
      body_same = bodies;
      rest_same = rests;
    }

none_left : (others : Clauses) → unnumbered_in others ≡ end_of_clauses → others ≡ end_of_clauses
none_left end_of_clauses same = refl
none_left (clause_then name combine p more) same = let never : ⊥ = cc in absurd never

-- they are two parts, each of which is the same
record Parts (first second others : Clauses) : Type 0 where
  front : Clauses
  behind : Clauses
  is : others ≡ then_clauses front behind
  front_same : unnumbered_in front ≡ unnumbered_in first
  behind_same : unnumbered_in behind ≡ unnumbered_in second

in_parts : (first second others : Clauses) → unnumbered_in others ≡ unnumbered_in (then_clauses first second) → Parts first second others
in_parts end_of_clauses second others same =
    record { front = end_of_clauses; behind = others; is = refl; front_same = refl; behind_same = same }
in_parts (clause_then name combine p more) second others same =
    let h = begins_with name combine p (then_clauses more second) others same in
    let rest = in_parts more second h.rest h.rest_same in
    record {
      front = clause_then name combine h.body rest.front;
      behind = rest.behind;
      is = h.is ∙ ap (clause_then name combine h.body) rest.is;
      front_same = ap (λ q. clause_then name combine q (unnumbered_in rest.front)) h.body_same
          ∙ ap (clause_then name combine (unnumbered p)) rest.front_same;
      behind_same = rest.behind_same;
    }

-- clauses of which these are left, where others are defined anew
record Leaves (anew old kept : Clauses) : Type 0 where
  all : Clauses
  same : unnumbered_in all ≡ unnumbered_in old
  left : but_for anew all ≡ kept

module _ (new anew : Clauses) (alike : (name : Defined) → defines name anew ≡ defines name new) where
  leaves_if : (b : Bool) (name : Defined) (combine : Combine) (p : Composed) (more kept : Clauses) → defines name new ≡ b →
      unnumbered_in kept ≡ unnumbered_in (if b then but_for new more else clause_then name combine p (but_for new more)) →
      ((rest : Clauses) → unnumbered_in rest ≡ unnumbered_in (but_for new more) → Leaves anew more rest) →
      Leaves anew (clause_then name combine p more) kept
  leaves_if true name combine p more kept is same further =
      let rest = further kept same in
      record {
        all = clause_then name combine p rest.all;
        same = ap (clause_then name combine (unnumbered p)) rest.same;
        left = ap (λ b. if b then but_for anew rest.all else clause_then name combine p (but_for anew rest.all)) (alike name ∙ is)
            ∙ rest.left;
      }
  leaves_if false name combine p more kept is same further =
      let h = begins_with name combine p (but_for new more) kept same in
      let rest = further h.rest h.rest_same in
      record {
        all = clause_then name combine h.body rest.all;
        same = ap (λ q. clause_then name combine q (unnumbered_in rest.all)) h.body_same
            ∙ ap (clause_then name combine (unnumbered p)) rest.same;
        left = ap (λ b. if b then but_for anew rest.all else clause_then name combine h.body (but_for anew rest.all)) (alike name ∙ is)
            ∙ ap (clause_then name combine h.body) rest.left ∙ sym h.is;
      }

  leaves : (old kept : Clauses) → unnumbered_in kept ≡ unnumbered_in (but_for new old) → Leaves anew old kept
  leaves end_of_clauses kept same = record { all = end_of_clauses; same = refl; left = sym (none_left kept same) }
  leaves (clause_then name combine p more) kept same =
      leaves_if (defines name new) name combine p more kept refl same (λ rest also. leaves more rest also)

names_unnumbered : (clauses : Clauses) → names_of (unnumbered_in clauses) ≡ names_of clauses
names_unnumbered end_of_clauses = refl
names_unnumbered (clause_then name combine p more) = ap (λ ns. name ∷ ns) (names_unnumbered more)

names_same : (some others : Clauses) → unnumbered_in some ≡ unnumbered_in others → names_of some ≡ names_of others
names_same some others same = sym (names_unnumbered some) ∙ ap names_of same ∙ names_unnumbered others

each_same : (some others : Clauses) (names : List Defined) → unnumbered_in some ≡ unnumbered_in others → DefinesEach others names →
    DefinesEach some names
each_same some others [] same each = tt
each_same some others (name ∷ names) same each =
    (defines_same name some others same ∙ each.0, each_same some others names same each.1)

-- ---- pieces with other numbers

module _ (files : FileMap) where
  mutual
    composes_freely : {context : Context} {p : WrittenPattern} {q : Composed} → Composes files context p q → (r : Composed) →
        unnumbered r ≡ unnumbered q → Composes files context p r
    composes_freely (by_element {context = context} {class = class} {p = p} {q = q} number part) r same =
        let h = alike_by (composed.element number (class_in context.inherited class) q) r (sym same) in
        subst (Composes files context (written.element class p)) (sym h.2) (by_element h.0 (composes_freely part h.1 h.3))
    composes_freely (by_attribute {context = context} {class = class} {p = p} {q = q} part) r same =
        let h = alike_by (composed.attribute (class_in context.inherited class) q) r (sym same) in
        subst (Composes files context (written.attribute class p)) (sym h.1) (by_attribute (composes_freely part h.0 h.2))
    composes_freely (by_list {context = context} {p = p} {q = q} part) r same =
        let h = alike_by (composed.listed q) r (sym same) in
        subst (Composes files context (written.list p)) (sym h.1) (by_list (composes_freely part h.0 h.2))
    composes_freely (by_ref {context = context} {name = name}) r same =
        subst (Composes files context (written.ref name)) (sym (alike_by (composed.ref name) r (sym same))) by_ref
    composes_freely (by_parent_ref {context = context} {name = name}) r same =
        subst (Composes files context (written.parent_ref name)) (sym (alike_by (composed.parent_ref name) r (sym same))) by_parent_ref
    composes_freely (by_empty {context = context}) r same =
        subst (Composes files context written.empty) (sym (alike_by composed.empty r (sym same))) by_empty
    composes_freely (by_text {context = context}) r same =
        subst (Composes files context written.any_text) (sym (alike_by composed.any_text r (sym same))) by_text
    composes_freely (by_not_allowed {context = context}) r same =
        subst (Composes files context written.not_allowed) (sym (alike_by composed.not_allowed r (sym same))) by_not_allowed
    composes_freely (by_value {context = context} {type = type} {text = text}) r same =
        subst (Composes files context (written.value type text)) (sym (alike_by (composed.value type text) r (sym same))) by_value
    composes_freely (by_type {context = context} {type = type} {params = params}) r same =
        let h = alike_by (composed.typed type params composed.not_allowed) r (sym same) in
        let none : h.0 ≡ composed.not_allowed = alike_by composed.not_allowed h.0 (sym h.2) in
        subst (Composes files context (written.typed type params)) (sym (h.1 ∙ ap (composed.typed type params) none)) by_type
    composes_freely (by_type_but {context = context} {type = type} {params = params} {except = except} {q = q} part) r same =
        let h = alike_by (composed.typed type params q) r (sym same) in
        subst (Composes files context (written.typed_but type params except)) (sym h.1) (by_type_but (composes_freely part h.0 h.2))
    composes_freely (by_external opens file) r same = by_external opens (file_freely file r same)
    composes_freely (by_grammar {context = context} {items = items} {clauses = clauses} gathered) r same =
        let h = alike_by (composed.grammar clauses) r (sym same) in
        subst (Composes files context (written.grammar items)) (sym h.1) (by_grammar (gathers_freely gathered h.0 h.2))
    composes_freely (by_optional {context = context} {p = p} {q = q} part) r same =
        let h = alike_by (composed.choice q composed.empty) r (sym same) in
        let empty : h.1 ≡ composed.empty = alike_by composed.empty h.1 (sym h.4) in
        subst (Composes files context (written.optional p)) (sym (h.2 ∙ ap (composed.choice h.0) empty))
        (by_optional (composes_freely part h.0 h.3))
    composes_freely (by_zero_or_more {context = context} {p = p} {q = q} part) r same =
        let h = alike_by (composed.choice (composed.one_or_more q) composed.empty) r (sym same) in
        let more = alike_by (composed.one_or_more q) h.0 (sym h.3) in
        let empty : h.1 ≡ composed.empty = alike_by composed.empty h.1 (sym h.4) in
        subst (Composes files context (written.zero_or_more p))
        (sym (h.2 ∙ ap (composed.choice h.0) empty ∙ ap (λ x. composed.choice x composed.empty) more.1))
        (by_zero_or_more (composes_freely part more.0 more.2))
    composes_freely (by_one_or_more {context = context} {p = p} {q = q} part) r same =
        let h = alike_by (composed.one_or_more q) r (sym same) in
        subst (Composes files context (written.one_or_more p)) (sym h.1) (by_one_or_more (composes_freely part h.0 h.2))
    composes_freely (by_mixed {context = context} {p = p} {q = q} part) r same =
        let h = alike_by (composed.interleave composed.any_text q) r (sym same) in
        let text : h.0 ≡ composed.any_text = alike_by composed.any_text h.0 (sym h.3) in
        subst (Composes files context (written.mixed p)) (sym (h.2 ∙ ap (λ x. composed.interleave x h.1) text))
        (by_mixed (composes_freely part h.1 h.4))
    composes_freely (by_choice {context = context} {p1 = p1} {p2 = p2} {q1 = q1} {q2 = q2} one other) r same =
        let h = alike_by (composed.choice q1 q2) r (sym same) in
        subst (Composes files context (written.choice p1 p2)) (sym h.2)
        (by_choice (composes_freely one h.0 h.3) (composes_freely other h.1 h.4))
    composes_freely (by_group {context = context} {p1 = p1} {p2 = p2} {q1 = q1} {q2 = q2} one other) r same =
        let h = alike_by (composed.group q1 q2) r (sym same) in
        subst (Composes files context (written.group p1 p2)) (sym h.2)
        (by_group (composes_freely one h.0 h.3) (composes_freely other h.1 h.4))
    composes_freely (by_interleave {context = context} {p1 = p1} {p2 = p2} {q1 = q1} {q2 = q2} one other) r same =
        let h = alike_by (composed.interleave q1 q2) r (sym same) in
        subst (Composes files context (written.interleave p1 p2)) (sym h.2)
        (by_interleave (composes_freely one h.0 h.3) (composes_freely other h.1 h.4))

    file_freely : {context : Context} {surface : WrittenSurface} {q : Composed} → ComposesFile files context surface q → (r : Composed) →
        unnumbered r ≡ unnumbered q → ComposesFile files context surface r
    file_freely (of_pattern part) r same = of_pattern (composes_freely part r same)
    file_freely (of_grammar {context = context} {items = items} {clauses = clauses} gathered) r same =
        let h = alike_by (composed.grammar clauses) r (sym same) in
        subst (ComposesFile files context (a_grammar items)) (sym h.1) (of_grammar (gathers_freely gathered h.0 h.2))

    gathers_freely : {context : Context} {items : WrittenItems} {clauses : Clauses} → Gathers files context items clauses →
        (others : Clauses) → unnumbered_in others ≡ unnumbered_in clauses → Gathers files context items others
    gathers_freely (no_item {context = context}) others same =
        subst (Gathers files context written.no_items) (sym (none_left others same)) no_item
    gathers_freely (definition {context = context} {name = name} {combine = combine} {p = p} {q = q} {items = items}
        {clauses = clauses} part more) others same =
        let h = begins_with name combine q clauses others same in
        subst (Gathers files context (written.item_then (written.define name combine p) items)) (sym h.is)
        (definition (composes_freely part h.body h.body_same) (gathers_freely more h.rest h.rest_same))
    gathers_freely (division {first = first} {clauses = clauses} within more is) others same =
        let h = in_parts first clauses others (same ∙ ap unnumbered_in is) in
        division (gathers_freely within h.front h.front_same) (gathers_freely more h.behind h.behind_same) h.is
    gathers_freely (inclusion {old = old} {new = new} {clauses = clauses} opens is_grammar gathered anew each more is) others same =
        let h = in_parts (but_for new old) (then_clauses new clauses) others (same ∙ ap unnumbered_in is) in
        let k = in_parts new clauses h.behind h.behind_same in
        let o = leaves new k.front (λ name. defines_same name k.front new k.front_same) old h.front h.front_same in
        let P : List Defined → Type 0 = DefinesEach o.all in
        inclusion opens is_grammar (gathers_freely gathered o.all o.same) (anew_freely anew k.front k.front_same)
        (subst P (sym (names_same k.front new k.front_same)) (each_same o.all old (names_of new) o.same each))
        (gathers_freely more k.behind k.behind_same)
        (h.is ∙ ap (λ x. then_clauses x h.behind) (sym o.left) ∙ ap (then_clauses (but_for k.front o.all)) k.is)

    anew_freely : {context : Context} {replacements : WrittenReplacements} {clauses : Clauses} →
        GathersAnew files context replacements clauses → (others : Clauses) → unnumbered_in others ≡ unnumbered_in clauses →
        GathersAnew files context replacements others
    anew_freely (none_anew {context = context}) others same =
        subst (GathersAnew files context written.no_replacements) (sym (none_left others same)) none_anew
    anew_freely (definition_anew {context = context} {name = name} {combine = combine} {p = p} {q = q} {replacements = rest}
        {clauses = clauses} part more) others same =
        let h = begins_with name combine q clauses others same in
        subst (GathersAnew files context (written.replacement_then (written.define_anew name combine p) rest)) (sym h.is)
        (definition_anew (composes_freely part h.body h.body_same) (anew_freely more h.rest h.rest_same))
    anew_freely (division_anew {first = first} {clauses = clauses} within more is) others same =
        let h = in_parts first clauses others (same ∙ ap unnumbered_in is) in
        division_anew (anew_freely within h.front h.front_same) (anew_freely more h.behind h.behind_same) h.is

pub numbers_are_free : NumbersAreFree
numbers_are_free files uri piece other composes same = record {
  surface = composes.surface;
  says = composes.says;
  composed = file_freely files composes.composed other same;
}
