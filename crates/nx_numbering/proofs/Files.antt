-- The grammars that files define are one but for numbers.
use Rattle.std.proofs.Common.{◌≡◌, ℕ, zero, suc, List, [], ◌∷◌, map, length, refl, sym, ap, ap₂, subst, ◌∙◌, Some, None, inl, inr, arith}
use Rattle.std.specs.Prelude.{slice_get, Contains}
use Rattle.std.proofs.lemmas.Option.{slice_get_cases, slice_get_past, slice_get_within, same_Some}
use Rattle.nx_host.specs.Uri.{JoinsIsDecided}
use Rattle.rng_core.specs.Names.{Class}
use Rattle.rng_core.specs.Patterns.{Pattern, Definition}
use Rattle.rng_simplify.specs.Composed.{Composed, Clauses, numbers}
use Rattle.rng_simplify.specs.Composed as composed
use Rattle.rng_simplify.specs.Datatypes.{Typed, AreTyped, none_typed, next_typed}
use Rattle.rng_simplify.specs.Forms.{Form, FormDefinition}
use Rattle.rng_simplify.specs.Places.{place, Occurs, the_whole}
use Rattle.rng_simplify.specs.Simple.{Simple}
use Rattle.rng_simplify.specs.Unnumbered.{unnumbered}
use Rattle.rng_simplify.specs.Whole.{IsForm}
use Rattle.rng_simplify.proofs.Nodes.{in_first, in_more}
use Rattle.rng_simplify.proofs.OneComposed.{piece_one}
use Rattle.rng_simplify.proofs.OneForm.{simple_one, number_occurs}
use Rattle.rng_simplify.proofs.OneType.{typed_one}
use Rattle.nx_numbering.specs.Numbers.{renumbered, Renumbers}
use Rattle.nx_numbering.specs.Schemas.{FilesDefineOneLanguage, language}
use Rattle.nx_numbering.proofs.Lists.{stands_for, comes_for, others_stand, is_at, stands_back}
use Rattle.nx_numbering.proofs.Pieces.{mapped, mapped_in, same_many, with_numbers, formed, simple_mapped, occurs_mapped, typed_formed}

-- what stands at a place is in the list
among_at : (xs : List ℕ) (j n : ℕ) → slice_get xs j ≡ Some n → Contains xs n
among_at [] j n at = let never : ⊥ = cc in absurd never
among_at (x ∷ xs) zero n at = let P : ℕ → Type 0 = λ y. Contains (x ∷ xs) y in subst P (same_Some x n at) (in_first x xs)
among_at (x ∷ xs) (suc j) n at = in_more x xs n (among_at xs j n at)

-- ---- definitions with their types

-- a definition has a form of the same class
record HasForm (forms : List FormDefinition) (i : ℕ) (d : Definition) : Type 0 where
  content : Form
  is : slice_get forms i ≡ Some (record { class = d.class; content = content })
  typed : Typed content d.content

has_form : {forms : List FormDefinition} {definitions : List Definition} (i : ℕ) (d : Definition) → AreTyped forms definitions → slice_get definitions i ≡ Some d → HasForm forms i d
has_form i d none_typed at = let never : ⊥ = cc in absurd never
has_form zero d (next_typed {class = class} {p = p} {q = q} {ps = ps} one more) at =
    let F : Definition → Type 0 = λ x. HasForm (record { class = class; content = p } ∷ ps) 0 x in
    subst F (same_Some (record { class = class; content = q }) d at) (record { content = p; is = refl; typed = one })
has_form (suc i) d (next_typed one more) at = let h = has_form i d more at in record { content = h.content; is = h.is; typed = h.typed }

-- and a form a definition
record HasType (definitions : List Definition) (i : ℕ) (class : Class) (content : Form) : Type 0 where
  pattern : Pattern
  is : slice_get definitions i ≡ Some (record { class = class; content = pattern })
  typed : Typed content pattern

has_type : {forms : List FormDefinition} {definitions : List Definition} (i : ℕ) (class : Class) (content : Form) → AreTyped forms definitions → slice_get forms i ≡ Some (record { class = class; content = content }) → HasType definitions i class content
has_type i class content none_typed at = let never : ⊥ = cc in absurd never
has_type zero class content (next_typed {class = c} {p = p} {q = q} one more) at =
    let same = same_Some (record { class = c; content = p }) (record { class = class; content = content }) at in
    let classes : c ≡ class = ap (λ (x : FormDefinition). x.class) same in
    let contents : p ≡ content = ap (λ (x : FormDefinition). x.content) same in
    let T : Form → Type 0 = λ x. Typed x q in
    record { pattern = q; is = ap (λ (x : Class). Some (record { class = x; content = q })) classes; typed = subst T contents one }
has_type (suc i) class content (next_typed one more) at = let h = has_type i class content more at in record { pattern = h.pattern; is = h.is; typed = h.typed }

typed_long : {forms : List FormDefinition} {definitions : List Definition} → AreTyped forms definitions → length forms ≡ length definitions
typed_long none_typed = refl
typed_long (next_typed one more) = ap suc (typed_long more)

-- ---- two grammars

abbrev made : Class → Pattern → Definition
made class content = record { class = class; content = content }

same_definition : (class other : Class) (p q : Pattern) → class ≡ other → p ≡ q → ◌≡◌ {A = Definition} (record { class = class; content = p }) (record { class = other; content = q })
same_definition class other p q one two = ap₂ made one two

module _ (whole other : Composed) (start start_there : Form) (forms forms_there : List FormDefinition) (p q : Pattern) (definitions others : List Definition) where
  abbrev there : ℕ → ℕ
  there = stands_for (length others) (numbers whole) (numbers other)

  one_leads : unnumbered whole ≡ unnumbered other → IsForm whole start forms → IsForm other start_there forms_there → Typed start p → Typed start_there q → AreTyped forms definitions → AreTyped forms_there others →
      Renumbers there (language p definitions) (language q others)
  one_leads same is also typed typed_there are are_there =
      let mapped_is : mapped there whole ≡ other = with_numbers there whole other same (comes_for (length others) (numbers whole) (numbers other) is.distinct (same_many whole other same)) in
      let S : Composed → Type 0 = λ x. Simple [] x (formed there start) in
      let start_is : formed there start ≡ start_there = simple_one (subst S mapped_is (simple_mapped there is.start_is)) also.start_is in
      let T : Form → Type 0 = λ x. Typed x (renumbered there p) in
      record {
        start = typed_one typed_there (subst T start_is (typed_formed there typed));
        definitions = λ i d at.
            let has = has_form i d are at in
            let e = number_occurs whole [] whole i the_whole ((is.each_number i).1 (slice_get_within forms i _ has.is)) in
            let here = is.each_element e.scopes i e.class e.pattern e.occurs in
            let O : Composed → Type 0 = λ x. Occurs x (place (map (mapped_in there) e.scopes) (composed.element (there i) e.class (mapped there e.pattern))) in
            let element = also.each_element (map (mapped_in there) e.scopes) (there i) e.class (mapped there e.pattern) (subst O mapped_is (occurs_mapped there e.occurs)) in
            let form_is : formed there here.content ≡ element.content = simple_one (simple_mapped there here.simple) element.simple in
            let these = same_Some (record { class = d.class; content = has.content }) (record { class = e.class; content = here.content }) (sym has.is ∙ here.there) in
            let class_is : e.class ≡ d.class = sym (ap (λ (x : FormDefinition). x.class) these) in
            let content_is : has.content ≡ here.content = ap (λ (x : FormDefinition). x.content) these in
            let type = has_type (there i) e.class element.content are_there element.there in
            let F : Form → Type 0 = λ x. Typed x (renumbered there d.content) in
            let pattern_is : type.pattern ≡ renumbered there d.content = typed_one type.typed (subst F (ap (formed there) content_is ∙ form_is) (typed_formed there has.typed)) in
            type.is ∙ ap (λ (x : Definition). Some x) (same_definition e.class d.class type.pattern (renumbered there d.content) class_is pattern_is);
        undefined = λ i nothing. elim (slice_get_cases definitions i).1 [
          | inl found ↦ (let never : ⊥ = cc (found.2, nothing) in absurd never)
          | inr past ↦
              (let none : there i ≡ length others = others_stand (length others) (numbers whole) (numbers other) i
              (λ j at. absurd (let low = (is.each_number i).0 (among_at (numbers whole) j i at) in omega (arith, low, past.0, typed_long are))) in
              let P : ℕ → Type 0 = λ n. slice_get others n ≡ None in
              subst P (sym none) (slice_get_past others (length others) (omega arith)))
        ];
      }

-- what stands for a definition's number leads back to it
number_back : (whole other : Composed) (start start_there : Form) (forms forms_there : List FormDefinition) (definitions others : List Definition)
    → unnumbered whole ≡ unnumbered other → IsForm whole start forms → IsForm other start_there forms_there → AreTyped forms definitions
    → (i : ℕ) (d : Definition) → slice_get definitions i ≡ Some d
    → stands_for (length definitions) (numbers other) (numbers whole) (stands_for (length others) (numbers whole) (numbers other) i) ≡ i
number_back whole other start start_there forms forms_there definitions others same is also are i d at =
    let has = has_form i d are at in
    let within = (is.each_number i).1 (slice_get_within forms i _ has.is) in
    stands_back (length others) (length definitions) (numbers whole) (numbers other) i is.distinct also.distinct (same_many whole other same) (is_at (numbers whole) i within)

pub files_define_one_language : JoinsIsDecided → FilesDefineOneLanguage
files_define_one_language decided files uri start other definitions others one two =
    let same = piece_one decided files uri one.whole two.whole one.composed two.composed in
    record {
      there = there one.whole two.whole one.start_form two.start_form one.definition_forms two.definition_forms start other definitions others;
      back = there two.whole one.whole two.start_form one.start_form two.definition_forms one.definition_forms other start others definitions;
      leads_there = one_leads one.whole two.whole one.start_form two.start_form one.definition_forms two.definition_forms start other definitions others same one.form two.form one.start_is two.start_is one.definitions_are two.definitions_are;
      leads_back = one_leads two.whole one.whole two.start_form one.start_form two.definition_forms one.definition_forms other start others definitions (sym same) two.form one.form two.start_is one.start_is two.definitions_are one.definitions_are;
      there_and_back = number_back one.whole two.whole one.start_form two.start_form one.definition_forms two.definition_forms definitions others same one.form two.form one.definitions_are;
      back_and_there = number_back two.whole one.whole two.start_form one.start_form two.definition_forms one.definition_forms others definitions (sym same) two.form one.form two.definitions_are;
    }
