-- Content types are found.
use Rattle.std.specs.Prelude.{◌≡◌, true, Option, Some, None}
use Rattle.std.proofs.Common.{refl, ap, ◌∙◌, subst}
use Rattle.std.proofs.lemmas.Bool.{false≢true}
use Rattle.rng_core.specs.Names.{Class}
use Rattle.rng_core.specs.Patterns.{Pattern, not_allowed, empty, any_text, typed, literal, listed, attribute, ref, one_or_more, choice, group, interleave}
use Rattle.rng_restrict.specs.declared.content.Content.{Content}
use Rattle.rng_restrict.specs.declared.content.Content.TheVariants.{Empty, Complex, Simple}
use Rattle.rng_restrict.specs.Contents.{Groupable, beside_empty, empty_beside, both_complex, greater, HasType, value_is_simple, data_is_simple, list_is_simple, text_is_complex, ref_is_complex, empty_is_empty, attribute_is_empty, group_has, interleave_has, one_or_more_has, choice_has, IsMixture}
use Rattle.rng_restrict.specs.Finding.{grouped, chosen, emptied, content_of, has_no_type, is_mixture}

-- the type that was found is one of the pattern's
abbrev HasFound : Pattern → Option Content → Type 0
HasFound p None = Unit {0}
HasFound p (Some t) = HasType p t

of_attribute : (c : Class) (p : Pattern) (o : Option Content) → HasFound p o → HasFound (attribute c p) (emptied o)
of_attribute c p None m = tt
of_attribute c p (Some t) m = attribute_is_empty m

of_group : (p q : Pattern) (o r : Option Content) → HasFound p o → HasFound q r → HasFound (group p q) (grouped o r)
of_group p q None r m n = tt
of_group p q (Some s) None m n = tt
of_group p q (Some Empty) (Some t) m n = group_has m n empty_beside
of_group p q (Some Complex) (Some Empty) m n = group_has m n beside_empty
of_group p q (Some Complex) (Some Complex) m n = group_has m n both_complex
of_group p q (Some Complex) (Some Simple) m n = tt
of_group p q (Some Simple) (Some Empty) m n = group_has m n beside_empty
of_group p q (Some Simple) (Some Complex) m n = tt
of_group p q (Some Simple) (Some Simple) m n = tt

of_interleave : (p q : Pattern) (o r : Option Content) → HasFound p o → HasFound q r → HasFound (interleave p q) (grouped o r)
of_interleave p q None r m n = tt
of_interleave p q (Some s) None m n = tt
of_interleave p q (Some Empty) (Some t) m n = interleave_has m n empty_beside
of_interleave p q (Some Complex) (Some Empty) m n = interleave_has m n beside_empty
of_interleave p q (Some Complex) (Some Complex) m n = interleave_has m n both_complex
of_interleave p q (Some Complex) (Some Simple) m n = tt
of_interleave p q (Some Simple) (Some Empty) m n = interleave_has m n beside_empty
of_interleave p q (Some Simple) (Some Complex) m n = tt
of_interleave p q (Some Simple) (Some Simple) m n = tt

of_one_or_more : (p : Pattern) (o : Option Content) → HasFound p o → HasFound (one_or_more p) (grouped o o)
of_one_or_more p None m = tt
of_one_or_more p (Some Empty) m = one_or_more_has m empty_beside
of_one_or_more p (Some Complex) m = one_or_more_has m both_complex
of_one_or_more p (Some Simple) m = tt

of_choice : (p q : Pattern) (o r : Option Content) → HasFound p o → HasFound q r → HasFound (choice p q) (chosen o r)
of_choice p q None r m n = tt
of_choice p q (Some s) None m n = tt
of_choice p q (Some s) (Some t) m n = choice_has m n

type_found : (p : Pattern) → HasFound p (content_of p)
type_found not_allowed = tt
type_found empty = empty_is_empty
type_found any_text = text_is_complex
type_found (typed type excepts) = data_is_simple
type_found (literal type text) = value_is_simple
type_found (listed p) = list_is_simple
type_found (attribute c p) = of_attribute c p (content_of p) (type_found p)
type_found (ref i) = ref_is_complex
type_found (one_or_more p) = of_one_or_more p (content_of p) (type_found p)
type_found (choice p q) = of_choice p q (content_of p) (content_of q) (type_found p) (type_found q)
type_found (group p q) = of_group p q (content_of p) (content_of q) (type_found p) (type_found q)
type_found (interleave p q) = of_interleave p q (content_of p) (content_of q) (type_found p) (type_found q)

groups : {s t : Content} → Groupable s t → grouped (Some s) (Some t) ≡ Some (greater s t)
groups (beside_empty {t = Empty}) = refl
groups (beside_empty {t = Complex}) = refl
groups (beside_empty {t = Simple}) = refl
groups empty_beside = refl
groups both_complex = refl

greater_itself : (t : Content) → greater t t ≡ t
greater_itself Empty = refl
greater_itself Complex = refl
greater_itself Simple = refl

type_is_found : {p : Pattern} {t : Content} → HasType p t → content_of p ≡ Some t
type_is_found value_is_simple = refl
type_is_found data_is_simple = refl
type_is_found list_is_simple = refl
type_is_found text_is_complex = refl
type_is_found ref_is_complex = refl
type_is_found empty_is_empty = refl
type_is_found (attribute_is_empty m) = ap emptied (type_is_found m)
type_is_found (group_has {q = q} {s = s} m n g) = ap (λ (o : Option Content). grouped o (content_of q)) (type_is_found m) ∙ ap (grouped (Some s)) (type_is_found n) ∙ groups g
type_is_found (interleave_has {q = q} {s = s} m n g) = ap (λ (o : Option Content). grouped o (content_of q)) (type_is_found m) ∙ ap (grouped (Some s)) (type_is_found n) ∙ groups g
type_is_found (one_or_more_has {t = t} m g) = ap (λ (o : Option Content). grouped o o) (type_is_found m) ∙ groups g ∙ ap (λ (u : Content). Some u) (greater_itself t)
type_is_found (choice_has {q = q} {s = s} m n) = ap (λ (o : Option Content). chosen o (content_of q)) (type_is_found m) ∙ ap (chosen (Some s)) (type_is_found n)

untyped : (p : Pattern) (o : Option Content) → HasFound p o → ((t : Content) → HasType p t → ⊥) → has_no_type o ≡ true
untyped p None m none = refl
untyped p (Some t) m none = absurd (none t m)

no_type : (p : Pattern) → is_mixture p ≡ true → has_no_type (content_of p) ≡ true
no_type not_allowed is = refl
no_type p is = is

not_both : (o : Option Content) (t : Content) → has_no_type o ≡ true → o ≡ Some t → ⊥
not_both None t none same = cc
not_both (Some s) t none same = false≢true none

allowed : (p : Pattern) → is_mixture p ≡ true → p ≡ not_allowed → ⊥
allowed p is same = let P : Pattern → Type 0 = λ q. is_mixture q ≡ true in false≢true (subst P same is)

pub mixture_found : (p : Pattern) → is_mixture p ≡ true → IsMixture p
mixture_found p is = record {
  is_allowed = allowed p is;
  has_no_type = λ t m. not_both (content_of p) t (no_type p is) (type_is_found m);
}

is_mixed : (p : Pattern) → (p ≡ not_allowed → ⊥) → has_no_type (content_of p) ≡ true → is_mixture p ≡ true
is_mixed not_allowed other none = absurd (other refl)
is_mixed p other none = none

pub mixture_is_found : (p : Pattern) → IsMixture p → is_mixture p ≡ true
mixture_is_found p m = is_mixed p m.is_allowed (untyped p (content_of p) (type_found p) m.has_no_type)
