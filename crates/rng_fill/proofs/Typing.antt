-- A content with a content type is unmixed.
use Rattle.std.proofs.Common.{◌≡◌, Bool, true, false, not, ◌&&◌, ◌||◌, refl, sym}
use Rattle.std.proofs.lemmas.Bool.{and_from, or_from, false≢true}
use Rattle.rng_core.specs.Patterns.{Pattern}
use Rattle.rng_restrict.specs.declared.content.Content.{Content}
use Rattle.rng_restrict.specs.declared.content.Content.TheVariants.{Empty, Complex, Simple}
use Rattle.rng_restrict.specs.Contents.{Groupable, beside_empty, empty_beside, both_complex, greater, HasType, value_is_simple, data_is_simple}
use Rattle.rng_restrict.specs.Contents.{list_is_simple, text_is_complex, ref_is_complex, empty_is_empty, attribute_is_empty, group_has}
use Rattle.rng_restrict.specs.Contents.{interleave_has, one_or_more_has, choice_has}
use Rattle.rng_fill.specs.Fillable.{has_string_leaf, has_element, is_unmixed}
use Rattle.rng_fill.specs.Laws.{TypedAreUnmixed}

-- what a type says of strings and of elements
abbrev Says : Content → Bool → Bool → Type 0
Says Empty s e = (s ≡ false) × (e ≡ false)
Says Complex s e = s ≡ false
Says Simple s e = Unit {0}

says_both : (t u : Content) (s e r f : Bool) → Says t s e → Says u r f → Says (greater t u) (s || r) (e || f)
says_both Empty Empty s e r f a b = (or_from s r a.0 b.0, or_from e f a.1 b.1)
says_both Empty Complex s e r f a b = or_from s r a.0 b
says_both Empty Simple s e r f a b = tt
says_both Complex Empty s e r f a b = or_from s r a b.0
says_both Complex Complex s e r f a b = or_from s r a b
says_both Complex Simple s e r f a b = tt
says_both Simple u s e r f a b = tt

says : {p : Pattern} {t : Content} → HasType p t → Says t (has_string_leaf p) (has_element p)
says value_is_simple = tt
says data_is_simple = tt
says list_is_simple = tt
says text_is_complex = refl
says ref_is_complex = refl
says empty_is_empty = (refl, refl)
says (attribute_is_empty h) = (refl, refl)
says (group_has {p = p} {q = q} {s = s} {t = t} h k g) = says_both s t (has_string_leaf p) (has_element p) (has_string_leaf q) (has_element q)
    (says h) (says k)
says (interleave_has {p = p} {q = q} {s = s} {t = t} h k g) = says_both s t (has_string_leaf p) (has_element p) (has_string_leaf q) (has_element q)
    (says h) (says k)
says (one_or_more_has h g) = says h
says (choice_has {p = p} {q = q} {s = s} {t = t} h k) = says_both s t (has_string_leaf p) (has_element p) (has_string_leaf q) (has_element q)
    (says h) (says k)

beside_nothing : (s e r f : Bool) → r ≡ false → f ≡ false → (not (s && (r || f)) && not (r && e)) ≡ true
beside_nothing true e false false a b = refl
beside_nothing false e false false a b = refl
beside_nothing s e true f a b = absurd (false≢true (sym a))
beside_nothing s e false true a b = absurd (false≢true (sym b))

nothing_beside : (s e r f : Bool) → s ≡ false → e ≡ false → (not (s && (r || f)) && not (r && e)) ≡ true
nothing_beside false false true f a b = refl
nothing_beside false false false f a b = refl
nothing_beside true e r f a b = absurd (false≢true (sym a))
nothing_beside false true r f a b = absurd (false≢true (sym b))

no_strings : (s e r f : Bool) → s ≡ false → r ≡ false → (not (s && (r || f)) && not (r && e)) ≡ true
no_strings false e false f a b = refl
no_strings true e r f a b = absurd (false≢true (sym a))
no_strings false e true f a b = absurd (false≢true (sym b))

apart : {t u : Content} (s e r f : Bool) → Groupable t u → Says t s e → Says u r f → (not (s && (r || f)) && not (r && e)) ≡ true
apart s e r f beside_empty a b = beside_nothing s e r f b.0 b.1
apart s e r f empty_beside a b = nothing_beside s e r f a.0 a.1
apart s e r f both_complex a b = no_strings s e r f a b

unmixed : {p : Pattern} {t : Content} → HasType p t → is_unmixed p ≡ true
unmixed value_is_simple = refl
unmixed data_is_simple = refl
unmixed list_is_simple = refl
unmixed text_is_complex = refl
unmixed ref_is_complex = refl
unmixed empty_is_empty = refl
unmixed (attribute_is_empty h) = refl
unmixed (group_has {p = p} {q = q} h k g) = and_from _ _ (apart (has_string_leaf p) (has_element p) (has_string_leaf q) (has_element q) g (says h)
    (says k)) (and_from _ _ (unmixed h) (unmixed k))
unmixed (interleave_has {p = p} {q = q} h k g) = and_from _ _ (apart (has_string_leaf p) (has_element p) (has_string_leaf q) (has_element q) g
    (says h) (says k)) (and_from _ _ (unmixed h) (unmixed k))
unmixed (one_or_more_has h g) = unmixed h
unmixed (choice_has h k) = and_from _ _ (unmixed h) (unmixed k)

pub typed_are_unmixed : TypedAreUnmixed
typed_are_unmixed p t h = unmixed h
