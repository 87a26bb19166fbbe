-- In contents with a content type strings stand alone.
use Rattle.std.proofs.Common.{◌≡◌, Bool, true, false, refl, sym}
use Rattle.std.specs.Prelude.{not, ◌&&◌, ◌||◌}
use Rattle.std.proofs.lemmas.Bool.{and_parts, and_from, or_parts, or_from, false≢true, not_from_false}
use Rattle.rng_core.specs.Patterns.{Pattern, not_allowed, empty, any_text, typed, literal, listed, attribute, ref, one_or_more, choice, group, interleave}
use Rattle.rng_restrict.specs.declared.content.Content.{Content}
use Rattle.rng_restrict.specs.declared.content.Content.TheVariants.{Empty, Complex, Simple}
use Rattle.rng_restrict.specs.Contents.{Groupable, beside_empty, empty_beside, both_complex, greater, HasType, value_is_simple, data_is_simple}
use Rattle.rng_restrict.specs.Contents.{list_is_simple, text_is_complex, ref_is_complex, empty_is_empty, attribute_is_empty, group_has}
use Rattle.rng_restrict.specs.Contents.{interleave_has, one_or_more_has, choice_has}
use Rattle.rng_fill.specs.Fillable.{has_string_leaf, has_element, are_unmixed, is_unmixed}
use Rattle.rng_alone.specs.Alone.{has_complex, go_beside, are_beside, is_alone, TypedAreAlone, AloneAreUnmixed}
use Rattle.rng_alone.proofs.Under.{still_beside}

-- what a type says of strings, and of elements and text
abbrev Says : Content → Bool → Bool → Type 0
Says Empty s c = (s ≡ false) × (c ≡ false)
Says Complex s c = s ≡ false
Says Simple s c = Unit {0}

says_both : (t u : Content) (s c r d : Bool) → Says t s c → Says u r d → Says (greater t u) (s || r) (c || d)
says_both Empty Empty s c r d a b = (or_from s r a.0 b.0, or_from c d a.1 b.1)
says_both Empty Complex s c r d a b = or_from s r a.0 b
says_both Empty Simple s c r d a b = tt
says_both Complex Empty s c r d a b = or_from s r a b.0
says_both Complex Complex s c r d a b = or_from s r a b
says_both Complex Simple s c r d a b = tt
says_both Simple u s c r d a b = tt

says : {p : Pattern} {t : Content} → HasType p t → Says t (has_string_leaf p) (has_complex p)
says value_is_simple = tt
says data_is_simple = tt
says list_is_simple = tt
says text_is_complex = refl
says ref_is_complex = refl
says empty_is_empty = (refl, refl)
says (attribute_is_empty h) = (refl, refl)
says (group_has {p = p} {q = q} {s = s} {t = t} h k g) =
    says_both s t (has_string_leaf p) (has_complex p) (has_string_leaf q) (has_complex q) (says h) (says k)
says (interleave_has {p = p} {q = q} {s = s} {t = t} h k g) =
    says_both s t (has_string_leaf p) (has_complex p) (has_string_leaf q) (has_complex q) (says h) (says k)
says (one_or_more_has h g) = says h
says (choice_has {p = p} {q = q} {s = s} {t = t} h k) =
    says_both s t (has_string_leaf p) (has_complex p) (has_string_leaf q) (has_complex q) (says h) (says k)

beside_nothing : (s c r d : Bool) → r ≡ false → d ≡ false → go_beside s c r d ≡ true
beside_nothing true c false false a b = refl
beside_nothing false c false false a b = refl
beside_nothing s c true d a b = absurd (false≢true (sym a))
beside_nothing s c false true a b = absurd (false≢true (sym b))

nothing_beside : (s c r d : Bool) → s ≡ false → c ≡ false → go_beside s c r d ≡ true
nothing_beside false false true d a b = refl
nothing_beside false false false d a b = refl
nothing_beside true c r d a b = absurd (false≢true (sym a))
nothing_beside false true r d a b = absurd (false≢true (sym b))

no_strings : (s c r d : Bool) → s ≡ false → r ≡ false → go_beside s c r d ≡ true
no_strings false c false d a b = refl
no_strings true c r d a b = absurd (false≢true (sym a))
no_strings false c true d a b = absurd (false≢true (sym b))

beside : {t u : Content} (s c r d : Bool) → Groupable t u → Says t s c → Says u r d → go_beside s c r d ≡ true
beside s c r d beside_empty a b = beside_nothing s c r d b.0 b.1
beside s c r d empty_beside a b = nothing_beside s c r d a.0 a.1
beside s c r d both_complex a b = no_strings s c r d a b

-- what may be repeated has no string
repeated : {t : Content} (s c : Bool) → Groupable t t → Says t s c → s ≡ false
repeated s c beside_empty a = a.0
repeated s c empty_beside a = a.0
repeated s c both_complex a = a

alone : {p : Pattern} {t : Content} → HasType p t → is_alone p ≡ true
alone value_is_simple = refl
alone data_is_simple = refl
alone list_is_simple = refl
alone text_is_complex = refl
alone ref_is_complex = refl
alone empty_is_empty = refl
alone (attribute_is_empty h) = refl
alone (group_has {p = p} {q = q} h k g) =
    and_from (are_beside p q) (is_alone p && is_alone q)
    (beside (has_string_leaf p) (has_complex p) (has_string_leaf q) (has_complex q) g (says h) (says k))
    (and_from (is_alone p) (is_alone q) (alone h) (alone k))
alone (interleave_has {p = p} {q = q} h k g) =
    and_from (are_beside p q) (is_alone p && is_alone q)
    (beside (has_string_leaf p) (has_complex p) (has_string_leaf q) (has_complex q) g (says h) (says k))
    (and_from (is_alone p) (is_alone q) (alone h) (alone k))
alone (one_or_more_has {p = p} h g) =
    and_from (not (has_string_leaf p)) (is_alone p)
    (not_from_false (has_string_leaf p) (repeated (has_string_leaf p) (has_complex p) g (says h))) (alone h)
alone (choice_has {p = p} {q = q} h k) = and_from (is_alone p) (is_alone q) (alone h) (alone k)

pub typed_are_alone : TypedAreAlone
typed_are_alone p t h = alone h

-- ---- elements are no more than elements and text

elementless : (p : Pattern) → has_complex p ≡ false → has_element p ≡ false
elementless not_allowed h = refl
elementless empty h = refl
elementless any_text h = refl
elementless (typed t e) h = refl
elementless (literal t v) h = refl
elementless (listed p) h = refl
elementless (attribute class p) h = refl
elementless (ref i) h = h
elementless (one_or_more p) h = elementless p h
elementless (choice p q) h = let o = or_parts (has_complex p) (has_complex q) h in or_from (has_element p) (has_element q) (elementless p o.0) (elementless q o.1)
elementless (group p q) h = let o = or_parts (has_complex p) (has_complex q) h in or_from (has_element p) (has_element q) (elementless p o.0) (elementless q o.1)
elementless (interleave p q) h = let o = or_parts (has_complex p) (has_complex q) h in or_from (has_element p) (has_element q) (elementless p o.0) (elementless q o.1)

unmixed_sides : (p q : Pattern) → are_beside p q ≡ true → are_unmixed p q ≡ true
unmixed_sides p q h =
    still_beside (has_string_leaf p) (has_complex p) (has_string_leaf q) (has_complex q) (has_string_leaf p) (has_element p) (has_string_leaf q)
    (has_element q) (λ e. e) (λ e. elementless p e) (λ e. e) (λ e. elementless q e) h

pub alone_are_unmixed : AloneAreUnmixed
alone_are_unmixed not_allowed h = refl
alone_are_unmixed empty h = refl
alone_are_unmixed any_text h = refl
alone_are_unmixed (typed t e) h = refl
alone_are_unmixed (literal t v) h = refl
alone_are_unmixed (listed p) h = refl
alone_are_unmixed (attribute class p) h = refl
alone_are_unmixed (ref i) h = refl
alone_are_unmixed (one_or_more p) h = alone_are_unmixed p (and_parts (not (has_string_leaf p)) (is_alone p) h).1
alone_are_unmixed (choice p q) h =
    let w = and_parts (is_alone p) (is_alone q) h in
    and_from (is_unmixed p) (is_unmixed q) (alone_are_unmixed p w.0) (alone_are_unmixed q w.1)
alone_are_unmixed (group p q) h =
    let w = and_parts (are_beside p q) (is_alone p && is_alone q) h in
    let v = and_parts (is_alone p) (is_alone q) w.1 in
    and_from (are_unmixed p q) (is_unmixed p && is_unmixed q) (unmixed_sides p q w.0)
    (and_from (is_unmixed p) (is_unmixed q) (alone_are_unmixed p v.0) (alone_are_unmixed q v.1))
alone_are_unmixed (interleave p q) h =
    let w = and_parts (are_beside p q) (is_alone p && is_alone q) h in
    let v = and_parts (is_alone p) (is_alone q) w.1 in
    and_from (are_unmixed p q) (is_unmixed p && is_unmixed q) (unmixed_sides p q w.0)
    (and_from (is_unmixed p) (is_unmixed q) (alone_are_unmixed p v.0) (alone_are_unmixed q v.1))
