-- What the restrictions of schemas give.
use Rattle.std.proofs.Common.{◌≡◌, Bool, true, false, ◌&&◌, refl, inl, inr, ◌⊎◌, ⊎_elim}
use Rattle.nx_base.specs.declared.name.Name.{Name}
use Rattle.rng_core.specs.Names.{Class, has_attribute_name, AttributeOverlap}
use Rattle.rng_core.specs.Patterns.{Pattern, not_allowed, empty, any_text, typed, literal, listed, attribute, ref, one_or_more, choice, group, interleave}
use Rattle.rng_restrict.specs.Standing.{Stands, itself, in_attribute, in_one_or_more, in_first_choice, in_second_choice, in_first_of_group, in_second_of_group, in_first_of_interleave, in_second_of_interleave, Occurs, as_itself, below_one_or_more, below_first_choice, below_second_choice, below_first_of_group, below_second_of_group, below_first_of_interleave, below_second_of_interleave}
use Rattle.rng_restrict.specs.Attributes.{HasAttributeOverlap, in_group, in_interleave}
use Rattle.rng_restrict.specs.Paths.{HasPath, attribute_below_attribute, ref_below_attribute, attribute_below_repeated_group, attribute_below_repeated_interleave, list_below_list, ref_below_list, attribute_below_list, text_below_list, interleave_below_list}
use Rattle.rng_kept.specs.Lists.{has_no_list, has_flat_lists}
use Rattle.rng_residual.proofs.SmallPatterns.{or_true}
use Rattle.rng_residual.proofs.Nullable.{true_and}
use Rattle.rng_kept.specs.Apart.{mentions, is_attribute_free, is_loose, IsApart, apart_free, apart_attribute, apart_one_or_more, apart_choice, apart_group, apart_interleave}
use Rattle.rng_residual.specs.Restricted.{RestrictedIsApart}

-- what stands in a part stands in the whole
record PartOf (p r : Pattern) : Type 0 where
  up : (q : Pattern) → Stands q p → Stands q r

lift_overlap : {p r : Pattern} → PartOf p r → HasAttributeOverlap p → HasAttributeOverlap r
lift_overlap w (in_group s o t v) = in_group (w.up _ s) o t v
lift_overlap w (in_interleave s o t v) = in_interleave (w.up _ s) o t v

lift_path : {p r : Pattern} → PartOf p r → HasPath p → HasPath r
lift_path w (attribute_below_attribute s t) = attribute_below_attribute (w.up _ s) t
lift_path w (ref_below_attribute s t) = ref_below_attribute (w.up _ s) t
lift_path w (attribute_below_repeated_group s t u) = attribute_below_repeated_group (w.up _ s) t u
lift_path w (attribute_below_repeated_interleave s t u) = attribute_below_repeated_interleave (w.up _ s) t u
lift_path w (list_below_list s t) = list_below_list (w.up _ s) t
lift_path w (ref_below_list s t) = ref_below_list (w.up _ s) t
lift_path w (attribute_below_list s t) = attribute_below_list (w.up _ s) t
lift_path w (text_below_list s t) = text_below_list (w.up _ s) t
lift_path w (interleave_below_list s t) = interleave_below_list (w.up _ s) t

and_false : (a b : Bool) → (a && b) ≡ false → (a ≡ false) ⊎ (b ≡ false)
and_false true b h = inr h
and_false false b h = inl refl

-- ---- a name that is mentioned

record Mentioned (p : Pattern) (n : Name) : Type 0 where
  class : Class
  body : Pattern
  occurs : Occurs (attribute class body) p
  has : has_attribute_name class n ≡ true

mentioned : (p : Pattern) (n : Name) → mentions p n ≡ true → Mentioned p n
mentioned (attribute c p) n h = record { class = c; body = p; occurs = as_itself; has = h }
mentioned (one_or_more p) n h = let w = mentioned p n h in record { class = w.class; body = w.body; occurs = below_one_or_more w.occurs; has = w.has }
mentioned (choice p q) n h =
    ⊎_elim
    (λ e. let w = mentioned p n e in record { class = w.class; body = w.body; occurs = below_first_choice w.occurs; has = w.has })
    (λ e. let w = mentioned q n e in record { class = w.class; body = w.body; occurs = below_second_choice w.occurs; has = w.has })
    (or_true (mentions p n) (mentions q n) h)
mentioned (group p q) n h =
    ⊎_elim
    (λ e. let w = mentioned p n e in record { class = w.class; body = w.body; occurs = below_first_of_group w.occurs; has = w.has })
    (λ e. let w = mentioned q n e in record { class = w.class; body = w.body; occurs = below_second_of_group w.occurs; has = w.has })
    (or_true (mentions p n) (mentions q n) h)
mentioned (interleave p q) n h =
    ⊎_elim
    (λ e. let w = mentioned p n e in record { class = w.class; body = w.body; occurs = below_first_of_interleave w.occurs; has = w.has })
    (λ e. let w = mentioned q n e in record { class = w.class; body = w.body; occurs = below_second_of_interleave w.occurs; has = w.has })
    (or_true (mentions p n) (mentions q n) h)
mentioned not_allowed n h = cc
mentioned empty n h = cc
mentioned any_text n h = cc
mentioned (typed t e) n h = cc
mentioned (literal t v) n h = cc
mentioned (listed p) n h = cc
mentioned (ref i) n h = cc

overlap_of : (c d : Class) (n : Name) → has_attribute_name c n ≡ true → has_attribute_name d n ≡ true → AttributeOverlap c d
overlap_of c d n h k = record { name = n; first = h; second = k }

-- ---- an attribute that stands there

record AttributeIn (p : Pattern) : Type 0 where
  class : Class
  body : Pattern
  stands : Stands (attribute class body) p

attribute_in : (p : Pattern) → is_attribute_free p ≡ false → AttributeIn p
attribute_in (attribute c p) h = record { class = c; body = p; stands = itself }
attribute_in (one_or_more p) h = let w = attribute_in p h in record { class = w.class; body = w.body; stands = in_one_or_more w.stands }
attribute_in (choice p q) h =
    ⊎_elim
    (λ e. let w = attribute_in p e in record { class = w.class; body = w.body; stands = in_first_choice w.stands })
    (λ e. let w = attribute_in q e in record { class = w.class; body = w.body; stands = in_second_choice w.stands })
    (and_false (is_attribute_free p) (is_attribute_free q) h)
attribute_in (group p q) h =
    ⊎_elim
    (λ e. let w = attribute_in p e in record { class = w.class; body = w.body; stands = in_first_of_group w.stands })
    (λ e. let w = attribute_in q e in record { class = w.class; body = w.body; stands = in_second_of_group w.stands })
    (and_false (is_attribute_free p) (is_attribute_free q) h)
attribute_in (interleave p q) h =
    ⊎_elim
    (λ e. let w = attribute_in p e in record { class = w.class; body = w.body; stands = in_first_of_interleave w.stands })
    (λ e. let w = attribute_in q e in record { class = w.class; body = w.body; stands = in_second_of_interleave w.stands })
    (and_false (is_attribute_free p) (is_attribute_free q) h)
attribute_in not_allowed h = cc
attribute_in empty h = cc
attribute_in any_text h = cc
attribute_in (typed t e) h = cc
attribute_in (literal t v) h = cc
attribute_in (listed p) h = cc
attribute_in (ref i) h = cc

-- below a repetition no attribute stands below a group or an interleave
repeated_loose : (r p : Pattern) → PartOf p r → (HasPath (one_or_more r) → ⊥) → is_loose p ≡ false → ⊥
repeated_loose r (one_or_more p) w f h = repeated_loose r p (record { up = λ q s. w.up q (in_one_or_more s) }) f h
repeated_loose r (choice p q) w f h =
    ⊎_elim
    (λ e. repeated_loose r p (record { up = λ x s. w.up x (in_first_choice s) }) f e)
    (λ e. repeated_loose r q (record { up = λ x s. w.up x (in_second_choice s) }) f e)
    (and_false (is_loose p) (is_loose q) h)
repeated_loose r (group p q) w f h = let a = attribute_in (group p q) h in f (attribute_below_repeated_group itself (w.up (group p q) itself) a.stands)
repeated_loose r (interleave p q) w f h = let a = attribute_in (interleave p q) h in f (attribute_below_repeated_interleave itself (w.up (interleave p q) itself) a.stands)
repeated_loose r not_allowed w f h = cc
repeated_loose r empty w f h = cc
repeated_loose r any_text w f h = cc
repeated_loose r (typed t e) w f h = cc
repeated_loose r (literal t v) w f h = cc
repeated_loose r (listed p) w f h = cc
repeated_loose r (attribute c p) w f h = cc
repeated_loose r (ref i) w f h = cc

is_true : (b : Bool) → (b ≡ false → ⊥) → b ≡ true
is_true true f = refl
is_true false f = absurd (f refl)

pub apart : (p : Pattern) → (HasPath p → ⊥) → (HasAttributeOverlap p → ⊥) → IsApart p
apart (attribute c p) f h = apart_attribute
apart (one_or_more p) f h =
    let w : PartOf p (one_or_more p) = record { up = λ q s. in_one_or_more s } in
    apart_one_or_more (is_true (is_loose p) (λ e. repeated_loose p p (record { up = λ q s. s }) f e)) (apart p (λ x. f (lift_path w x)) (λ x. h (lift_overlap w x)))
apart (choice p q) f h =
    let w : PartOf p (choice p q) = record { up = λ x s. in_first_choice s } in
    let v : PartOf q (choice p q) = record { up = λ x s. in_second_choice s } in
    apart_choice (apart p (λ x. f (lift_path w x)) (λ x. h (lift_overlap w x))) (apart q (λ x. f (lift_path v x)) (λ x. h (lift_overlap v x)))
apart (group p q) f h =
    let w : PartOf p (group p q) = record { up = λ x s. in_first_of_group s } in
    let v : PartOf q (group p q) = record { up = λ x s. in_second_of_group s } in
    apart_group (apart p (λ x. f (lift_path w x)) (λ x. h (lift_overlap w x))) (apart q (λ x. f (lift_path v x)) (λ x. h (lift_overlap v x)))
    (λ n i j. let a = mentioned p n i in let b = mentioned q n j in h (in_group itself a.occurs b.occurs (overlap_of a.class b.class n a.has b.has)))
apart (interleave p q) f h =
    let w : PartOf p (interleave p q) = record { up = λ x s. in_first_of_interleave s } in
    let v : PartOf q (interleave p q) = record { up = λ x s. in_second_of_interleave s } in
    apart_interleave (apart p (λ x. f (lift_path w x)) (λ x. h (lift_overlap w x))) (apart q (λ x. f (lift_path v x)) (λ x. h (lift_overlap v x)))
    (λ n i j. let a = mentioned p n i in let b = mentioned q n j in h (in_interleave itself a.occurs b.occurs (overlap_of a.class b.class n a.has b.has)))
apart not_allowed f h = apart_free refl
apart empty f h = apart_free refl
apart any_text f h = apart_free refl
apart (typed t e) f h = apart_free refl
apart (literal t v) f h = apart_free refl
apart (listed p) f h = apart_free refl
apart (ref i) f h = apart_free refl

-- ---- lists

no_list_below : (r p : Pattern) → PartOf p r → (HasPath (listed r) → ⊥) → has_no_list p ≡ true
no_list_below r (listed p) w f = absurd (f (list_below_list itself (w.up (listed p) itself)))
no_list_below r (attribute c p) w f = no_list_below r p (record { up = λ q s. w.up q (in_attribute s) }) f
no_list_below r (one_or_more p) w f = no_list_below r p (record { up = λ q s. w.up q (in_one_or_more s) }) f
no_list_below r (choice p q) w f = true_and _ _ (no_list_below r p (record { up = λ x s. w.up x (in_first_choice s) }) f) (no_list_below r q (record { up = λ x s. w.up x (in_second_choice s) }) f)
no_list_below r (group p q) w f = true_and _ _ (no_list_below r p (record { up = λ x s. w.up x (in_first_of_group s) }) f) (no_list_below r q (record { up = λ x s. w.up x (in_second_of_group s) }) f)
no_list_below r (interleave p q) w f = true_and _ _ (no_list_below r p (record { up = λ x s. w.up x (in_first_of_interleave s) }) f) (no_list_below r q (record { up = λ x s. w.up x (in_second_of_interleave s) }) f)
no_list_below r not_allowed w f = refl
no_list_below r empty w f = refl
no_list_below r any_text w f = refl
no_list_below r (typed t e) w f = refl
no_list_below r (literal t v) w f = refl
no_list_below r (ref i) w f = refl

pub flat_lists : (p : Pattern) → (HasPath p → ⊥) → has_flat_lists p ≡ true
flat_lists (listed p) f = no_list_below p p (record { up = λ q s. s }) f
flat_lists (attribute c p) f = let w : PartOf p (attribute c p) = record { up = λ q s. in_attribute s } in flat_lists p (λ x. f (lift_path w x))
flat_lists (one_or_more p) f = let w : PartOf p (one_or_more p) = record { up = λ q s. in_one_or_more s } in flat_lists p (λ x. f (lift_path w x))
flat_lists (choice p q) f =
    let w : PartOf p (choice p q) = record { up = λ x s. in_first_choice s } in
    let v : PartOf q (choice p q) = record { up = λ x s. in_second_choice s } in
    true_and _ _ (flat_lists p (λ x. f (lift_path w x))) (flat_lists q (λ x. f (lift_path v x)))
flat_lists (group p q) f =
    let w : PartOf p (group p q) = record { up = λ x s. in_first_of_group s } in
    let v : PartOf q (group p q) = record { up = λ x s. in_second_of_group s } in
    true_and _ _ (flat_lists p (λ x. f (lift_path w x))) (flat_lists q (λ x. f (lift_path v x)))
flat_lists (interleave p q) f =
    let w : PartOf p (interleave p q) = record { up = λ x s. in_first_of_interleave s } in
    let v : PartOf q (interleave p q) = record { up = λ x s. in_second_of_interleave s } in
    true_and _ _ (flat_lists p (λ x. f (lift_path w x))) (flat_lists q (λ x. f (lift_path v x)))
flat_lists not_allowed f = refl
flat_lists empty f = refl
flat_lists any_text f = refl
flat_lists (typed t e) f = refl
flat_lists (literal t v) f = refl
flat_lists (ref i) f = refl

pub restricted_is_apart : RestrictedIsApart
restricted_is_apart p f h = (apart p f h, flat_lists p f)
