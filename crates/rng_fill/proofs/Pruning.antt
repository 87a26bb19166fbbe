-- The contents of a pruned grammar that is checked are unmixed.
use Rattle.std.proofs.Common.{◌≡◌, ◌<◌, ℕ, zero, suc, List, [], ◌∷◌, Bool, true, false, not, ◌&&◌, ◌||◌, Some, length, refl, sym, ap, subst, ◌∙◌}
use Rattle.std.proofs.Common.{arith}
use Rattle.std.specs.Prelude.{slice_get}
use Rattle.std.proofs.lemmas.Bool.{and_parts, and_from, or_parts, or_from, false≢true}
use Rattle.std.proofs.lemmas.Option.{slice_get_within}
use Rattle.rng_core.specs.Patterns.{Pattern, Definition, Language, ref}
use Rattle.rng_restrict.specs.Standing.{Stands, itself, in_list, in_attribute, in_one_or_more, in_first_choice, in_second_choice, in_first_of_group}
use Rattle.rng_restrict.specs.Standing.{in_second_of_group, in_first_of_interleave, in_second_of_interleave}
use Rattle.rng_restrict.specs.Reaching.{IsReached, from_start, from_content}
use Rattle.rng_restrict.specs.Contents.{IsMixture}
use Rattle.rng_live.specs.Pruned.{PrunesBy, prunes_not_allowed, prunes_empty, prunes_text, prunes_data, prunes_value, prunes_list, prunes_attribute}
use Rattle.rng_live.specs.Pruned.{prunes_ref, prunes_one_or_more, prunes_neither, prunes_second, prunes_first, prunes_group, prunes_interleave}
use Rattle.rng_live.specs.Pruned.{Reaches, reaches_first, reaches_more, IsPruned}
use Rattle.rng_fill.specs.Fillable.{has_string_leaf, has_element, are_unmixed, is_unmixed}
use Rattle.rng_fill.specs.Laws.{PrunedAreUnmixed}
use Rattle.rng_fill.proofs.Typing.{typed_are_unmixed}

-- ---- what pruning leaves of a content

module _ {L D : Pattern → Type 0} {numbers : List ℕ} where
  stringless : {p r : Pattern} → PrunesBy L D numbers p r → has_string_leaf p ≡ false → has_string_leaf r ≡ false
  stringless prunes_not_allowed h = h
  stringless prunes_empty h = h
  stringless prunes_text h = h
  stringless prunes_data h = h
  stringless prunes_value h = h
  stringless (prunes_list w) h = h
  stringless (prunes_attribute w) h = h
  stringless (prunes_ref at) h = h
  stringless (prunes_one_or_more w) h = stringless w h
  stringless (prunes_neither {p = p} {q = q} l m w v) h = let o = or_parts (has_string_leaf p) (has_string_leaf q) h in or_from _ _
      (stringless w o.0) (stringless v o.1)
  stringless (prunes_second {p = p} {q = q} l d w) h = stringless w (or_parts (has_string_leaf p) (has_string_leaf q) h).0
  stringless (prunes_first {p = p} {q = q} d w) h = stringless w (or_parts (has_string_leaf p) (has_string_leaf q) h).1
  stringless (prunes_group {p = p} {q = q} w v) h = let o = or_parts (has_string_leaf p) (has_string_leaf q) h in or_from _ _ (stringless w o.0)
      (stringless v o.1)
  stringless (prunes_interleave {p = p} {q = q} w v) h = let o = or_parts (has_string_leaf p) (has_string_leaf q) h in or_from _ _
      (stringless w o.0) (stringless v o.1)

  elementless : {p r : Pattern} → PrunesBy L D numbers p r → has_element p ≡ false → has_element r ≡ false
  elementless prunes_not_allowed h = h
  elementless prunes_empty h = h
  elementless prunes_text h = h
  elementless prunes_data h = h
  elementless prunes_value h = h
  elementless (prunes_list w) h = h
  elementless (prunes_attribute w) h = h
  elementless (prunes_ref at) h = absurd (false≢true (sym h))
  elementless (prunes_one_or_more w) h = elementless w h
  elementless (prunes_neither {p = p} {q = q} l m w v) h = let o = or_parts (has_element p) (has_element q) h in or_from _ _ (elementless w o.0)
      (elementless v o.1)
  elementless (prunes_second {p = p} {q = q} l d w) h = elementless w (or_parts (has_element p) (has_element q) h).0
  elementless (prunes_first {p = p} {q = q} d w) h = elementless w (or_parts (has_element p) (has_element q) h).1
  elementless (prunes_group {p = p} {q = q} w v) h = let o = or_parts (has_element p) (has_element q) h in or_from _ _ (elementless w o.0)
      (elementless v o.1)
  elementless (prunes_interleave {p = p} {q = q} w v) h = let o = or_parts (has_element p) (has_element q) h in or_from _ _ (elementless w o.0)
      (elementless v o.1)

-- what stands in fewer leaves stands in the others
up : (b c : Bool) → (b ≡ false → c ≡ false) → c ≡ true → b ≡ true
up true c fewer is = refl
up false c fewer is = absurd (false≢true (sym (fewer refl) ∙ is))

both_apart : (s t e f : Bool) → s ≡ true → t ≡ true → (not (s && (t || f)) && not (t && e)) ≡ true → ⊥
both_apart true true e f a b h = absurd (false≢true h)
both_apart false t e f a b h = absurd (false≢true a)
both_apart true false e f a b h = absurd (false≢true b)

first_apart : (s t e f : Bool) → s ≡ true → f ≡ true → (not (s && (t || f)) && not (t && e)) ≡ true → ⊥
first_apart true true e f a b h = absurd (false≢true h)
first_apart true false e true a b h = absurd (false≢true h)
first_apart true false e false a b h = absurd (false≢true b)
first_apart false t e f a b h = absurd (false≢true a)

second_apart : (s t e f : Bool) → t ≡ true → e ≡ true → (not (s && (t || f)) && not (t && e)) ≡ true → ⊥
second_apart true true e f a b h = absurd (false≢true h)
second_apart false true true f a b h = absurd (false≢true h)
second_apart false true false f a b h = absurd (false≢true b)
second_apart s false e f a b h = absurd (false≢true a)

still_apart : (s t e f s' t' e' f' : Bool) → (s ≡ false → s' ≡ false) → (t ≡ false → t' ≡ false) → (e ≡ false → e' ≡ false) → (f ≡ false → f' ≡ false)
    → (not (s && (t || f)) && not (t && e)) ≡ true → (not (s' && (t' || f')) && not (t' && e')) ≡ true
still_apart s t e f false false e' f' a b c d h = refl
still_apart s t e f false true false f' a b c d h = refl
still_apart s t e f false true true f' a b c d h = absurd (second_apart s t e f (up t true b refl) (up e true c refl) h)
still_apart s t e f true false e' false a b c d h = refl
still_apart s t e f true false e' true a b c d h = absurd (first_apart s t e f (up s true a refl) (up f true d refl) h)
still_apart s t e f true true e' f' a b c d h = absurd (both_apart s t e f (up s true a refl) (up t true b refl) h)

module _ {L D : Pattern → Type 0} {numbers : List ℕ} where
  sides_apart : {p q r s : Pattern} → PrunesBy L D numbers p r → PrunesBy L D numbers q s → are_unmixed p q ≡ true → are_unmixed r s ≡ true
  sides_apart {p = p} {q = q} {r = r} {s = s} w v h =
      still_apart (has_string_leaf p) (has_string_leaf q) (has_element p) (has_element q) (has_string_leaf r) (has_string_leaf s) (has_element r)
      (has_element s)
      (λ x. stringless w x) (λ x. stringless v x) (λ x. elementless w x) (λ x. elementless v x) h

  still_unmixed : {p r : Pattern} → PrunesBy L D numbers p r → is_unmixed p ≡ true → is_unmixed r ≡ true
  still_unmixed prunes_not_allowed h = h
  still_unmixed prunes_empty h = h
  still_unmixed prunes_text h = h
  still_unmixed prunes_data h = h
  still_unmixed prunes_value h = h
  still_unmixed (prunes_list w) h = h
  still_unmixed (prunes_attribute w) h = h
  still_unmixed (prunes_ref at) h = h
  still_unmixed (prunes_one_or_more w) h = still_unmixed w h
  still_unmixed (prunes_neither {p = p} {q = q} l m w v) h = let o = and_parts (is_unmixed p) (is_unmixed q) h in and_from _ _ (still_unmixed w o.0)
      (still_unmixed v o.1)
  still_unmixed (prunes_second {p = p} {q = q} l d w) h = still_unmixed w (and_parts (is_unmixed p) (is_unmixed q) h).0
  still_unmixed (prunes_first {p = p} {q = q} d w) h = still_unmixed w (and_parts (is_unmixed p) (is_unmixed q) h).1
  still_unmixed (prunes_group {p = p} {q = q} w v) h =
      let o = and_parts (are_unmixed p q) (is_unmixed p && is_unmixed q) h in
      let b = and_parts (is_unmixed p) (is_unmixed q) o.1 in
      and_from _ _ (sides_apart w v o.0) (and_from _ _ (still_unmixed w b.0) (still_unmixed v b.1))
  still_unmixed (prunes_interleave {p = p} {q = q} w v) h =
      let o = and_parts (are_unmixed p q) (is_unmixed p && is_unmixed q) h in
      let b = and_parts (is_unmixed p) (is_unmixed q) o.1 in
      and_from _ _ (sides_apart w v o.0) (and_from _ _ (still_unmixed w b.0) (still_unmixed v b.1))

-- ---- which definitions are left

-- a reference that is left stood there before, by the number that the new one is of
record Before (numbers : List ℕ) (k : ℕ) (p : Pattern) : Type 0 where
  number : ℕ
  at : slice_get numbers k ≡ Some number
  stands : Stands (ref number) p

module _ {L D : Pattern → Type 0} {numbers : List ℕ} {k : ℕ} where
  before : {p r : Pattern} → PrunesBy L D numbers p r → Stands (ref k) r → Before numbers k p
  before prunes_not_allowed s = elim s [ ]
  before prunes_empty s = elim s [ ]
  before prunes_text s = elim s [ ]
  before prunes_data s = elim s [ ]
  before prunes_value s = elim s [ ]
  before (prunes_list w) (in_list s) = let x = before w s in record { number = x.number; at = x.at; stands = in_list x.stands }
  before (prunes_attribute w) (in_attribute s) = let x = before w s in record { number = x.number; at = x.at; stands = in_attribute x.stands }
  before (prunes_ref {i = i} at) itself = record { number = i; at = at; stands = itself }
  before (prunes_one_or_more w) (in_one_or_more s) = let x = before w s in record { number = x.number; at = x.at; stands = in_one_or_more x.stands }
  before (prunes_neither l m w v) (in_first_choice s) = let x =
      before w s in record { number = x.number; at = x.at; stands = in_first_choice x.stands }
  before (prunes_neither l m w v) (in_second_choice s) = let x =
      before v s in record { number = x.number; at = x.at; stands = in_second_choice x.stands }
  before (prunes_second l d w) s = let x = before w s in record { number = x.number; at = x.at; stands = in_first_choice x.stands }
  before (prunes_first d w) s = let x = before w s in record { number = x.number; at = x.at; stands = in_second_choice x.stands }
  before (prunes_group w v) (in_first_of_group s) = let x = before w s in record { number = x.number; at = x.at; stands = in_first_of_group x.stands }
  before (prunes_group w v) (in_second_of_group s) = let x =
      before v s in record { number = x.number; at = x.at; stands = in_second_of_group x.stands }
  before (prunes_interleave w v) (in_first_of_interleave s) = let x =
      before w s in record { number = x.number; at = x.at; stands = in_first_of_interleave x.stands }
  before (prunes_interleave w v) (in_second_of_interleave s) = let x =
      before v s in record { number = x.number; at = x.at; stands = in_second_of_interleave x.stands }

item_at : (g : List Definition) (i : ℕ) → i < length g → (d : Definition) × (slice_get g i ≡ Some d)
item_at [] i low = absurd (omega (arith, low))
item_at (d ∷ g) zero low = (d, refl)
item_at (d ∷ g) (suc i) low = item_at g i (omega (arith, low))

one_item : (g : List Definition) (i : ℕ) (d e : Definition) → slice_get g i ≡ Some d → slice_get g i ≡ Some e → d ≡ e
one_item g i d e a b = let both : Some d ≡ Some e = sym a ∙ b in cc

-- the definition that became the one of a number, which the old start reaches
record Was (old : Language) (numbers : List ℕ) (k : ℕ) : Type 0 where
  number : ℕ
  at : slice_get numbers k ≡ Some number
  definition : Definition
  is : slice_get old.definitions number ≡ Some definition
  reached : IsReached old.start old.definitions definition

module _ {old new : Language} (is : IsPruned old new) where
  named : (k i : ℕ) → slice_get is.numbers k ≡ Some i → (d : Definition) × (slice_get old.definitions i ≡ Some d)
  named k i at =
      let e = item_at new.definitions k (omega (arith, slice_get_within is.numbers k i at, is.as_many)) in
      let w = is.definitions k i e.0 at e.1 in
      (w.definition, w.is)

  was : {k : ℕ} → Reaches new.start new.definitions k → Was old is.numbers k
  was {k = k} (reaches_first s) =
      let x = before is.start s in
      let d = named k x.number x.at in
      record { number = x.number; at = x.at; definition = d.0; is = d.1; reached = from_start x.stands d.1 }
  was {k = k} (reaches_more {j = j} {d = e} r there s) =
      let o = was r in
      let w = is.definitions j o.number e o.at there in
      let same : o.definition ≡ w.definition = one_item old.definitions o.number o.definition w.definition o.is w.is in
      let x = before w.content s in
      let d = named k x.number x.at in
      record {
        number = x.number;
        at = x.at;
        definition = d.0;
        is = d.1;
        reached = from_content (subst (λ (y : Definition). IsReached old.start old.definitions y) same o.reached) x.stands d.1;
      }

-- a content that is no mixture is unmixed
unmixed_by : (p : Pattern) → (IsMixture p → ⊥) → is_unmixed p ≡ true
unmixed_by p none = go (is_unmixed p) refl
  where
    go : (b : Bool) → is_unmixed p ≡ b → is_unmixed p ≡ true
    go true is = is
    go false is = absurd (none (record {
      is_allowed = λ same. false≢true (sym is ∙ ap is_unmixed same);
      has_no_type = λ t w. false≢true (sym is ∙ typed_are_unmixed p t w);
    }))

pub pruned_are_unmixed : PrunedAreUnmixed
pruned_are_unmixed old new checked is = record {
  unmixed = λ k e at.
      let o = was is (is.reached k e at) in
      let w = is.definitions k o.number e o.at at in
      let same : o.definition ≡ w.definition = one_item old.definitions o.number o.definition w.definition o.is w.is in
      let reached = subst (λ (y : Definition). IsReached old.start old.definitions y) same o.reached in
      still_unmixed w.content (unmixed_by w.definition.content (λ mixed. checked
      (record { definition = w.definition; reached = reached; mixture = mixed })));
}
