-- The marks of the conditions that hold are those of the definitions that live.
use Rattle.std.proofs.Common.{◌≡◌, ℕ, ◌<◌, List, length, get_or, Bool, true, false, ◌&&◌, ◌||◌, ◌⊎◌, Option, Some, None, refl, sym, ap, subst, ◌∙◌, arith, inl, inr, ⊎_elim, true≢false}
use Rattle.std.specs.Prelude.{slice_get, nat_lt}
use Rattle.std.proofs.lemmas.Bool.{ltb-true}
use Rattle.std.proofs.lemmas.Option.{slice_get-get_or}
use Rattle.rng_types.specs.MemberTest.{has_member}
use Rattle.rng_core.specs.Names.{any_name}
use Rattle.rng_core.specs.Patterns.{Pattern, Definition, not_allowed}
use Rattle.rng_residual.proofs.SmallPatterns.{and_true}
use Rattle.rng_residual.proofs.Nullable.{true_and, true_or_left, true_or_right}
use Rattle.rng_kept.specs.Nullable.{nullable}
use Rattle.rng_kept.specs.SolidStrings.{has_words}
use Rattle.rng_live.specs.declared.condition.Condition.{Condition}
use Rattle.rng_live.specs.declared.condition.Condition.TheVariants.{Known, If, Both, Either}
use Rattle.rng_live.specs.Conditions.{Holds, holds_known, holds_if, holds_both, holds_first, holds_second, is_marked, AreHeld}
use Rattle.rng_live.specs.Living.{lives_with, has_some_name, has_some_attribute_name, has_string}
use Rattle.rng_live.specs.Spelling.{IsAt, Spells, spells_not_allowed, spells_empty, spells_text, spells_data, spells_value, spells_list, spells_attribute, spells_ref, spells_one_or_more, spells_choice, spells_group, spells_interleave, AreSpelled}
use Rattle.rng_live.specs.Left.{refs_are}
use Rattle.rng_live.specs.Leaving.{AreNumbered}
use Rattle.rng_live.proofs.Fitting.{living, AllFit, AreDerived, AreClosed}
use Rattle.rng_live.proofs.Lefts.{marked_by, mark_lives}
use Rattle.rng_live.proofs.Rounds.{rounds_derived, living_is_closed}

-- ---- whatever the conditions give a reason for

-- a condition has a reason, where those that it rests on have a property
HasReason : (ℕ → Type 0) → Condition → Type 0
HasReason P (Known b) = b ≡ true
HasReason P (If b a) = (b ≡ true) × P a
HasReason P (Both a b) = P a × P b
HasReason P (Either a b) = P a ⊎ P b

least : {conditions : List Condition} (P : ℕ → Type 0) → ((k : ℕ) (c : Condition) → slice_get conditions k ≡ Some c → HasReason P c → P k) → {k : ℕ} → Holds conditions k → P k
unfolding HasReason
least P step {k = k} (holds_known e) = step k (Known true) e refl
least P step {k = k} (holds_if {a = a} e h) = step k (If true a) e (refl, least P step h)
least P step {k = k} (holds_both {a = a} {b = b} e h i) = step k (Both a b) e (least P step h, least P step i)
least P step {k = k} (holds_first {a = a} {b = b} e h) = step k (Either a b) e (inl (least P step h))
least P step {k = k} (holds_second {a = a} {b = b} e h) = step k (Either a b) e (inr (least P step h))

-- ---- it lives by closed marks

record LivesAt (g : List Definition) (conditions : List Condition) (marks : List Bool) (k : ℕ) : Type 0 where
  pattern : (low : ℕ) (p : Pattern) → Spells low conditions k p → refs_are (λ j. nat_lt j (length g)) p ≡ true → lives_with marks p ≡ true
  definition : (d : Definition) → slice_get g k ≡ Some d → is_marked marks k ≡ true

definition_at : (g : List Definition) (i : ℕ) → i < length g → (d : Definition) × (slice_get g i ≡ Some d)
definition_at g i inside = (get_or g i (record { class = any_name; content = not_allowed }), slice_get-get_or g i (record { class = any_name; content = not_allowed }) inside)

module _ {g : List Definition} {conditions : List Condition} (spelled : AreSpelled g conditions) (numbered : AreNumbered (length g) g) (marks : List Bool) (closed : AreClosed g marks) where
  reason_of : (k : ℕ) (c d : Condition) → slice_get conditions k ≡ Some c → slice_get conditions k ≡ Some d → HasReason (LivesAt g conditions marks) c → HasReason (LivesAt g conditions marks) d
  reason_of k c d e f r = let same : c ≡ d = cc in subst (λ (x : Condition). HasReason (LivesAt g conditions marks) x) same r

  pattern_step : (k : ℕ) (c : Condition) → slice_get conditions k ≡ Some c → HasReason (LivesAt g conditions marks) c → (low : ℕ) (p : Pattern) → Spells low conditions k p → refs_are (λ j. nat_lt j (length g)) p ≡ true → lives_with marks p ≡ true
  unfolding HasReason
  pattern_step k c e r low _ (spells_not_allowed a) n = reason_of k c (Known false) e a.is r
  pattern_step k c e r low _ (spells_empty a) n = refl
  pattern_step k c e r low _ (spells_text a) n = refl
  pattern_step k c e r low _ (spells_data {type = type} {excepts = es} a) n = reason_of k c (Known (has_member type es false)) e a.is r
  pattern_step k c e r low _ (spells_value a) n = refl
  pattern_step k c e r low _ (spells_list {a = x} {p = p} a s) n = let w = reason_of k c (If (has_words p || nullable p) x) e a.is r in true_and (has_words p || nullable p) (lives_with marks p) w.0 (w.1.pattern low p s n)
  pattern_step k c e r low _ (spells_attribute {a = x} {c = class} {p = p} a s) n =
      let w = reason_of k c (If (has_some_attribute_name class && (has_string p || nullable p)) x) e a.is r in
      true_and (has_some_attribute_name class && (has_string p || nullable p)) (lives_with marks p) w.0 (w.1.pattern low p s n)
  pattern_step k c e r low _ (spells_ref {i = i} a) n =
      let w = reason_of k c (If true i) e a.is r in
      let d = definition_at g i (ltb-true i (length g) n) in
      w.1.definition d.0 d.1
  pattern_step k c e r low _ (spells_one_or_more {a = x} {p = p} a s) n = let w = reason_of k c (If true x) e a.is r in w.1.pattern low p s n
  pattern_step k c e r low _ (spells_choice {a = x} {b = y} {p = p} {q = q} a s t) n =
      let m = and_true (refs_are (λ j. nat_lt j (length g)) p) (refs_are (λ j. nat_lt j (length g)) q) n in
      ⊎_elim (λ w. true_or_left (lives_with marks p) (lives_with marks q) (w.pattern low p s m.0)) (λ w. true_or_right (lives_with marks p) (lives_with marks q) (w.pattern low q t m.1)) (reason_of k c (Either x y) e a.is r)
  pattern_step k c e r low _ (spells_group {a = x} {b = y} {p = p} {q = q} a s t) n =
      let m = and_true (refs_are (λ j. nat_lt j (length g)) p) (refs_are (λ j. nat_lt j (length g)) q) n in
      let w = reason_of k c (Both x y) e a.is r in
      true_and (lives_with marks p) (lives_with marks q) (w.0.pattern low p s m.0) (w.1.pattern low q t m.1)
  pattern_step k c e r low _ (spells_interleave {a = x} {b = y} {p = p} {q = q} a s t) n =
      let m = and_true (refs_are (λ j. nat_lt j (length g)) p) (refs_are (λ j. nat_lt j (length g)) q) n in
      let w = reason_of k c (Both x y) e a.is r in
      true_and (lives_with marks p) (lives_with marks q) (w.0.pattern low p s m.0) (w.1.pattern low q t m.1)

  definition_step : (k : ℕ) (c : Condition) → slice_get conditions k ≡ Some c → HasReason (LivesAt g conditions marks) c → (d : Definition) → slice_get g k ≡ Some d → is_marked marks k ≡ true
  unfolding HasReason
  definition_step k c e r d there =
      let w = spelled.spelled k d there in
      let v = reason_of k c (If (has_some_name d.class) w.root) e w.is r in
      closed.closed k d there (true_and (has_some_name d.class) (lives_with marks d.content) v.0 (v.1.pattern (length g) d.content w.spells (numbered k d there)))

  pub lives_at : {k : ℕ} → Holds conditions k → (d : Definition) → slice_get g k ≡ Some d → is_marked marks k ≡ true
  lives_at h d there = (least (λ k. LivesAt g conditions marks k) (λ k c e r. record { pattern = pattern_step k c e r; definition = definition_step k c e r }) h).definition d there

-- ---- so the marks are derived and closed

pub marks_derived : {g : List Definition} {conditions : List Condition} {marks : List Bool} (named : ℕ → Bool) → AreSpelled g conditions → AreHeld conditions marks → AreNumbered (length g) g → AllFit named g → AreDerived named g marks
marks_derived {g = g} named spelled held numbered fit = record {
  derived = λ i n h.
      let d = fit.there i n in
      (rounds_derived named g fit (length g)).derived i n (lives_at spelled numbered (living g) (living_is_closed g) (held.only i h) d.0 d.1);
}

pub marks_closed : {g : List Definition} {conditions : List Condition} {marks : List Bool} → AreSpelled g conditions → AreHeld conditions marks → AreClosed g marks
marks_closed {marks = marks} spelled held = record {
  closed = λ i d there h.
      let w = spelled.spelled i d there in
      marked_by held i (If (has_some_name d.class) w.root) w.is ∙ ap (λ (v : Bool). has_some_name d.class && v) (mark_lives held w.spells) ∙ h;
}
