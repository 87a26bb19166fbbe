-- What pruning and new numbers keep of a pattern.
use Rattle.std.proofs.Common.{◌≡◌, ℕ, ◌<◌, List, Bool, true, false, ◌&&◌, ◌||◌, refl, sym, subst, ⊎_elim, inl, inr, ◌⊎◌, true≢false}
use Rattle.std.specs.Prelude.{◌==◌, if◌then◌else◌}
use Rattle.std.proofs.lemmas.Bool.{eqb-true}
use Rattle.nx_base.specs.declared.name.Name.{Name}
use Rattle.rng_core.specs.Patterns.{Pattern, not_allowed, empty, any_text, typed, literal, listed, attribute, ref, one_or_more, choice, group, interleave}
use Rattle.rng_core.specs.Soundness.{IsSoundPattern, sound_not_allowed, sound_empty, sound_text, sound_data, sound_value, sound_list, sound_attribute, sound_ref, sound_one_or_more, sound_choice, sound_group, sound_interleave}
use Rattle.rng_kept.specs.Lists.{lists_are}
use Rattle.rng_residual.proofs.SmallPatterns.{and_true, or_true}
use Rattle.rng_residual.proofs.Nullable.{true_and, true_or_left, true_or_right}
use Rattle.rng_kept.specs.Apart.{mentions, is_attribute_free, is_loose, IsApart, apart_free, apart_attribute, apart_one_or_more, apart_choice, apart_group, apart_interleave}
use Rattle.rng_live.specs.Living.{lives_with}
use Rattle.rng_live.specs.Left.{refs_are}
use Rattle.rng_live.specs.Left.{sides, prune}
use Rattle.rng_live.proofs.Renumbered.{renamed}

-- ---- sides

pub sides_pass : (P : Pattern → Type 0) → ((p q : Pattern) → P p → P q → P (choice p q)) → (x y : Bool) (p q : Pattern) → P p → P q → P (sides x y p q)
sides_pass P join true true p q a b = join p q a b
sides_pass P join true false p q a b = a
sides_pass P join false y p q a b = b

pub sides_live : (P : Pattern → Type 0) → ((p q : Pattern) → P p → P q → P (choice p q)) → (x y : Bool) (p q : Pattern) → (x || y) ≡ true → (x ≡ true → P p) → (y ≡ true → P q) → P (sides x y p q)
sides_live P join true true p q h a b = join p q (a refl) (b refl)
sides_live P join true false p q h a b = a refl
sides_live P join false true p q h a b = b refl
sides_live P join false false p q h a b = absurd (true≢false (sym h))

-- ---- pruning

module _ (marks : List Bool) where
  pub prune_sound : {count : ℕ} {p : Pattern} → IsSoundPattern count p → IsSoundPattern count (prune marks p)
  prune_sound sound_not_allowed = sound_not_allowed
  prune_sound sound_empty = sound_empty
  prune_sound sound_text = sound_text
  prune_sound (sound_data m l e) = sound_data m l e
  prune_sound (sound_value m a c) = sound_value m a c
  prune_sound (sound_list s) = sound_list (prune_sound s)
  prune_sound (sound_attribute c s) = sound_attribute c (prune_sound s)
  prune_sound (sound_ref l) = sound_ref l
  prune_sound (sound_one_or_more s) = sound_one_or_more (prune_sound s)
  prune_sound {count = count} (sound_choice {p = p} {q = q} s r) =
      sides_pass (λ x. IsSoundPattern count x) (λ x y a b. sound_choice a b) (lives_with marks p) (lives_with marks q) (prune marks p) (prune marks q) (prune_sound s) (prune_sound r)
  prune_sound (sound_group s r) = sound_group (prune_sound s) (prune_sound r)
  prune_sound (sound_interleave s r) = sound_interleave (prune_sound s) (prune_sound r)

  pub prune_lists : (test check : Pattern → Bool) → ((q : Pattern) → test q ≡ true → check (prune marks q) ≡ true) → (p : Pattern) → lists_are test p ≡ true → lists_are check (prune marks p) ≡ true
  prune_lists test check k not_allowed h = refl
  prune_lists test check k empty h = refl
  prune_lists test check k any_text h = refl
  prune_lists test check k (typed type es) h = refl
  prune_lists test check k (literal type t) h = refl
  prune_lists test check k (ref i) h = refl
  prune_lists test check k (listed p) h = k p h
  prune_lists test check k (attribute c p) h = prune_lists test check k p h
  prune_lists test check k (one_or_more p) h = prune_lists test check k p h
  prune_lists test check k (choice p q) h =
      let e = and_true (lists_are test p) (lists_are test q) h in
      sides_pass (λ x. lists_are check x ≡ true) (λ x y a b. true_and (lists_are check x) (lists_are check y) a b) (lives_with marks p) (lives_with marks q) (prune marks p) (prune marks q)
      (prune_lists test check k p e.0) (prune_lists test check k q e.1)
  prune_lists test check k (group p q) h = let e = and_true (lists_are test p) (lists_are test q) h in true_and _ _ (prune_lists test check k p e.0) (prune_lists test check k q e.1)
  prune_lists test check k (interleave p q) h = let e = and_true (lists_are test p) (lists_are test q) h in true_and _ _ (prune_lists test check k p e.0) (prune_lists test check k q e.1)

  -- where there are no references, there are none that fail a test
  pub prune_no_refs : (test : ℕ → Bool) (p : Pattern) → refs_are (λ i. false) p ≡ true → refs_are test (prune marks p) ≡ true
  prune_no_refs test not_allowed h = refl
  prune_no_refs test empty h = refl
  prune_no_refs test any_text h = refl
  prune_no_refs test (typed type es) h = refl
  prune_no_refs test (literal type t) h = refl
  prune_no_refs test (ref i) h = absurd (true≢false (sym h))
  prune_no_refs test (listed p) h = prune_no_refs test p h
  prune_no_refs test (attribute c p) h = prune_no_refs test p h
  prune_no_refs test (one_or_more p) h = prune_no_refs test p h
  prune_no_refs test (choice p q) h =
      let e = and_true (refs_are (λ i. false) p) (refs_are (λ i. false) q) h in
      sides_pass (λ x. refs_are test x ≡ true) (λ x y a b. true_and (refs_are test x) (refs_are test y) a b) (lives_with marks p) (lives_with marks q) (prune marks p) (prune marks q)
      (prune_no_refs test p e.0) (prune_no_refs test q e.1)
  prune_no_refs test (group p q) h = let e = and_true (refs_are (λ i. false) p) (refs_are (λ i. false) q) h in true_and _ _ (prune_no_refs test p e.0) (prune_no_refs test q e.1)
  prune_no_refs test (interleave p q) h = let e = and_true (refs_are (λ i. false) p) (refs_are (λ i. false) q) h in true_and _ _ (prune_no_refs test p e.0) (prune_no_refs test q e.1)

  prune_free : (p : Pattern) → is_attribute_free p ≡ true → is_attribute_free (prune marks p) ≡ true
  prune_free not_allowed h = refl
  prune_free empty h = refl
  prune_free any_text h = refl
  prune_free (typed type es) h = refl
  prune_free (literal type t) h = refl
  prune_free (ref i) h = refl
  prune_free (listed p) h = refl
  prune_free (attribute c p) h = h
  prune_free (one_or_more p) h = prune_free p h
  prune_free (choice p q) h =
      let e = and_true (is_attribute_free p) (is_attribute_free q) h in
      sides_pass (λ x. is_attribute_free x ≡ true) (λ x y a b. true_and (is_attribute_free x) (is_attribute_free y) a b) (lives_with marks p) (lives_with marks q) (prune marks p) (prune marks q) (prune_free p e.0) (prune_free q e.1)
  prune_free (group p q) h = let e = and_true (is_attribute_free p) (is_attribute_free q) h in true_and _ _ (prune_free p e.0) (prune_free q e.1)
  prune_free (interleave p q) h = let e = and_true (is_attribute_free p) (is_attribute_free q) h in true_and _ _ (prune_free p e.0) (prune_free q e.1)

  prune_loose : (p : Pattern) → is_loose p ≡ true → is_loose (prune marks p) ≡ true
  prune_loose not_allowed h = refl
  prune_loose empty h = refl
  prune_loose any_text h = refl
  prune_loose (typed type es) h = refl
  prune_loose (literal type t) h = refl
  prune_loose (ref i) h = refl
  prune_loose (listed p) h = refl
  prune_loose (attribute c p) h = refl
  prune_loose (one_or_more p) h = prune_loose p h
  prune_loose (choice p q) h =
      let e = and_true (is_loose p) (is_loose q) h in
      sides_pass (λ x. is_loose x ≡ true) (λ x y a b. true_and (is_loose x) (is_loose y) a b) (lives_with marks p) (lives_with marks q) (prune marks p) (prune marks q) (prune_loose p e.0) (prune_loose q e.1)
  prune_loose (group p q) h = let e = and_true (is_attribute_free p) (is_attribute_free q) h in true_and _ _ (prune_free p e.0) (prune_free q e.1)
  prune_loose (interleave p q) h = let e = and_true (is_attribute_free p) (is_attribute_free q) h in true_and _ _ (prune_free p e.0) (prune_free q e.1)

  some_side : (n : Name) (x y : Bool) (p q : Pattern) → mentions (sides x y p q) n ≡ true → (mentions p n ≡ true) ⊎ (mentions q n ≡ true)
  some_side n true true p q h = or_true (mentions p n) (mentions q n) h
  some_side n true false p q h = inl h
  some_side n false y p q h = inr h

  prune_mentions : (n : Name) (p : Pattern) → mentions (prune marks p) n ≡ true → mentions p n ≡ true
  prune_mentions n not_allowed h = h
  prune_mentions n empty h = h
  prune_mentions n any_text h = h
  prune_mentions n (typed type es) h = h
  prune_mentions n (literal type t) h = h
  prune_mentions n (ref i) h = h
  prune_mentions n (listed p) h = h
  prune_mentions n (attribute c p) h = h
  prune_mentions n (one_or_more p) h = prune_mentions n p h
  prune_mentions n (choice p q) h =
      ⊎_elim (λ e. true_or_left (mentions p n) (mentions q n) (prune_mentions n p e)) (λ e. true_or_right (mentions p n) (mentions q n) (prune_mentions n q e))
      (some_side n (lives_with marks p) (lives_with marks q) (prune marks p) (prune marks q) h)
  prune_mentions n (group p q) h =
      ⊎_elim (λ e. true_or_left (mentions p n) (mentions q n) (prune_mentions n p e)) (λ e. true_or_right (mentions p n) (mentions q n) (prune_mentions n q e)) (or_true (mentions (prune marks p) n) (mentions (prune marks q) n) h)
  prune_mentions n (interleave p q) h =
      ⊎_elim (λ e. true_or_left (mentions p n) (mentions q n) (prune_mentions n p e)) (λ e. true_or_right (mentions p n) (mentions q n) (prune_mentions n q e)) (or_true (mentions (prune marks p) n) (mentions (prune marks q) n) h)

  pub prune_apart : {p : Pattern} → IsApart p → IsApart (prune marks p)
  prune_apart (apart_free {p = p} h) = apart_free (prune_free p h)
  prune_apart apart_attribute = apart_attribute
  prune_apart (apart_one_or_more {p = p} h i) = apart_one_or_more (prune_loose p h) (prune_apart i)
  prune_apart (apart_choice {p = p} {q = q} i j) =
      sides_pass (λ x. IsApart x) (λ x y a b. apart_choice a b) (lives_with marks p) (lives_with marks q) (prune marks p) (prune marks q) (prune_apart i) (prune_apart j)
  prune_apart (apart_group {p = p} {q = q} i j f) = apart_group (prune_apart i) (prune_apart j) (λ n h k. f n (prune_mentions n p h) (prune_mentions n q k))
  prune_apart (apart_interleave {p = p} {q = q} i j f) = apart_interleave (prune_apart i) (prune_apart j) (λ n h k. f n (prune_mentions n p h) (prune_mentions n q k))

-- ---- new numbers

module _ (r : ℕ → ℕ) where
  pub renamed_sound : {count bound : ℕ} → ((i : ℕ) → r i < bound) → {p : Pattern} → IsSoundPattern count p → IsSoundPattern bound (renamed r p)
  renamed_sound w sound_not_allowed = sound_not_allowed
  renamed_sound w sound_empty = sound_empty
  renamed_sound w sound_text = sound_text
  renamed_sound w (sound_data m l e) = sound_data m l e
  renamed_sound w (sound_value m a c) = sound_value m a c
  renamed_sound w (sound_list s) = sound_list (renamed_sound w s)
  renamed_sound w (sound_attribute c s) = sound_attribute c (renamed_sound w s)
  renamed_sound w (sound_ref {i = i} l) = sound_ref (w i)
  renamed_sound w (sound_one_or_more s) = sound_one_or_more (renamed_sound w s)
  renamed_sound w (sound_choice s q) = sound_choice (renamed_sound w s) (renamed_sound w q)
  renamed_sound w (sound_group s q) = sound_group (renamed_sound w s) (renamed_sound w q)
  renamed_sound w (sound_interleave s q) = sound_interleave (renamed_sound w s) (renamed_sound w q)

  pub renamed_lists : (test check : Pattern → Bool) → ((q : Pattern) → test q ≡ true → check (renamed r q) ≡ true) → (p : Pattern) → lists_are test p ≡ true → lists_are check (renamed r p) ≡ true
  renamed_lists test check k not_allowed h = refl
  renamed_lists test check k empty h = refl
  renamed_lists test check k any_text h = refl
  renamed_lists test check k (typed type es) h = refl
  renamed_lists test check k (literal type t) h = refl
  renamed_lists test check k (ref i) h = refl
  renamed_lists test check k (listed p) h = k p h
  renamed_lists test check k (attribute c p) h = renamed_lists test check k p h
  renamed_lists test check k (one_or_more p) h = renamed_lists test check k p h
  renamed_lists test check k (choice p q) h = let e = and_true (lists_are test p) (lists_are test q) h in true_and _ _ (renamed_lists test check k p e.0) (renamed_lists test check k q e.1)
  renamed_lists test check k (group p q) h = let e = and_true (lists_are test p) (lists_are test q) h in true_and _ _ (renamed_lists test check k p e.0) (renamed_lists test check k q e.1)
  renamed_lists test check k (interleave p q) h = let e = and_true (lists_are test p) (lists_are test q) h in true_and _ _ (renamed_lists test check k p e.0) (renamed_lists test check k q e.1)

  renamed_free : (p : Pattern) → is_attribute_free p ≡ true → is_attribute_free (renamed r p) ≡ true
  renamed_free not_allowed h = refl
  renamed_free empty h = refl
  renamed_free any_text h = refl
  renamed_free (typed type es) h = refl
  renamed_free (literal type t) h = refl
  renamed_free (ref i) h = refl
  renamed_free (listed p) h = refl
  renamed_free (attribute c p) h = h
  renamed_free (one_or_more p) h = renamed_free p h
  renamed_free (choice p q) h = let e = and_true (is_attribute_free p) (is_attribute_free q) h in true_and _ _ (renamed_free p e.0) (renamed_free q e.1)
  renamed_free (group p q) h = let e = and_true (is_attribute_free p) (is_attribute_free q) h in true_and _ _ (renamed_free p e.0) (renamed_free q e.1)
  renamed_free (interleave p q) h = let e = and_true (is_attribute_free p) (is_attribute_free q) h in true_and _ _ (renamed_free p e.0) (renamed_free q e.1)

  renamed_loose : (p : Pattern) → is_loose p ≡ true → is_loose (renamed r p) ≡ true
  renamed_loose not_allowed h = refl
  renamed_loose empty h = refl
  renamed_loose any_text h = refl
  renamed_loose (typed type es) h = refl
  renamed_loose (literal type t) h = refl
  renamed_loose (ref i) h = refl
  renamed_loose (listed p) h = refl
  renamed_loose (attribute c p) h = refl
  renamed_loose (one_or_more p) h = renamed_loose p h
  renamed_loose (choice p q) h = let e = and_true (is_loose p) (is_loose q) h in true_and _ _ (renamed_loose p e.0) (renamed_loose q e.1)
  renamed_loose (group p q) h = let e = and_true (is_attribute_free p) (is_attribute_free q) h in true_and _ _ (renamed_free p e.0) (renamed_free q e.1)
  renamed_loose (interleave p q) h = let e = and_true (is_attribute_free p) (is_attribute_free q) h in true_and _ _ (renamed_free p e.0) (renamed_free q e.1)

  renamed_mentions : (n : Name) (p : Pattern) → mentions (renamed r p) n ≡ mentions p n
  renamed_mentions n not_allowed = refl
  renamed_mentions n empty = refl
  renamed_mentions n any_text = refl
  renamed_mentions n (typed type es) = refl
  renamed_mentions n (literal type t) = refl
  renamed_mentions n (ref i) = refl
  renamed_mentions n (listed p) = refl
  renamed_mentions n (attribute c p) = refl
  renamed_mentions n (one_or_more p) = renamed_mentions n p
  renamed_mentions n (choice p q) = let e = renamed_mentions n p in let f = renamed_mentions n q in rw (e, f) refl
  renamed_mentions n (group p q) = let e = renamed_mentions n p in let f = renamed_mentions n q in rw (e, f) refl
  renamed_mentions n (interleave p q) = let e = renamed_mentions n p in let f = renamed_mentions n q in rw (e, f) refl

  pub renamed_apart : {p : Pattern} → IsApart p → IsApart (renamed r p)
  renamed_apart (apart_free {p = p} h) = apart_free (renamed_free p h)
  renamed_apart apart_attribute = apart_attribute
  renamed_apart (apart_one_or_more {p = p} h i) = apart_one_or_more (renamed_loose p h) (renamed_apart i)
  renamed_apart (apart_choice i j) = apart_choice (renamed_apart i) (renamed_apart j)
  renamed_apart (apart_group {p = p} {q = q} i j f) =
      apart_group (renamed_apart i) (renamed_apart j) (λ n h k. f n (subst (λ (b : Bool). b ≡ true) (renamed_mentions n p) h) (subst (λ (b : Bool). b ≡ true) (renamed_mentions n q) k))
  renamed_apart (apart_interleave {p = p} {q = q} i j f) =
      apart_interleave (renamed_apart i) (renamed_apart j) (λ n h k. f n (subst (λ (b : Bool). b ≡ true) (renamed_mentions n p) h) (subst (λ (b : Bool). b ≡ true) (renamed_mentions n q) k))
