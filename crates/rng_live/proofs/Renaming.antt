-- Definitions under new numbers match what they matched.
use Rattle.std.proofs.Common.{◌≡◌, ℕ, zero, suc, List, [], ◌∷◌, Bool, true, false, ◌||◌, Option, Some, None, refl, sym, ap, subst, ◌∙◌, arith}
use Rattle.std.specs.Prelude.{slice_get, option_map, ◌↔◌, ◌==◌, if◌then◌else◌}
use Rattle.std.proofs.lemmas.Bool.{eqb-true}
use Rattle.std.proofs.lemmas.Option.{slice_get-map}
use Rattle.nx_base.specs.Trees.{Attribute, Children}
use Rattle.rng_core.specs.Patterns.{Pattern, Definition, not_allowed, empty, any_text, typed, literal, listed, attribute, ref, one_or_more, choice, group, interleave}
use Rattle.rng_core.specs.Matching.{Matches, by_first, by_second, by_group, by_empty, by_text, by_one, by_more, by_interleave, by_element, by_attribute, by_blank_attribute, by_data, by_value, by_list}
use Rattle.rng_residual.proofs.SmallPatterns.{and_true}
use Rattle.rng_residual.proofs.Nullable.{true_and}
use Rattle.rng_live.specs.Left.{prune_all}
use Rattle.rng_live.specs.Left.{refs_are}
use Rattle.rng_live.proofs.Renumbered.{renamed, renamed_definition, is_kept, place, definition_at, renumbered, AreKept}
use Rattle.rng_live.proofs.Claims.{RenumberingKeepsTrees, PrunedKeepsTrees}
use Rattle.rng_live.proofs.Pruning.{pruning_keeps_trees}

-- ---- a renaming

-- the named definitions stand in others under their new numbers, and refer to named ones
pub record Renames (r : ℕ → ℕ) (named : ℕ → Bool) (g h : List Definition) : Type 0 where
  pub found : (i : ℕ) (d : Definition) → named i ≡ true → slice_get g i ≡ Some d → slice_get h (r i) ≡ Some (renamed_definition r d)
  pub refs : (i : ℕ) (d : Definition) → named i ≡ true → slice_get g i ≡ Some d → refs_are named d.content ≡ true

module _ (r : ℕ → ℕ) (named : ℕ → Bool) {g h : List Definition} (w : Renames r named g h) where
  pub renamed_matches : {p : Pattern} {a : List Attribute} {c : Children} → refs_are named p ≡ true → Matches g p a c → Matches h (renamed r p) a c
  renamed_matches f (by_first {p = p} {q = q} m) = by_first (renamed_matches (and_true (refs_are named p) (refs_are named q) f).0 m)
  renamed_matches f (by_second {p = p} {q = q} m) = by_second (renamed_matches (and_true (refs_are named p) (refs_are named q) f).1 m)
  renamed_matches f (by_group {p = p} {q = q} x o m n) = let e = and_true (refs_are named p) (refs_are named q) f in by_group x o (renamed_matches e.0 m) (renamed_matches e.1 n)
  renamed_matches f by_empty = by_empty
  renamed_matches f (by_text s) = by_text s
  renamed_matches f (by_one m) = by_one (renamed_matches f m)
  renamed_matches f (by_more x o m n) = by_more x o (renamed_matches f m) (renamed_matches f n)
  renamed_matches f (by_interleave {p = p} {q = q} x o m n) = let e = and_true (refs_are named p) (refs_are named q) f in by_interleave x o (renamed_matches e.0 m) (renamed_matches e.1 n)
  renamed_matches f (by_element {i = i} {d = d} e c y m) = by_element (w.found i d f e) c y (renamed_matches (w.refs i d f e) m)
  renamed_matches f (by_attribute k m) = by_attribute k (renamed_matches f m)
  renamed_matches f (by_blank_attribute k b m) = by_blank_attribute k b (renamed_matches f m)
  renamed_matches f (by_data a d) = by_data a d
  renamed_matches f (by_value a s) = by_value a s
  renamed_matches f (by_list m) = by_list (renamed_matches f m)

-- ---- numbers and places

any_refs : (p : Pattern) → refs_are (λ i. true) p ≡ true
any_refs not_allowed = refl
any_refs empty = refl
any_refs any_text = refl
any_refs (typed type es) = refl
any_refs (literal type t) = refl
any_refs (listed p) = any_refs p
any_refs (attribute class p) = any_refs p
any_refs (ref i) = refl
any_refs (one_or_more p) = any_refs p
any_refs (choice p q) = true_and _ _ (any_refs p) (any_refs q)
any_refs (group p q) = true_and _ _ (any_refs p) (any_refs q)
any_refs (interleave p q) = true_and _ _ (any_refs p) (any_refs q)

number_of_place : Option ℕ → ℕ
number_of_place None = zero
number_of_place (Some i) = i

number_at : List ℕ → ℕ → ℕ
number_at numbers j = number_of_place (slice_get numbers j)

pub place_is : (numbers : List ℕ) (i : ℕ) → is_kept numbers i ≡ true → slice_get numbers (place numbers i) ≡ Some i
place_is [] i h = cc
place_is (j ∷ js) i h = go (j == i) refl (λ k. place_is js i k)
  where
    go : (b : Bool) → (j == i) ≡ b → (is_kept js i ≡ true → slice_get js (place js i) ≡ Some i) → slice_get (j ∷ js) (if j == i then zero else suc (place js i)) ≡ Some i
    go true e f = rw e (ap (λ (x : ℕ). Some x) (eqb-true j i e))
    go false e f = rw e (f (subst (λ (b : Bool). (b || is_kept js i) ≡ true) e h))

number_is : (numbers : List ℕ) (i : ℕ) → is_kept numbers i ≡ true → number_at numbers (place numbers i) ≡ i
unfolding number_at number_of_place
number_is numbers i h = ap number_of_place (place_is numbers i h)

pub kept_at : (numbers : List ℕ) (j i : ℕ) → slice_get numbers j ≡ Some i → is_kept numbers i ≡ true
kept_at [] j i e = cc
kept_at (k ∷ ks) zero i e = let same : k ≡ i = cc in rw same (ap (λ (b : Bool). b || is_kept ks i) (itself i))
  where
    itself : (n : ℕ) → (n == n) ≡ true
    itself n = grind arith
kept_at (k ∷ ks) (suc j) i e = right (k == i) (is_kept ks i) (kept_at ks j i e)
  where
    right : (a b : Bool) → b ≡ true → (a || b) ≡ true
    right true b f = refl
    right false b f = f

module _ (numbers : List ℕ) where
  back_again : (p : Pattern) → refs_are (is_kept numbers) p ≡ true → renamed (number_at numbers) (renamed (place numbers) p) ≡ p
  back_again not_allowed f = refl
  back_again empty f = refl
  back_again any_text f = refl
  back_again (typed type es) f = refl
  back_again (literal type t) f = refl
  back_again (listed p) f = ap listed (back_again p f)
  back_again (attribute class p) f = ap (attribute class) (back_again p f)
  back_again (ref i) f = ap ref (number_is numbers i f)
  back_again (one_or_more p) f = ap one_or_more (back_again p f)
  back_again (choice p q) f = let e = and_true (refs_are (is_kept numbers) p) (refs_are (is_kept numbers) q) f in let x = back_again p e.0 in let y = back_again q e.1 in cc
  back_again (group p q) f = let e = and_true (refs_are (is_kept numbers) p) (refs_are (is_kept numbers) q) f in let x = back_again p e.0 in let y = back_again q e.1 in cc
  back_again (interleave p q) f = let e = and_true (refs_are (is_kept numbers) p) (refs_are (is_kept numbers) q) f in let x = back_again p e.0 in let y = back_again q e.1 in cc

new_definition : List ℕ → List Definition → ℕ → Definition
new_definition numbers g i = renamed_definition (place numbers) (definition_at (slice_get g i))

module _ {start : Pattern} {g : List Definition} {numbers : List ℕ} (kept : AreKept start g numbers) where
  pub there : Renames (place numbers) (is_kept numbers) g (renumbered numbers g)
  there = record {
    found = λ i d k e.
        slice_get-map (λ (x : ℕ). renamed_definition (place numbers) (definition_at (slice_get g x))) numbers (place numbers i)
        ∙ ap (option_map (λ (x : ℕ). renamed_definition (place numbers) (definition_at (slice_get g x)))) (place_is numbers i k)
        ∙ ap (λ (o : Option Definition). Some (renamed_definition (place numbers) (definition_at o))) e;
    refs = kept.content_in;
  }

  -- a new definition is an old one
  pub record Old (j : ℕ) (d : Definition) : Type 0 where
    pub number : ℕ
    pub at : slice_get numbers j ≡ Some number
    pub before : Definition
    pub is : slice_get g number ≡ Some before
    pub same : renamed_definition (place numbers) before ≡ d

  pub old : (j : ℕ) (d : Definition) → slice_get (renumbered numbers g) j ≡ Some d → Old j d
  old j d e = go (slice_get numbers j) refl (sym (slice_get-map (λ (x : ℕ). renamed_definition (place numbers) (definition_at (slice_get g x))) numbers j) ∙ e)
    where
      go : (o : Option ℕ) → slice_get numbers j ≡ o → option_map (λ (x : ℕ). renamed_definition (place numbers) (definition_at (slice_get g x))) o ≡ Some d → Old j d
      go None f h = cc
      go (Some i) f h =
          let t = kept.there i (kept_at numbers j i f) in
          let s : renamed_definition (place numbers) (definition_at (slice_get g i)) ≡ d = cc in
          record { number = i; at = f; before = t.0; is = t.1; same = ap (λ (o : Option Definition). renamed_definition (place numbers) (definition_at o)) (sym t.1) ∙ s }

  back : Renames (number_at numbers) (λ i. true) (renumbered numbers g) g
  unfolding number_at number_of_place
  back = record { found = λ j d k e. go j d (old j d e); refs = λ i d k e. any_refs d.content }
    where
      go : (j : ℕ) (d : Definition) → Old j d → slice_get g (number_at numbers j) ≡ Some (renamed_definition (number_at numbers) d)
      go j d w =
          ap (λ (o : Option ℕ). slice_get g (number_of_place o)) w.at ∙ w.is
          ∙ ap (λ (x : Pattern). Some (record { class = w.before.class; content = x })) (sym (back_again numbers w.before.content (kept.content_in w.number w.before (kept_at numbers j w.number w.at) w.is)))
          ∙ ap (λ (x : Definition). Some (renamed_definition (number_at numbers) x)) w.same

  pub renumbering : (a : List Attribute) (c : Children) → Matches (renumbered numbers g) (renamed (place numbers) start) a c ↔ Matches g start a c
  renumbering a c = (
    λ m. subst (λ (x : Pattern). Matches g x a c) (back_again numbers start kept.start_in) (renamed_matches (number_at numbers) (λ i. true) back {p = renamed (place numbers) start} (any_refs (renamed (place numbers) start)) m),
    λ m. renamed_matches (place numbers) (is_kept numbers) there kept.start_in m,
  )

pub renumbering_keeps_trees : RenumberingKeepsTrees
renumbering_keeps_trees start g numbers kept a c = renumbering kept a c

pub pruned_keeps_trees : PrunedKeepsTrees
pruned_keeps_trees named old new fit f marks are is a c v s =
    let one = renumbering is.kept a c in
    let two = pruning_keeps_trees named old.definitions fit marks are old.start f a c v s in (
      λ m. two.0 (one.0 (subst (λ (x : Pattern). Matches (renumbered is.numbers (prune_all marks old.definitions)) x a c) is.start_is (subst (λ (x : List Definition). Matches x new.start a c) is.definitions_are m))),
      λ m. subst (λ (x : List Definition). Matches x new.start a c) (sym is.definitions_are) (subst (λ (x : Pattern). Matches (renumbered is.numbers (prune_all marks old.definitions)) x a c) (sym is.start_is) (one.1 (two.1 m))),
    )
