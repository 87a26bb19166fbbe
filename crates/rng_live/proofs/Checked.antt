-- A sound grammar that keeps the restrictions fits.
use Rattle.std.proofs.Common.{◌≡◌, ℕ, zero, suc, List, [], ◌∷◌, Bool, true, false, ◌&&◌, Some, refl, sym, subst, inl, inr, ◌⊎◌, ⊎_elim, true≢false, length}
use Rattle.std.specs.Prelude.{slice_get, ◌==◌, if◌then◌else◌}
use Rattle.std.specs.List.{AllByRecursion}
use Rattle.std.proofs.lemmas.Bool.{eqb-true}
use Rattle.rng_core.specs.Names.{Class}
use Rattle.rng_core.specs.Patterns.{Pattern, Definition, not_allowed, empty, any_text, typed, literal, listed, attribute, ref, one_or_more, choice, group, interleave}
use Rattle.rng_core.specs.Soundness.{IsSoundPattern, sound_not_allowed, sound_empty, sound_text, sound_data, sound_value, sound_list, sound_attribute, sound_ref, sound_one_or_more, sound_choice, sound_group, sound_interleave, IsSoundDefinition}
use Rattle.rng_restrict.specs.Standing.{Stands, itself, in_list, in_attribute, in_one_or_more, in_first_choice, in_second_choice, in_first_of_group, in_second_of_group, in_first_of_interleave, in_second_of_interleave}
use Rattle.rng_restrict.specs.Reaching.{IsReached, from_start, from_content, in_start, in_content}
use Rattle.rng_restrict.specs.Paths.{HasPath, ref_below_attribute, ref_below_list, HasStartPath, attribute_in_start, data_in_start, value_in_start, text_in_start, list_in_start, group_in_start, interleave_in_start, one_or_more_in_start, empty_in_start}
use Rattle.rng_restrict.specs.Attributes.{HasAttributeOverlap}
use Rattle.rng_kept.specs.Lists.{has_no_list, has_flat_lists}
use Rattle.rng_residual.proofs.SmallPatterns.{and_true}
use Rattle.rng_residual.proofs.Nullable.{true_and}
use Rattle.rng_residual.proofs.Restricted.{restricted_is_apart}
use Rattle.rng_live.specs.Left.{refs_are}
use Rattle.rng_live.proofs.Fitting.{has_no_ref, Fits, fits_not_allowed, fits_empty, fits_text, fits_data, fits_value, fits_list, fits_attribute, fits_ref, fits_one_or_more, fits_choice, fits_group, fits_interleave}
use Rattle.rng_live.specs.Pruned.{Reaches, reaches_first, reaches_more}
use Rattle.rng_live.proofs.Renumbered.{is_kept}
use Rattle.rng_live.proofs.Claims.{is_start, CheckedIsFit}

-- ---- patterns without references

no_ref : (p : Pattern) → ((i : ℕ) → Stands (ref i) p → ⊥) → has_no_ref p ≡ true
no_ref not_allowed f = refl
no_ref empty f = refl
no_ref any_text f = refl
no_ref (typed type es) f = refl
no_ref (literal type t) f = refl
no_ref (ref j) f = absurd (f j itself)
no_ref (listed p) f = no_ref p (λ i s. f i (in_list s))
no_ref (attribute c p) f = no_ref p (λ i s. f i (in_attribute s))
no_ref (one_or_more p) f = no_ref p (λ i s. f i (in_one_or_more s))
no_ref (choice p q) f = true_and _ _ (no_ref p (λ i s. f i (in_first_choice s))) (no_ref q (λ i s. f i (in_second_choice s)))
no_ref (group p q) f = true_and _ _ (no_ref p (λ i s. f i (in_first_of_group s))) (no_ref q (λ i s. f i (in_second_of_group s)))
no_ref (interleave p q) f = true_and _ _ (no_ref p (λ i s. f i (in_first_of_interleave s))) (no_ref q (λ i s. f i (in_second_of_interleave s)))

no_list_flat : (p : Pattern) → has_no_list p ≡ true → has_flat_lists p ≡ true
no_list_flat not_allowed h = refl
no_list_flat empty h = refl
no_list_flat any_text h = refl
no_list_flat (typed type es) h = refl
no_list_flat (literal type t) h = refl
no_list_flat (ref i) h = refl
no_list_flat (listed p) h = absurd (true≢false (sym h))
no_list_flat (attribute c p) h = no_list_flat p h
no_list_flat (one_or_more p) h = no_list_flat p h
no_list_flat (choice p q) h = let e = and_true (has_no_list p) (has_no_list q) h in true_and _ _ (no_list_flat p e.0) (no_list_flat q e.1)
no_list_flat (group p q) h = let e = and_true (has_no_list p) (has_no_list q) h in true_and _ _ (no_list_flat p e.0) (no_list_flat q e.1)
no_list_flat (interleave p q) h = let e = and_true (has_no_list p) (has_no_list q) h in true_and _ _ (no_list_flat p e.0) (no_list_flat q e.1)

-- no reference stands in a list or in an attribute
record Bare (p : Pattern) : Type 0 where
  lists : (body : Pattern) (i : ℕ) → Stands (listed body) p → Stands (ref i) body → ⊥
  attributes : (c : Class) (body : Pattern) (i : ℕ) → Stands (attribute c body) p → Stands (ref i) body → ⊥

bare_part : {p q : Pattern} → ((x : Pattern) → Stands x p → Stands x q) → Bare q → Bare p
bare_part up b = record { lists = λ body i s t. b.lists body i (up (listed body) s) t; attributes = λ c body i s t. b.attributes c body i (up (attribute c body) s) t }

fits_of : {count : ℕ} (named : ℕ → Bool) {p : Pattern} → IsSoundPattern count p → Bare p → has_flat_lists p ≡ true → refs_are named p ≡ true → Fits named p
fits_of named sound_not_allowed b l r = fits_not_allowed
fits_of named sound_empty b l r = fits_empty
fits_of named sound_text b l r = fits_text
fits_of named (sound_data m n e) b l r = fits_data {count = 0} (sound_data m n e)
fits_of named (sound_value m a c) b l r = fits_value {count = 0} (sound_value m a c)
fits_of named (sound_list {p = p} s) b l r = fits_list s l (no_ref p (λ i t. b.lists p i itself t)) (fits_of named s (bare_part (λ x t. in_list t) b) (no_list_flat p l) r)
fits_of named (sound_attribute {class = c} {p = p} k s) b l r = fits_attribute l (no_ref p (λ i t. b.attributes c p i itself t)) (fits_of named s (bare_part (λ x t. in_attribute t) b) l r)
fits_of named (sound_ref n) b l r = fits_ref r
fits_of named (sound_one_or_more s) b l r = fits_one_or_more (fits_of named s (bare_part (λ x t. in_one_or_more t) b) l r)
fits_of named (sound_choice {p = p} {q = q} s u) b l r =
    let e = and_true (has_flat_lists p) (has_flat_lists q) l in
    let f = and_true (refs_are named p) (refs_are named q) r in
    fits_choice (fits_of named s (bare_part (λ x t. in_first_choice t) b) e.0 f.0) (fits_of named u (bare_part (λ x t. in_second_choice t) b) e.1 f.1)
fits_of named (sound_group {p = p} {q = q} s u) b l r =
    let e = and_true (has_flat_lists p) (has_flat_lists q) l in
    let f = and_true (refs_are named p) (refs_are named q) r in
    fits_group (fits_of named s (bare_part (λ x t. in_first_of_group t) b) e.0 f.0) (fits_of named u (bare_part (λ x t. in_second_of_group t) b) e.1 f.1)
fits_of named (sound_interleave {p = p} {q = q} s u) b l r =
    let e = and_true (has_flat_lists p) (has_flat_lists q) l in
    let f = and_true (refs_are named p) (refs_are named q) r in
    fits_interleave (fits_of named s (bare_part (λ x t. in_first_of_interleave t) b) e.0 f.0) (fits_of named u (bare_part (λ x t. in_second_of_interleave t) b) e.1 f.1)

bare_of : {p : Pattern} → (HasPath p → ⊥) → Bare p
bare_of f = record { lists = λ body i s t. f (ref_below_list s t); attributes = λ c body i s t. f (ref_below_attribute s t) }

-- ---- starts

start_of : (p : Pattern) → (HasStartPath p → ⊥) → is_start p ≡ true
start_of p f = go p (λ x s. s)
  where
    go : (q : Pattern) → ((x : Pattern) → Stands x q → Stands x p) → is_start q ≡ true
    go not_allowed up = refl
    go empty up = absurd (f (empty_in_start (up _ itself)))
    go any_text up = absurd (f (text_in_start (up _ itself)))
    go (typed type es) up = absurd (f (data_in_start (up _ itself)))
    go (literal type t) up = absurd (f (value_in_start (up _ itself)))
    go (listed q) up = absurd (f (list_in_start (up _ itself)))
    go (attribute c q) up = absurd (f (attribute_in_start (up _ itself)))
    go (ref i) up = refl
    go (one_or_more q) up = absurd (f (one_or_more_in_start (up _ itself)))
    go (choice q r) up = true_and _ _ (go q (λ x s. up x (in_first_choice s))) (go r (λ x s. up x (in_second_choice s)))
    go (group q r) up = absurd (f (group_in_start (up _ itself)))
    go (interleave q r) up = absurd (f (interleave_in_start (up _ itself)))

-- ---- what is reached

pub all_at : (P : Definition → Type 0) (g : List Definition) (i : ℕ) (d : Definition) → AllByRecursion P g → slice_get g i ≡ Some d → P d
all_at P [] i d h e = cc
all_at P (x ∷ g) zero d h e = let same : x ≡ d = cc in subst P same h.0
all_at P (x ∷ g) (suc i) d h e = all_at P g i d h.1 e

is_reached : {start : Pattern} {g : List Definition} {i : ℕ} → Reaches start g i → (d : Definition) → slice_get g i ≡ Some d → IsReached start g d
is_reached (reaches_first k) d e = from_start k e
is_reached (reaches_more {d = b} r h k) d e = from_content (is_reached r b h) k e

pub checked_is_fit : CheckedIsFit
checked_is_fit start g sound path overlap numbers kept = record {
  fit = record { there = kept.there; content = λ i d k e. fits_of (is_kept numbers) (sound_at i d e).content_is (bare_of (no_path i d k e)) (restricted_is_apart d.content (no_path i d k e) (no_overlap i d k e)).1 (kept.content_in i d k e) };
  start_fits = fits_of (is_kept numbers) sound.start_is (bare_of (λ h. path (inr (in_start h)))) (restricted_is_apart start (λ h. path (inr (in_start h))) (λ h. overlap (in_start h))).1 kept.start_in;
  apart = λ i d k e. (restricted_is_apart d.content (no_path i d k e) (no_overlap i d k e)).0;
  start_is = start_of start (λ h. path (inl h));
}
  where
    sound_at : (i : ℕ) (d : Definition) → slice_get g i ≡ Some d → IsSoundDefinition (length g) d
    sound_at i d e = all_at (IsSoundDefinition (length g)) g i d sound.definitions_are e

    no_path : (i : ℕ) (d : Definition) → is_kept numbers i ≡ true → slice_get g i ≡ Some d → HasPath d.content → ⊥
    no_path i d k e h = path (inr (in_content (is_reached (kept.reached i k) d e) h))

    no_overlap : (i : ℕ) (d : Definition) → is_kept numbers i ≡ true → slice_get g i ≡ Some d → HasAttributeOverlap d.content → ⊥
    no_overlap i d k e h = overlap (in_content (is_reached (kept.reached i k) d e) h)
