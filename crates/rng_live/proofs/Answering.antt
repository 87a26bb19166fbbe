-- The numbers of what the start of a sound grammar reaches.
use Rattle.std.proofs.Common.{◌≡◌, ℕ, zero, suc, ◌<◌, List, [], ◌∷◌, Bool, true, false, Option, Some, None, refl, ap, subst, ◌∙◌, arith, length}
use Rattle.std.specs.Prelude.{slice_get, option_map, if◌then◌else◌}
use Rattle.std.proofs.lemmas.Option.{slice_get-map}
use Rattle.rng_core.specs.Patterns.{Pattern, Definition}
use Rattle.rng_core.specs.Soundness.{IsSoundPattern, sound_not_allowed, sound_empty, sound_text, sound_data, sound_value, sound_list, sound_attribute, sound_ref, sound_one_or_more, sound_choice, sound_group, sound_interleave, IsSoundDefinition, IsSoundGrammar}
use Rattle.rng_residual.proofs.Nullable.{true_and}
use Rattle.rng_live.specs.Living.{lives_with}
use Rattle.rng_live.proofs.Fitting.{living}
use Rattle.rng_live.specs.Left.{prune, prune_definition, prune_all}
use Rattle.rng_live.proofs.Renumbered.{is_kept, AreKept}
use Rattle.rng_live.proofs.ReachRounds.{is_there, refs_there, reached_numbers}
use Rattle.rng_live.proofs.Exact.{marks_are_exact}
use Rattle.rng_live.proofs.Rounds.{rounds_derived, living_is_closed}
use Rattle.rng_live.proofs.Pruning.{Pruned, unpruned}
use Rattle.rng_live.proofs.Renaming.{pruned_keeps_trees}
use Rattle.rng_live.proofs.Parts.{prune_sound}
use Rattle.rng_live.proofs.Live.{pruned_is_live}
use Rattle.rng_live.proofs.Checked.{checked_is_fit, all_at}
use Rattle.rng_live.proofs.Reaching.{reached_are_kept}

there_low : (g : List Definition) (i : ℕ) → i < length g → is_there (slice_get g i) ≡ true
there_low [] i h = absurd (omega arith)
there_low (d ∷ g) zero h = refl
there_low (d ∷ g) (suc i) h = there_low g i (omega arith)

pub there_sound : {count : ℕ} (h : List Definition) → ((i : ℕ) → i < count → is_there (slice_get h i) ≡ true) → {p : Pattern} → IsSoundPattern count p → refs_there h p ≡ true
there_sound h f sound_not_allowed = refl
there_sound h f sound_empty = refl
there_sound h f sound_text = refl
there_sound h f (sound_data m l e) = refl
there_sound h f (sound_value m a c) = refl
there_sound h f (sound_list s) = there_sound h f s
there_sound h f (sound_attribute c s) = there_sound h f s
there_sound h f (sound_ref {i = i} l) = f i l
there_sound h f (sound_one_or_more s) = there_sound h f s
there_sound h f (sound_choice s r) = true_and _ _ (there_sound h f s) (there_sound h f r)
there_sound h f (sound_group s r) = true_and _ _ (there_sound h f s) (there_sound h f r)
there_sound h f (sound_interleave s r) = true_and _ _ (there_sound h f s) (there_sound h f r)

there_mapped : (f : Definition → Definition) (o : Option Definition) → is_there (option_map f o) ≡ is_there o
there_mapped f None = refl
there_mapped f (Some d) = refl

pub kept_of_sound : (start : Pattern) (g : List Definition) → IsSoundGrammar start g → AreKept start g (reached_numbers start g)
kept_of_sound start g sound =
    reached_are_kept start g (there_sound g (there_low g) sound.start_is)
    (λ i d e. there_sound g (there_low g) (all_at (IsSoundDefinition (length g)) g i d sound.definitions_are e).content_is)
