-- A pruned schema is live.
use Rattle.std.proofs.Common.{◌≡◌, ℕ, zero, suc, ◌<◌, List, [], ◌∷◌, Bool, true, false, Some, sym, subst, arith, length, true≢false}
use Rattle.std.specs.Prelude.{slice_get, ◌==◌, if◌then◌else◌}
use Rattle.nx_base.specs.Trees.{Attribute, Children}
use Rattle.rng_core.specs.Patterns.{Pattern, Definition, not_allowed, empty, any_text, typed, literal, listed, attribute, ref, one_or_more, choice, group, interleave}
use Rattle.rng_core.specs.Matching.{Matches, by_element}
use Rattle.rng_core.specs.Patterns.{Language}
use Rattle.rng_kept.specs.Live.{IsStart, one_ref, a_choice}
use Rattle.rng_kept.specs.Clean.{Clean, clean_ref, clean_choice}
use Rattle.rng_residual.proofs.SmallPatterns.{and_true}
use Rattle.rng_kept.specs.Apart.{IsApart}
use Rattle.rng_kept.specs.Live.{AreLive, IsLive}
use Rattle.rng_live.specs.Dead.{IsOfUtf8, StringsAre, no_strings, one_string, one_element}
use Rattle.rng_live.proofs.Fitting.{Fits, AllFit, AreDerived, AreClosed}
use Rattle.rng_live.specs.Conditions.{is_marked}
use Rattle.rng_live.specs.Living.{lives_with}
use Rattle.rng_live.specs.Left.{refs_are}
use Rattle.rng_live.specs.Left.{prune, prune_all}
use Rattle.rng_live.specs.Pruned.{Reaches, reaches_first, reaches_more}
use Rattle.rng_live.proofs.Renumbered.{renamed, is_kept, place, renumbered, AreKept}
use Rattle.rng_live.proofs.Spreading.{ref_passes}
use Rattle.rng_live.proofs.Claims.{AreApart, is_start, PrunedIsLive}
use Rattle.rng_live.proofs.Texts.{strings_weakly, nothing_of_utf8}
use Rattle.rng_live.proofs.Exact.{lives_in, strings_utf8}
use Rattle.rng_live.proofs.Pruning.{Pruned, unpruned}
use Rattle.rng_live.proofs.Renaming.{there, kept_at, old}
use Rattle.rng_live.proofs.Written.{all_well}
use Rattle.rng_live.proofs.Parts.{sides_live, prune_apart, renamed_apart}
use Rattle.rng_live.proofs.Cleaned.{both, live_refs, pruned_clean, renamed_clean}

place_low : (numbers : List ℕ) (i : ℕ) → place numbers i < suc (length numbers)
place_low [] i = omega arith
place_low (j ∷ js) i = go (j == i) (place_low js i)
  where
    go : (b : Bool) → place js i < suc (length js) → (if b then zero else suc (place js i)) < suc (length (j ∷ js))
    go true h = omega arith
    go false h = omega arith

-- ---- starts

start_pruned : (marks : List Bool) (p : Pattern) → is_start p ≡ true → lives_with marks p ≡ true → IsStart (prune marks p)
start_pruned marks (ref i) s h = one_ref
start_pruned marks (choice p q) s h =
    let d = and_true (is_start p) (is_start q) s in
    sides_live (λ x. IsStart x) (λ x y a b. a_choice a b) (lives_with marks p) (lives_with marks q) (prune marks p) (prune marks q) h
    (λ i. start_pruned marks p d.0 i) (λ i. start_pruned marks q d.1 i)
start_pruned marks not_allowed s h = absurd (true≢false (sym h))
start_pruned marks empty s h = absurd (true≢false (sym s))
start_pruned marks any_text s h = absurd (true≢false (sym s))
start_pruned marks (typed type es) s h = absurd (true≢false (sym s))
start_pruned marks (literal type t) s h = absurd (true≢false (sym s))
start_pruned marks (listed p) s h = absurd (true≢false (sym s))
start_pruned marks (attribute c p) s h = absurd (true≢false (sym s))
start_pruned marks (one_or_more p) s h = absurd (true≢false (sym s))
start_pruned marks (group p q) s h = absurd (true≢false (sym s))
start_pruned marks (interleave p q) s h = absurd (true≢false (sym s))

start_renamed : (r : ℕ → ℕ) {p : Pattern} → IsStart p → IsStart (renamed r p)
start_renamed r one_ref = one_ref
start_renamed r (a_choice s q) = a_choice (start_renamed r s) (start_renamed r q)

without_attributes : {g : List Definition} {b : Bool} {p : Pattern} → IsStart p → Clean g true b p → Clean g false b p
without_attributes one_ref (clean_ref n a k c w m) = clean_ref n a k c w m
without_attributes (a_choice s q) (clean_choice c d) = clean_choice (without_attributes s c) (without_attributes q d)

-- ---- definitions that are kept live

module _ {g : List Definition} {named : ℕ → Bool} (fit : AllFit named g) (marks : List Bool) (derived : AreDerived named g marks) (are : AreClosed g marks) where
  content_lives_by : {i : ℕ} (b : Definition) {a : List Attribute} {c : Children} → named i ≡ true → slice_get g i ≡ Some b → StringsAre IsOfUtf8 c → Matches g (ref i) a c → lives_with marks b.content ≡ true
  content_lives_by {i = i} b n e (one_element v k s) (by_element {d = d} h c y m) =
      let same : d ≡ b = cc in
      subst (λ (x : Definition). lives_with marks x.content ≡ true) same (lives_in fit marks are (fit.content i d n h) v (strings_weakly nothing_of_utf8 y k) m)
  content_lives_by b n e no_strings m = elim m [ ]
  content_lives_by b n e (one_string t s) m = elim m [ ]

  content_lives : (i : ℕ) (b : Definition) → named i ≡ true → is_marked marks i ≡ true → slice_get g i ≡ Some b → lives_with marks b.content ≡ true
  content_lives i b n h e = let w = derived.derived i n h in content_lives_by b n e (strings_utf8 w.strings_are) w.matched

  pub reached_lives : {start : Pattern} {i : ℕ} → Fits named start → lives_with marks start ≡ true → Reaches (prune marks start) (prune_all marks g) i → both named marks i ≡ true
  unfolding both
  reached_lives {start = start} {i = i} f h (reaches_first e) = ref_passes (both named marks) i (prune marks start) (live_refs named marks f h) e
  reached_lives {i = i} f h (reaches_more {j = j} {d = d} r e k) = go (unpruned marks g j d e) (reached_lives f h r)
    where
      go : Pruned marks g j d → both named marks j ≡ true → both named marks i ≡ true
      go w t =
          let n = and_true (named j) (is_marked marks j) t in
          ref_passes (both named marks) i d.content
          (subst (λ (x : Definition). refs_are (both named marks) x.content ≡ true) w.pruned (live_refs named marks (fit.content j w.before n.0 w.is) (content_lives j w.before n.0 n.1 w.is)))
          k

pub split_both : (named : ℕ → Bool) (marks : List Bool) (i : ℕ) → both named marks i ≡ true → (named i ≡ true) × (is_marked marks i ≡ true)
unfolding both
split_both named marks i h = and_true (named i) (is_marked marks i) h

record NewLives (h : List Definition) (d : Definition) : Type 0 where
  clean : Clean h true true d.content
  apart : IsApart d.content

module _ (named : ℕ → Bool) (start : Pattern) (g : List Definition) (fit : AllFit named g) (f : Fits named start) (apart : AreApart named g)
    (marks : List Bool) (derived : AreDerived named g marks) (are : AreClosed g marks) (lives : lives_with marks start ≡ true) (numbers : List ℕ) (kept : AreKept (prune marks start) (prune_all marks g) numbers) where
  new_lives : (j : ℕ) (d : Definition) → slice_get (renumbered numbers (prune_all marks g)) j ≡ Some d → NewLives (renumbered numbers (prune_all marks g)) d
  new_lives j d e =
      let o = old kept j d e in
      let k = kept_at numbers j o.number o.at in
      let t = split_both named marks o.number (reached_lives fit marks derived are f lives (kept.reached o.number k)) in
      let w = unpruned marks g o.number o.before o.is in
      let c = pruned_clean fit marks are (all_well named g fit apart marks derived) (fit.content o.number w.before t.0 w.is) (content_lives fit marks derived are o.number w.before t.0 t.1 w.is) in
      let b = subst (λ (x : Definition). Clean (prune_all marks g) true true x.content) w.pruned c in
      let n = renamed_clean (place numbers) (is_kept numbers) (there kept) (place_low numbers) (kept.content_in o.number o.before k o.is) b in
      let a = subst (λ (x : Definition). IsApart x.content) w.pruned (prune_apart marks (apart o.number w.before t.0 w.is)) in
      record {
        clean = subst (λ (x : Definition). Clean (renumbered numbers (prune_all marks g)) true true x.content) o.same n;
        apart = subst (λ (x : Definition). IsApart x.content) o.same (renamed_apart (place numbers) a);
      }

  are_live : AreLive (renumbered numbers (prune_all marks g))
  are_live = record { clean = λ j d e. (new_lives j d e).clean; apart = λ j d e. (new_lives j d e).apart }

  start_clean : Clean (renumbered numbers (prune_all marks g)) true true (renamed (place numbers) (prune marks start))
  start_clean =
      renamed_clean (place numbers) (is_kept numbers) (there kept) (place_low numbers) kept.start_in
      (pruned_clean fit marks are (all_well named g fit apart marks derived) f lives)

  live : is_start start ≡ true → IsLive (record { start = renamed (place numbers) (prune marks start); definitions = renumbered numbers (prune_all marks g) })
  live s =
      let i = start_renamed (place numbers) (start_pruned marks start s lives) in
      record { start = record { start = i; clean = without_attributes i start_clean }; definitions = are_live }

language_is : (new : Language) (start : Pattern) (g : List Definition) → new.start ≡ start → new.definitions ≡ g → IsLive (record { start = start; definitions = g }) → IsLive new
language_is new start g e f h = let a = subst (λ (x : Pattern). IsLive (record { start = x; definitions = g })) (sym e) h in subst (λ (x : List Definition). IsLive (record { start = new.start; definitions = x })) (sym f) a

pub pruned_is_live : PrunedIsLive
pruned_is_live named old new fit f apart s marks derived are lives is =
    language_is new (renamed (place is.numbers) (prune marks old.start)) (renumbered is.numbers (prune_all marks old.definitions)) is.start_is is.definitions_are
    (live named old.start old.definitions fit f apart marks derived are lives is.numbers is.kept s)
