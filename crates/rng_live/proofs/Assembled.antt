-- What is left of a grammar by the marks is its pruned one.
use Rattle.std.proofs.Common.{◌≡◌, ℕ, zero, suc, ◌<◌, ◌≤◌, ◌^◌, List, [], ◌∷◌, length, map, Bool, true, false, ◌&&◌, ◌||◌, ◌==◌, Option, Some, None, refl, sym, ap, subst, ◌∙◌, arith, inl, inr, true≢false}
use Rattle.std.specs.Prelude.{slice_get, option_map, nat_lt}
use Rattle.std.specs.Prelude.{IsTrue}
use Rattle.std.specs.List.{AllByRecursion, list_all}
use Rattle.std.specs.Str.{is_utf8}
use Rattle.rng_types.specs.Answers.{is_accepted}
use Rattle.rng_types.specs.WellMade.{is_sound_except}
use Rattle.rng_types.specs.declared.datatype.Datatype.{Datatype}
use Rattle.rng_types.proofs.Deciding.{accepts_decided}
use Rattle.rng_types.specs.declared.datatype.Except.{Except}
use Rattle.rng_types.specs.declared.datatype.Except.TheVariants.{Own, BuiltinString, BuiltinToken}
use Rattle.std.proofs.lemmas.Bool.{lt-ltb, ltb-true}
use Rattle.std.proofs.lemmas.List.{length-map}
use Rattle.std.proofs.lemmas.Option.{slice_get-map, slice_get_within, slice_get-get_or, slice_get_past}
use Rattle.rng_core.specs.Patterns.{Pattern, Definition, Language, not_allowed, empty, any_text, typed, literal, listed, attribute, ref, one_or_more, choice, group, interleave}
use Rattle.rng_core.specs.Names.{Class}
use Rattle.rng_core.specs.Soundness.{IsSoundExcept, IsSoundClass, IsSoundPattern, sound_not_allowed, sound_empty, sound_text, sound_data, sound_value, sound_list, sound_attribute, sound_ref, sound_one_or_more, sound_choice, sound_group, sound_interleave, IsSoundDefinition, IsSoundGrammar}
use Rattle.rng_restrict.specs.Standing.{Stands, itself, in_list, in_attribute, in_one_or_more, in_first_choice, in_second_choice, in_first_of_group, in_second_of_group, in_first_of_interleave, in_second_of_interleave}
use Rattle.rng_restrict.specs.Finding.{is_among, with_references}
use Rattle.rng_restrict.specs.Paths.{BreaksPath}
use Rattle.rng_restrict.specs.Attributes.{BreaksAttributeOverlap}
use Rattle.rng_residual.proofs.SmallPatterns.{and_true}
use Rattle.rng_residual.proofs.Nullable.{true_and}
use Rattle.rng_kept.specs.Live.{IsLive}
use Rattle.rng_live.specs.declared.condition.Condition.{Condition}
use Rattle.rng_live.specs.Dead.{Lives, IsDead}
use Rattle.rng_live.specs.Conditions.{is_marked, AreHeld}
use Rattle.rng_live.specs.Living.{lives_with, HasSoundLeaves, HaveSoundLeaves}
use Rattle.rng_live.specs.Spelling.{AreSpelled, IsSpelled}
use Rattle.rng_live.specs.Pruned.{PrunesBy, prunes_not_allowed, prunes_empty, prunes_text, prunes_data, prunes_value, prunes_list, prunes_attribute, prunes_ref, prunes_one_or_more, prunes_neither, prunes_second, prunes_first, prunes_group, prunes_interleave, Prunes, PrunesDefinitionBy, PrunesDefinition, Reaches, reaches_first, reaches_more, AreOnce, IsPruned, MatchSame}
use Rattle.rng_live.specs.Left.{refs_are, sides, prune, prune_definition, prune_all, LeavesTo}
use Rattle.rng_live.specs.Leaving.{Spread, AreNumbered, AreLeft, LeavesAll}
use Rattle.rng_live.proofs.Fitting.{Fits, fits_not_allowed, fits_empty, fits_text, fits_data, fits_value, fits_list, fits_attribute, fits_ref, fits_one_or_more, fits_choice, fits_group, fits_interleave, AllFit, AreDerived, AreClosed}
use Rattle.rng_live.proofs.Renumbered.{renamed, renamed_definition, is_kept, place, definition_at, renumbered, AreKept, IsPrunedBy}
use Rattle.rng_live.proofs.ReachRounds.{reached_numbers}
use Rattle.rng_live.proofs.Claims.{IsFit}
use Rattle.rng_live.proofs.Exact.{marks_are_exact, lives_out}
use Rattle.rng_live.proofs.Pruning.{Pruned, unpruned, is_pruned}
use Rattle.rng_live.proofs.Renaming.{place_is, kept_at, pruned_keeps_trees}
use Rattle.rng_live.proofs.Parts.{prune_sound}
use Rattle.rng_live.proofs.Live.{reached_lives, split_both, pruned_is_live}
use Rattle.rng_live.proofs.Checked.{checked_is_fit, all_at}
use Rattle.rng_live.proofs.Answering.{kept_of_sound}
use Rattle.rng_live.proofs.Spreading.{ref_passes, among_at, place_of, spread_first}
use Rattle.rng_live.proofs.Lefts.{mark_lives, prunes_still}
use Rattle.rng_live.proofs.Spelled.{spelled_grown}
use Rattle.rng_live.proofs.Leavings.{prune_refs}
use Rattle.rng_live.proofs.Derived.{marks_derived, marks_closed}

-- ---- two words for one thing

kept_among : (numbers : List ℕ) (i : ℕ) → is_kept numbers i ≡ is_among i numbers
kept_among [] i = refl
kept_among (j ∷ js) i = ap (λ (v : Bool). (j == i) || v) (kept_among js i)

refs_alike : (f h : ℕ → Bool) → ((i : ℕ) → f i ≡ h i) → (p : Pattern) → refs_are f p ≡ refs_are h p
refs_alike f h same not_allowed = refl
refs_alike f h same empty = refl
refs_alike f h same any_text = refl
refs_alike f h same (typed type es) = refl
refs_alike f h same (literal type t) = refl
refs_alike f h same (ref i) = same i
refs_alike f h same (listed p) = refs_alike f h same p
refs_alike f h same (attribute c p) = refs_alike f h same p
refs_alike f h same (one_or_more p) = refs_alike f h same p
refs_alike f h same (choice p q) = let x = refs_alike f h same p in let y = refs_alike f h same q in cc
refs_alike f h same (group p q) = let x = refs_alike f h same p in let y = refs_alike f h same q in cc
refs_alike f h same (interleave p q) = let x = refs_alike f h same p in let y = refs_alike f h same q in cc

-- references of sound patterns
pub refs_low : {count : ℕ} {p : Pattern} → IsSoundPattern count p → refs_are (λ j. nat_lt j count) p ≡ true
refs_low sound_not_allowed = refl
refs_low sound_empty = refl
refs_low sound_text = refl
refs_low (sound_data m l e) = refl
refs_low (sound_value m a c) = refl
refs_low (sound_list s) = refs_low s
refs_low (sound_attribute c s) = refs_low s
refs_low {count = count} (sound_ref {i = i} l) = lt-ltb i count l
refs_low (sound_one_or_more s) = refs_low s
refs_low (sound_choice s t) = true_and _ _ (refs_low s) (refs_low t)
refs_low (sound_group s t) = true_and _ _ (refs_low s) (refs_low t)
refs_low (sound_interleave s t) = true_and _ _ (refs_low s) (refs_low t)

pub sound_numbered : {start : Pattern} {g : List Definition} → IsSoundGrammar start g → AreNumbered (length g) g
sound_numbered {g = g} sound i d there = refs_low (all_at (IsSoundDefinition (length g)) g i d sound.definitions_are there).content_is

-- ---- lists that agree at each place

same_lists : (xs ys : List Definition) → length xs ≡ length ys → ((k : ℕ) (e : Definition) → slice_get xs k ≡ Some e → slice_get ys k ≡ Some e) → xs ≡ ys
same_lists [] [] n f = refl
same_lists [] (y ∷ ys) n f = absurd (omega arith)
same_lists (x ∷ xs) [] n f = absurd (omega arith)
same_lists (x ∷ xs) (y ∷ ys) n f =
    let e : Some y ≡ Some x = f 0 x refl in
    let same : x ≡ y = cc in
    let rest = same_lists xs ys (omega arith) (λ k z there. f (suc k) z there) in
    cc

-- ---- by places

place_at : (numbers : List ℕ) → AreOnce numbers → (k i : ℕ) → slice_get numbers k ≡ Some i → place numbers i ≡ k
place_at numbers o k i e = o.once (place numbers i) k i (place_is numbers i (kept_at numbers k i e)) e

module _ (marks : List Bool) {numbers : List ℕ} (o : AreOnce numbers) where
  sides_is : (p q : Pattern) (u v : Bool) → lives_with marks p ≡ u → lives_with marks q ≡ v → sides u v (prune marks p) (prune marks q) ≡ prune marks (choice p q)
  sides_is p q u v d e = sym (ap (λ (z : Bool). sides z (lives_with marks q) (prune marks p) (prune marks q)) d ∙ ap (λ (z : Bool). sides u z (prune marks p) (prune marks q)) e)

  -- what is left by marks is what the functions give
  renamed_is : {p r : Pattern} → PrunesBy (λ q. lives_with marks q ≡ true) (λ q. lives_with marks q ≡ false) numbers p r → r ≡ renamed (place numbers) (prune marks p)
  renamed_is prunes_not_allowed = refl
  renamed_is prunes_empty = refl
  renamed_is prunes_text = refl
  renamed_is prunes_data = refl
  renamed_is prunes_value = refl
  renamed_is (prunes_list h) = ap listed (renamed_is h)
  renamed_is (prunes_attribute {class = c} h) = ap (attribute c) (renamed_is h)
  renamed_is (prunes_ref {i = i} {k = k} e) = ap ref (sym (place_at numbers o k i e))
  renamed_is (prunes_one_or_more h) = ap one_or_more (renamed_is h)
  renamed_is (prunes_neither {p = p} {q = q} {r = r} {s = s} a b h i) =
      let x = renamed_is h in let y = renamed_is i in
      let whole : choice r s ≡ renamed (place numbers) (choice (prune marks p) (prune marks q)) = cc in
      whole ∙ ap (renamed (place numbers)) (sides_is p q true true a b)
  renamed_is (prunes_second {p = p} {q = q} a b h) = renamed_is h ∙ ap (renamed (place numbers)) (sides_is p q true false a b)
  renamed_is (prunes_first {p = p} {q = q} a h) = renamed_is h ∙ ap (renamed (place numbers)) (sides_is p q false (lives_with marks q) a refl)
  renamed_is (prunes_group h i) = let x = renamed_is h in let y = renamed_is i in cc
  renamed_is (prunes_interleave h i) = let x = renamed_is h in let y = renamed_is i in cc

-- ---- by what is dead

module _ {g : List Definition} {named : ℕ → Bool} (fit : AllFit named g) (marks : List Bool) (derived : AreDerived named g marks) (are : AreClosed g marks) where
  by_deadness : {numbers : List ℕ} {p r : Pattern} → Fits named p → PrunesBy (λ q. lives_with marks q ≡ true) (λ q. lives_with marks q ≡ false) numbers p r → Prunes g numbers p r
  by_deadness f prunes_not_allowed = prunes_not_allowed
  by_deadness f prunes_empty = prunes_empty
  by_deadness f prunes_text = prunes_text
  by_deadness f prunes_data = prunes_data
  by_deadness f prunes_value = prunes_value
  by_deadness (fits_list s l z f) (prunes_list h) = prunes_list (by_deadness f h)
  by_deadness (fits_attribute l z f) (prunes_attribute h) = prunes_attribute (by_deadness f h)
  by_deadness f (prunes_ref e) = prunes_ref e
  by_deadness (fits_one_or_more f) (prunes_one_or_more h) = prunes_one_or_more (by_deadness f h)
  by_deadness (fits_choice f e) (prunes_neither a b h i) = prunes_neither (lives_out marks derived f a) (lives_out marks derived e b) (by_deadness f h) (by_deadness e i)
  by_deadness (fits_choice {p = p} {q = q} f e) (prunes_second a b h) = prunes_second (lives_out marks derived f a) ((marks_are_exact named g fit marks derived are q e).1 b) (by_deadness f h)
  by_deadness (fits_choice {p = p} {q = q} f e) (prunes_first a h) = prunes_first ((marks_are_exact named g fit marks derived are p f).1 a) (by_deadness e h)
  by_deadness (fits_group f e) (prunes_group h i) = prunes_group (by_deadness f h) (by_deadness e i)
  by_deadness (fits_interleave f e) (prunes_interleave h i) = prunes_interleave (by_deadness f h) (by_deadness e i)

-- ---- the start reaches the new definitions

stands_renamed : (r : ℕ → ℕ) {i : ℕ} {p : Pattern} → Stands (ref i) p → Stands (ref (r i)) (renamed r p)
stands_renamed r itself = itself
stands_renamed r (in_list s) = in_list (stands_renamed r s)
stands_renamed r (in_attribute s) = in_attribute (stands_renamed r s)
stands_renamed r (in_one_or_more s) = in_one_or_more (stands_renamed r s)
stands_renamed r (in_first_choice s) = in_first_choice (stands_renamed r s)
stands_renamed r (in_second_choice s) = in_second_choice (stands_renamed r s)
stands_renamed r (in_first_of_group s) = in_first_of_group (stands_renamed r s)
stands_renamed r (in_second_of_group s) = in_second_of_group (stands_renamed r s)
stands_renamed r (in_first_of_interleave s) = in_first_of_interleave (stands_renamed r s)
stands_renamed r (in_second_of_interleave s) = in_second_of_interleave (stands_renamed r s)

module _ {start : Pattern} {g : List Definition} {numbers : List ℕ} (kept : AreKept start g numbers) where
  reached_kept : {i : ℕ} → Reaches start g i → is_kept numbers i ≡ true
  reached_kept {i = i} (reaches_first s) = ref_passes (is_kept numbers) i start kept.start_in s
  reached_kept {i = i} (reaches_more {j = j} {d = d} r there s) = ref_passes (is_kept numbers) i d.content (kept.content_in j d (reached_kept r) there) s

  reached_renamed : {i : ℕ} → Reaches start g i → Reaches (renamed (place numbers) start) (renumbered numbers g) (place numbers i)
  reached_renamed (reaches_first s) = reaches_first (stands_renamed (place numbers) s)
  reached_renamed (reaches_more {j = j} {d = d} r there s) = reaches_more (reached_renamed r) (new_at j d (reached_kept r) there) (stands_renamed (place numbers) s)
    where
      new_at : (j : ℕ) (d : Definition) → is_kept numbers j ≡ true → slice_get g j ≡ Some d → slice_get (renumbered numbers g) (place numbers j) ≡ Some (renamed_definition (place numbers) d)
      new_at j d k e =
          slice_get-map (λ (x : ℕ). renamed_definition (place numbers) (definition_at (slice_get g x))) numbers (place numbers j)
          ∙ ap (option_map (λ (x : ℕ). renamed_definition (place numbers) (definition_at (slice_get g x)))) (place_is numbers j k)
          ∙ ap (λ (o : Option Definition). Some (renamed_definition (place numbers) (definition_at o))) e

-- ---- soundness under new numbers

place_below : (numbers : List ℕ) (i : ℕ) → is_kept numbers i ≡ true → place numbers i < length numbers
place_below numbers i h = slice_get_within numbers (place numbers i) i (place_is numbers i h)

sound_renamed : {count bound : ℕ} (r : ℕ → ℕ) (test : ℕ → Bool) → ((i : ℕ) → test i ≡ true → r i < bound) → {p : Pattern} → refs_are test p ≡ true → IsSoundPattern count p → IsSoundPattern bound (renamed r p)
sound_renamed r test w f sound_not_allowed = sound_not_allowed
sound_renamed r test w f sound_empty = sound_empty
sound_renamed r test w f sound_text = sound_text
sound_renamed r test w f (sound_data m l e) = sound_data m l e
sound_renamed r test w f (sound_value m a c) = sound_value m a c
sound_renamed r test w f (sound_list s) = sound_list (sound_renamed r test w f s)
sound_renamed r test w f (sound_attribute c s) = sound_attribute c (sound_renamed r test w f s)
sound_renamed r test w f (sound_ref {i = i} l) = sound_ref (w i f)
sound_renamed r test w f (sound_one_or_more s) = sound_one_or_more (sound_renamed r test w f s)
sound_renamed r test w f (sound_choice {p = p} {q = q} s t) = let d = and_true (refs_are test p) (refs_are test q) f in sound_choice (sound_renamed r test w d.0 s) (sound_renamed r test w d.1 t)
sound_renamed r test w f (sound_group {p = p} {q = q} s t) = let d = and_true (refs_are test p) (refs_are test q) f in sound_group (sound_renamed r test w d.0 s) (sound_renamed r test w d.1 t)
sound_renamed r test w f (sound_interleave {p = p} {q = q} s t) = let d = and_true (refs_are test p) (refs_are test q) f in sound_interleave (sound_renamed r test w d.0 s) (sound_renamed r test w d.1 t)

all_of : (P : Definition → Type 0) (g : List Definition) → ((k : ℕ) (d : Definition) → slice_get g k ≡ Some d → P d) → AllByRecursion P g
all_of P [] f = tt
all_of P (d ∷ g) f = (f 0 d refl, all_of P g (λ k e there. f (suc k) e there))

-- ---- all together

-- what pruning finds
pub record Left (old new : Language) (conditions : List Condition) (marks : List Bool) (numbers : List ℕ) : Type 0 where
  pub spelled : AreSpelled old.definitions conditions
  pub held : AreHeld conditions marks
  pub lives : lives_with marks old.start ≡ true
  pub start : PrunesBy (λ q. lives_with marks q ≡ true) (λ q. lives_with marks q ≡ false) numbers old.start new.start
  pub definitions : AreLeft marks old.start old.definitions numbers new.definitions
  pub as_many : length new.definitions ≡ length numbers
  pub few : length numbers ≤ length old.definitions

-- what it answers
pub record IsAnswer (old new : Language) : Type 0 where
  pub pruned : IsPruned old new
  pub live : IsLive new
  pub trees : MatchSame old new
  pub sound : IsSoundGrammar new.start new.definitions

at_number : (xs : List ℕ) (k : ℕ) → k < length xs → (i : ℕ) × (slice_get xs k ≡ Some i)
at_number [] k h = absurd (omega arith)
at_number (x ∷ xs) zero h = (x, refl)
at_number (x ∷ xs) (suc k) h = at_number xs k (omega arith)

definition_of_number : (g : List Definition) (i : ℕ) → i < length g → (d : Definition) × (slice_get g i ≡ Some d)
definition_of_number [] i h = absurd (omega arith)
definition_of_number (d ∷ g) zero h = (d, refl)
definition_of_number (d ∷ g) (suc i) h = definition_of_number g i (omega arith)

same_definition : (e : Definition) (c : Class) (p : Pattern) → e.class ≡ c → e.content ≡ p → record { class = c; content = p } ≡ e
same_definition e c p d f = ap (λ (x : Class). record { class = x; content = p }) (sym d) ∙ ap (λ (x : Pattern). record { class = e.class; content = x }) (sym f)

module _ {old new : Language} {conditions : List Condition} {marks : List Bool} {numbers : List ℕ} (sound : IsSoundGrammar old.start old.definitions) (fits : (numbers : List ℕ) → AreKept old.start old.definitions numbers → IsFit (is_kept numbers) old.start old.definitions)
    (l : Left old new conditions marks numbers) where
  fit : IsFit (is_kept (reached_numbers old.start old.definitions)) old.start old.definitions
  fit = fits (reached_numbers old.start old.definitions) (kept_of_sound old.start old.definitions sound)

  derived : AreDerived (is_kept (reached_numbers old.start old.definitions)) old.definitions marks
  derived = marks_derived (is_kept (reached_numbers old.start old.definitions)) l.spelled l.held (sound_numbered sound) fit.fit

  closed : AreClosed old.definitions marks
  closed = marks_closed l.spelled l.held

  number_there : (k : ℕ) (e : Definition) → slice_get new.definitions k ≡ Some e → (i : ℕ) × (slice_get numbers k ≡ Some i)
  number_there k e there = at_number numbers k (let inside = slice_get_within new.definitions k e there in let n = l.as_many in omega arith)

  kept : AreKept (prune marks old.start) (prune_all marks old.definitions) numbers
  kept = record {
    there = λ i h. definition_of_number (prune_all marks old.definitions) i (l.definitions.spread.within i (sym (kept_among numbers i) ∙ h));
    start_in = refs_alike (is_kept numbers) (λ i. is_among i numbers) (kept_among numbers) (prune marks old.start) ∙ l.definitions.spread.begun;
    content_in = λ i d h there.
        let w = place_of numbers i (sym (kept_among numbers i) ∙ h) in
        let low = slice_get_within numbers w.place i w.is in
        let m = l.as_many in
        refs_alike (is_kept numbers) (λ j. is_among j numbers) (kept_among numbers) d.content ∙ l.definitions.spread.followed w.place i d (omega arith) w.is there;
    reached = λ i h. l.definitions.spread.only i (sym (kept_among numbers i) ∙ h);
  }

  new_definition_is : (k : ℕ) (e : Definition) → slice_get new.definitions k ≡ Some e → slice_get (renumbered numbers (prune_all marks old.definitions)) k ≡ Some e
  new_definition_is k e there =
      let n = number_there k e there in
      let p = l.definitions.left k n.0 e n.1 there in
      let content : e.content ≡ renamed (place numbers) (prune marks p.definition.content) = renamed_is marks l.definitions.spread.once p.content in
      let same : record { class = p.definition.class; content = renamed (place numbers) (prune marks p.definition.content) } ≡ e = same_definition e p.definition.class (renamed (place numbers) (prune marks p.definition.content)) p.same_class content in
      slice_get-map (λ (x : ℕ). renamed_definition (place numbers) (definition_at (slice_get (prune_all marks old.definitions) x))) numbers k
      ∙ ap (option_map (λ (x : ℕ). renamed_definition (place numbers) (definition_at (slice_get (prune_all marks old.definitions) x)))) n.1
      ∙ ap (λ (o : Option Definition). Some (renamed_definition (place numbers) (definition_at o))) (is_pruned marks old.definitions n.0 p.definition p.is)
      ∙ ap (λ (x : Definition). Some x) same

  definitions_is : new.definitions ≡ renumbered numbers (prune_all marks old.definitions)
  definitions_is = same_lists new.definitions (renumbered numbers (prune_all marks old.definitions))
      (l.as_many ∙ sym (length-map numbers (λ (x : ℕ). renamed_definition (place numbers) (definition_at (slice_get (prune_all marks old.definitions) x))))) new_definition_is

  start_is : new.start ≡ renamed (place numbers) (prune marks old.start)
  start_is = renamed_is marks l.definitions.spread.once l.start

  by_marks : IsPrunedBy marks old new
  by_marks = record { numbers = numbers; kept = kept; start_is = start_is; definitions_are = definitions_is }

  -- what is kept was reached before, and lives
  kept_named : (i : ℕ) → is_among i numbers ≡ true → is_kept (reached_numbers old.start old.definitions) i ≡ true
  kept_named i h = (split_both (is_kept (reached_numbers old.start old.definitions)) marks i (reached_lives fit.fit marks derived closed fit.start_fits l.lives (l.definitions.spread.only i h))).0

  definition_pruned : (k i : ℕ) (e : Definition) → slice_get numbers k ≡ Some i → slice_get new.definitions k ≡ Some e → PrunesDefinition old.definitions numbers i e
  definition_pruned k i e n there =
      let p = l.definitions.left k i e n there in
      record {
        definition = p.definition;
        is = p.is;
        same_class = p.same_class;
        content = by_deadness fit.fit marks derived closed (fit.fit.content i p.definition (kept_named i (among_at numbers k i n)) p.is) p.content;
      }

  new_reached : (k : ℕ) (e : Definition) → slice_get new.definitions k ≡ Some e → Reaches new.start new.definitions k
  new_reached k e there =
      let n = number_there k e there in
      let r = reached_renamed kept (l.definitions.spread.only n.0 (among_at numbers k n.0 n.1)) in
      let s = subst (λ (v : ℕ). Reaches (renamed (place numbers) (prune marks old.start)) (renumbered numbers (prune_all marks old.definitions)) v) (place_at numbers l.definitions.spread.once k n.0 n.1) r in
      let t = subst (λ (v : Pattern). Reaches v (renumbered numbers (prune_all marks old.definitions)) k) (sym start_is) s in
      subst (λ (v : List Definition). Reaches new.start v k) (sym definitions_is) t

  new_is_pruned : IsPruned old new
  new_is_pruned = record {
    lives = lives_out marks derived fit.start_fits l.lives;
    numbers = numbers;
    once = l.definitions.spread.once;
    start = by_deadness fit.fit marks derived closed fit.start_fits l.start;
    as_many = l.as_many;
    definitions = definition_pruned;
    reached = new_reached;
  }

  new_is_live : IsLive new
  new_is_live = pruned_is_live (is_kept (reached_numbers old.start old.definitions)) old new fit.fit fit.start_fits fit.apart fit.start_is marks derived closed l.lives by_marks

  start_sound : IsSoundPattern (length new.definitions) new.start
  start_sound =
      let s = sound_renamed (place numbers) (is_kept numbers) (place_below numbers) kept.start_in (prune_sound marks sound.start_is) in
      subst (λ (v : Pattern). IsSoundPattern (length new.definitions) v) (sym start_is) (subst (λ (n : ℕ). IsSoundPattern n (renamed (place numbers) (prune marks old.start))) (sym l.as_many) s)

  definition_sound : (k : ℕ) (e : Definition) → slice_get new.definitions k ≡ Some e → IsSoundDefinition (length new.definitions) e
  definition_sound k e there =
      let n = number_there k e there in
      let p = l.definitions.left k n.0 e n.1 there in
      let d = all_at (IsSoundDefinition (length old.definitions)) old.definitions n.0 p.definition sound.definitions_are p.is in
      let refs = kept.content_in n.0 (prune_definition marks p.definition) (kept_at numbers k n.0 n.1) (is_pruned marks old.definitions n.0 p.definition p.is) in
      let c = sound_renamed (place numbers) (is_kept numbers) (place_below numbers) refs (prune_sound marks d.content_is) in
      record {
        class_is = subst (λ (v : Class). IsSoundClass v) (sym p.same_class) d.class_is;
        content_is = subst (λ (v : Pattern). IsSoundPattern (length new.definitions) v) (sym (renamed_is marks l.definitions.spread.once p.content))
            (subst (λ (m : ℕ). IsSoundPattern m (renamed (place numbers) (prune marks p.definition.content))) (sym l.as_many) c);
      }

  pub answer : IsAnswer old new
  answer = record {
    pruned = new_is_pruned;
    live = new_is_live;
    trees = pruned_keeps_trees (is_kept (reached_numbers old.start old.definitions)) old new fit.fit fit.start_fits marks closed by_marks;
    sound = record { few = let f = l.few in let m = l.as_many in let o = sound.few in omega arith; start_is = start_sound; definitions_are = all_of (IsSoundDefinition (length new.definitions)) new.definitions definition_sound };
  }

-- a start that the marks leave out is dead
pub start_is_dead : {old : Language} {conditions : List Condition} {marks : List Bool} → IsSoundGrammar old.start old.definitions → ((numbers : List ℕ) → AreKept old.start old.definitions numbers → IsFit (is_kept numbers) old.start old.definitions)
    → AreSpelled old.definitions conditions → AreHeld conditions marks → lives_with marks old.start ≡ false → IsDead old.definitions old.start
start_is_dead {old = old} {marks = marks} sound fits spelled held h =
    let fit = fits (reached_numbers old.start old.definitions) (kept_of_sound old.start old.definitions sound) in
    (marks_are_exact (is_kept (reached_numbers old.start old.definitions)) old.definitions fit.fit marks (marks_derived (is_kept (reached_numbers old.start old.definitions)) spelled held (sound_numbered sound) fit.fit) (marks_closed spelled held) old.start fit.start_fits).1 h

-- ---- what the code has

module _ (old : Language) (sound : IsSoundGrammar old.start old.definitions) (path : BreaksPath old.start old.definitions → ⊥) (overlap : BreaksAttributeOverlap old.start old.definitions → ⊥) {conditions0 conditions : List Condition} {root : ℕ} {marks : List Bool}
    (spelled : AreSpelled old.definitions conditions0) (start : IsSpelled conditions0 conditions root old.start) (held : AreHeld conditions marks) where
  pub found_dead : is_marked marks root ≡ false → IsDead old.definitions old.start
  found_dead h =
      start_is_dead {conditions = conditions} sound (λ numbers kept. checked_is_fit old.start old.definitions sound path overlap numbers kept) (spelled_grown start.more start.is spelled) held (sym (mark_lives held (start.spells 0 (omega arith))) ∙ h)

  pub found_answer : (new : Language) {numbers0 numbers1 numbers2 : List ℕ} {count : ℕ} → is_marked marks root ≡ true → count ≡ length old.definitions → numbers0 ≡ [] → LeavesTo conditions marks count root old.start numbers0 numbers1 new.start
      → LeavesAll conditions marks old.definitions numbers1 numbers2 new.definitions → length numbers2 ≤ length old.definitions → IsAnswer old new
  found_answer new {numbers0 = numbers0} {numbers1 = numbers1} {numbers2 = numbers2} {count = count} h many none one all few =
      let refs : refs_are (λ j. nat_lt j (length old.definitions)) old.start ≡ true = refs_low sound.start_is in
      let low = subst (λ (n : ℕ). refs_are (λ j. nat_lt j n) old.start ≡ true) (sym many) refs in
      let spells = start.spells 0 (omega arith) in
      let first = one.leaves 0 spells held low in
      let same : length (prune_all marks old.definitions) ≡ length old.definitions = length-map old.definitions (prune_definition marks) in
      let below = prune_refs marks (λ j. nat_lt j (length (prune_all marks old.definitions))) old.start (subst (λ (n : ℕ). refs_are (λ j. nat_lt j n) old.start ≡ true) (sym same) refs) in
      let is : numbers1 ≡ with_references (length (prune_all marks old.definitions)) (prune marks old.start) [] =
      first.found ∙ ap (λ (n : ℕ). with_references n (prune marks old.start) numbers0) (many ∙ sym same) ∙ ap (with_references (length (prune_all marks old.definitions)) (prune marks old.start)) none in
      let spread = spread_first (prune marks old.start) (prune_all marks old.definitions) numbers1 below is in
      let wholly = spelled_grown start.more start.is spelled in
      let rest = all.leaves old.start wholly held (sound_numbered sound) spread in
      let l : Left old new conditions marks numbers2 = record {
        spelled = wholly;
        held = held;
        lives = sym (mark_lives held spells) ∙ h;
        start = prunes_still (record { still = rest.still }) first.left;
        definitions = rest.are;
        as_many = rest.as_many;
        few = few;
      } in
      answer sound (λ numbers kept. checked_is_fit old.start old.definitions sound path overlap numbers kept) l

  -- the same over what the code reads
  pub found_answer_read : (new : Language) {conditions' : List Condition} {marks' : List Bool} {numbers0 numbers1 numbers2 : List ℕ} {count : ℕ} → conditions' ≡ conditions → marks' ≡ marks → is_marked marks root ≡ true → count ≡ length old.definitions → numbers0 ≡ []
      → LeavesTo conditions' marks' count root old.start numbers0 numbers1 new.start → LeavesAll conditions' marks' old.definitions numbers1 numbers2 new.definitions → length numbers2 ≤ length old.definitions → IsAnswer old new
  found_answer_read new {conditions' = conditions'} {marks' = marks'} {numbers0 = numbers0} {numbers1 = numbers1} {numbers2 = numbers2} {count = count} same_conditions same_marks h many none one all few =
      let one' : LeavesTo conditions marks count root old.start numbers0 numbers1 new.start =
      subst (λ (cs : List Condition). LeavesTo cs marks count root old.start numbers0 numbers1 new.start) same_conditions
      (subst (λ (ms : List Bool). LeavesTo conditions' ms count root old.start numbers0 numbers1 new.start) same_marks one) in
      let all' : LeavesAll conditions marks old.definitions numbers1 numbers2 new.definitions =
      subst (λ (cs : List Condition). LeavesAll cs marks old.definitions numbers1 numbers2 new.definitions) same_conditions
      (subst (λ (ms : List Bool). LeavesAll conditions' ms old.definitions numbers1 numbers2 new.definitions) same_marks all) in
      found_answer new h many none one' all' few

-- ---- the leaves of sound patterns

excepts_sound : (type : Datatype) (es : List Except) → AllByRecursion (IsSoundExcept type) es → IsTrue (list_all (is_sound_except type) es)
excepts_sound type [] h = refl
excepts_sound type (e ∷ es) h = true_and (is_sound_except type e) (list_all (is_sound_except type) es) (one e h.0) (excepts_sound type es h.1)
  where
    one : (x : Except) → IsSoundExcept type x → is_sound_except type x ≡ true
    one (Own t) s = true_and (is_utf8 t) (is_accepted type t) s.0 ((accepts_decided type t).1 s.1)
    one (BuiltinString t) s = refl
    one (BuiltinToken t) s = refl

pub leaves_of : {count : ℕ} {p : Pattern} → IsSoundPattern count p → HasSoundLeaves p
leaves_of sound_not_allowed = tt
leaves_of sound_empty = tt
leaves_of sound_text = tt
leaves_of (sound_data {type = type} {excepts = es} m l e) = (l, m, excepts_sound type es e)
leaves_of (sound_value m a c) = (and_true _ _ c).0
leaves_of (sound_list s) = leaves_of s
leaves_of (sound_attribute c s) = leaves_of s
leaves_of (sound_ref l) = tt
leaves_of (sound_one_or_more s) = leaves_of s
leaves_of (sound_choice s t) = (leaves_of s, leaves_of t)
leaves_of (sound_group s t) = (leaves_of s, leaves_of t)
leaves_of (sound_interleave s t) = (leaves_of s, leaves_of t)

pub leaves_of_all : (count : ℕ) (g : List Definition) → AllByRecursion (IsSoundDefinition count) g → HaveSoundLeaves g
leaves_of_all count [] h = tt
leaves_of_all count (d ∷ g) h = (leaves_of h.0.content_is, leaves_of_all count g h.1)
