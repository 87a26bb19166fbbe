-- The leaves of what is left of a lively way have sound texts, and names.
use Rattle.std.proofs.Common.{◌≡◌, ℕ, List, [], ◌∷◌, ◌++◌, Bool, true, false, Option, None, Some, refl, sym, subst, ◌⊎◌, inl, inr}
use Rattle.std.specs.Prelude.{IsTrue, nat_le, if◌then◌else◌}
use Rattle.std.specs.List.{AllByRecursion}
use Rattle.std.proofs.lemmas.Bool.{cases_Bool, false≢true}
use Rattle.nx_base.specs.Trees.{Attribute, Children, nil, element}
use Rattle.nx_base.specs.declared.name.Name.{Name}
use Rattle.rng_types.proofs.Deciding.{accepts_decided}
use Rattle.rng_core.proofs.Borne.{overlap_found}
use Rattle.rng_core.specs.Matching.{Matches, by_element}
use Rattle.rng_core.specs.Meaning.{pattern_of}
use Rattle.rng_core.specs.Names.{Class, has_name}
use Rattle.rng_core.specs.Patterns.{Pattern, Definition, ref, not_allowed}
use Rattle.rng_core.specs.Soundness.{IsSoundPattern, sound_not_allowed, sound_empty, sound_text, sound_data, sound_value, sound_list, sound_attribute}
use Rattle.rng_core.specs.Soundness.{sound_ref, sound_one_or_more, sound_choice, sound_group, sound_interleave, SoundExceptsSuit}
use Rattle.rng_core.specs.declared.grammar.Pat.{Pat}
use Rattle.rng_core.specs.declared.name_class.Bearer.TheVariants.{Element}
use Rattle.rng_kept.specs.Clean.{Clean, clean_empty, clean_text, clean_data, clean_value, clean_list, clean_attribute, clean_ref}
use Rattle.rng_kept.specs.Clean.{clean_one_or_more, clean_choice, clean_group, clean_interleave, Fine}
use Rattle.rng_kept.specs.Lively.{IsLivelyOutside, lively_document, lively_inside, lively_one_of, IsLively, lively_among, lively_in_tag}
use Rattle.rng_kept.specs.Residuals.{Outer, document, inside, one_of, Way, among, in_tag}
use Rattle.rng_kept.specs.SmallPatterns.{is_not_allowed}
use Rattle.rng_live.specs.Living.{has_some_name}
use Rattle.rng_residual.proofs.SmallPatterns.{is_not_allowed-is}
use Rattle.rng_cost.specs.Least.{least}
use Rattle.rng_cost.specs.Leaves.{leaves}
use Rattle.rng_fill.specs.Fillable.{IsNamed, is_named_by}
use Rattle.rng_fill.specs.Strings.{AreSoundTexts}
use Rattle.rng_names.specs.Left.{UsesNames, WayUsesNames}
use Rattle.rng_finish.specs.declared.left.Left.{Left}
use Rattle.rng_finish.specs.declared.left.Level.{Level}
use Rattle.rng_finish.specs.declared.left.Level.TheVariants as level
use Rattle.rng_finish.specs.Left.{IsPath, at_document, at_void, at_strict, at_loose, of_this, of_other, IsTagOf, IsLeftOf}
use Rattle.rng_finish.specs.Fit.{FitsLeaf, FitLeaves, Fits, FitsLevel, FitLevels, FitsIfTag, FitsLeft}
use Rattle.rng_finish.specs.Laws.{LivelyAreFit}

-- ---- one leaf

sound_texts : SoundExceptsSuit → {count : ℕ} {p : Pattern} → IsSoundPattern count p → AreSoundTexts p
sound_texts suit sound_not_allowed = tt
sound_texts suit sound_empty = tt
sound_texts suit sound_text = tt
sound_texts suit (sound_data {type = type} {excepts = excepts} made few all) = (few, made, suit type excepts all)
sound_texts suit (sound_value {type = type} {text = text} made accepted of) = ((accepts_decided type text).1 accepted, of)
sound_texts suit (sound_list s) = sound_texts suit s
sound_texts suit (sound_attribute c s) = sound_texts suit s
sound_texts suit (sound_ref low) = tt
sound_texts suit (sound_one_or_more s) = sound_texts suit s
sound_texts suit (sound_choice s r) = (sound_texts suit s, sound_texts suit r)
sound_texts suit (sound_group s r) = (sound_texts suit s, sound_texts suit r)
sound_texts suit (sound_interleave s r) = (sound_texts suit s, sound_texts suit r)

named_element : (c : Class) (n : Name) → IsTrue (has_name c n) → has_some_name c ≡ true
named_element c n h = overlap_found Element c c (record { name = n; first = h; second = h })

element_named : {g : List Definition} {i : ℕ} {n : Name} {a : List Attribute} {k : Children} → Matches g (ref i) [] (element n a k nil) → IsNamed g i
element_named (by_element {d = d} {n = n} at named w m) =
    subst (λ (o : Option Definition). IsTrue (is_named_by o)) (sym at) (named_element d.class n named)

-- ---- the leaves of a pattern

all_join : {X : Type 0} (P : X → Type 0) (xs ys : List X) → AllByRecursion P xs → AllByRecursion P ys → AllByRecursion P (xs ++ ys)
all_join P [] ys a b = b
all_join P (x ∷ xs) ys a b = (a.0, all_join P xs ys a.1 b)

by_side : (P : List Pattern → Type 0) (b : Bool) (xs ys : List Pattern) → P xs → P ys → P (if b then xs else ys)
by_side P true xs ys first second = first
by_side P false xs ys first second = second

module _ (suit : SoundExceptsSuit) {g : List Definition} {b : Bool} (costs : List ℕ) where
  -- where no attribute comes
  closed_fits : {p : Pattern} → Clean g false b p → Fits g costs p
  closed_fits clean_empty = tt
  closed_fits clean_text = tt
  closed_fits (clean_data z w) = (sound_texts suit z, tt)
  closed_fits (clean_value z k) = (sound_texts suit z, tt)
  closed_fits (clean_list z f w) = (sound_texts suit z, tt)
  closed_fits (clean_attribute a f is o m) = absurd (false≢true is)
  closed_fits (clean_ref n a k c w m) = (element_named m, tt)
  closed_fits (clean_one_or_more c) = closed_fits c
  closed_fits (clean_choice {p = p} {q = q} c e) =
      by_side (FitLeaves g) (nat_le (least costs p) (least costs q)) (leaves costs p) (leaves costs q) (closed_fits c) (closed_fits e)
  closed_fits (clean_group {p = p} {q = q} c e) =
      all_join (FitsLeaf g) (leaves costs p) (leaves costs q) (closed_fits c) (closed_fits e)
  closed_fits (clean_interleave {p = p} {q = q} c e) =
      all_join (FitsLeaf g) (leaves costs p) (leaves costs q) (closed_fits c) (closed_fits e)

  -- in a start tag
  open_fits : {count : ℕ} {p : Pattern} → Clean g true b p → IsSoundPattern count p → Fits g costs p
  open_fits clean_empty s = tt
  open_fits clean_text s = tt
  open_fits (clean_data z w) s = (sound_texts suit s, tt)
  open_fits (clean_value z k) s = (sound_texts suit s, tt)
  open_fits (clean_list z f w) (sound_list s) = (sound_texts suit s, tt)
  open_fits (clean_attribute a f is o m) (sound_attribute c s) = (sound_texts suit s, tt)
  open_fits (clean_ref n a k c w m) s = (element_named m, tt)
  open_fits (clean_one_or_more c) (sound_one_or_more s) = open_fits c s
  open_fits (clean_choice {p = p} {q = q} c e) (sound_choice s r) =
      by_side (FitLeaves g) (nat_le (least costs p) (least costs q)) (leaves costs p) (leaves costs q) (open_fits c s) (open_fits e r)
  open_fits (clean_group {p = p} {q = q} c e) (sound_group s r) =
      all_join (FitsLeaf g) (leaves costs p) (leaves costs q) (open_fits c s) (open_fits e r)
  open_fits (clean_interleave {p = p} {q = q} c e) (sound_interleave s r) =
      all_join (FitsLeaf g) (leaves costs p) (leaves costs q) (open_fits c s) (open_fits e r)

  view_fits : (p : Pattern) → Fine g false b p → Fits g costs p
  view_fits p f = by_kind (cases_Bool (is_not_allowed p))
    where
      by_kind : (is_not_allowed p ≡ true) ⊎ (is_not_allowed p ≡ false) → Fits g costs p
      by_kind (inl none) = subst (λ (q : Pattern). Fits g costs q) (sym (is_not_allowed-is p none)) (tt, tt)
      by_kind (inr some) = closed_fits (f.clean some)

-- ---- what is left

module _ (suit : SoundExceptsSuit) {g : List Definition} (costs : List ℕ) where
  outer_fits : {o : Outer} {ls : List Level} {d : Pattern} → IsLivelyOutside g o → IsPath o ls d → FitLevels g costs ls × Fits g costs d
  outer_fits (lively_document c) at_document = (tt, closed_fits suit costs c)
  outer_fits (lively_inside c e some h) (at_void v path) = let w = outer_fits h path in ((tt, w.0), w.1)
  outer_fits (lively_inside {b = b} c e some h) (at_strict is path) =
      let w = outer_fits h path in ((subst (λ (q : Pattern). Fits g costs q) (sym is) (view_fits suit costs b c), w.0), w.1)
  outer_fits (lively_inside {l = l} c e some h) (at_loose is path) =
      let w = outer_fits h path in ((subst (λ (q : Pattern). Fits g costs q) (sym is) (view_fits suit costs l e), w.0), w.1)
  outer_fits (lively_one_of h i) (of_this path) = outer_fits h path
  outer_fits (lively_one_of h i) (of_other path) = outer_fits i path

  way_fits : {l : List Name} {w : Way} (tag : Option Pat) (ls : List Level) (d : Pattern) → IsLively g l w → WayUsesNames l w → IsTagOf w tag ls d
      → FitsIfTag g costs tag × FitLevels g costs ls × Fits g costs d
  way_fits None ls d (lively_among h) uses path = let w = outer_fits h path in (tt, w.0, w.1)
  way_fits (Some pat) ls d (lively_among h) uses path = absurd path
  way_fits None ls d (lively_in_tag c i h) uses path = absurd path
  way_fits (Some pat) ls d (lively_in_tag {p = p} c i h) uses path =
      let w = outer_fits h path.1 in
      (subst (λ (q : Pattern). Fits g costs q) (sym path.0) (open_fits suit costs c uses.sound), w.0, w.1)

pub lively_are_fit : SoundExceptsSuit → LivelyAreFit
lively_are_fit suit g costs l w left lively uses is =
    let v = way_fits suit costs left.tag left.levels.items (pattern_of left.document) lively uses is in record { tag = v.0; levels = v.1; document = v.2 }
