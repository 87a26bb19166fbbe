-- Residuals behind moves use the names of the attributes of the open tag.
use Rattle.std.proofs.Common.{◌≡◌, ℕ, zero, suc, length, List, [], ◌∷◌, ◌++◌, map, Bool, true, false, cond, sym, subst, refl, Option, Some, None}
use Rattle.std.specs.Prelude.{slice_get, ◌&&◌}
use Rattle.std.specs.List.{AllByRecursion}
use Rattle.nx_base.specs.Trees.{Event, Enter, Att, TagEnd, Chars, Leave}
use Rattle.nx_base.specs.declared.name.Name.{Name}
use Rattle.rng_core.specs.Names.{has_attribute_name}
use Rattle.rng_core.specs.Patterns.{Pattern, Definition, Language, not_allowed, empty, any_text, typed, literal, listed, attribute, ref, one_or_more, choice, group, interleave}
use Rattle.rng_core.specs.Soundness.{IsSoundPattern, sound_not_allowed, sound_empty, sound_one_or_more, sound_choice, sound_group, sound_interleave, IsSoundDefinition}
use Rattle.rng_kept.specs.Attributes.{value_fits, around, attribute_by, drop}
use Rattle.rng_kept.specs.Content.{is_dead_outer, among_of, loose_after, chars_outer, any_string_outer, chars_way, any_string_way, ways_of, may_leave, leave_outer, leave_skip_outer, leave_way, leave_skip_way}
use Rattle.rng_kept.specs.Entering.{content_in, content_of, others, rest_at, tag_at_top, tag_of_both, tag_of_loose, enter_outer, skip_outer, enter_way, skip_way}
use Rattle.rng_kept.specs.Events.{IsAmong, first, later}
use Rattle.rng_kept.specs.Merging.{can_join_ways, joined_way, with_way, with_ways, stepped}
use Rattle.rng_kept.specs.Openings.{Opening, opens}
use Rattle.rng_kept.specs.Residuals.{Outer, document, inside, one_of, Way, among, in_tag, Residual}
use Rattle.rng_kept.specs.Skipping.{skip_opens}
use Rattle.rng_kept.specs.SmallPatterns.{is_not_allowed, is_empty, is_star, choice_of, group_of, interleave_of, star}
use Rattle.rng_kept.specs.SolidStrings.{after_solid}
use Rattle.rng_kept.specs.Strings.{after}
use Rattle.rng_kept.specs.Tags.{tag_of, attribute_way, any_value_way, children_of, tag_end_way, missing_way}
use Rattle.rng_names.specs.Used.{used, IsParted, parted_leaf, IsLeft}
use Rattle.rng_kept.specs.Moves.{take, attributes_after}
use Rattle.rng_residual.specs.Moves.{behind_event}
use Rattle.rng_names.specs.Left.{UsesNames, WayUsesNames, UseNames, UseBehind, HaveApartContents, MovesUseNames, FramesUseNames, LiveContentsAreApart}
use Rattle.rng_names.proofs.Used.{either, choice_holds, group_holds, interleave_holds, apart_is_parted, attributes_use_names}

-- ---- ways that are merged

joined_uses : (l : List Name) (x w : Way) → WayUsesNames l x → WayUsesNames l (joined_way x w)
joined_uses l (among o) (among u) h = tt
joined_uses l (among o) (in_tag q u) h = tt
joined_uses l (in_tag p o) (among u) h = h
joined_uses l (in_tag p o) (in_tag q u) h = h

with_way_uses : (l : List Name) (xs : Residual) (w : Way) → UseNames l xs → WayUsesNames l w → UseNames l (with_way xs w)
with_way_uses l [] w a h = (h, tt)
with_way_uses l (x ∷ xs) w a h =
    either (λ (r : Residual). UseNames l r) (can_join_ways x w) (joined_way x w ∷ xs) (x ∷ with_way xs w)
    (joined_uses l x w a.0, a.1) (a.0, with_way_uses l xs w a.1 h)

with_ways_use : (l : List Name) (xs ws : Residual) → UseNames l xs → UseNames l ws → UseNames l (with_ways xs ws)
with_ways_use l xs [] a b = a
with_ways_use l xs (w ∷ ws) a b = with_ways_use l (with_way xs w) ws (with_way_uses l xs w a b.0) b.1

stepped_use : (l m : List Name) (f : Way → Residual) → ((w : Way) → WayUsesNames l w → UseNames m (f w))
    → (done x : Residual) → UseNames m done → UseNames l x → UseNames m (stepped f done x)
stepped_use l m f step done [] d a = d
stepped_use l m f step done (w ∷ ws) d a = stepped_use l m f step (with_ways done (f w)) ws (with_ways_use m done (f w) d (step w a.0)) a.1

-- ---- the content of a definition, of which nothing has come yet

content_uses : (count : ℕ) (o : Option Definition) → ((d : Definition) → o ≡ Some d → IsParted d.content × IsSoundPattern count d.content)
    → UsesNames [] (content_in o)
content_uses count None h = record { parted = parted_leaf refl; used = λ n k. elim k [ ]; count = count; sound = sound_not_allowed }
content_uses count (Some d) h = let w = h d refl in record { parted = w.0; used = λ n k. elim k [ ]; count = count; sound = w.1 }

module _ (g : List Definition) (a : HaveApartContents g) where
  number_uses : (i : ℕ) → UsesNames [] (content_of g i)
  number_uses i = content_uses a.count (slice_get g i) (λ d is. (apart_is_parted d.content (a.apart i d is), a.sound i d is))

  tags_use : (f : Opening → Way) → ((o : Opening) → WayUsesNames [] (f o)) → (os : List Opening) → UseNames [] (map f os)
  tags_use f h [] = tt
  tags_use f h (o ∷ os) = (h o, tags_use f h os)

  both_use : (xs ys : Residual) → UseNames [] xs → UseNames [] ys → UseNames [] (xs ++ ys)
  both_use [] ys h k = k
  both_use (x ∷ xs) ys h k = (h.0, both_use xs ys h.1 k)

  inside_use : (strict loose : List Opening) (o : Outer) → UseNames [] (map (tag_of_both g loose o) strict ++ map (tag_of_loose g o) (others strict loose))
  inside_use strict loose o =
      both_use (map (tag_of_both g loose o) strict) (map (tag_of_loose g o) (others strict loose))
      (tags_use (tag_of_both g loose o) (λ i. number_uses i.number) strict)
      (tags_use (tag_of_loose g o) (λ i. number_uses i.number) (others strict loose))

  outer_entered : (n : Name) (o : Outer) → UseNames [] (enter_outer g n o)
  outer_entered n (document p) = tags_use (tag_at_top g) (λ i. number_uses i.number) (opens g n p)
  outer_entered n (inside b l v o) = inside_use (opens g n b) (opens g n l) o
  outer_entered n (one_of o u) = with_ways_use [] (enter_outer g n o) (enter_outer g n u) (outer_entered n o) (outer_entered n u)

  entered_use : (n : Name) (w : Way) → UseNames [] (enter_way g n w)
  entered_use n (among o) = outer_entered n o
  entered_use n (in_tag p o) = tt

  outer_skipped : (n : Name) (o : Outer) → UseNames [] (skip_outer g n o)
  outer_skipped n (document p) = tags_use (tag_at_top g) (λ i. number_uses i.number) (skip_opens g n p)
  outer_skipped n (inside b l v o) = inside_use (skip_opens g n b) (skip_opens g n l) o
  outer_skipped n (one_of o u) = with_ways_use [] (skip_outer g n o) (skip_outer g n u) (outer_skipped n o) (outer_skipped n u)

  skipped_use : (n : Name) (w : Way) → UseNames [] (skip_way g n w)
  skipped_use n (among o) = outer_skipped n o
  skipped_use n (in_tag p o) = tt

-- ---- an attribute

module _ {count : ℕ} where
  choice_parts : (a b : Pattern) → IsSoundPattern count (choice a b) → IsSoundPattern count a × IsSoundPattern count b
  choice_parts a b (sound_choice h k) = (h, k)

  choice_sound : (p q : Pattern) → IsSoundPattern count p → IsSoundPattern count q → IsSoundPattern count (choice_of p q)
  choice_sound p q h k =
      choice_holds (λ x. IsSoundPattern count x) sound_not_allowed (λ a b u v. sound_choice u v) p q h choice_parts k

  group_sound : (p q : Pattern) → IsSoundPattern count p → IsSoundPattern count q → IsSoundPattern count (group_of p q)
  group_sound p q h k = group_holds (λ x. IsSoundPattern count x) sound_not_allowed p q h k (sound_group h k)

  interleave_sound : (p q : Pattern) → IsSoundPattern count p → IsSoundPattern count q → IsSoundPattern count (interleave_of p q)
  interleave_sound p q h k = interleave_holds (λ x. IsSoundPattern count x) sound_not_allowed p q h k (sound_interleave h k)

  star_sound : (p : Pattern) → IsSoundPattern count p → IsSoundPattern count (star p)
  unfolding star
  star_sound p h =
      either (λ (x : Pattern). IsSoundPattern count x) (is_star p) p (choice_of (one_or_more p) empty) h
      (choice_sound (one_or_more p) empty (sound_one_or_more h) sound_empty)

  around_sound : (rest p : Pattern) → IsSoundPattern count rest → IsSoundPattern count p → IsSoundPattern count (around rest p)
  around_sound rest p h k =
      let s = star_sound p k in
      either (λ (x : Pattern). IsSoundPattern count x) (is_empty rest) (star p) (group_of (star p) (group_of rest (star p))) s
      (group_sound (star p) (group_of rest (star p)) s (group_sound rest (star p) h s))

  attribute_sound : (fits : Pattern → Bool) (n : Name) (p : Pattern) → IsSoundPattern count p → IsSoundPattern count (attribute_by fits n p)
  attribute_sound fits n (attribute class p) h =
      either (λ (x : Pattern). IsSoundPattern count x) (has_attribute_name class n && fits p) empty not_allowed sound_empty sound_not_allowed
  attribute_sound fits n (one_or_more p) (sound_one_or_more h) = around_sound (attribute_by fits n p) p (attribute_sound fits n p h) h
  attribute_sound fits n (choice p q) (sound_choice h k) =
      choice_sound (attribute_by fits n p) (attribute_by fits n q) (attribute_sound fits n p h) (attribute_sound fits n q k)
  attribute_sound fits n (group p q) (sound_group h k) =
      choice_sound (group_of (attribute_by fits n p) q) (group_of p (attribute_by fits n q))
      (group_sound (attribute_by fits n p) q (attribute_sound fits n p h) k) (group_sound p (attribute_by fits n q) h (attribute_sound fits n q k))
  attribute_sound fits n (interleave p q) (sound_interleave h k) =
      choice_sound (interleave_of (attribute_by fits n p) q) (interleave_of p (attribute_by fits n q))
      (interleave_sound (attribute_by fits n p) q (attribute_sound fits n p h) k)
      (interleave_sound p (attribute_by fits n q) h (attribute_sound fits n q k))
  attribute_sound fits n not_allowed h = sound_not_allowed
  attribute_sound fits n empty h = sound_not_allowed
  attribute_sound fits n any_text h = sound_not_allowed
  attribute_sound fits n (typed t e) h = sound_not_allowed
  attribute_sound fits n (literal t v) h = sound_not_allowed
  attribute_sound fits n (listed p) h = sound_not_allowed
  attribute_sound fits n (ref i) h = sound_not_allowed

one_more : {l : List Name} {p left : Pattern} (n : Name) (u : UsesNames l p) → IsLeft p left n → IsSoundPattern u.count left → UsesNames (n ∷ l) left
one_more {l = l} {left = left} n u k s = record { parted = k.parted; used = by_place; count = u.count; sound = s }
  where
    by_place : (m : Name) → IsAmong m (n ∷ l) → used left m ≡ true
    by_place m (first e) = subst (λ (i : Name). used left i ≡ true) e k.now
    by_place m (later h) = k.still m (u.used m h)

tag_uses : {l : List Name} (fits : Pattern → Bool) (n : Name) (p : Pattern) (o : Outer) → UsesNames l p → UseNames (n ∷ l) (tag_of (attribute_by fits n p) o)
tag_uses {l = l} fits n p o u =
    let left = attribute_by fits n p in
    either (λ (r : Residual). UseNames (n ∷ l) r) (is_not_allowed left) [] (in_tag left o ∷ []) tt
    (one_more n u (attributes_use_names fits n p u.parted) (attribute_sound fits n p u.sound), tt)

attributed : (l : List Name) (n : Name) (v : List ℕ) (w : Way) → WayUsesNames l w → UseNames (n ∷ l) (attribute_way n v w)
attributed l n v (among o) h = tt
attributed l n v (in_tag p o) h = tag_uses (value_fits v) n p o h

any_attributed : (l : List Name) (n : Name) (w : Way) → WayUsesNames l w → UseNames (n ∷ l) (any_value_way n w)
any_attributed l n (among o) h = tt
any_attributed l n (in_tag p o) h = tag_uses (λ q. true) n p o h

-- ---- outside of tags

among_uses : (m : List Name) (o : Outer) → UseNames m (among_of o)
among_uses m o = either (λ (r : Residual). UseNames m r) (is_dead_outer o) [] (among o ∷ []) tt (tt, tt)

outer_charred : (t : List ℕ) (o : Outer) → UseNames [] (chars_outer t o)
outer_charred t (document p) = among_uses [] (document (after t p))
outer_charred t (inside b l v o) = among_uses [] (inside (after t b) (loose_after t l) false o)
outer_charred t (one_of o u) = with_ways_use [] (chars_outer t o) (chars_outer t u) (outer_charred t o) (outer_charred t u)

charred : (t : List ℕ) (w : Way) → UseNames [] (chars_way t w)
charred t (among o) = outer_charred t o
charred t (in_tag p o) = tt

outer_any_charred : (o : Outer) → UseNames [] (any_string_outer o)
outer_any_charred (document p) = among_uses [] (document (after_solid p))
outer_any_charred (inside b l v o) = among_uses [] (inside (after_solid b) (after_solid l) false o)
outer_any_charred (one_of o u) = with_ways_use [] (any_string_outer o) (any_string_outer u) (outer_any_charred o) (outer_any_charred u)

any_charred : (w : Way) → UseNames [] (any_string_way w)
any_charred (among o) = outer_any_charred o
any_charred (in_tag p o) = tt

tag_ended : (w : Way) → UseNames [] (tag_end_way w)
tag_ended (among o) = tt
tag_ended (in_tag p o) = among_uses [] (children_of p o)

missing : (w : Way) → UseNames [] (missing_way w)
missing (among o) = tt
missing (in_tag p o) = among_uses [] (children_of (drop p) o)

ways_use : (o : Outer) → UseNames [] (ways_of o)
ways_use (document p) = (tt, tt)
ways_use (inside b l v o) = (tt, tt)
ways_use (one_of o u) = with_ways_use [] (ways_of o) (ways_of u) (ways_use o) (ways_use u)

outer_left : (o : Outer) → UseNames [] (leave_outer o)
outer_left (document p) = tt
outer_left (inside b l v o) = either (λ (r : Residual). UseNames [] r) (may_leave b l v) (ways_of o) [] (ways_use o) tt
outer_left (one_of o u) = with_ways_use [] (leave_outer o) (leave_outer u) (outer_left o) (outer_left u)

left : (w : Way) → UseNames [] (leave_way w)
left (among o) = outer_left o
left (in_tag p o) = tt

outer_left_out : (o : Outer) → UseNames [] (leave_skip_outer o)
outer_left_out (document p) = tt
outer_left_out (inside b l v o) = ways_use o
outer_left_out (one_of o u) = with_ways_use [] (leave_skip_outer o) (leave_skip_outer u) (outer_left_out o) (outer_left_out u)

skipped : (w : Way) → UseNames [] (leave_skip_way w)
skipped (among o) = outer_left_out o
skipped (in_tag p o) = tt

-- ---- the laws

pub moves_use_names : MovesUseNames
moves_use_names g a l x u = record {
  event = λ e. by_event e;
  skip = λ n. stepped_use l [] (skip_way g n) (λ w h. skipped_use g a n w) [] x tt u;
  value = λ n. stepped_use l (n ∷ l) (any_value_way n) (any_attributed l n) [] x tt u;
  string = stepped_use l [] any_string_way (λ w h. any_charred w) [] x tt u;
  attributes = stepped_use l [] missing_way (λ w h. missing w) [] x tt u;
  content = stepped_use l [] leave_skip_way (λ w h. skipped w) [] x tt u;
}
  where
    by_event : (e : Event) → UseNames (attributes_after l (take e)) (behind_event g e x)
    by_event (Enter n) = stepped_use l [] (enter_way g n) (λ w h. entered_use g a n w) [] x tt u
    by_event (Att n v) = stepped_use l (n ∷ l) (attribute_way n v) (attributed l n v) [] x tt u
    by_event TagEnd = stepped_use l [] tag_end_way (λ w h. tag_ended w) [] x tt u
    by_event (Chars t) = stepped_use l [] (chars_way t) (λ w h. charred t w) [] x tt u
    by_event Leave = stepped_use l [] leave_way (λ w h. left w) [] x tt u

sound_at : {count : ℕ} (g : List Definition) (i : ℕ) (d : Definition) → AllByRecursion (IsSoundDefinition count) g → slice_get g i ≡ Some d
    → IsSoundDefinition count d
sound_at [] i d all at = cc
sound_at {count = count} (e ∷ g) zero d all at = let same : e ≡ d = cc in subst (λ (x : Definition). IsSoundDefinition count x) same all.0
sound_at (e ∷ g) (suc i) d all at = sound_at g i d all.1 at

pub live_contents_are_apart : LiveContentsAreApart
live_contents_are_apart g sound live = record {
  count = length g.definitions;
  sound = λ i d at. (sound_at g.definitions i d sound.definitions_are at).content_is;
  apart = live.apart;
}

pub frames_use_names : FramesUseNames
frames_use_names l p = (tt, tt)
