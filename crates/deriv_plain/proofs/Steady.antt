-- The patterns of a state stay in order.
use Rattle.std.specs.Prelude.{ℕ, List, [], ◌∷◌, ◌++◌, Bool, true, false, map, if◌then◌else◌, zero, suc}
use Rattle.nx_base.specs.Characters.{is_blank}
use Rattle.nx_base.specs.declared.name.Name.{Name}
use Rattle.rng_core.specs.Patterns.{Pattern, Definition}
use Rattle.rng_kept.specs.SmallPatterns.{is_not_allowed}
use Rattle.rng_kept.specs.Attributes.{close, drop}
use Rattle.rng_kept.specs.Openings.{Opening, opens}
use Rattle.rng_kept.specs.Skipping.{skip_opens}
use Rattle.rng_kept.specs.Residuals.{Outer, document, inside, one_of, Way, among, in_tag, Residual}
use Rattle.rng_kept.specs.Merging.{same_outer, is_outer_in, with_outer, either_outer, can_join_ways, joined_outer, joined_way, with_way, with_ways, stepped}
use Rattle.rng_kept.specs.Entering.{content_of, has_number, tag_at_top, tag_of_both, tag_of_loose, others, enter_outer, skip_outer}
use Rattle.rng_kept.specs.Strings.{after}
use Rattle.rng_kept.specs.SolidStrings.{after_solid}
use Rattle.rng_kept.specs.Tags.{tag_of, children_of}
use Rattle.rng_kept.specs.Content.{is_dead_outer, among_of, loose_after, chars_outer, any_string_outer, ways_of, may_leave, leave_outer, leave_skip_outer}
use Rattle.deriv_pattern.specs.Leaves.{IsInOrder, ContentsAreInOrder, RestsAreInOrder, LeftInOrder}
use Rattle.deriv_pattern.specs.Steps.{way_step}
use Rattle.deriv_pattern.specs.declared.step.Step.{Step}
use Rattle.deriv_pattern.specs.declared.step.Step.TheVariants as step
use Rattle.deriv_plain.specs.Order.{OuterIsInOrder, WayIsInOrder, AreInOrder, StepIsInOrder}

-- either list, by a test
either_way : (c : Bool) (x y : Residual) → AreInOrder x → AreInOrder y → AreInOrder (if c then x else y)
either_way true x y a b = a
either_way false x y a b = b

-- either outer, by a test
either_case : (c : Bool) (o u : Outer) → OuterIsInOrder o → OuterIsInOrder u → OuterIsInOrder (if c then o else u)
either_case true o u a b = a
either_case false o u a b = b

-- a choice of outers
with_outer_in_order : (o u : Outer) → OuterIsInOrder o → OuterIsInOrder u → OuterIsInOrder (with_outer o u)
with_outer_in_order o u a b = either_case (is_outer_in u o) o (one_of o u) a (a, b)

either_in_order : (o u : Outer) → OuterIsInOrder o → OuterIsInOrder u → OuterIsInOrder (either_outer o u)
either_in_order o (document p) a b = with_outer_in_order o (document p) a b
either_in_order o (inside c l v u) a b = with_outer_in_order o (inside c l v u) a b
either_in_order o (one_of u r) a b = either_in_order (either_outer o u) r (either_in_order o u a b.0) b.1

-- lists put together
appended : (x y : Residual) → AreInOrder x → AreInOrder y → AreInOrder (x ++ y)
appended [] y a b = b
appended (w ∷ x) y a b = (a.0, appended x y a.1 b)

content_in_order : (g : List Definition) (i : ℕ) → ContentsAreInOrder g → IsInOrder (content_of g i)
content_in_order [] i a = tt
content_in_order (d ∷ g) zero a = a.0
content_in_order (d ∷ g) (suc i) a = content_in_order g i a.1

module _ (left : LeftInOrder) where
  joined_in_order : (o u : Outer) → OuterIsInOrder o → OuterIsInOrder u → OuterIsInOrder (joined_outer o u)
  joined_in_order (document p) (document q) a b = left.choice_of p q a b
  joined_in_order (document p) (inside c k w u) a b = a
  joined_in_order (document p) (one_of u r) a b = a
  joined_in_order (inside c l v o) (document q) a b = a
  joined_in_order (inside c l v o) (one_of u r) a b = a
  joined_in_order (inside c l v o) (inside d k w u) a b =
      either_case (same_outer o u) _ _ (left.choice_of c d a.0 b.0, left.choice_of l k a.1 b.1, a.2) (a.0, a.1, either_in_order o u a.2 b.2)
  joined_in_order (one_of o r) u a b = a

  joined_way_in_order : (w v : Way) → WayIsInOrder w → WayIsInOrder v → WayIsInOrder (joined_way w v)
  joined_way_in_order (among o) (among u) a b = joined_in_order o u a b
  joined_way_in_order (among o) (in_tag q u) a b = a
  joined_way_in_order (in_tag p o) (among u) a b = a
  joined_way_in_order (in_tag p o) (in_tag q u) a b = (a.0, either_in_order o u a.1 b.1)

  with_way_in_order : (x : Residual) (w : Way) → AreInOrder x → WayIsInOrder w → AreInOrder (with_way x w)
  with_way_in_order [] w a b = (b, tt)
  with_way_in_order (v ∷ x) w a b =
      either_way (can_join_ways v w) (joined_way v w ∷ x) (v ∷ with_way x w) (joined_way_in_order v w a.0 b, a.1) (a.0, with_way_in_order x w a.1 b)

  with_ways_in_order : (x y : Residual) → AreInOrder x → AreInOrder y → AreInOrder (with_ways x y)
  with_ways_in_order x [] a b = a
  with_ways_in_order x (w ∷ y) a b = with_ways_in_order (with_way x w) y (with_way_in_order x w a b.0) b.1

  pub stepped_in_order : (f : Way → Residual) → ((w : Way) → WayIsInOrder w → AreInOrder (f w)) →
      (done x : Residual) → AreInOrder done → AreInOrder x → AreInOrder (stepped f done x)
  stepped_in_order f keeps done [] a b = a
  stepped_in_order f keeps done (w ∷ x) a b =
      stepped_in_order f keeps (with_ways done (f w)) x (with_ways_in_order done (f w) a (keeps w b.0)) b.1

  -- ---- children

  among_in_order : (o : Outer) → OuterIsInOrder o → AreInOrder (among_of o)
  among_in_order o a = either_way (is_dead_outer o) [] (among o ∷ []) tt (a, tt)

  loose_in_order : (c : Bool) (l m : Pattern) → IsInOrder l → IsInOrder m → IsInOrder (if c then l else m)
  loose_in_order true l m a b = a
  loose_in_order false l m a b = b

  chars_in_order : (t : List ℕ) (o : Outer) → OuterIsInOrder o → AreInOrder (chars_outer t o)
  chars_in_order t (document p) a = among_in_order (document (after t p)) (left.after t p a)
  chars_in_order t (inside b l v o) a =
      among_in_order (inside (after t b) (loose_after t l) false o)
      (left.after t b a.0, loose_in_order (is_blank t) l _ a.1 (left.after t l a.1), a.2)
  chars_in_order t (one_of o u) a = with_ways_in_order (chars_outer t o) (chars_outer t u) (chars_in_order t o a.0) (chars_in_order t u a.1)

  any_string_in_order : (o : Outer) → OuterIsInOrder o → AreInOrder (any_string_outer o)
  any_string_in_order (document p) a = among_in_order (document (after_solid p)) (left.after_solid p a)
  any_string_in_order (inside b l v o) a =
      among_in_order (inside (after_solid b) (after_solid l) false o) (left.after_solid b a.0, left.after_solid l a.1, a.2)
  any_string_in_order (one_of o u) a = with_ways_in_order (any_string_outer o) (any_string_outer u) (any_string_in_order o a.0) (any_string_in_order u a.1)

  ways_in_order : (o : Outer) → OuterIsInOrder o → AreInOrder (ways_of o)
  ways_in_order (document p) a = (a, tt)
  ways_in_order (inside b l v o) a = (a, tt)
  ways_in_order (one_of o u) a = with_ways_in_order (ways_of o) (ways_of u) (ways_in_order o a.0) (ways_in_order u a.1)

  outside_in_order : (o : Outer) → OuterIsInOrder o → AreInOrder (leave_outer o)
  outside_in_order (document p) a = tt
  outside_in_order (inside b l v o) a = either_way (may_leave b l v) (ways_of o) [] (ways_in_order o a.2) tt
  outside_in_order (one_of o u) a = with_ways_in_order (leave_outer o) (leave_outer u) (outside_in_order o a.0) (outside_in_order u a.1)

  further_in_order : (o : Outer) → OuterIsInOrder o → AreInOrder (leave_skip_outer o)
  further_in_order (document p) a = tt
  further_in_order (inside b l v o) a = ways_in_order o a.2
  further_in_order (one_of o u) a = with_ways_in_order (leave_skip_outer o) (leave_skip_outer u) (further_in_order o a.0) (further_in_order u a.1)

  -- ---- tags

  tag_in_order : (p : Pattern) (o : Outer) → IsInOrder p → OuterIsInOrder o → AreInOrder (tag_of p o)
  tag_in_order p o a b = either_way (is_not_allowed p) [] (in_tag p o ∷ []) tt ((a, b), tt)

  children_in_order : (p : Pattern) (o : Outer) → IsInOrder p → OuterIsInOrder o → OuterIsInOrder (children_of p o)
  children_in_order p o a b = (left.close p a, left.loosen (close p) (left.close p a), b)

  -- ---- elements

  at_top_in_order : (g : List Definition) (os : List Opening) → ContentsAreInOrder g → RestsAreInOrder os → AreInOrder (map (tag_at_top g) os)
  at_top_in_order g [] a b = tt
  at_top_in_order g (o ∷ os) a b = ((content_in_order g o.number a, b.0), at_top_in_order g os a b.1)

  both_in_order : (g : List Definition) (loose : List Opening) (outer : Outer) (os : List Opening) → ContentsAreInOrder g →
      RestsAreInOrder loose → OuterIsInOrder outer → RestsAreInOrder os → AreInOrder (map (tag_of_both g loose outer) os)
  both_in_order g loose outer [] a b c d = tt
  both_in_order g loose outer (o ∷ os) a b c d =
      ((content_in_order g o.number a, (d.0, left.rest_at o.number loose b, c)), both_in_order g loose outer os a b c d.1)

  loose_tags_in_order : (g : List Definition) (outer : Outer) (os : List Opening) → ContentsAreInOrder g →
      OuterIsInOrder outer → RestsAreInOrder os → AreInOrder (map (tag_of_loose g outer) os)
  loose_tags_in_order g outer [] a c d = tt
  loose_tags_in_order g outer (o ∷ os) a c d = ((content_in_order g o.number a, (tt, d.0, c)), loose_tags_in_order g outer os a c d.1)

  other_case : (c : Bool) (os ps : List Opening) → RestsAreInOrder os → RestsAreInOrder ps → RestsAreInOrder (if c then os else ps)
  other_case true os ps a b = a
  other_case false os ps a b = b

  others_in_order : (strict loose : List Opening) → RestsAreInOrder loose → RestsAreInOrder (others strict loose)
  others_in_order strict [] a = tt
  others_in_order strict (o ∷ os) a =
      other_case (has_number o.number strict) (others strict os) (o ∷ others strict os) (others_in_order strict os a.1) (a.0, others_in_order strict os a.1)

  inside_in_order : (g : List Definition) (strict loose : List Opening) (outer : Outer) → ContentsAreInOrder g → RestsAreInOrder strict →
      RestsAreInOrder loose → OuterIsInOrder outer →
      AreInOrder (map (tag_of_both g loose outer) strict ++ map (tag_of_loose g outer) (others strict loose))
  inside_in_order g strict loose outer a b c d = appended _ _ (both_in_order g loose outer strict a c d b)
      (loose_tags_in_order g outer (others strict loose) a d (others_in_order strict loose c))

  entered_in_order : (g : List Definition) (n : Name) (o : Outer) → ContentsAreInOrder g → OuterIsInOrder o → AreInOrder (enter_outer g n o)
  entered_in_order g n (document p) a b = at_top_in_order g (opens g n p) a (left.opens g n p b)
  entered_in_order g n (inside c l v o) a b =
      inside_in_order g (opens g n c) (opens g n l) o a (left.opens g n c b.0) (left.opens g n l b.1) b.2
  entered_in_order g n (one_of o u) a b =
      with_ways_in_order (enter_outer g n o) (enter_outer g n u) (entered_in_order g n o a b.0) (entered_in_order g n u a b.1)

  skipped_in_order : (g : List Definition) (n : Name) (o : Outer) → ContentsAreInOrder g → OuterIsInOrder o → AreInOrder (skip_outer g n o)
  skipped_in_order g n (document p) a b = at_top_in_order g (skip_opens g n p) a (left.skip_opens g n p b)
  skipped_in_order g n (inside c l v o) a b =
      inside_in_order g (skip_opens g n c) (skip_opens g n l) o a (left.skip_opens g n c b.0) (left.skip_opens g n l b.1) b.2
  skipped_in_order g n (one_of o u) a b =
      with_ways_in_order (skip_outer g n o) (skip_outer g n u) (skipped_in_order g n o a b.0) (skipped_in_order g n u a b.1)

  -- ---- all steps

  pub step_in_order : (s : Step) → StepIsInOrder s → (w : Way) → WayIsInOrder w → AreInOrder (way_step s w)
  step_in_order (step.Enter defs name) g (among o) a = entered_in_order _ name.now o g a
  step_in_order (step.Enter defs name) g (in_tag p o) a = tt
  step_in_order (step.EnterSkip defs name) g (among o) a = skipped_in_order _ name.now o g a
  step_in_order (step.EnterSkip defs name) g (in_tag p o) a = tt
  step_in_order (step.Attribute name value) g (among o) a = tt
  step_in_order (step.Attribute name value) g (in_tag p o) a = tag_in_order _ o (left.after_attribute name.now value.now p a.0) a.1
  step_in_order (step.AttributeAny name) g (among o) a = tt
  step_in_order (step.AttributeAny name) g (in_tag p o) a = tag_in_order _ o (left.after_any_attribute name.now p a.0) a.1
  step_in_order step.TagEnd g (among o) a = tt
  step_in_order step.TagEnd g (in_tag p o) a = among_in_order (children_of p o) (children_in_order p o a.0 a.1)
  step_in_order step.TagEndMissing g (among o) a = tt
  step_in_order step.TagEndMissing g (in_tag p o) a = among_in_order (children_of (drop p) o) (children_in_order (drop p) o (left.drop p a.0) a.1)
  step_in_order (step.Chars text) g (among o) a = chars_in_order text.now o a
  step_in_order (step.Chars text) g (in_tag p o) a = tt
  step_in_order step.CharsAny g (among o) a = any_string_in_order o a
  step_in_order step.CharsAny g (in_tag p o) a = tt
  step_in_order step.Leave g (among o) a = outside_in_order o a
  step_in_order step.Leave g (in_tag p o) a = tt
  step_in_order step.LeaveSkip g (among o) a = further_in_order o a
  step_in_order step.LeaveSkip g (in_tag p o) a = tt
