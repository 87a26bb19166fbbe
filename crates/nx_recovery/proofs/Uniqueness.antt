-- A text has one list of faults at most: at each event one row of the table applies.
use Rattle.std.proofs.Common.{◌≡◌, List, ◌∷◌, ◌++◌, Option, Some, None, refl, sym, ap, subst, ◌∙◌}
use Rattle.nx_base.specs.declared.name.Name.{Name}
use Rattle.nx_base.specs.declared.fault.Fault.{Fault}
use Rattle.nx_base.specs.declared.fault.Kind.TheVariants as kinds
use Rattle.nx_base.specs.Trees as trees
use Rattle.rng_core.specs.Patterns.{Language}
use Rattle.nx_events.specs.declared.flaw.Flaw.{Flaw}
use Rattle.nx_events.specs.declared.item.Event.{Event}
use Rattle.nx_events.specs.declared.item.Item.{Item}
use Rattle.rng_live.proofs.OrderedNames.{to_among, from_among, one_list}
use Rattle.nx_recover.specs.Details.{names_text, needs_text}
use Rattle.nx_recover.specs.Frames.{Frame, AreRequiredNames, AreNeededNames}
use Rattle.nx_recover.specs.Outcomes as table
use Rattle.nx_recover.specs.Outcomes.{Outcome, goes_on, begins_frame, loses, flaw, Recovers, EndsElement, complete, incomplete}
use Rattle.nx_recover.specs.Nesting as nesting
use Rattle.nx_recover.specs.Nesting.{LevelsAfter}
use Rattle.nx_recover.specs.Faults.{flaw_at, Along, at_end, by_event, by_fault}
use Rattle.nx_recover.specs.declared.levels.Open.{Open}
use Rattle.nx_recovery.specs.Uniqueness.{RecoveryIsOne}

-- ---- one row

pub record SameRow (o u : Outcome) (w v : Option Flaw) : Type 0 where
  pub outcome : o ≡ u
  pub flaw : w ≡ v

same_row : {o : Outcome} {w : Option Flaw} → SameRow o o w w
same_row = record { outcome = refl; flaw = refl }

module _ {g : Language} {f : Frame} where
  same_required : (names others : List Name) → AreRequiredNames g f names → AreRequiredNames g f others → names ≡ others
  same_required names others a b =
      one_list names others a.sorted b.sorted
      (λ n i. to_among others n ((b.exact n).1 ((a.exact n).0 (from_among names n i))))
      (λ n i. to_among names n ((a.exact n).1 ((b.exact n).0 (from_among others n i))))

  same_needed : (skip : Option Name) (names others : List Name) → AreNeededNames g f skip names → AreNeededNames g f skip others → names ≡ others
  same_needed skip names others a b =
      one_list names others a.sorted b.sorted
      (λ n i. to_among others n ((b.exact n).1 ((a.exact n).0 (from_among names n i))))
      (λ n i. to_among names n ((a.exact n).1 ((b.exact n).0 (from_among others n i))))

  pub one_row : {e : trees.Event} {o u : Outcome} {w v : Option Flaw} → Recovers g f e o w → Recovers g f e u v → SameRow o u w v
  one_row (table.admitted a) (table.admitted b) = same_row
  one_row (table.admitted a) (table.not_yet names b c d) = absurd (b a)
  one_row (table.admitted a) (table.not_allowed b c d) = absurd (b a)
  one_row (table.admitted a) (table.unknown b c d) = absurd (b a)
  one_row (table.admitted a) (table.bad_value b c) = absurd (b a)
  one_row (table.admitted a) (table.unknown_attribute b c) = absurd (b a)
  one_row (table.admitted a) (table.lacks_attributes names b c) = absurd (b a)
  one_row (table.admitted a) (table.bad_text b c) = absurd (b a)
  one_row (table.admitted a) (table.text_not_allowed b c) = absurd (b a)
  one_row (table.not_yet names b c d) (table.admitted a) = absurd (b a)
  one_row {e = trees.Enter n} (table.not_yet names b c d) (table.not_yet others h k l) =
      record { outcome = refl; flaw = ap (λ (ns : List Name). flaw kinds.NotYet (needs_text n ns)) (same_needed (Some n) names others d l) }
  one_row (table.not_yet names b c d) (table.not_allowed h e f) = absurd (e c)
  one_row (table.not_yet names b c d) (table.unknown h e f) = absurd (e c)
  one_row (table.not_allowed b c d) (table.admitted a) = absurd (b a)
  one_row (table.not_allowed b c d) (table.not_yet names a e h) = absurd (c e)
  one_row (table.not_allowed b c d) (table.not_allowed a e f) = same_row
  one_row (table.not_allowed b c d) (table.unknown a e f) = absurd (f d)
  one_row (table.unknown b c d) (table.admitted a) = absurd (b a)
  one_row (table.unknown b c d) (table.not_yet names a e h) = absurd (c e)
  one_row (table.unknown b c d) (table.not_allowed a e f) = absurd (d f)
  one_row (table.unknown b c d) (table.unknown a e f) = same_row
  one_row (table.bad_value b c) (table.admitted a) = absurd (b a)
  one_row (table.bad_value b c) (table.bad_value a d) = same_row
  one_row (table.bad_value b c) (table.unknown_attribute a d) = absurd (d c)
  one_row (table.unknown_attribute b c) (table.admitted a) = absurd (b a)
  one_row (table.unknown_attribute b c) (table.bad_value a d) = absurd (c d)
  one_row (table.unknown_attribute b c) (table.unknown_attribute a d) = same_row
  one_row (table.lacks_attributes names b c) (table.admitted a) = absurd (b a)
  one_row (table.lacks_attributes names b c) (table.lacks_attributes others a d) =
      record { outcome = refl; flaw = ap (λ (ns : List Name). flaw kinds.MissingAttributes (names_text ns)) (same_required names others c d) }
  one_row (table.bad_text b c) (table.admitted a) = absurd (b a)
  one_row (table.bad_text b c) (table.bad_text a d) = same_row
  one_row (table.bad_text b c) (table.text_not_allowed a d) = absurd (d c)
  one_row (table.text_not_allowed b c) (table.admitted a) = absurd (b a)
  one_row (table.text_not_allowed b c) (table.bad_text a d) = absurd (c d)
  one_row (table.text_not_allowed b c) (table.text_not_allowed a d) = same_row

-- ---- one outcome of each event

pub record SameLevels (next other : Option Frame) (behind others : List (Open Frame)) (w v : Option Flaw) : Type 0 where
  pub here : next ≡ other
  pub elements : behind ≡ others
  pub flaw : w ≡ v

same_levels : {here : Option Frame} {os : List (Open Frame)} {w : Option Flaw} → SameLevels here here os os w w
same_levels = record { here = refl; elements = refl; flaw = refl }

same_stack : {next other around : Option Frame} {behind others os : List (Open Frame)} {w v : Option Flaw} →
    SameLevels next other behind others w v → SameLevels around around os os w v
same_stack r = record { here = refl; elements = refl; flaw = r.flaw }

frame_of : Frame → Outcome → Frame
frame_of f (goes_on k) = k
frame_of f begins_frame = f
frame_of f loses = f

module _ {g : Language} where
  goes_same : {f k j : Frame} {os : List (Open Frame)} {e : trees.Event} {w v : Option Flaw} → Recovers g f e (goes_on k) w → Recovers g f e (goes_on j) v → SameLevels (Some k) (Some j) os os w v
  unfolding frame_of
  goes_same {f = f} a b = let r = one_row a b in record { here = ap (λ o. Some (frame_of f o)) r.outcome; elements = refl; flaw = r.flaw }

  apart_begins : {f k : Frame} {e : trees.Event} {w v : Option Flaw} → Recovers g f e (goes_on k) w → Recovers g f e begins_frame v → ⊥
  apart_begins a b = let r = (one_row a b).outcome in cc

  apart_loses : {f k : Frame} {e : trees.Event} {w v : Option Flaw} → Recovers g f e (goes_on k) w → Recovers g f e loses v → ⊥
  apart_loses a b = let r = (one_row a b).outcome in cc

  apart_kinds : {f : Frame} {e : trees.Event} {w v : Option Flaw} → Recovers g f e begins_frame w → Recovers g f e loses v → ⊥
  apart_kinds a b = let r = (one_row a b).outcome in cc

  completes_same : {f k j : Frame} {n : Name} {os : List (Open Frame)} {w v : Option Flaw} → EndsElement g f n k w → EndsElement g f n j v → SameLevels (Some k) (Some j) os os w v
  completes_same (complete a) (complete b) = same_levels
  completes_same (complete a) (incomplete names b c) = absurd (b a)
  completes_same (incomplete names a c) (complete b) = absurd (a b)
  completes_same {n = n} (incomplete names a c) (incomplete others b d) =
      record { here = refl; elements = refl; flaw = ap (λ (ns : List Name). flaw kinds.Incomplete (needs_text n ns)) (same_needed None names others c d) }

  pub one_event : {here next other : Option Frame} {os behind others : List (Open Frame)} {e : Event} {w v : Option Flaw} →
      LevelsAfter g here os e next behind w → LevelsAfter g here os e other others v → SameLevels next other behind others w v
  one_event (nesting.enters a) (nesting.enters b) = goes_same a b
  one_event (nesting.enters a) (nesting.enters_own b) = absurd (apart_begins a b)
  one_event (nesting.enters a) (nesting.enters_unknown b) = absurd (apart_loses a b)
  one_event (nesting.enters_own a) (nesting.enters b) = absurd (apart_begins b a)
  one_event (nesting.enters_own a) (nesting.enters_own b) = record { here = refl; elements = refl; flaw = (one_row a b).flaw }
  one_event (nesting.enters_own a) (nesting.enters_unknown b) = absurd (apart_kinds a b)
  one_event (nesting.enters_unknown a) (nesting.enters b) = absurd (apart_loses b a)
  one_event (nesting.enters_unknown a) (nesting.enters_own b) = absurd (apart_kinds b a)
  one_event (nesting.enters_unknown a) (nesting.enters_unknown b) = record { here = refl; elements = refl; flaw = (one_row a b).flaw }
  one_event (nesting.attribute a) (nesting.attribute b) = goes_same a b
  one_event (nesting.tag_end a) (nesting.tag_end b) = goes_same a b
  one_event (nesting.text a) (nesting.text b) = goes_same a b
  one_event (nesting.leaves a) (nesting.leaves b) = completes_same a b
  one_event (nesting.leaves_own {os = os} a) (nesting.leaves_own b) = same_stack (completes_same {os = os} a b)
  one_event (nesting.enters_known a) (nesting.enters_known b) = same_levels
  one_event (nesting.enters_known a) (nesting.enters_lost b) = absurd (b a)
  one_event (nesting.enters_lost a) (nesting.enters_known b) = absurd (a b)
  one_event (nesting.enters_lost a) (nesting.enters_lost b) = same_levels
  one_event nesting.attribute_lost nesting.attribute_lost = same_levels
  one_event nesting.tag_end_lost nesting.tag_end_lost = same_levels
  one_event nesting.text_lost nesting.text_lost = same_levels
  one_event nesting.loses_nameless nesting.loses_nameless = same_levels
  one_event nesting.leaves_lost nesting.leaves_lost = same_levels
  one_event nesting.leaves_nothing nesting.leaves_nothing = same_levels
  one_event nesting.leaves_nowhere nesting.leaves_nowhere = same_levels
  one_event nesting.leaves_own_nowhere nesting.leaves_own_nowhere = same_levels

  moved_along : {here other : Option Frame} {os others : List (Open Frame)} {all : List Item} {faults : List Fault} →
      here ≡ other → os ≡ others → Along g here os all faults → Along g other others all faults
  moved_along {other = other} {os = os} {all = all} {faults = faults} e f a =
      subst (λ (l : List (Open Frame)). Along g other l all faults) f (subst (λ (h : Option Frame). Along g h os all faults) e a)

  pub one_along : {here : Option Frame} {os : List (Open Frame)} {all : List Item} {one other : List Fault} →
      Along g here os all one → Along g here os all other → one ≡ other
  one_along at_end at_end = refl
  one_along (by_event {s = s} {all = all} {faults = faults} next behind w l a) (by_event {faults = more} other others v m b) =
      let r = one_event l m in
      let c : Along g next behind all more = moved_along (sym r.here) (sym r.elements) b in
      ap (λ (u : Option Flaw). flaw_at s u ++ faults) r.flaw ∙ ap (λ (xs : List Fault). flaw_at s v ++ xs) (one_along a c)
  one_along (by_fault {x = x} a) (by_fault b) = ap (λ (xs : List Fault). x ∷ xs) (one_along a b)

pub recovery_is_one : RecoveryIsOne
recovery_is_one None text one other a b = a ∙ sym b
recovery_is_one (Some g) text one other a b = one_along a b
