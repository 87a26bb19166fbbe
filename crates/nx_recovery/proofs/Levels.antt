-- The levels over residuals tell those of the definition.
use Rattle.std.proofs.Common.{◌≡◌, ℕ, Bool, true, false, List, [], ◌∷◌, ◌++◌, length, cond, ◌+◌, ◌≤◌, Option, Some, None, refl, sym, ap, ◌∙◌, arith, subst}
use Rattle.std.specs.Prelude.{◌↔◌, is_some}
use Rattle.std.proofs.lemmas.List.Sums.{sum_by-cons}
use Rattle.nx_base.specs.Tokens.{tokens_of}
use Rattle.nx_base.specs.declared.fault.Span.{Span}
use Rattle.nx_base.specs.declared.name.Name.{Name}
use Rattle.nx_events.specs.Balance.{is_enter, is_leave, entered, left}
use Rattle.nx_events.specs.Items.{first_state}
use Rattle.nx_events.specs.Texts.{ItemsAreText}
use Rattle.nx_events.specs.declared.flaw.Flaw.{Flaw}
use Rattle.nx_events.specs.declared.item.Event.{Event}
use Rattle.nx_events.specs.declared.item.Event.TheVariants.{Leave}
use Rattle.nx_events.specs.declared.item.Item.{Item}
use Rattle.nx_events.specs.declared.item.Item.TheVariants as items
use Rattle.nx_events.proofs.Balance.{enters_and_leaves_balance}
use Rattle.rng_core.specs.Patterns.{Language}
use Rattle.rng_kept.specs.Live.{AreLive, IsLive}
use Rattle.nx_recover.specs.Frames.{Frame, document_frame}
use Rattle.nx_recover.specs.Items.{form_along}
use Rattle.nx_recover.specs.Nesting as nesting
use Rattle.nx_recover.specs.Nesting.{LevelsAfter}
use Rattle.nx_recover.specs.RecoverRules.{first_levels, levels_behind}
use Rattle.nx_recover.specs.Table.{Form, done_by}
use Rattle.nx_recover.specs.declared.levels.Open.{Open}
use Rattle.nx_recover.specs.declared.levels.Open.TheVariants.{In, Begins, Lost}
use Rattle.nx_recovery.specs.Levels.{LevelsBehind, no_item, an_event, a_fault, IsLostInside, tag_after, tag_behind, own_elements, StandsHere, StandAround, none_around, TellLevels, LevelsAreTold, items_through, StatesTellLevels, LevelsAreOne, CanEnd, EndsAreOfElements}
use Rattle.nx_recovery.proofs.Tags.{InTags, text_in_tags}
use Rattle.nx_recovery.proofs.Standing.{document_stands}
use Rattle.nx_recovery.proofs.Events.{recovers_to}
use Rattle.nx_recovery.proofs.Uniqueness.{one_event}
use Rattle.nx_recovery.proofs.Folding.{tokens_fold}
use Rattle.nx_recovery.proofs.Along.{text_items}

-- ---- nothing goes on in lost elements, and in others something does, here and around

AreNested : Bool → List (Open Frame) → Type 0
AreNested some [] = some ≡ true
AreNested some (In n ∷ os) = (some ≡ true) × AreNested some os
AreNested some (Begins n around ∷ os) = (some ≡ true) × AreNested (is_some around) os
AreNested some (Lost around ∷ os) = (some ≡ false) × AreNested (is_some around) os

nested_after : {g : Language} {here next : Option Frame} {os behind : List (Open Frame)} {e : Event} {w : Option Flaw} →
    LevelsAfter g here os e next behind w → AreNested (is_some here) os → AreNested (is_some next) behind
unfolding AreNested
nested_after (nesting.enters r) h = (refl, h)
nested_after (nesting.enters_own r) h = (refl, h)
nested_after (nesting.enters_unknown r) h = (refl, h)
nested_after (nesting.attribute r) h = h
nested_after (nesting.tag_end r) h = h
nested_after (nesting.text r) h = h
nested_after (nesting.leaves r) h = h.1
nested_after (nesting.leaves_own r) h = h.1
nested_after (nesting.enters_known k) h = (refl, h)
nested_after (nesting.enters_lost k) h = (refl, h)
nested_after nesting.attribute_lost h = h
nested_after nesting.tag_end_lost h = h
nested_after nesting.text_lost h = h
nested_after nesting.loses_nameless h = (refl, h)
nested_after nesting.leaves_lost h = h.1
nested_after nesting.leaves_nothing h = h
nested_after nesting.leaves_nowhere h = h.1
nested_after nesting.leaves_own_nowhere h = h.1

nested_behind : {g : Language} {here last : Option Frame} {os around : List (Open Frame)} {all : List Item} →
    LevelsBehind g here os all last around → AreNested (is_some here) os → AreNested (is_some last) around
nested_behind no_item h = h
nested_behind (an_event next behind w after more) h = nested_behind more (nested_after after h)
nested_behind (a_fault more) h = nested_behind more h

none_some : {f : Frame} → Some f ≡ None → ⊥
none_some e = cc

lost_exactly : (here : Option Frame) (os : List (Open Frame)) → AreNested (is_some here) os → here ≡ None ↔ IsLostInside os
unfolding AreNested
lost_exactly None [] h = cc
lost_exactly None (In n ∷ os) h = let e = h.0 in cc
lost_exactly None (Begins n around ∷ os) h = let e = h.0 in cc
lost_exactly None (Lost around ∷ os) h = (λ e. tt, λ l. refl)
lost_exactly (Some f) [] h = (none_some, λ l. absurd l)
lost_exactly (Some f) (In n ∷ os) h = (none_some, λ l. absurd l)
lost_exactly (Some f) (Begins n around ∷ os) h = (none_some, λ l. absurd l)
lost_exactly (Some f) (Lost around ∷ os) h = let e = h.0 in cc

-- ---- what is left stands

record ToldFrom (g : Language) (tag : Option (List Name)) (here : Option Frame) (os : List (Open Frame)) (all : List Item) (l : Form) : Type 0 where
  last : Option Frame
  around : List (Open Frame)
  behind : LevelsBehind g here os all last around
  stands : StandsHere g tag (own_elements around) last l.here
  stack : StandAround g around l.elements

told_from : (g : Language) → AreLive g.definitions → (tag : Option (List Name)) (here : Option Frame) (os : List (Open Frame)) (l : Form) (front rest : List Item) →
    InTags tag (front ++ rest) → ItemsAreText (front ++ rest) → StandsHere g tag (own_elements os) here l.here → StandAround g os l.elements →
    ToldFrom g (tag_behind tag front) here os front (form_along g l front)
unfolding form_along
told_from g live tag here os l [] rest i t s a = record { last = here; around = os; behind = no_item; stands = s; stack = a }
told_from g live tag here os l (items.Event e span ∷ front) rest i t s a =
    let w = recovers_to g live tag here os l e i.0 t.0 s a in
    let more = told_from g live (tag_after tag e) w.next w.behind (done_by g l e).form front rest i.1 t.1 w.stands w.around in
    record { last = more.last; around = more.around; behind = an_event w.next w.behind (done_by g l e).flaw w.recovers more.behind; stands = more.stands; stack = more.stack }
told_from g live tag here os l (items.Fault x ∷ front) rest i t s a =
    let more = told_from g live tag here os l front rest i t.1 s a in
    record { last = more.last; around = more.around; behind = a_fault more.behind; stands = more.stands; stack = more.stack }

-- of any items in order whose strings are UTF-8, and so of those of a tag that isn't closed yet
pub told_along : (g : Language) → IsLive g → (front rest : List Item) → InTags None (front ++ rest) → ItemsAreText (front ++ rest) →
    TellLevels g front (levels_behind (Some g) (first_levels (Some g)) front)
unfolding AreNested
told_along g live front rest i t =
    let w = told_from g live.definitions None (Some (document_frame g)) [] (first_levels (Some g)) front rest i t (document_stands live.start) none_around in
    record { here = w.last; elements = w.around; behind = w.behind; inside = w.stands; around = w.stack; lost = lost_exactly w.last w.around (nested_behind w.behind refl) }

pub levels_are_told : LevelsAreTold
levels_are_told g live text utf8 front rest e =
    told_along g live front rest (subst (λ (all : List Item). InTags None all) e (text_in_tags text)) (subst (λ (all : List Item). ItemsAreText all) e (text_items text utf8))

pub states_tell_levels : StatesTellLevels
states_tell_levels g live text utf8 front rest e =
    let w = tokens_fold (Some g) text utf8 front rest e in
    subst (λ (l : Form). TellLevels g (items_through first_state front) l) w.levels (levels_are_told g live text utf8 (items_through first_state front) w.behind w.part)

-- ---- they are one

moved_behind : {g : Language} {here other last : Option Frame} {os others around : List (Open Frame)} {all : List Item} →
    here ≡ other → os ≡ others → LevelsBehind g here os all last around → LevelsBehind g other others all last around
moved_behind {g = g} {other = other} {last = last} {os = os} {around = around} {all = all} e f b =
    subst (λ (l : List (Open Frame)). LevelsBehind g other l all last around) f (subst (λ (h : Option Frame). LevelsBehind g h os all last around) e b)

pub one_behind : {g : Language} {here one other : Option Frame} {os around others : List (Open Frame)} {all : List Item} →
    LevelsBehind g here os all one around → LevelsBehind g here os all other others → (one ≡ other) × (around ≡ others)
one_behind no_item no_item = (refl, refl)
one_behind (an_event next behind w a more) (an_event next' behind' v b rest) =
    let r = one_event a b in
    one_behind more (moved_behind (sym r.here) (sym r.elements) rest)
one_behind (a_fault more) (a_fault rest) = one_behind more rest

pub levels_are_one : LevelsAreOne
levels_are_one g here one other os around others all a b = one_behind a b

-- ---- an element is open where one ends

-- as many are open behind an event as before it, with those that it enters, and without those that it leaves
pub depth_after : {g : Language} {here next : Option Frame} {os behind : List (Open Frame)} {e : Event} {w : Option Flaw} (s : Span) → LevelsAfter g here os e next behind w →
    cond (is_leave (items.Event e s)) 1 0 ≤ length os + cond (is_enter (items.Event e s)) 1 0 →
    length behind + cond (is_leave (items.Event e s)) 1 0 ≡ length os + cond (is_enter (items.Event e s)) 1 0
depth_after s (nesting.enters r) h = omega arith
depth_after s (nesting.enters_own r) h = omega arith
depth_after s (nesting.enters_unknown r) h = omega arith
depth_after s (nesting.attribute r) h = omega arith
depth_after s (nesting.tag_end r) h = omega arith
depth_after s (nesting.text r) h = omega arith
depth_after s (nesting.leaves r) h = omega arith
depth_after s (nesting.leaves_own r) h = omega arith
depth_after s (nesting.enters_known k) h = omega arith
depth_after s (nesting.enters_lost k) h = omega arith
depth_after s nesting.attribute_lost h = omega arith
depth_after s nesting.tag_end_lost h = omega arith
depth_after s nesting.text_lost h = omega arith
depth_after s nesting.loses_nameless h = omega arith
depth_after s nesting.leaves_lost h = omega arith
depth_after s nesting.leaves_nothing h = omega arith
depth_after s nesting.leaves_nowhere h = omega arith
depth_after s nesting.leaves_own_nowhere h = omega arith

pub entered-cons : (x : Item) (xs : List Item) → entered (x ∷ xs) ≡ cond (is_enter x) 1 0 + entered xs
entered-cons x xs = sum_by-cons (λ y. cond (is_enter y) 1 0) x xs

pub left-cons : (x : Item) (xs : List Item) → left (x ∷ xs) ≡ cond (is_leave x) 1 0 + left xs
left-cons x xs = sum_by-cons (λ y. cond (is_leave y) 1 0) x xs

-- no front of these items leaves more elements than are open with those that it enters
unfoldable pub AreOpenFor : List Item → ℕ → Type 0
AreOpenFor all depth = (front rest : List Item) → all ≡ front ++ rest → left front ≤ depth + entered front

pub open_here : (x : Item) (all : List Item) (depth : ℕ) → AreOpenFor (x ∷ all) depth → cond (is_leave x) 1 0 ≤ depth + cond (is_enter x) 1 0
unfolding AreOpenFor
open_here x all depth h =
    let k = h (x ∷ []) all refl in
    let more = entered-cons x [] in
    let less = left-cons x [] in
    let none : entered [] ≡ 0 = refl in
    let nothing : left [] ≡ 0 = refl in
    omega arith

pub open_behind : (x : Item) (all : List Item) (depth behind : ℕ) → behind + cond (is_leave x) 1 0 ≡ depth + cond (is_enter x) 1 0 →
    AreOpenFor (x ∷ all) depth → AreOpenFor all behind
unfolding AreOpenFor
open_behind x all depth behind e h front rest f =
    let k = h (x ∷ front) rest (ap (λ (xs : List Item). x ∷ xs) f) in
    let more = entered-cons x front in
    let less = left-cons x front in
    omega arith

pub open_along : {g : Language} {here last : Option Frame} {os around : List (Open Frame)} {front : List Item} (rest : List Item) →
    LevelsBehind g here os front last around → AreOpenFor (front ++ rest) (length os) → AreOpenFor rest (length around)
open_along rest no_item h = h
open_along {os = os} rest (an_event {e = e} {s = s} {all = all} next behind w after more) h =
    open_along rest more (open_behind (items.Event e s) (all ++ rest) (length os) (length behind) (depth_after s after (open_here (items.Event e s) (all ++ rest) (length os) h)) h)
open_along {os = os} rest (a_fault {x = x} {all = all} more) h = open_along rest more (open_behind (items.Fault x) (all ++ rest) (length os) (length os) refl h)

can_end : (here : Option Frame) (os : List (Open Frame)) (s : Span) (rest : List Item) →
    AreNested (is_some here) os → AreOpenFor (items.Event Leave s ∷ rest) (length os) → CanEnd here os
unfolding AreNested
can_end here [] s rest h k = let less = open_here (items.Event Leave s) rest 0 k in absurd (none_less less)
  where
    none_less : 1 ≤ 0 + 0 → ⊥
    none_less e = omega arith
can_end (Some f) (In n ∷ os) s rest h k = refl
can_end (Some f) (Begins n around ∷ os) s rest h k = refl
can_end None (In n ∷ os) s rest h k = let e = h.0 in cc
can_end None (Begins n around ∷ os) s rest h k = let e = h.0 in cc
can_end here (Lost around ∷ os) s rest h k = tt

pub ends_are_of_elements : EndsAreOfElements
unfolding AreNested AreOpenFor
ends_are_of_elements g text front rest s e here os behind =
    can_end here os s rest (nested_behind behind refl)
    (open_along (items.Event Leave s ∷ rest) behind (λ some others f. let k = (enters_and_leaves_balance (tokens_of text) (length text)).1 some others (e ∙ f) in omega arith))
