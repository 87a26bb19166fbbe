-- Behind items without a fault the document's frame goes on, and keeps the list of their events alone.
use Rattle.std.proofs.Common.{◌≡◌, ℕ, suc, List, [], ◌∷◌, ◌++◌, length, map, cond, ◌+◌, ◌≤◌, Option, Some, None, refl, ap, sym, subst, ◌∙◌, arith, append_assoc, append-nil}
use Rattle.nx_base.specs.Trees as trees
use Rattle.nx_base.specs.Trees.{alone, flat}
use Rattle.nx_base.specs.declared.fault.Fault.{Fault}
use Rattle.nx_base.specs.declared.fault.Span.{Span}
use Rattle.nx_base.specs.declared.name.Name.{Name}
use Rattle.nx_events.specs.Among.{events_among}
use Rattle.nx_events.specs.Balance.{is_enter, is_leave}
use Rattle.nx_events.specs.TreeEvents.{as_event}
use Rattle.nx_events.specs.declared.flaw.Flaw.{Flaw}
use Rattle.nx_events.specs.declared.item.Event.{Event}
use Rattle.nx_events.specs.declared.item.Item.{Item}
use Rattle.nx_events.specs.declared.item.Item.TheVariants as items
use Rattle.rng_core.specs.Patterns.{Language}
use Rattle.rng_core.specs.Validity.{Viable}
use Rattle.rng_kept.specs.Events.{IsAmong, first, later}
use Rattle.rng_kept.specs.KeptLists.{Kept}
use Rattle.rng_kept.specs.Moves.{Move, take, adds_event, attributes_of}
use Rattle.nx_recover.specs.Behind.{LevelsBehind, no_item, an_event}
use Rattle.nx_recover.specs.Completing.{IsErrorFree, Closes}
use Rattle.nx_recover.specs.Faults.{flaw_at, Along, at_end, by_event, by_fault}
use Rattle.nx_recover.specs.Frames.{Frame, moved, Can}
use Rattle.nx_recover.specs.Nesting as nesting
use Rattle.nx_recover.specs.Nesting.{LevelsAfter}
use Rattle.nx_recover.specs.Offered.{IsSomeOpen}
use Rattle.nx_recover.specs.Outcomes as rows
use Rattle.nx_recover.specs.declared.levels.Open.{Open}
use Rattle.nx_recover.specs.declared.levels.Open.TheVariants.{In, Begins, Lost}
use Rattle.nx_recovery.specs.Levels.{tag_after, tag_behind}
use Rattle.nx_recovery.proofs.Levels.{AreOpenFor, open_here, open_behind, depth_after}
use Rattle.nx_recovery.proofs.Validity.{Balanced, children_balanced, same_frame, nothing_first, first_event, admits, KeepsOnly, keeps_next}

-- each open element is one of the frame here
abbrev pub AllInside : List (Open Frame) → Type 0
AllInside [] = Unit {0}
AllInside (In n ∷ os) = AllInside os
AllInside (Begins n around ∷ os) = ⊥
AllInside (Lost around ∷ os) = ⊥

-- the names of the tag so far are attributes among the moves
abbrev pub HasTag : Option (List Name) → List Move → Type 0
HasTag None h = Unit {0}
HasTag (Some l) h = (n : Name) → IsAmong n l → IsAmong n (attributes_of h)

tag_on : (tag : Option (List Name)) (x : trees.Event) (h : List Move) → HasTag tag h → HasTag (tag_after tag (as_event x)) (take x ∷ h)
tag_on tag (trees.Enter n) h t = λ m i. elim i [ ]
tag_on None (trees.Att n v) h t = tt
tag_on (Some l) (trees.Att n v) h t = more
  where
    more : (m : Name) → IsAmong m (n ∷ l) → IsAmong m (n ∷ attributes_of h)
    more m (first e) = first e
    more m (later i) = later (t m i)
tag_on tag trees.TagEnd h t = tt
tag_on tag (trees.Chars u) h t = tt
tag_on tag trees.Leave h t = tt

-- the moves of these events behind some
unfoldable pub moved_by : List trees.Event → List Move → List Move
moved_by [] h = h
moved_by (e ∷ k) h = moved_by k (take e ∷ h)

module _ (g : Language) where
  -- ---- one event

  record Steps (f : Frame) (os : List (Open Frame)) (x : trees.Event) (next : Option Frame) (behind : List (Open Frame)) : Type 0 where
    can : Can g f (take x)
    next_is : next ≡ Some (moved f (take x))
    inside : AllInside behind
    balance : (more : List trees.Event) → Balanced (x ∷ more) (length os) → Balanced more (length behind)

  steps : {f : Frame} {os behind : List (Open Frame)} {next : Option Frame} {w : Option Flaw} (x : trees.Event) (s : Span) → AllInside os →
      cond (is_leave (items.Event (as_event x) s)) 1 0 ≤ length os + cond (is_enter (items.Event (as_event x) s)) 1 0 →
      LevelsAfter g (Some f) os (as_event x) next behind w → w ≡ None → Steps f os x next behind
  steps (trees.Enter n) s i b (nesting.enters r) e = let a = admits g r e in record { can = a.can; next_is = same_frame a.outcome; inside = i; balance = λ more h. h }
  steps (trees.Enter n) s i b (nesting.enters_own r) e = let o = (admits g r e).outcome in cc
  steps (trees.Enter n) s i b (nesting.enters_unknown r) e = let o = (admits g r e).outcome in cc
  steps (trees.Att n v) s i b (nesting.attribute r) e = let a = admits g r e in record { can = a.can; next_is = same_frame a.outcome; inside = i; balance = λ more h. h }
  steps trees.TagEnd s i b (nesting.tag_end r) e = let a = admits g r e in record { can = a.can; next_is = same_frame a.outcome; inside = i; balance = λ more h. h }
  steps (trees.Chars t) s i b (nesting.text r) e = let a = admits g r e in record { can = a.can; next_is = same_frame a.outcome; inside = i; balance = λ more h. h }
  steps trees.Leave s i b (nesting.leaves {os = os} (rows.complete a)) e =
      record { can = a; next_is = refl; inside = i; balance = λ more h. let same : h.0 ≡ length os = inner (length os) h.0 h.1 in subst (λ k. Balanced more k) same h.2 }
    where
      inner : (m o : ℕ) → suc m ≡ suc o → o ≡ m
      inner m o e = omega arith
  steps trees.Leave s i b (nesting.leaves (rows.incomplete names a c)) e = cc
  steps trees.Leave s i b (nesting.leaves_own c) e = absurd i
  steps trees.Leave s i b nesting.leaves_lost e = absurd i
  steps trees.Leave s i b nesting.leaves_nothing e = absurd (none b)
    where
      none : 1 ≤ 0 + 0 → ⊥
      none e = omega arith

  -- ---- all items

  pub record Goes (here : Option Frame) (os : List (Open Frame)) (all : List Item) (f : Frame) (k es : List trees.Event) : Type 0 where
    pub last : Frame
    pub around : List (Open Frame)
    pub behind : LevelsBehind g here os all (Some last) around
    pub start : last.start ≡ f.start
    pub moves : last.moves ≡ moved_by es f.moves
    pub kept : Kept g last.start last.moves (k ++ es)
    pub only : KeepsOnly g last (k ++ es)
    pub inside : AllInside around
    pub balance : (more : List trees.Event) → Balanced (es ++ more) (length os) → Balanced more (length around)
    pub tags : (tag : Option (List Name)) → HasTag tag f.moves → HasTag (tag_behind tag all) last.moves

  pub goes : {here : Option Frame} {os : List (Open Frame)} {all : List Item} {faults : List Fault} → Along g here os all faults → faults ≡ [] →
      (f : Frame) → here ≡ Some f → (es : List trees.Event) → events_among all ≡ map as_event es → AllInside os → AreOpenFor all (length os) →
      (k : List trees.Event) → Kept g f.start f.moves k → KeepsOnly g f k → Goes here os all f k es
  unfolding moved_by
  goes {here = here} {os = os} at_end e f h [] m i b k kept only = record {
    last = f;
    around = os;
    behind = subst (λ (o : Option Frame). LevelsBehind g here os [] o os) h no_item;
    start = refl;
    moves = refl;
    kept = subst (λ (l : List trees.Event). Kept g f.start f.moves l) (sym (append-nil k)) kept;
    only = subst (λ (l : List trees.Event). KeepsOnly g f l) (sym (append-nil k)) only;
    inside = i;
    balance = λ more h. h;
    tags = λ tag t. t;
  }
  goes at_end e f h (x ∷ es) m i b k kept only = cc
  goes (by_event {s = s} {faults = faults} next behind w l a) e f h [] m i b k kept only = cc
  goes {here = here} (by_event {os = os} {e = event} {s = s} {all = all} {faults = faults} next behind w l a) e f h (x ∷ es) m i b k kept only =
      let n = nothing_first s w faults e in
      let one = first_event event (events_among all) x es m in
      let there : LevelsAfter g (Some f) os (as_event x) next behind w =
      subst (λ (y : Event). LevelsAfter g (Some f) os y next behind w) one.0 (subst (λ (o : Option Frame). LevelsAfter g o os event next behind w) h l) in
      let open_one = open_here (items.Event event s) all (length os) b in
      let bound : cond (is_leave (items.Event (as_event x) s)) 1 0 ≤ length os + cond (is_enter (items.Event (as_event x) s)) 1 0 =
      subst (λ (y : Event). cond (is_leave (items.Event y s)) 1 0 ≤ length os + cond (is_enter (items.Event y s)) 1 0) one.0 open_one in
      let t = steps x s i bound there n.0 in
      let next_kept : Kept g f.start (take x ∷ f.moves) (k ++ x ∷ []) = (k, x ∷ [], kept, adds_event, refl, tt) in
      let r = goes a n.1 (moved f (take x)) t.next_is es one.1 t.inside (open_behind (items.Event event s) all (length os) (length behind) (depth_after s l open_one) b) (k ++ x ∷ []) next_kept (keeps_next g f x k only) in
      let whole : (k ++ x ∷ []) ++ es ≡ k ++ x ∷ es = append_assoc k (x ∷ []) es in
      record {
        last = r.last;
        around = r.around;
        behind = an_event next behind w l r.behind;
        start = r.start;
        moves = r.moves;
        kept = subst (λ (y : List trees.Event). Kept g r.last.start r.last.moves y) whole r.kept;
        only = subst (λ (y : List trees.Event). KeepsOnly g r.last y) whole r.only;
        inside = r.inside;
        balance = λ more h. r.balance more (t.balance (es ++ more) h);
        tags = λ tag h. r.tags (tag_after tag event) (subst (λ (y : Event). HasTag (tag_after tag y) (take x ∷ f.moves)) (sym one.0) (tag_on tag x f.moves h));
      }
  goes (by_fault a) e f h es m i b k kept only = cc

  -- ---- what may follow

  -- what is admitted behind the list is what completes it
  pub completes : (f : Frame) (k : List trees.Event) (x : trees.Event) → f.start ≡ g.start → KeepsOnly g f k → Can g f (take x) → Viable g.definitions g.start (k ++ x ∷ [])
  completes f k x s only c =
      let is : c.kept ≡ k ++ x ∷ [] = keeps_next g f x k only c.kept c.is_kept in
      subst (λ p. Viable g.definitions p (k ++ x ∷ [])) s (subst (λ v. Viable g.definitions f.start v) is c.viable)

  pub admitted : (f : Frame) (k : List trees.Event) (x : trees.Event) → f.start ≡ g.start → Kept g f.start f.moves k → Viable g.definitions g.start (k ++ x ∷ []) → Can g f (take x)
  admitted f k x s kept v = record {
    kept = k ++ x ∷ [];
    is_kept = (k, x ∷ [], kept, adds_event, refl, tt);
    viable = subst (λ p. Viable g.definitions p (k ++ x ∷ [])) (sym s) v;
  }

  -- where an element may end one is open
  pub closes_one : (k : List trees.Event) (os : List (Open Frame)) → ((more : List trees.Event) → Balanced (k ++ more) 0 → Balanced more (length os)) → Closes g k → IsSomeOpen os
  closes_one k os balance c =
      let v = c.is_rest.valid in
      let whole : k ++ trees.Leave ∷ c.rest ≡ flat v.tree = sym (append_assoc k (trees.Leave ∷ []) c.rest) ∙ v.events_are in
      let b : Balanced (k ++ trees.Leave ∷ c.rest) 0 = subst (λ (l : List trees.Event). Balanced l 0) (sym whole) (children_balanced (alone v.tree) [] 0 refl) in
      some os (balance (trees.Leave ∷ c.rest) b)
    where
      some : (os : List (Open Frame)) → Balanced (trees.Leave ∷ c.rest) (length os) → IsSomeOpen os
      some [] b = let z : 0 ≡ suc b.0 = b.1 in cc
      some (o ∷ os) b = tt

-- ---- a front of items without faults has none

along_first : {g : Language} {here : Option Frame} {os : List (Open Frame)} {faults : List Fault} (xs ys : List Item) → Along g here os (xs ++ ys) faults → faults ≡ [] → Along g here os xs []
along_first [] ys a e = at_end
along_first {g = g} {here = here} {os = os} (items.Event event s ∷ xs) ys (by_event {faults = faults} next behind w l a) e =
    let n = nothing_first s w faults e in
    let none : flaw_at s w ++ [] ≡ [] = ap (λ (o : Option Flaw). flaw_at s o ++ []) n.0 in
    subst (λ (fs : List Fault). Along g here os (items.Event event s ∷ xs) fs) none (by_event next behind w l (along_first xs ys a n.1))
along_first (items.Fault x ∷ xs) ys (by_fault a) e = cc

record Front (xs : List Event) (k : List trees.Event) : Type 0 where
  front : List trees.Event
  is : xs ≡ map as_event front

front_of : (xs ys : List Event) (k : List trees.Event) → xs ++ ys ≡ map as_event k → Front xs k
front_of [] ys k e = record { front = []; is = refl }
front_of (x ∷ xs) ys [] e = cc
front_of (x ∷ xs) ys (z ∷ k) e =
    let n = first_event x (xs ++ ys) z k e in
    let w = front_of xs ys k n.1 in
    record { front = z ∷ w.front; is = ap (λ (y : Event). y ∷ xs) n.0 ∙ ap (λ (l : List Event). as_event z ∷ l) w.is }

events_both : (xs ys : List Item) → events_among (xs ++ ys) ≡ events_among xs ++ events_among ys
events_both [] ys = refl
events_both (items.Event e s ∷ xs) ys = ap (λ (l : List Event). e ∷ l) (events_both xs ys)
events_both (items.Fault x ∷ xs) ys = events_both xs ys

pub record FirstFree (g : Language) (xs : List Item) : Type 0 where
  pub events : List trees.Event
  pub free : IsErrorFree g xs events

pub first_free : {g : Language} (xs ys : List Item) (k : List trees.Event) → IsErrorFree g (xs ++ ys) k → FirstFree g xs
first_free xs ys k e =
    let f = front_of (events_among xs) (events_among ys) k (sym (events_both xs ys) ∙ e.events) in
    record { events = f.front; free = record { faultless = along_first xs ys e.faultless refl; events = f.is } }
