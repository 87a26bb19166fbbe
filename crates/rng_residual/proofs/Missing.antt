-- Missing attributes and missing content can be made up for, and whether a start tag is open is told.
use Rattle.std.proofs.Common.{◌≡◌, ℕ, suc, ◌-◌, ◌≤◌, List, [], ◌∷◌, ◌++◌, Bool, true, false, not, ◌&&◌, ◌||◌, refl, sym, ap, subst, ◌∙◌, append_assoc, true≢false, arith}
use Rattle.nx_base.specs.Trees.{Attribute, Children, nil, string, element, Event, Enter, Att, TagEnd, Chars, Leave, attributes_flat, children_flat, AreWritable}
use Rattle.rng_core.specs.Patterns.{Pattern, Definition, Language}
use Rattle.rng_core.specs.Validity.{Valid, Viable}
use Rattle.rng_kept.specs.Moves.{Move, take, skip_to, any_value, any_string, missing_attributes, missing_content, Adds, adds_event, adds_skipped, adds_value, adds_string, adds_attributes, adds_content, is_tag_open, open_elements, attributes_of}
use Rattle.rng_kept.specs.KeptLists.{Kept, IsEndOf, CanMove}
use Rattle.rng_kept.specs.Residuals.{Outer, Way, among, in_tag, Residual, is_tag, is_in_tag, TakesOuter, at_document, at_inside, at_this, at_other, TakesWay, among_children, in_start_tag, Takes, by_this, by_later}
use Rattle.rng_kept.specs.Lively.{IsLively, AreLively, Lively, lively}
use Rattle.rng_residual.proofs.Alive.{lively_first}
use Rattle.rng_kept.specs.Live.{AreLive}
use Rattle.rng_kept.specs.Standing.{Stands}
use Rattle.rng_residual.specs.Moves.{MissingPartsGoOn, TagsAreTold}
use Rattle.rng_residual.proofs.SmallPatterns.{and_true}
use Rattle.rng_residual.proofs.Fresh.{IsFresh, writable_of, attributes_fresh, attributes_can_be_written, children_fresh, children_written}
use Rattle.rng_residual.proofs.Viable.{viable, way_viable}
use Rattle.rng_residual.proofs.Distinct.{text_of_writable, distinct_of, attributes_append, children_append}

-- ---- whether a start tag is open

-- whether one is open behind an event
opens : Event → Bool
opens (Enter n) = true
opens (Att n v) = true
opens TagEnd = false
opens (Chars t) = false
opens Leave = false

-- and behind events, where one is open or not before them
abbrev open_after : Bool → List Event → Bool
open_after b [] = b
open_after b (Enter n ∷ k) = open_after true k
open_after b (Att n v ∷ k) = open_after true k
open_after b (TagEnd ∷ k) = open_after false k
open_after b (Chars t ∷ k) = open_after false k
open_after b (Leave ∷ k) = open_after false k

-- attributes and ends of tags stand in start tags alone, which end
abbrev is_tagged : Bool → List Event → Bool
is_tagged b [] = not b
is_tagged b (Enter n ∷ k) = not b && is_tagged true k
is_tagged b (Att n v ∷ k) = b && is_tagged true k
is_tagged b (TagEnd ∷ k) = b && is_tagged false k
is_tagged b (Chars t ∷ k) = not b && is_tagged false k
is_tagged b (Leave ∷ k) = not b && is_tagged false k

attributes_tagged : (a : List Attribute) (z : List Event) → is_tagged false z ≡ true → is_tagged true (attributes_flat a (TagEnd ∷ z)) ≡ true
attributes_tagged [] z h = h
attributes_tagged (x ∷ a) z h = attributes_tagged a z h

children_tagged : (c : Children) (z : List Event) → is_tagged false z ≡ true → is_tagged false (children_flat c z) ≡ true
children_tagged nil z h = h
children_tagged (string t r) z h = children_tagged r z h
children_tagged (element n a k r) z h = attributes_tagged a _ (children_tagged k (Leave ∷ children_flat r z) (children_tagged r z h))

tagged_behind : (b : Bool) (k s : List Event) → is_tagged b (k ++ s) ≡ true → is_tagged (open_after b k) s ≡ true
tagged_behind b [] s h = h
tagged_behind b (Enter n ∷ k) s h = tagged_behind true k s (and_true (not b) _ h).1
tagged_behind b (Att n v ∷ k) s h = tagged_behind true k s (and_true b _ h).1
tagged_behind b (TagEnd ∷ k) s h = tagged_behind false k s (and_true b _ h).1
tagged_behind b (Chars t ∷ k) s h = tagged_behind false k s (and_true (not b) _ h).1
tagged_behind b (Leave ∷ k) s h = tagged_behind false k s (and_true (not b) _ h).1

-- the last event decides
open_last : (b : Bool) (k : List Event) (e : Event) → open_after b (k ++ e ∷ []) ≡ opens e
unfolding opens
open_last b [] (Enter n) = refl
open_last b [] (Att n v) = refl
open_last b [] TagEnd = refl
open_last b [] (Chars t) = refl
open_last b [] Leave = refl
open_last b (Enter n ∷ k) e = open_last true k e
open_last b (Att n v ∷ k) e = open_last true k e
open_last b (TagEnd ∷ k) e = open_last false k e
open_last b (Chars t ∷ k) e = open_last false k e
open_last b (Leave ∷ k) e = open_last false k e

-- what a move adds ends with such an event
record Ending (added : List Event) (m : Move) (h : List Move) : Type 0 where
  front : List Event
  last : Event
  is : added ≡ front ++ last ∷ []
  same : opens last ≡ is_tag_open (m ∷ h)

ending_of : (m : Move) (h : List Move) {added : List Event} → Adds m added → Ending added m h
unfolding opens
ending_of (take (Enter n)) h adds_event = record { front = []; last = Enter n; is = refl; same = refl }
ending_of (take (Att n v)) h adds_event = record { front = []; last = Att n v; is = refl; same = refl }
ending_of (take TagEnd) h adds_event = record { front = []; last = TagEnd; is = refl; same = refl }
ending_of (take (Chars t)) h adds_event = record { front = []; last = Chars t; is = refl; same = refl }
ending_of (take Leave) h adds_event = record { front = []; last = Leave; is = refl; same = refl }
ending_of (skip_to n) h (adds_skipped over p w) = record { front = children_flat over []; last = Enter n; is = sym (children_append over [] (Enter n ∷ [])); same = refl }
ending_of (any_value n) h (adds_value v c) = record { front = []; last = Att n v; is = refl; same = refl }
ending_of any_string h (adds_string t c b) = record { front = []; last = Chars t; is = refl; same = refl }
ending_of missing_attributes h (adds_attributes a w) = record { front = attributes_flat a []; last = TagEnd; is = sym (attributes_append a [] (TagEnd ∷ [])); same = refl }
ending_of missing_content h (adds_content over p w) = record { front = children_flat over []; last = Leave; is = sym (children_append over [] (Leave ∷ [])); same = refl }

kept_open : (g : Language) (p : Pattern) (h : List Move) (k : List Event) → Kept g p h k → open_after false k ≡ is_tag_open h
kept_open g p [] k e = ap (λ (v : List Event). open_after false v) e
kept_open g p (m ∷ h) k w =
    let e = ending_of m h w.3 in
    let whole : k ≡ (w.0 ++ e.front) ++ e.last ∷ [] = w.4 ∙ (ap (λ (v : List Event). w.0 ++ v) e.is ∙ sym (append_assoc w.0 e.front (e.last ∷ []))) in
    ap (λ (v : List Event). open_after false v) whole ∙ (open_last false (w.0 ++ e.front) e.last ∙ e.same)

-- ---- how many elements are open

abbrev depth_after : ℕ → List Event → ℕ
depth_after d [] = d
depth_after d (Enter n ∷ k) = depth_after (suc d) k
depth_after d (Att n v ∷ k) = depth_after d k
depth_after d (TagEnd ∷ k) = depth_after d k
depth_after d (Chars t ∷ k) = depth_after d k
depth_after d (Leave ∷ k) = depth_after (d - 1) k

depth_append : (d : ℕ) (k s : List Event) → depth_after d (k ++ s) ≡ depth_after (depth_after d k) s
depth_append d [] s = refl
depth_append d (Enter n ∷ k) s = depth_append (suc d) k s
depth_append d (Att n v ∷ k) s = depth_append d k s
depth_append d (TagEnd ∷ k) s = depth_append d k s
depth_append d (Chars t ∷ k) s = depth_append d k s
depth_append d (Leave ∷ k) s = depth_append (d - 1) k s

depth_attributes : (d : ℕ) (a : List Attribute) (z : List Event) → depth_after d (attributes_flat a z) ≡ depth_after d z
depth_attributes d [] z = refl
depth_attributes d (x ∷ a) z = depth_attributes d a z

depth_children : (d : ℕ) (c : Children) (z : List Event) → depth_after d (children_flat c z) ≡ depth_after d z
depth_children d nil z = refl
depth_children d (string t r) z = depth_children d r z
depth_children d (element n a k r) z =
    let one : suc d - 1 ≡ d = omega arith in
    depth_attributes (suc d) a (TagEnd ∷ children_flat k (Leave ∷ children_flat r z))
    ∙ (depth_children (suc d) k (Leave ∷ children_flat r z) ∙ (ap (λ e. depth_after e (children_flat r z)) one ∙ depth_children d r z))

depth_added : (m : Move) (h : List Move) {added : List Event} → Adds m added → depth_after (open_elements h) added ≡ open_elements (m ∷ h)
depth_added (take (Enter n)) h adds_event = refl
depth_added (take (Att n v)) h adds_event = refl
depth_added (take TagEnd) h adds_event = refl
depth_added (take (Chars t)) h adds_event = refl
depth_added (take Leave) h adds_event = refl
depth_added (skip_to n) h (adds_skipped over p w) = depth_children (open_elements h) over (Enter n ∷ [])
depth_added (any_value n) h (adds_value v c) = refl
depth_added any_string h (adds_string t c b) = refl
depth_added missing_attributes h (adds_attributes a w) = depth_attributes (open_elements h) a (TagEnd ∷ [])
depth_added missing_content h (adds_content over p w) = depth_children (open_elements h) over (Leave ∷ [])

kept_depth : (g : Language) (p : Pattern) (h : List Move) (k : List Event) → Kept g p h k → depth_after 0 k ≡ open_elements h
kept_depth g p [] k e = ap (λ (v : List Event). depth_after 0 v) e
kept_depth g p (m ∷ h) k w =
    ap (λ (v : List Event). depth_after 0 v) w.4
    ∙ (depth_append 0 w.0 w.1 ∙ (ap (λ d. depth_after d w.1) (kept_depth g p h w.0 w.2) ∙ depth_added m h w.3))

-- ---- what may follow

-- the ends of kept lists close the tag that is open, and no more elements than are open
record Follows (h : List Move) (s : List Event) : Type 0 where
  tagged : is_tagged (is_tag_open h) s ≡ true
  depth : depth_after (open_elements h) s ≡ 0

follows : {g : Language} {p : Pattern} {h : List Move} {s : List Event} → IsEndOf g p h s → Follows h s
follows {g = g} {p = p} {h = h} {s = s} r =
    let v = r.valid in
    let whole : is_tagged false (r.kept ++ s) ≡ true = subst (λ (z : List Event). is_tagged false z ≡ true) (sym v.events_are) (children_tagged (element v.tree.name v.tree.attributes v.tree.children nil) [] refl) in
    let flat_depth : depth_after 0 (r.kept ++ s) ≡ 0 = ap (λ (z : List Event). depth_after 0 z) v.events_are ∙ depth_children 0 (element v.tree.name v.tree.attributes v.tree.children nil) [] in
    record {
      tagged = subst (λ b. is_tagged b s ≡ true) (kept_open g p h r.kept r.is_kept) (tagged_behind false r.kept s whole);
      depth = ap (λ d. depth_after d s) (sym (kept_depth g p h r.kept r.is_kept)) ∙ (sym (depth_append 0 r.kept s) ∙ flat_depth);
    }

-- children don't begin in a tag, and attributes don't begin outside of one
no_children_in_tag : (c : Children) (z : List Event) → is_tagged true z ≡ false → is_tagged true (children_flat c z) ≡ false
no_children_in_tag nil z h = h
no_children_in_tag (string t r) z h = refl
no_children_in_tag (element n a k r) z h = refl

no_attributes_outside : (a : List Attribute) (z : List Event) → is_tagged false (attributes_flat a (TagEnd ∷ z)) ≡ false
no_attributes_outside [] z = refl
no_attributes_outside (x ∷ a) z = refl

-- ---- the two moves

-- events in a start tag that is open
record TagRest (s : List Event) : Type 0 where
  attributes : List Attribute
  rest : List Event
  is : s ≡ attributes_flat attributes (TagEnd ∷ rest)

-- what is left outside of tags doesn't begin in one
no_outside_in_tag : {X : Type 0} {g : List Definition} {o : Outer} (s : List Event) → TakesOuter g o s → is_tagged true s ≡ true → X
no_outside_in_tag s (at_document c e m) h = absurd (true≢false (sym h ∙ (ap (λ (z : List Event). is_tagged true z) e ∙ no_children_in_tag c [] refl)))
no_outside_in_tag s (at_inside k rest e m t) h =
    absurd (true≢false (sym h ∙ (ap (λ (z : List Event). is_tagged true z) e ∙ no_children_in_tag k (Leave ∷ rest) refl)))
no_outside_in_tag s (at_this t) h = no_outside_in_tag s t h
no_outside_in_tag s (at_other t) h = no_outside_in_tag s t h

in_tag_rest : {g : List Definition} (x : Residual) (s : List Event) → Takes g x s → is_tagged true s ≡ true → TagRest s
in_tag_rest [] s t h = elim t [ ]
in_tag_rest (w ∷ ws) s (by_later t) h = in_tag_rest ws s t h
in_tag_rest (w ∷ ws) s (by_this (in_start_tag a k rest e m t)) h = record { attributes = a; rest = children_flat k (Leave ∷ rest); is = e }
in_tag_rest (w ∷ ws) s (by_this (among_children t)) h = no_outside_in_tag s t h

-- events inside of an element
record ContentRest (s : List Event) : Type 0 where
  children : Children
  rest : List Event
  is : s ≡ children_flat children (Leave ∷ rest)

outer_rest : {g : List Definition} {o : Outer} (d : ℕ) (s : List Event) → 1 ≤ d → TakesOuter g o s → depth_after d s ≡ 0 → ContentRest s
outer_rest d s l (at_document c f m) e =
    let none : d ≡ 0 = sym (ap (λ (z : List Event). depth_after d z) f ∙ depth_children d c []) ∙ e in
    absurd (omega (arith, l, none))
outer_rest d s l (at_inside k rest f m t) e = record { children = k; rest = rest; is = f }
outer_rest d s l (at_this t) e = outer_rest d s l t e
outer_rest d s l (at_other t) e = outer_rest d s l t e

content_rest : {g : List Definition} (d : ℕ) (x : Residual) (s : List Event) → 1 ≤ d → Takes g x s → is_tagged false s ≡ true → depth_after d s ≡ 0 → ContentRest s
content_rest d [] s l t h e = elim t [ ]
content_rest d (w ∷ ws) s l (by_later t) h e = content_rest d ws s l t h e
content_rest d (w ∷ ws) s l (by_this (in_start_tag a k rest f m t)) h e =
    absurd (true≢false (sym h ∙ (ap (λ (z : List Event). is_tagged false z) f ∙ no_attributes_outside a (children_flat k (Leave ∷ rest)))))
content_rest d (w ∷ ws) s l (by_this (among_children t)) h e = outer_rest d s l t e

module _ {g : Language} {p : Pattern} {h : List Move} {x : Residual} (live : AreLive g.definitions) (f : Stands g p h x) where
  missing_tag : is_tag_open h ≡ true → CanMove g p h missing_attributes
  missing_tag is =
      let w = viable live f.lively in
      let r = f.sound w.rest (text_of_writable w.rest (writable_of w.fresh)) (distinct_of w.fresh) w.taken in
      let t = in_tag_rest x w.rest w.taken (subst (λ b. is_tagged b w.rest ≡ true) is (follows r).tagged) in
      let c = attributes_fresh t.attributes (attributes_of h) t.rest (subst (λ (z : List Event). IsFresh (attributes_of h) z) t.is w.fresh) in
      let added : List Event = attributes_flat t.attributes (TagEnd ∷ []) in
      let whole : r.kept ++ w.rest ≡ (r.kept ++ added) ++ t.rest =
      ap (λ (z : List Event). r.kept ++ z) (t.is ∙ sym (attributes_append t.attributes (TagEnd ∷ []) t.rest)) ∙ sym (append_assoc r.kept added t.rest) in
      let goes_on : Viable g.definitions p (r.kept ++ added) = record { rest = t.rest; is_rest = record { writable = writable_of c.rest; valid = subst (λ (z : List Event). Valid g.definitions p z) whole r.valid } } in
      record {
        kept = r.kept ++ added;
        is_kept = (r.kept, added, r.is_kept, adds_attributes t.attributes (attributes_can_be_written c.distinct c.chars), refl, goes_on);
        viable = goes_on;
      }

  missing_children : is_tag_open h ≡ false → 1 ≤ open_elements h → CanMove g p h missing_content
  missing_children closed some =
      let w = viable live f.lively in
      let r = f.sound w.rest (text_of_writable w.rest (writable_of w.fresh)) (distinct_of w.fresh) w.taken in
      let e = follows r in
      let t = content_rest (open_elements h) x w.rest some w.taken (subst (λ b. is_tagged b w.rest ≡ true) closed e.tagged) e.depth in
      let c = children_fresh t.children (attributes_of h) (Leave ∷ t.rest) (subst (λ (z : List Event). IsFresh (attributes_of h) z) t.is w.fresh) in
      let added : List Event = children_flat t.children (Leave ∷ []) in
      let whole : r.kept ++ w.rest ≡ (r.kept ++ added) ++ t.rest =
      ap (λ (z : List Event). r.kept ++ z) (t.is ∙ sym (children_append t.children (Leave ∷ []) t.rest)) ∙ sym (append_assoc r.kept added t.rest) in
      let written : AreWritable (children_flat t.children (Leave ∷ t.rest)) = subst (λ (z : List Event). AreWritable z) t.is (writable_of w.fresh) in
      let goes_on : Viable g.definitions p (r.kept ++ added) = record { rest = t.rest; is_rest = record { writable = (writable_of c.1.1).1; valid = subst (λ (z : List Event). Valid g.definitions p z) whole r.valid } } in
      record {
        kept = r.kept ++ added;
        is_kept = (r.kept, added, r.is_kept, adds_content t.children c.0 (children_written t.children (Leave ∷ t.rest) [] written (λ _. tt)), refl, goes_on);
        viable = goes_on;
      }

-- ---- whether a start tag is open, told by the ways

way_told : {g : Language} {p : Pattern} {h : List Move} {x : Residual} → AreLive g.definitions → Stands g p h x → (w : Way) → IsLively g.definitions (attributes_of h) w →
    ((s : List Event) → TakesWay g.definitions w s → Takes g.definitions x s) → is_tag w ≡ is_tag_open h
way_told {g = g} {p = p} {h = h} {x = x} live f w i up =
    let v = way_viable live i in
    let r = f.sound v.rest (text_of_writable v.rest (writable_of v.fresh)) (distinct_of v.fresh) (up v.rest v.taken) in
    told (is_tag_open h) w v.rest v.taken (follows r).tagged
  where
    told : (b : Bool) (w : Way) (s : List Event) → TakesWay g.definitions w s → is_tagged b s ≡ true → is_tag w ≡ b
    told true (in_tag q o) s t e = refl
    told false (among o) s t e = refl
    told false (in_tag q o) s (in_start_tag a k rest d m t) e =
        absurd (true≢false (sym e ∙ (ap (λ (z : List Event). is_tagged false z) d ∙ no_attributes_outside a (children_flat k (Leave ∷ rest)))))
    told true (among o) s (among_children t) e = no_outside_in_tag s t e

ways_told : {g : Language} {p : Pattern} {h : List Move} {x : Residual} → AreLive g.definitions → Stands g p h x → (w : Way) (ws : Residual) → AreLively g.definitions (attributes_of h) (w ∷ ws) →
    ((s : List Event) → Takes g.definitions (w ∷ ws) s → Takes g.definitions x s) → is_in_tag (w ∷ ws) ≡ is_tag_open h
ways_told live f w [] a up = or_nothing (is_tag w) ∙ way_told live f w (lively_first a).0 (λ s t. up s (by_this t))
  where
    or_nothing : (b : Bool) → (b || false) ≡ b
    or_nothing true = refl
    or_nothing false = refl
ways_told {h = h} live f w (y ∷ ws) a up =
    both (is_tag w) (is_in_tag (y ∷ ws)) (is_tag_open h) (way_told live f w (lively_first a).0 (λ s t. up s (by_this t))) (ways_told live f y ws (lively_first a).1 (λ s t. up s (by_later t)))
  where
    both : (a b c : Bool) → a ≡ c → b ≡ c → (a || b) ≡ c
    both true b c e d = e
    both false b c e d = d

pub tags_are_told : TagsAreTold
tags_are_told g p h x live f = go x f f.lively
  where
    go : (y : Residual) → Stands g p h y → Lively g.definitions (attributes_of h) y → is_in_tag y ≡ is_tag_open h
    go [] f a = elim a [ ]
    go (w ∷ ws) f (lively a) = ways_told live f w ws a (λ s t. t)

pub missing_parts_go_on : MissingPartsGoOn
missing_parts_go_on g p h x live f = (λ is. missing_tag live f is, λ closed some. missing_children live f closed some)
