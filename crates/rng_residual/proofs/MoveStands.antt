-- A residual stands for the kept lists behind each move.
use Rattle.std.proofs.Common.{◌≡◌, ℕ, List, [], ◌∷◌, ◌++◌, Bool, true, false, refl, ap, sym, subst, inl, inr, ⊎_elim, ◌∙◌, append_assoc}
use Rattle.std.specs.Prelude.{IsTrue, if◌then◌else◌}
use Rattle.std.specs.Str.{is_utf8}
use Rattle.nx_base.specs.declared.name.Name.{Name}
use Rattle.nx_base.specs.Characters.{is_blank}
use Rattle.nx_base.specs.Trees.{Attribute, Children, nil, string, element, without_blanks, HasAttribute, Event, Enter, Att, TagEnd, Chars, Leave, attributes_flat, children_flat}
use Rattle.rng_core.specs.Patterns.{Pattern, Definition, not_allowed, Language}
use Rattle.rng_core.specs.Matching.{Matches}
use Rattle.rng_core.specs.Validity.{Valid, Viable}
use Rattle.rng_kept.specs.SmallPatterns.{is_not_allowed}
use Rattle.rng_kept.specs.Lists.{has_flat_lists}
use Rattle.rng_kept.specs.Residuals.{Outer, document, inside, one_of, Way, among, in_tag, Residual, TakesChildren, strictly, loosely, voidly, TakesOuter, at_document, at_inside, at_this, at_other, TakesWay, among_children, in_start_tag, Takes, by_this, by_later}
use Rattle.rng_kept.specs.Merging.{stepped, answered}
use Rattle.rng_kept.specs.Events.{IsAmong, IsText, AreText, IsDistinct, distinct_attribute, distinct_enter, distinct_chars, distinct_leave}
use Rattle.rng_kept.specs.Clean.{Clean, Fine}
use Rattle.rng_kept.specs.Lively.{Within, IsLivelyOutside, lively_document, lively_inside, lively_one_of, IsLively, lively_among, lively_in_tag, AreLively, none_lively}
use Rattle.rng_kept.specs.Moves.{Move, take, skip_to, any_value, any_string, missing_attributes, missing_content, Adds, adds_skipped, adds_value, adds_string, adds_attributes, adds_content, attributes_after, attributes_of, IsTextMove, AreTextMoves}
use Rattle.rng_kept.specs.KeptLists.{Asks, Kept, IsEndOf}
use Rattle.rng_kept.specs.Live.{IsFrame, AreLive}
use Rattle.rng_kept.specs.Standing.{Stands, StandsBehind}
use Rattle.rng_residual.proofs.SmallPatterns.{and_true, never_no, is_not_allowed-is}
use Rattle.rng_kept.specs.SolidStrings.{solid_tests, after_solid}
use Rattle.rng_residual.specs.Solid.{TestsSolid}
use Rattle.rng_residual.proofs.Members.{tests_are_solid}
use Rattle.rng_kept.specs.Content.{leave_skip_way, leave_skip, any_string_outer, any_string_way, chars_any}
use Rattle.rng_kept.specs.Tags.{children_of, any_value_way, attribute_any, missing_way, tag_end_missing}
use Rattle.rng_kept.specs.Entering.{skip_way, enter_skip}
use Rattle.rng_kept.specs.Attributes.{after_any_attribute, drop}
use Rattle.rng_residual.specs.Moves.{MovesStand}
use Rattle.rng_residual.proofs.Strings.{OneString, by_in}
use Rattle.rng_residual.proofs.Attributes.{attribute_is}
use Rattle.rng_residual.proofs.Solid.{behind_children}
use Rattle.rng_residual.proofs.Cleaning.{fine_keeps, tests_of_fine, fine, flat_clean, fine_after, fine_attribute}
use Rattle.rng_residual.proofs.Repair.{repair, distinct_right, distinct_apart2}
use Rattle.rng_residual.proofs.Fresh.{attributes_can_be_written as attributes_written}
use Rattle.rng_residual.proofs.Content.{among_in, among_out, spoken, not_chars}
use Rattle.rng_residual.proofs.Tags.{children_of_in, children_of_out, tag_in, tag_out, no_attribute_outside, given, ended, outer_of}
use Rattle.rng_residual.proofs.Merging.{with_ways_in, with_ways_out, Taking, SomeWay, this_way, later_way, some_taking, stepped_in, stepped_out_all}
use Rattle.rng_residual.proofs.Alive.{lively_stepped, lively_with_ways, lively_among_of, lively_tag_of, one_within, end_children}
use Rattle.rng_residual.proofs.Distinct.{distinct_children, distinct_attributes_on, text_of_writable, attributes_append, children_append}
use Rattle.rng_residual.proofs.Standing.{answer_stands, lively_all, writable_end, adds_is, event_stands}
use Rattle.rng_residual.proofs.Events.{attributes_unique}
use Rattle.rng_residual.proofs.SkipMoves.{ways_lively, skip_way_in, skip_way_out, skip_way_lively, leave_skip_way_in, leave_skip_way_out, leave_skip_way_lively}
use Rattle.rng_residual.proofs.AnyMoves.{IsSolid, any_attribute_in, any_attribute_out, any_string_out, drop_in, drop_out, drop_clean}

-- ---- kept lists are text

append_text : (a b : List Event) → AreText a → AreText b → AreText (a ++ b)
append_text [] b h i = i
append_text (x ∷ a) b h i = (h.0, append_text a b h.1 i)

pub attributes_text : (a : List Attribute) (y z : List Event) → AreText (attributes_flat a y) → AreText z → AreText (attributes_flat a z)
attributes_text [] y z h i = i
attributes_text (x ∷ a) y z h i = (h.0, attributes_text a y z h.1 i)

pub children_text : (k : Children) (y z : List Event) → AreText (children_flat k y) → AreText z → AreText (children_flat k z)
children_text nil y z h i = i
children_text (string t r) y z h i = (h.0, children_text r y z h.1 i)
children_text (element n a k r) y z h i =
    let b = behind_tag a (TagEnd ∷ children_flat k (Leave ∷ children_flat r y)) h.1 in
    let c = behind_children IsText k (Leave ∷ children_flat r y) b.1 in
    (tt, attributes_text a (TagEnd ∷ children_flat k (Leave ∷ children_flat r y)) (TagEnd ∷ children_flat k (Leave ∷ children_flat r z)) h.1 (tt, children_text k (Leave ∷ children_flat r y) (Leave ∷ children_flat r z) b.1 (tt, children_text r y z c.1 i)))
  where
    behind_tag : (b : List Attribute) (w : List Event) → AreText (attributes_flat b w) → AreText w
    behind_tag [] w h = h
    behind_tag (x ∷ b) w h = behind_tag b w h.1

adds_text : (m : Move) (added : List Event) → IsTextMove m → Adds m added → AreText added
adds_text (take e) added t a = subst (λ z. AreText z) (sym (adds_is a)) (t, tt)
adds_text (skip_to n) added t (adds_skipped over p w) = children_text over [] (Enter n ∷ []) (text_of_writable (children_flat over []) w) (tt, tt)
adds_text (any_value n) added t (adds_value v c) = ((and_true _ _ c).0, tt)
adds_text any_string added t (adds_string s c b) = ((and_true _ _ c).0, tt)
adds_text missing_attributes added t (adds_attributes a w) = attributes_text a [] (TagEnd ∷ []) (text_of_writable (attributes_flat a []) w) (tt, tt)
adds_text missing_content added t (adds_content over p w) = children_text over [] (Leave ∷ []) (text_of_writable (children_flat over []) w) (tt, tt)

kept_text : (g : Language) (p : Pattern) (h : List Move) (k : List Event) → AreTextMoves h → Kept g p h k → AreText k
kept_text g p [] k t w = subst (λ z. AreText z) (sym w) tt
kept_text g p (m ∷ h) k t w = subst (λ z. AreText z) (sym w.4) (append_text w.0 w.1 (kept_text g p h w.0 t.1 w.2) (adds_text m w.1 t.0 w.3))

asks : (g : Language) (p : Pattern) (m : Move) (k : List Event) → Viable g.definitions p k → Asks g p m k
asks g p (take e) k v = tt
asks g p (skip_to n) k v = v
asks g p (any_value n) k v = v
asks g p any_string k v = v
asks g p missing_attributes k v = v
asks g p missing_content k v = v

-- ---- a move of each way is a move of the residual

-- a way takes it with what the move adds
record WayBefore (g : List Definition) (l : List Name) (m : Move) (s : List Event) (w : Way) : Type 0 where
  added : List Event
  adds : Adds m added
  distinct : IsDistinct l (added ++ s)
  taken : TakesWay g w (added ++ s)

record WayMoves (g : List Definition) (l : List Name) (m : Move) (f : Way → Residual) : Type 0 where
  sound : (s : List Event) → IsDistinct (attributes_after l m) s → (w : Way) → IsLively g l w → Takes g (f w) s → WayBefore g l m s w
  complete : (s added : List Event) → Adds m added → AreText s → (w : Way) → IsLively g l w → TakesWay g w (added ++ s) → Takes g (f w) s
  alive : (w : Way) → IsLively g l w → AreLively g (attributes_after l m) (f w)

record Before (g : List Definition) (l : List Name) (m : Move) (x : Residual) (s : List Event) : Type 0 where
  added : List Event
  adds : Adds m added
  distinct : IsDistinct l (added ++ s)
  taken : Takes g x (added ++ s)

before_of : {g : List Definition} {l : List Name} {m : Move} {s : List Event} (x : Residual) → SomeWay (WayBefore g l m s) x → Before g l m x s
before_of [] h = elim h [ ]
before_of (w ∷ ws) (this_way h) = record { added = h.added; adds = h.adds; distinct = h.distinct; taken = by_this h.taken }
before_of (w ∷ ws) (later_way h) = let v = before_of ws h in record { added = v.added; adds = v.adds; distinct = v.distinct; taken = by_later v.taken }

residual_sound : {g : List Definition} {l : List Name} {m : Move} {f : Way → Residual} → WayMoves g l m f → (x : Residual) (s : List Event) → AreLively g l x → IsDistinct (attributes_after l m) s → Takes g (stepped f [] x) s → Before g l m x s
residual_sound {g = g} {l = l} {m = m} {f = f} w x s a d h =
    ⊎_elim (λ k. elim k [ ]) (λ k. before_of x k)
    (stepped_out_all {ok = λ y. IsLively g l y} f (WayBefore g l m s) (λ y i k. w.sound s d y i k) [] x (ways_lively x a) h)

residual_complete : {g : List Definition} {l : List Name} {m : Move} {f : Way → Residual} → WayMoves g l m f → (x : Residual) (s added : List Event) → AreLively g l x → Adds m added → AreText s → Takes g x (added ++ s) → Takes g (stepped f [] x) s
residual_complete {g = g} {l = l} {f = f} w x s added a d t h =
    stepped_in f (Taking g (λ y. IsLively g l y) (added ++ s)) (λ y k. w.complete s added d t y k.is_ok k.taken) [] x (inr (some_taking x (ways_lively x a) h))

end_added : {g : Language} {p : Pattern} {h : List Move} {m : Move} {s : List Event} → AreLive g.definitions → TestsSolid g.definitions → IsFrame g p → AreTextMoves (m ∷ h) →
    (added : List Event) → Adds m added → AreText s → IsEndOf g p h (added ++ s) → IsEndOf g p (m ∷ h) s
end_added {g = g} {p = p} {h = h} {m = m} {s = s} live z frame t added a u r =
    let k = r.kept ++ added in
    let v : Valid g.definitions p (k ++ s) = subst (λ y. Valid g.definitions p y) (sym (append_assoc r.kept added s)) r.valid in
    let x = append_text r.kept added (kept_text g p h r.kept t.1 r.is_kept) (adds_text m added t.0 a) in
    record { kept = k; is_kept = (r.kept, added, r.is_kept, a, refl, asks g p m k (writable_end live z frame k s x u v)); valid = v }

-- each list of the kept ones has one that was added
record Split (g : Language) (p : Pattern) (h : List Move) (m : Move) (s : List Event) : Type 0 where
  added : List Event
  adds : Adds m added
  before : IsEndOf g p h (added ++ s)

end_split : {g : Language} {p : Pattern} {h : List Move} {m : Move} {s : List Event} → IsEndOf g p (m ∷ h) s → Split g p h m s
end_split {g = g} {p = p} {h = h} {m = m} {s = s} r =
    let k = r.is_kept in
    record {
      added = k.1;
      adds = k.3;
      before = record {
        kept = k.0;
        is_kept = k.2;
        valid = subst (λ v. Valid g.definitions p v) (ap (λ (v : List Event). v ++ s) k.4 ∙ append_assoc k.0 k.1 s) r.valid;
      };
    }

way_stands : {g : Language} {p : Pattern} {h : List Move} {x : Residual} → AreLive g.definitions → TestsSolid g.definitions → Stands g p h x → (m : Move) → IsTextMove m →
    (f : Way → Residual) → WayMoves g.definitions (attributes_of h) m f → StandsBehind g p h m (answered (stepped f [] x))
way_stands {g = g} {p = p} {h = h} {x = x} live z e m t f w =
    let a = lively_all e.lively in
    answer_stands (stepped f [] x) e.frame (t, e.text)
    (λ s u d k.
    let b = residual_sound w x s a d k in
    end_added live z e.frame (t, e.text) b.added b.adds u (e.sound (b.added ++ s) (append_text b.added s (adds_text m b.added t b.adds) u) b.distinct b.taken))
    (λ s u r.
    let b = end_split r in
    residual_complete w x s b.added a b.adds u (e.complete (b.added ++ s) (append_text b.added s (adds_text m b.added t b.adds) u) b.before))
    (lively_stepped f w.alive [] x none_lively a)

-- ---- children and an element's name, and children and an element's end

skip_moves : {g : List Definition} {l : List Name} (n : Name) → AreLive g → WayMoves g l (skip_to n) (skip_way g n)
skip_moves {g = g} {l = l} n live = record {
  sound = λ s d w i k.
      let v = skip_way_out w i k in
      let e = children_append v.over (Enter n ∷ []) s in
      record {
        added = children_flat v.over (Enter n ∷ []);
        adds = adds_skipped v.over v.written.are_children v.written.writable;
        distinct = subst (λ z. IsDistinct l z) (sym e) (distinct_children l v.written.are_children (λ m. distinct_enter d));
        taken = subst (λ z. TakesWay g w z) (sym e) v.taken;
      };
  complete = λ s added a t w i k. go s added a w i k;
  alive = λ w i. skip_way_lively n live w i;
}
  where
    go : (s added : List Event) → Adds (skip_to n) added → (w : Way) → IsLively g l w → TakesWay g w (added ++ s) → Takes g (skip_way g n w) s
    go s added (adds_skipped over p x) w i k = skip_way_in n s over w (record { is_ok = i; taken = subst (λ z. TakesWay g w z) (children_append over (Enter n ∷ []) s) k })

content_moves : {g : List Definition} {l : List Name} → WayMoves g l missing_content leave_skip_way
content_moves {g = g} {l = l} = record {
  sound = λ s d w i k.
      let v = leave_skip_way_out w i k in
      let e = children_append v.over (Leave ∷ []) s in
      record {
        added = children_flat v.over (Leave ∷ []);
        adds = adds_content v.over v.written.are_children v.written.writable;
        distinct = subst (λ z. IsDistinct l z) (sym e) (distinct_children l v.written.are_children (λ m. distinct_leave d));
        taken = subst (λ z. TakesWay g w z) (sym e) v.taken;
      };
  complete = λ s added a t w i k. go s added a w i k;
  alive = λ w i. leave_skip_way_lively w i;
}
  where
    go : (s added : List Event) → Adds missing_content added → (w : Way) → IsLively g l w → TakesWay g w (added ++ s) → Takes g (leave_skip_way w) s
    go s added (adds_content over p x) w i k = leave_skip_way_in over w (record { is_ok = i; taken = subst (λ z. TakesWay g w z) (children_append over (Leave ∷ []) s) k })

-- ---- an attribute with any value

any_tag_in : {g : List Definition} (n : Name) {v : List ℕ} {s : List Event} {p : Pattern} {o : Outer} → has_flat_lists p ≡ true → TakesWay g (in_tag p o) (Att n v ∷ s) → TakesWay g (in_tag (after_any_attribute n p) o) s
any_tag_in {g = g} n {v = v} {s = s} {p = p} {o = o} f (in_start_tag a k rest e w h) =
    let u = given n v a s (children_flat k (Leave ∷ rest)) e in
    in_start_tag u.rest k rest u.events (record { children = w.children; weakly = w.weakly; matched = any_attribute_in {n = n} {v = v} f (subst (λ x. Matches g p x w.children) u.is w.matched) }) h

module _ {g : List Definition} {l : List Name} (n : Name) where
  any_way_in : {v : List ℕ} {s : List Event} (w : Way) → IsLively g l w → TakesWay g w (Att n v ∷ s) → Takes g (any_value_way n w) s
  any_way_in (among o) i h = no_attribute_outside o (outer_of h)
  any_way_in (in_tag p o) (lively_in_tag c w j) h = tag_in (any_tag_in n (flat_clean c) h)

  any_way_out : {s : List Event} → (IsAmong n l → ⊥) → IsDistinct (n ∷ l) s → (w : Way) → IsLively g l w → Takes g (any_value_way n w) s → WayBefore g l (any_value n) s w
  any_way_out f d (among o) i h = elim h [ ]
  any_way_out {s = s} f d (in_tag p o) (lively_in_tag c w j) h = go (tag_out (after_any_attribute n p) h)
    where
      go : TakesWay g (in_tag (after_any_attribute n p) o) s → WayBefore g l (any_value n) s (in_tag p o)
      go (in_start_tag a k rest e u t) =
          let v = any_attribute_out n c u.matched in
          record {
            added = Att n v.value ∷ [];
            adds = adds_value v.value v.is_ok;
            distinct = distinct_attribute f d;
            taken = in_start_tag (attribute_is n v.value ∷ a) k rest (ap (λ (z : List Event). Att n v.value ∷ z) e) (record { children = u.children; weakly = u.weakly; matched = v.matched }) t;
          }

  any_way_lively : (IsAmong n l → ⊥) → (w : Way) → IsLively g l w → AreLively g (n ∷ l) (any_value_way n w)
  any_way_lively f (among o) i = none_lively
  any_way_lively f (in_tag p o) (lively_in_tag c w h) =
      lively_tag_of (after_any_attribute n p) (fine_attribute (λ q. true) n p (fine c))
      (λ d. one_within n f (λ a k m. let v = any_attribute_out n c m in record { value = v.value; matched = v.matched; from = λ b j i. any_attribute_in {n = n} {v = v.value} (flat_clean c) i }) w) h

value_moves : {g : List Definition} {l : List Name} (n : Name) → (IsAmong n l → ⊥) → WayMoves g l (any_value n) (any_value_way n)
value_moves {g = g} {l = l} n f = record {
  sound = λ s d w i k. any_way_out n f d w i k;
  complete = λ s added a t w i k. go s added a w i k;
  alive = λ w i. any_way_lively n f w i;
}
  where
    go : (s added : List Event) → Adds (any_value n) added → (w : Way) → IsLively g l w → TakesWay g w (added ++ s) → Takes g (any_value_way n w) s
    go s added (adds_value v c) w i k = any_way_in n w i k

-- ---- any string

-- a string that an outside takes
record OuterString (g : List Definition) (o : Outer) (s : List Event) : Type 0 where
  text : List ℕ
  solid : IsSolid text
  taken : TakesOuter g o (Chars text ∷ s)

kept_string : (t : List ℕ) (r : Children) → is_blank t ≡ false → without_blanks (string t r) ≡ string t (without_blanks r)
kept_string t r b = go (is_blank t) b
  where
    go : (c : Bool) → c ≡ false → (if c then without_blanks r else string t (without_blanks r)) ≡ string t (without_blanks r)
    go true e = cc
    go false e = refl

module _ {g : List Definition} (z : TestsSolid g) where
  any_outer_in : {t : List ℕ} {s : List Event} → IsTrue (is_utf8 t) → is_blank t ≡ false → {o : Outer} → IsLivelyOutside g o → TakesOuter g o (Chars t ∷ s) → Takes g (any_string_outer o) s
  any_outer_in {t = t} {s = s} u b (lively_document {p = p} c) (at_document k e m) =
      let w = spoken t k s [] (λ d. cc) e in
      among_in (document (after_solid p))
      (at_document w.rest w.events (by_in (fine_keeps g false true) (tests_of_fine false true (z.all.passes t u b)) (fine c) (subst (λ x. Matches g p [] x) w.is m)))
  any_outer_in {t = t} {s = s} u b (lively_inside {b = p} {l = l} {v = v} {o = o} c d a h) (at_inside k rest e m i) =
      let w = spoken t k s (Leave ∷ rest) (λ d. cc) e in
      among_in (inside (after_solid p) (after_solid l) false o)
      (at_inside w.rest rest w.events (go w.rest (subst (λ x. TakesChildren g p l v x) w.is m)) i)
    where
      go : (r : Children) → TakesChildren g p l v (string t r) → TakesChildren g (after_solid p) (after_solid l) false r
      go r (strictly n) = strictly (by_in (fine_keeps g false true) (tests_of_fine false true (z.all.passes t u b)) c n)
      go r (loosely n) = loosely (by_in (fine_keeps g false false) (tests_of_fine false false (z.all.passes t u b)) d (subst (λ x. Matches g l [] x) (kept_string t r b) n))
      go r (voidly x y) = cc
  any_outer_in u b (lively_one_of {o = o} {u = r} h i) (at_this k) = with_ways_in (any_string_outer o) (any_string_outer r) (inl (any_outer_in u b h k))
  any_outer_in u b (lively_one_of {o = o} {u = r} h i) (at_other k) = with_ways_in (any_string_outer o) (any_string_outer r) (inr (any_outer_in u b i k))

  any_fine_out : {f b : Bool} (p : Pattern) → Fine g f b p → {k : Children} → Matches g (after_solid p) [] k → OneString g IsSolid p k
  any_fine_out p c {k = k} m = go (is_not_allowed p) refl
    where
      none : Matches g not_allowed [] k → OneString g IsSolid p k
      none n = never_no n

      go : (v : Bool) → is_not_allowed p ≡ v → OneString g IsSolid p k
      go true e = none (subst (λ q. Matches g (after_solid q) [] k) (is_not_allowed-is p e) m)
      go false e = any_string_out z.none_else (c.clean e) m

  any_document_out : {s : List Event} {p : Pattern} → Clean g false true p → TakesOuter g (document (after_solid p)) s → OuterString g (document p) s
  any_document_out c (at_document k e m) =
      let w = any_string_out z.none_else c m in
      record { text = w.text; solid = w.is_ok; taken = at_document (string w.text k) (ap (λ (y : List Event). Chars w.text ∷ y) e) w.matched }

  any_inside_out : {s : List Event} {p l : Pattern} {v : Bool} {o : Outer} → Fine g false true p → Fine g false false l →
      TakesOuter g (inside (after_solid p) (after_solid l) false o) s → OuterString g (inside p l v o) s
  any_inside_out {s = s} {p = p} {l = l} {v = v} {o = o} c d (at_inside k rest e m i) = go m
    where
      go : TakesChildren g (after_solid p) (after_solid l) false k → OuterString g (inside p l v o) s
      go (strictly n) =
          let w = any_fine_out p c n in
          record { text = w.text; solid = w.is_ok; taken = at_inside (string w.text k) rest (ap (λ (y : List Event). Chars w.text ∷ y) e) (strictly w.matched) i }
      go (loosely n) =
          let w = any_fine_out l d n in
          record { text = w.text; solid = w.is_ok; taken = at_inside (string w.text k) rest (ap (λ (y : List Event). Chars w.text ∷ y) e) (loosely (rw (kept_string w.text k w.is_ok.1) w.matched)) i }
      go (voidly x y) = cc

  any_outer_out : {s : List Event} {o : Outer} → IsLivelyOutside g o → Takes g (any_string_outer o) s → OuterString g o s
  any_outer_out (lively_document {p = p} c) h = any_document_out c (among_out (document (after_solid p)) h)
  any_outer_out (lively_inside {b = p} {l = l} {v = v} {o = o} c d a h) i = any_inside_out c d (among_out (inside (after_solid p) (after_solid l) false o) i)
  any_outer_out (lively_one_of {o = o} {u = u} h i) k =
      ⊎_elim
      (λ x. let w = any_outer_out h x in record { text = w.text; solid = w.solid; taken = at_this w.taken })
      (λ x. let w = any_outer_out i x in record { text = w.text; solid = w.solid; taken = at_other w.taken })
      (with_ways_out (any_string_outer o) (any_string_outer u) k)

  any_outer_lively : {o : Outer} → IsLivelyOutside g o → AreLively g [] (any_string_outer o)
  any_outer_lively (lively_document {p = p} c) = lively_among_of (document (after_solid p)) (λ e. lively_document ((fine_after solid_tests p (fine c)).clean e))
  any_outer_lively (lively_inside {b = b} {l = l} {o = o} c d a h) = lively_among_of (inside (after_solid b) (after_solid l) false o) (λ e. lively_inside (fine_after solid_tests b c) (fine_after solid_tests l d) e h)
  any_outer_lively (lively_one_of {o = o} {u = u} h i) =
      lively_with_ways (any_string_outer o) (any_string_outer u) (any_outer_lively h) (any_outer_lively i)

  any_string_way_in : {l : List Name} {t : List ℕ} {s : List Event} → IsTrue (is_utf8 t) → is_blank t ≡ false → (w : Way) → IsLively g l w → TakesWay g w (Chars t ∷ s) → Takes g (any_string_way w) s
  any_string_way_in u b (among o) (lively_among h) (among_children k) = any_outer_in u b h k
  any_string_way_in u b (in_tag p o) i (in_start_tag a k rest e w h) = not_chars _ a e

  any_string_way_out : {l : List Name} {s : List Event} → IsDistinct [] s → (w : Way) → IsLively g l w → Takes g (any_string_way w) s → WayBefore g l any_string s w
  any_string_way_out d (among o) (lively_among h) k =
      let w = any_outer_out h k in
      record { added = Chars w.text ∷ []; adds = adds_string w.text w.solid.0 w.solid.1; distinct = distinct_chars d; taken = among_children w.taken }
  any_string_way_out d (in_tag p o) i k = elim k [ ]

  any_string_way_lively : {l : List Name} (w : Way) → IsLively g l w → AreLively g [] (any_string_way w)
  any_string_way_lively (among o) (lively_among h) = any_outer_lively h
  any_string_way_lively (in_tag p o) i = none_lively

string_moves : {g : List Definition} {l : List Name} → TestsSolid g → WayMoves g l any_string (any_string_way)
string_moves {g = g} {l = l} z = record {
  sound = λ s d w i k. any_string_way_out z d w i k;
  complete = λ s added a t w i k. go s added a w i k;
  alive = λ w i. any_string_way_lively z w i;
}
  where
    go : (s added : List Event) → Adds any_string added → (w : Way) → IsLively g l w → TakesWay g w (added ++ s) → Takes g (any_string_way w) s
    go s added (adds_string t c b) w i k = any_string_way_in z (and_true _ _ c).0 b w i k

-- ---- missing attributes

end_top : {X : Type 0} (a : List Attribute) (c : Children) (s : List Event) → attributes_flat a (TagEnd ∷ s) ≡ children_flat c [] → X
end_top [] nil s e = cc
end_top [] (string t c) s e = cc
end_top [] (element n b k c) s e = cc
end_top (x ∷ a) nil s e = cc
end_top (x ∷ a) (string t c) s e = cc
end_top (x ∷ a) (element n b k c) s e = cc

end_inside : {X : Type 0} (a : List Attribute) (c : Children) (s z : List Event) → attributes_flat a (TagEnd ∷ s) ≡ children_flat c (Leave ∷ z) → X
end_inside [] nil s z e = cc
end_inside [] (string t c) s z e = cc
end_inside [] (element n b k c) s z e = cc
end_inside (x ∷ a) nil s z e = cc
end_inside (x ∷ a) (string t c) s z e = cc
end_inside (x ∷ a) (element n b k c) s z e = cc

pub no_tag_outside : {X : Type 0} {g : List Definition} (a : List Attribute) (s : List Event) (o : Outer) → TakesOuter g o (attributes_flat a (TagEnd ∷ s)) → X
no_tag_outside a s (document p) (at_document c e m) = end_top a c s e
no_tag_outside a s (inside b l v o) (at_inside k rest e c h) = end_inside a k s rest e
no_tag_outside a s (one_of o u) (at_this h) = no_tag_outside a s o h
no_tag_outside a s (one_of o u) (at_other h) = no_tag_outside a s u h

module _ {g : List Definition} (z : TestsSolid g) where
  missing_way_in : {l : List Name} (a : List Attribute) (s : List Event) → AreText s → (w : Way) → IsLively g l w → TakesWay g w (attributes_flat a (TagEnd ∷ s)) → Takes g (missing_way w) s
  missing_way_in a s t (among o) i h = no_tag_outside a s o (outer_of h)
  missing_way_in a s t (in_tag p o) (lively_in_tag c w j) (in_start_tag b k rest e u h) =
      let v = attributes_unique a b s (children_flat k (Leave ∷ rest)) e in
      among_in (children_of (drop p) o)
      (children_of_in (drop p) o z.all t (drop_clean c)
      (in_start_tag [] k rest (ap (λ (y : List Event). TagEnd ∷ y) v.1) (record { children = u.children; weakly = u.weakly; matched = drop_in u.matched }) h))

  missing_tag : {l : List Name} {p : Pattern} {o : Outer} {s : List Event} → AreLive g → Clean g true true p → Within g l p → IsDistinct [] s → TakesWay g (in_tag (drop p) o) (TagEnd ∷ s) → WayBefore g l missing_attributes s (in_tag p o)
  missing_tag {l = l} {p = p} {o = o} {s = s} live c w d (in_start_tag a k rest e u t) =
      let f = ended a s (children_flat k (Leave ∷ rest)) e in
      let m : Matches g (drop p) [] u.children = subst (λ x. Matches g (drop p) x u.children) f.0 u.matched in
      let v = drop_out c u.children m in
      let i = w.behind v.given u.children v.matched in
      let r = repair i.matched (live.apart w.number w.definition w.is) i.split i.proper in
      let x = attributes_append r.other (TagEnd ∷ []) s in
      let apart : (n : Name) → HasAttribute n r.other → IsAmong n l → ⊥ = λ n b q. distinct_apart2 r.split r.distinct (i.names n q) b in
      record {
        added = attributes_flat r.other (TagEnd ∷ []);
        adds = adds_attributes r.other (attributes_written (distinct_right r.split r.distinct) (r.chars v.chars));
        distinct = subst (λ y. IsDistinct l y) (sym x) (distinct_attributes_on r.other l (distinct_right r.split r.distinct) apart d);
        taken = subst (λ y. TakesWay g (in_tag p o) y) (sym x)
            (in_start_tag r.other k rest (ap (λ (y : List Event). attributes_flat r.other (TagEnd ∷ y)) f.1) (record { children = u.children; weakly = u.weakly; matched = i.from r.all r.other u.children r.split r.matched }) t);
      }

  missing_way_out : {l : List Name} {s : List Event} → AreLive g → IsDistinct [] s → (w : Way) → IsLively g l w → Takes g (missing_way w) s → WayBefore g l missing_attributes s w
  missing_way_out live d (among o) i k = elim k [ ]
  missing_way_out live d (in_tag p o) (lively_in_tag c w h) k = missing_tag live c w d (children_of_out (drop p) o (among_out (children_of (drop p) o) k))

  missing_way_lively : {l : List Name} (w : Way) → IsLively g l w → AreLively g [] (missing_way w)
  missing_way_lively (among o) i = none_lively
  missing_way_lively (in_tag p o) (lively_in_tag c w h) = end_children z.none_else (drop_clean c) h

attribute_moves : {g : List Definition} {l : List Name} → AreLive g → TestsSolid g → WayMoves g l missing_attributes (missing_way)
attribute_moves {g = g} {l = l} live z = record {
  sound = λ s d w i k. missing_way_out z live d w i k;
  complete = λ s added a t w i k. go s added a t w i k;
  alive = λ w i. missing_way_lively z w i;
}
  where
    go : (s added : List Event) → Adds missing_attributes added → AreText s → (w : Way) → IsLively g l w → TakesWay g w (added ++ s) → Takes g (missing_way w) s
    go s added (adds_attributes a x) t w i k = missing_way_in z a s t w i (subst (λ y. TakesWay g w y) (attributes_append a (TagEnd ∷ []) s) k)

-- ---- each move

module _ {g : Language} {p : Pattern} {h : List Move} {x : Residual} (live : AreLive g.definitions) (z : TestsSolid g.definitions) (e : Stands g p h x) where
  pub skip_stands : (n : Name) → StandsBehind g p h (skip_to n) (answered (enter_skip g.definitions n x))
  skip_stands n = way_stands live z e (skip_to n) tt (skip_way g.definitions n) (skip_moves n live)

  pub value_stands : (n : Name) → (IsAmong n (attributes_of h) → ⊥) → StandsBehind g p h (any_value n) (answered (attribute_any n x))
  value_stands n f = way_stands live z e (any_value n) tt (any_value_way n) (value_moves n f)

  pub string_stands : StandsBehind g p h any_string (answered (chars_any x))
  string_stands = way_stands live z e any_string tt (any_string_way) (string_moves z)

  pub attributes_stand : StandsBehind g p h missing_attributes (answered (tag_end_missing x))
  attributes_stand = way_stands live z e missing_attributes tt (missing_way) (attribute_moves live z)

  pub content_stands : StandsBehind g p h missing_content (answered (leave_skip x))
  content_stands = way_stands live z e missing_content tt leave_skip_way content_moves

pub moves_stand : MovesStand
moves_stand g live p h x e = let z = tests_are_solid g.definitions in record {
  event = λ f t new. event_stands live z p h x e f t new;
  skip = λ n. skip_stands live z e n;
  value = λ n f. value_stands live z e n f;
  string = string_stands live z e;
  attributes = attributes_stand live z e;
  content = content_stands live z e;
}
