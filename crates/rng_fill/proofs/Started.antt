-- An element that begins: its attributes are written, and its children are elements that remain to be done, or one string.
use Rattle.std.proofs.Common.{◌≡◌, ℕ, List, [], ◌∷◌, ◌++◌, map, Some, refl, sym, subst, ap, ◌∙◌}
use Rattle.std.specs.Prelude.{slice_get, IsTrue}
use Rattle.nx_base.specs.declared.name.Name.{Name}
use Rattle.nx_base.specs.Characters.{is_of_chars}
use Rattle.nx_base.specs.Names.{is_xml_name}
use Rattle.nx_base.specs.Trees.{Attribute, AreAttributes, Children, nil, string, element, Event, Enter, TagEnd, Chars, Leave}
use Rattle.nx_base.specs.Trees.{attributes_flat, children_flat}
use Rattle.rng_core.specs.Names.{covers, has_name}
use Rattle.rng_core.specs.Patterns.{Pattern, Definition, not_allowed, empty, any_text, typed, literal, listed, attribute, ref, one_or_more}
use Rattle.rng_core.specs.Patterns.{choice, group, interleave}
use Rattle.rng_core.specs.Matching.{to_first, then_second, string_of_first, element_of_first, Matches, by_element}
use Rattle.rng_core.specs.Matching.{Weakly, as_they_stand, as_one_empty_string}
use Rattle.rng_residual.proofs.SmallPatterns.{and_true, split_none}
use Rattle.rng_cost.specs.Leaves.{leaves}
use Rattle.rng_fill.specs.declared.element.Task.{Task}
use Rattle.rng_fill.specs.declared.element.Task.TheVariants as task
use Rattle.rng_fill.specs.Matched.{AreMatched, none_matched, one_matched}
use Rattle.rng_fill.specs.Written.{AreOfChars, IsWritten, written_nil, written_string, written_element, IsElement}
use Rattle.rng_fill.specs.Sorted.{attribute_leaves, ref_leaves, string_leaves, AreAttributesOf, no_leaf, one_leaf}
use Rattle.rng_fill.specs.Doing.{AreDone, an_element, an_end, IsInsideThen}
use Rattle.rng_fill.proofs.Together.{matched_by_leaves}

-- ---- elements in a row

data AreElements (g : List Definition) : List ℕ → Children → Type 0 where
  no_element : AreElements g [] nil
  more_elements : {i : ℕ} {is : List ℕ} {n : Name} {a : List Attribute} {k c : Children} → IsElement g i n a k → AreElements g is c
      → AreElements g (i ∷ is) (element n a k c)

-- those that are done in front of an end
record RefsDone (g : List Definition) (is : List ℕ) (tasks : List Task) (s : List Event) : Type 0 where
  children : Children
  after : List Event
  elements : AreElements g is children
  same : s ≡ children_flat children (Leave ∷ after)
  rest : AreDone g tasks after

none_alone : {p : Pattern} {ps : List Pattern} → p ∷ ps ≡ [] → ⊥
none_alone h = cc

some_ref : {i : ℕ} {is : List ℕ} → i ∷ is ≡ [] → ⊥
some_ref h = cc

ends : {g : List Definition} {c : Children} {s after : List Event} → AreElements g [] c → s ≡ children_flat c (Leave ∷ after)
    → s ≡ Leave ∷ after
ends no_element h = h

one_item : (g : List Definition) (i : ℕ) (d e : Definition) → slice_get g i ≡ Some d → slice_get g i ≡ Some e → d ≡ e
one_item g i d e a b = let both : Some d ≡ Some e = sym a ∙ b in cc

written_then : {n : Name} {a : List Attribute} {k rest : Children} → IsWritten (element n a k nil) → IsWritten rest → IsWritten (element n a k rest)
written_then (written_element named distinct values inside written_nil) more = written_element named distinct values inside more

module _ {g : List Definition} where
  elements_written : {is : List ℕ} {c : Children} → AreElements g is c → IsWritten c
  elements_written no_element = written_nil
  elements_written (more_elements e m) = written_then e.written (elements_written m)

  refs_done : (is : List ℕ) (tasks : List Task) {s : List Event} → AreDone g (map task.Element is ++ task.Leave ∷ tasks) s
      → RefsDone g is tasks s
  refs_done [] tasks (an_end {after = after} d) = record {
    children = nil;
    after = after;
    elements = no_element;
    same = refl;
    rest = d;
  }
  refs_done (i ∷ is) tasks (an_element {n = n} {a = a} {k = k} e same d) =
      let w = refs_done is tasks d in
      record {
        children = element n a k w.children;
        after = w.after;
        elements = more_elements e w.elements;
        same = same ∙ ap (λ (t : List Event). Enter n ∷ attributes_flat a (TagEnd ∷ children_flat k (Leave ∷ t))) w.same;
        rest = w.rest;
      }

  -- ---- leaves that are matched, each by its own

  matched_apart : (ps : List Pattern) {a : List Attribute} {c : Children} → string_leaves ps ≡ []
      → AreAttributesOf g (attribute_leaves ps) a → AreElements g (ref_leaves ps) c → AreMatched g ps a c
  matched_apart [] none no_leaf no_element = none_matched
  matched_apart (attribute class p ∷ ps) none (one_leaf {a = a} m ms) es =
      one_matched (to_first (split_none a)) then_second m (matched_apart ps none ms es)
  matched_apart (ref i ∷ ps) {a = a} none ms (more_elements e es) =
      one_matched (split_none a) (element_of_first then_second) e.matched (matched_apart ps none ms es)
  matched_apart (not_allowed ∷ ps) none ms es = absurd (none_alone none)
  matched_apart (empty ∷ ps) none ms es = absurd (none_alone none)
  matched_apart (any_text ∷ ps) none ms es = absurd (none_alone none)
  matched_apart (typed type excepts ∷ ps) none ms es = absurd (none_alone none)
  matched_apart (literal type text ∷ ps) none ms es = absurd (none_alone none)
  matched_apart (listed p ∷ ps) none ms es = absurd (none_alone none)
  matched_apart (one_or_more p ∷ ps) none ms es = absurd (none_alone none)
  matched_apart (choice p q ∷ ps) none ms es = absurd (none_alone none)
  matched_apart (group p q ∷ ps) none ms es = absurd (none_alone none)
  matched_apart (interleave p q ∷ ps) none ms es = absurd (none_alone none)

  -- one string, and attributes
  string_here : (l p : Pattern) (ps : List Pattern) {a : List Attribute} {t : List ℕ} → p ∷ string_leaves ps ≡ l ∷ [] → ref_leaves ps ≡ []
      → AreAttributesOf g (attribute_leaves ps) a → Matches g l [] (string t nil) → AreMatched g (p ∷ ps) a (string t nil)
  string_here l p ps {a = a} {t = t} is none ms m =
      let same : l ≡ p = cc in
      let others : string_leaves ps ≡ [] = cc in
      one_matched (split_none a) (string_of_first then_second) (subst (λ (x : Pattern). Matches g x [] (string t nil)) same m)
      (matched_apart ps others ms (subst (λ (is : List ℕ). AreElements g is nil) (sym none) no_element))

  string_matched : (ps : List Pattern) (l : Pattern) {a : List Attribute} {t : List ℕ} → string_leaves ps ≡ l ∷ [] → ref_leaves ps ≡ []
      → AreAttributesOf g (attribute_leaves ps) a → Matches g l [] (string t nil) → AreMatched g ps a (string t nil)
  string_matched [] l is none ms m = cc
  string_matched (attribute class p ∷ ps) l is none (one_leaf {a = a} n ms) m =
      one_matched (to_first (split_none a)) then_second n (string_matched ps l is none ms m)
  string_matched (ref i ∷ ps) l is none ms m = absurd (some_ref none)
  string_matched (not_allowed ∷ ps) l is none ms m = string_here l not_allowed ps is none ms m
  string_matched (empty ∷ ps) l is none ms m = string_here l empty ps is none ms m
  string_matched (any_text ∷ ps) l is none ms m = string_here l any_text ps is none ms m
  string_matched (typed type excepts ∷ ps) l is none ms m = string_here l (typed type excepts) ps is none ms m
  string_matched (literal type text ∷ ps) l is none ms m = string_here l (literal type text) ps is none ms m
  string_matched (listed p ∷ ps) l is none ms m = string_here l (listed p) ps is none ms m
  string_matched (one_or_more p ∷ ps) l is none ms m = string_here l (one_or_more p) ps is none ms m
  string_matched (choice p q ∷ ps) l is none ms m = string_here l (choice p q) ps is none ms m
  string_matched (group p q ∷ ps) l is none ms m = string_here l (group p q) ps is none ms m
  string_matched (interleave p q ∷ ps) l is none ms m = string_here l (interleave p q) ps is none ms m

  -- ---- an element begins

  module _ (costs : List ℕ) {i : ℕ} {d : Definition} {a : List Attribute} (at : slice_get g i ≡ Some d)
      (atts : AreAttributesOf g (attribute_leaves (leaves costs d.content)) a) (distinct : AreAttributes a) (values : AreOfChars a) where
    -- children as the text has them, and as the content sees them
    begun : (children seen : Children) → Weakly children seen → AreMatched g (leaves costs d.content) a seen → IsWritten children
        → (tasks : List Task) (events after : List Event) → events ≡ children_flat children (Leave ∷ after) → AreDone g tasks after
        → IsInsideThen g i tasks (attributes_flat a (TagEnd ∷ events))
    begun children seen weakly matched written tasks events after same rest = record {
      after = after;
      inside = record {
        definition = d;
        is = at;
        attributes = a;
        children = children;
        seen = seen;
        weakly = weakly;
        matched = matched_by_leaves costs d.content matched;
        distinct = distinct;
        values = values;
        written = written;
        flat = ap (λ (t : List Event). attributes_flat a (TagEnd ∷ t)) same;
      };
      rest = rest;
    }

    pub refs_begin : string_leaves (leaves costs d.content) ≡ [] → (tasks : List Task) (s : List Event)
        → AreDone g (map task.Element (ref_leaves (leaves costs d.content)) ++ task.Leave ∷ tasks) s
        → IsInsideThen g i tasks (attributes_flat a (TagEnd ∷ s))
    refs_begin none tasks s done =
        let w = refs_done (ref_leaves (leaves costs d.content)) tasks done in
        begun w.children w.children as_they_stand (matched_apart (leaves costs d.content) none atts w.elements) (elements_written w.elements)
        tasks s w.after w.same w.rest

    pub text_begins : (l : Pattern) (t : List ℕ) → string_leaves (leaves costs d.content) ≡ l ∷ [] → ref_leaves (leaves costs d.content) ≡ []
        → Matches g l [] (string t nil) → IsTrue (is_of_chars t) → (t ≡ [] → ⊥)
        → (tasks : List Task) (s : List Event) → AreDone g (task.Leave ∷ tasks) s
        → IsInsideThen g i tasks (attributes_flat a (TagEnd ∷ Chars t ∷ s))
    text_begins l t is none m of some tasks s done =
        let w = refs_done [] tasks done in
        begun (string t nil) (string t nil) as_they_stand (string_matched (leaves costs d.content) l is none atts m) (written_string of some)
        tasks (Chars t ∷ s) w.after (ap (λ (x : List Event). Chars t ∷ x) (ends w.elements w.same)) w.rest

    pub nothing_begins : (l : Pattern) (t : List ℕ) → string_leaves (leaves costs d.content) ≡ l ∷ []
        → ref_leaves (leaves costs d.content) ≡ [] → Matches g l [] (string t nil) → t ≡ []
        → (tasks : List Task) (s : List Event) → AreDone g (task.Leave ∷ tasks) s → IsInsideThen g i tasks (attributes_flat a (TagEnd ∷ s))
    nothing_begins l t is none m void tasks s done =
        let w = refs_done [] tasks done in
        begun nil (string [] nil) as_one_empty_string
        (string_matched (leaves costs d.content) l is none atts (subst (λ (x : List ℕ). Matches g l [] (string x nil)) void m)) written_nil
        tasks s w.after (ends w.elements w.same) w.rest

  -- and with a name in front it is an element
  pub entered : {i : ℕ} {n : Name} {d : Definition} {tasks : List Task} {s : List Event} → slice_get g i ≡ Some d
      → IsTrue (has_name d.class n) → IsInsideThen g i tasks s → AreDone g (task.Element i ∷ tasks) (Enter n ∷ s)
  entered {i = i} {n = n} {d = d} at named w =
      let v = w.inside in
      let same : d ≡ v.definition = one_item g i d v.definition at v.is in
      an_element
      (record {
        matched = by_element v.is (subst (λ (x : Definition). IsTrue (has_name x.class n)) same named) v.weakly v.matched;
        written = written_element (and_true (is_xml_name n) (covers d.class n) named).0 v.distinct v.values v.written written_nil;
      })
      (ap (λ (t : List Event). Enter n ∷ t) v.flat) w.rest
