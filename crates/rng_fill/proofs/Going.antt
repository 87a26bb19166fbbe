-- What is to be done, one task after another.
use Rattle.std.proofs.Common.{◌≡◌, ◌<◌, ◌≤◌, ◌+◌, ℕ, List, [], ◌∷◌, ◌++◌, map, reverse, Some, refl, sym, subst, ap, ◌∙◌, arith}
use Rattle.std.proofs.Common.{append_assoc, append-nil}
use Rattle.std.specs.Prelude.{slice_get, IsTrue}
use Rattle.std.specs.List.{sum_by, AllByRecursion}
use Rattle.std.proofs.lemmas.List.{map-append, reverse-append, reverse-reverse}
use Rattle.std.proofs.lemmas.List.Elements.{filter_map-append}
use Rattle.std.proofs.lemmas.List.Sums.{sum_by-append, sum_by-cons}
use Rattle.std.proofs.lemmas.Option.{slice_get_within}
use Rattle.nx_base.specs.declared.name.Name.{Name}
use Rattle.nx_base.specs.Trees.{Event, Enter, TagEnd, Chars, Leave, attributes_flat}
use Rattle.rng_core.specs.Names.{has_name}
use Rattle.rng_core.specs.Patterns.{Pattern, Definition, not_allowed, empty, any_text, typed, literal, listed, attribute, ref, one_or_more}
use Rattle.rng_core.specs.Patterns.{choice, group, interleave}
use Rattle.rng_cost.specs.Least.{least}
use Rattle.rng_cost.specs.Leaves.{leaves}
use Rattle.rng_cost.proofs.Filling.{leaves_cost}
use Rattle.rng_fill.specs.declared.moves.Move.{Move}
use Rattle.rng_fill.specs.declared.moves.Move.TheVariants as move
use Rattle.rng_fill.specs.declared.element.Task.{Task}
use Rattle.rng_fill.specs.declared.element.Task.TheVariants as task
use Rattle.rng_fill.specs.Moves.{event_of, events_of}
use Rattle.rng_fill.specs.Sorted.{attribute_leaves, number_of, ref_leaves, string_leaves}
use Rattle.rng_fill.specs.Written.{IsInside}
use Rattle.rng_fill.specs.Fillable.{IsNamed, CanBeFilled}
use Rattle.rng_fill.specs.Doing.{AreDone, nothing_left, an_element, an_end, StackIsDone, Continues, AddsElement, AddsInside, AddsAttributes}
use Rattle.rng_fill.specs.Doing.{AddsString, adds_none, adds_text, IsTaskOf, AreTasksOf, weight_of, weight, Steps, Begins, IsInsideThen}
use Rattle.rng_fill.proofs.Mixing.{AreUnmixed, unmixed_leaves}
use Rattle.rng_fill.proofs.Started.{refs_begin, text_begins, nothing_begins, entered}

-- ---- lists

reverse_last : {X : Type 0} (xs : List X) (x : X) → reverse (xs ++ x ∷ []) ≡ x ∷ reverse xs
reverse_last xs x = reverse-append xs (x ∷ [])

tasks_join : (g : List Definition) (xs ys : List Task) → AreTasksOf g xs → AreTasksOf g ys → AreTasksOf g (xs ++ ys)
tasks_join g [] ys a b = b
tasks_join g (x ∷ xs) ys a b = (a.0, tasks_join g xs ys a.1 b)

tasks_turned : (g : List Definition) (xs : List Task) → AreTasksOf g xs → AreTasksOf g (reverse xs)
tasks_turned g [] a = a
tasks_turned g (x ∷ xs) a =
    subst (λ (t : List Task). AreTasksOf g t) (sym (reverse-append (x ∷ []) xs))
    (tasks_join g (reverse xs) (x ∷ []) (tasks_turned g xs a.1) (a.0, tt))

pub tasks_before : (g : List Definition) (xs : List Task) (x : Task) → AreTasksOf g (xs ++ x ∷ []) → AreTasksOf g xs × IsTaskOf g x
tasks_before g [] x a = (tt, a.0)
tasks_before g (y ∷ xs) x a = let w = tasks_before g xs x a.1 in ((a.0, w.0), w.1)

named_tasks : (g : List Definition) (is : List ℕ) → AllByRecursion (IsNamed g) is → AreTasksOf g (map task.Element is)
named_tasks g [] a = a
named_tasks g (i ∷ is) a = (a.0, named_tasks g is a.1)

weight_turned : (costs : List ℕ) (xs : List Task) → weight costs (reverse xs) ≡ weight costs xs
weight_turned costs [] = refl
weight_turned costs (x ∷ xs) =
    let f = weight_of costs in
    ap (sum_by f) (reverse-append (x ∷ []) xs)
    ∙ omega (arith, sum_by-append f (reverse xs) (x ∷ []), sum_by-cons f x [], sum_by-cons f x xs, weight_turned costs xs)

pub weight_last : (costs : List ℕ) (xs : List Task) (x : Task) → weight costs (xs ++ x ∷ []) ≡ weight costs xs + weight_of costs x
weight_last costs xs x = let f = weight_of costs in omega (arith, sum_by-append f xs (x ∷ []), sum_by-cons f x [])

-- ---- a start tag

abbrev tag : List Move → List Move
tag added = added ++ move.TagEnd ∷ []

tag_is : (ps : List Pattern) (old two three : List Move) (atts : AddsAttributes ps old two) → three ≡ two ++ move.TagEnd ∷ []
    → three ≡ old ++ tag atts.added
tag_is ps old two three atts closed =
    closed ∙ ap (λ (t : List Move). t ++ move.TagEnd ∷ []) atts.is ∙ append_assoc old atts.added (move.TagEnd ∷ [])

tag_events : (ps : List Pattern) (old two : List Move) (atts : AddsAttributes ps old two) (s : List Event)
    → events_of (tag atts.added) ++ s ≡ attributes_flat atts.attributes (TagEnd ∷ s)
tag_events ps old two atts s =
    ap (λ (t : List Event). t ++ s) (map-append event_of atts.added (move.TagEnd ∷ []))
    ∙ append_assoc (events_of atts.added) (TagEnd ∷ []) s ∙ atts.events (TagEnd ∷ s)

-- ---- an end

pub ends : (g : List Definition) (costs : List ℕ) (tasks : List Task) (old new : List Move) → AreTasksOf g tasks → new ≡ old ++ move.Leave ∷ []
    → Steps g costs task.Leave tasks tasks old new
ends g costs tasks old new are is = record {
  continues = record {
    added = move.Leave ∷ [];
    is = is;
    rest = λ s d. subst (λ (t : List Task). AreDone g t (Leave ∷ s)) (sym (reverse_last tasks task.Leave)) (an_end d);
  };
  lighter = omega arith;
  are = are;
}

-- ---- elements weigh less than what they cost

leaf_weighs : (costs : List ℕ) (p : Pattern) → least costs p ≤ 10000 → weight costs (map task.Element (ref_leaves (p ∷ []))) ≤ least costs p
leaf_weighs costs (ref i) small = omega (arith, small, sum_by-cons (weight_of costs) (task.Element i) [])
leaf_weighs costs (attribute class p) small = omega arith
leaf_weighs costs not_allowed small = omega arith
leaf_weighs costs empty small = omega arith
leaf_weighs costs any_text small = omega arith
leaf_weighs costs (typed type excepts) small = omega arith
leaf_weighs costs (literal type text) small = omega arith
leaf_weighs costs (listed p) small = omega arith
leaf_weighs costs (one_or_more p) small = omega arith
leaf_weighs costs (choice p q) small = omega arith
leaf_weighs costs (group p q) small = omega arith
leaf_weighs costs (interleave p q) small = omega arith

refs_weigh : (costs : List ℕ) (ps : List Pattern) → sum_by (least costs) ps ≤ 10000
    → weight costs (map task.Element (ref_leaves ps)) ≤ sum_by (least costs) ps
refs_weigh costs [] small = omega arith
refs_weigh costs (p ∷ ps) small =
    let f = weight_of costs in
    let one : List Task = map task.Element (ref_leaves (p ∷ [])) in
    let more : List Task = map task.Element (ref_leaves ps) in
    let parts : map task.Element (ref_leaves (p ∷ ps)) ≡ one ++ more =
    ap (map task.Element) (filter_map-append number_of (p ∷ []) ps) ∙ map-append task.Element (ref_leaves (p ∷ [])) (ref_leaves ps) in
    let all = sum_by-cons (least costs) p ps in
    omega (
      arith,
      all,
      small,
      ap (sum_by f) parts,
      sum_by-append f one more,
      leaf_weighs costs p (omega (arith, all, small)),
      refs_weigh costs ps (omega (arith, all, small)),
    )

module _ {g : List Definition} {costs : List ℕ} (fit : CanBeFilled g costs) where
  low_content : (i : ℕ) (d : Definition) → slice_get g i ≡ Some d → least costs d.content ≤ 10000
  low_content i d at = omega (arith, fit.settled i d at, fit.small i (slice_get_within g i d at))

  -- ---- an element begins

  module _ {i : ℕ} (d : Definition) (at : slice_get g i ≡ Some d) {tasks : List Task} (are : AreTasksOf g tasks)
      {old two three : List Move} (atts : AddsAttributes (attribute_leaves (leaves costs d.content)) old two)
      (closed : three ≡ two ++ move.TagEnd ∷ []) where
    pub elements_start : string_leaves (leaves costs d.content) ≡ [] → {tasks' : List Task}
        → tasks' ≡ (tasks ++ task.Leave ∷ []) ++ reverse (map task.Element (ref_leaves (leaves costs d.content)))
        → Begins g costs i tasks tasks' old three
    elements_start none {tasks' = tasks'} pushed = record {
      added = tag atts.added;
      is = tag_is (attribute_leaves (leaves costs d.content)) old two three atts closed;
      inside = λ s done.
          subst (λ (e : List Event). IsInsideThen g i (reverse tasks) e) (sym (tag_events (attribute_leaves (leaves costs d.content)) old two atts s))
          (refs_begin costs at (atts.matched g) (fit.distinct i d at atts.attributes (atts.matched g)) atts.values none (reverse tasks) s
          (subst (λ (t : List Task). AreDone g t s) turned done));
      lighter =
          let f = weight_of costs in
          let low = low_content i d at in
          let sums = leaves_cost costs d.content low in
          let weighed = refs_weigh costs (leaves costs d.content) (omega (arith, sums, low)) in
          let parts = sum_by-append f (tasks ++ task.Leave ∷ []) (reverse elements) in
          omega (
            arith,
            ap (sum_by f) pushed,
            parts,
            weight_last costs tasks task.Leave,
            weight_turned costs elements,
            weighed,
            sums,
            fit.settled i d at,
          );
      are = subst (λ (t : List Task). AreTasksOf g t) (sym pushed)
          (tasks_join g (tasks ++ task.Leave ∷ []) (reverse elements) (tasks_join g tasks (task.Leave ∷ []) are (tt, tt))
          (tasks_turned g elements (named_tasks g (ref_leaves (leaves costs d.content)) (fit.named i d at))));
    }
      where
        elements : List Task
        elements = map task.Element (ref_leaves (leaves costs d.content))

        turned : reverse tasks' ≡ elements ++ task.Leave ∷ reverse tasks
        turned =
            ap (λ (t : List Task). reverse t) pushed
            ∙ reverse-append (tasks ++ task.Leave ∷ []) (reverse elements)
            ∙ ap (λ (t : List Task). t ++ reverse (tasks ++ task.Leave ∷ [])) (reverse-reverse elements)
            ∙ ap (λ (t : List Task). elements ++ t) (reverse_last tasks task.Leave)

    pub string_start : (l : Pattern) (ls : List Pattern) → string_leaves (leaves costs d.content) ≡ l ∷ ls → {tasks' : List Task}
        → tasks' ≡ tasks ++ task.Leave ∷ [] → {new : List Move} → AddsString l three new → Begins g costs i tasks tasks' old new
    string_start l ls is {tasks' = tasks'} pushed {new = new} adds = go adds
      where
        unmixed : AreUnmixed (leaves costs d.content)
        unmixed = unmixed_leaves costs d.content (fit.unmixed i d at) (low_content i d at)

        alone : string_leaves (leaves costs d.content) ≡ l ∷ []
        alone = is ∙ ap (λ (t : List Pattern). l ∷ t) (unmixed.alone l ls is).0

        none : ref_leaves (leaves costs d.content) ≡ []
        none = (unmixed.alone l ls is).1

        turned : reverse tasks' ≡ task.Leave ∷ reverse tasks
        turned = ap (λ (t : List Task). reverse t) pushed ∙ reverse_last tasks task.Leave

        lighter : weight costs tasks' < weight costs tasks + weight_of costs (task.Element i)
        lighter = omega (arith, ap (weight costs) pushed, weight_last costs tasks task.Leave)

        are' : AreTasksOf g tasks'
        are' = subst (λ (t : List Task). AreTasksOf g t) (sym pushed) (tasks_join g tasks (task.Leave ∷ []) are (tt, tt))

        go : AddsString l three new → Begins g costs i tasks tasks' old new
        go (adds_none w same) = record {
          added = tag atts.added;
          is = same ∙ tag_is (attribute_leaves (leaves costs d.content)) old two three atts closed;
          inside = λ s done.
              subst (λ (e : List Event). IsInsideThen g i (reverse tasks) e)
              (sym (tag_events (attribute_leaves (leaves costs d.content)) old two atts s))
              (nothing_begins costs at (atts.matched g) (fit.distinct i d at atts.attributes (atts.matched g)) atts.values l [] alone none
              (w.matched g) refl (reverse tasks) s
              (subst (λ (t : List Task). AreDone g t s) turned done));
          lighter = lighter;
          are = are';
        }
        go (adds_text {text = text} w some more) = record {
          added = tag atts.added ++ move.Chars text ∷ [];
          is =
              more ∙ ap (λ (t : List Move). t ++ move.Chars text ∷ []) (tag_is (attribute_leaves (leaves costs d.content)) old two three atts closed)
              ∙ append_assoc old (tag atts.added) (move.Chars text ∷ []);
          inside = λ s done.
              subst (λ (e : List Event). IsInsideThen g i (reverse tasks) e) (sym (with_text s))
              (text_begins costs at (atts.matched g) (fit.distinct i d at atts.attributes (atts.matched g)) atts.values l text alone none
              (w.matched g) w.of_chars some (reverse tasks) s
              (subst (λ (t : List Task). AreDone g t s) turned done));
          lighter = lighter;
          are = are';
        }
          where
            with_text : (s : List Event) → events_of (tag atts.added ++ move.Chars text ∷ []) ++ s
                ≡ attributes_flat atts.attributes (TagEnd ∷ Chars text ∷ s)
            with_text s =
                ap (λ (t : List Event). t ++ s) (map-append event_of (tag atts.added) (move.Chars text ∷ []))
                ∙ append_assoc (events_of (tag atts.added)) (Chars text ∷ []) s
                ∙ tag_events (attribute_leaves (leaves costs d.content)) old two atts (Chars text ∷ s)

-- with a name in front
pub named_start : (g : List Definition) (costs : List ℕ) (i : ℕ) (d : Definition) (n : Name) (tasks tasks' : List Task) (old one new : List Move)
    → slice_get g i ≡ Some d → IsTrue (has_name d.class n) → one ≡ old ++ move.Enter n ∷ []
    → Begins g costs i tasks tasks' one new → Steps g costs (task.Element i) tasks tasks' old new
named_start g costs i d n tasks tasks' old one new at named begun w = record {
  continues = record {
    added = move.Enter n ∷ w.added;
    is = w.is ∙ ap (λ (t : List Move). t ++ w.added) begun ∙ append_assoc old (move.Enter n ∷ []) w.added;
    rest = λ s done.
        subst (λ (t : List Task). AreDone g t (Enter n ∷ (events_of w.added ++ s))) (sym (reverse_last tasks (task.Element i)))
        (entered at named (w.inside s done));
  };
  lighter = w.lighter;
  are = w.are;
}

-- ---- the whole

one_done : {g : List Definition} {i : ℕ} {old new : List Move} (added : List Move) → new ≡ old ++ added → {all : List Event}
    → AreDone g (task.Element i ∷ []) all → events_of added ++ [] ≡ all → AddsElement g i old new
one_done added is (an_element {n = n} {a = a} {k = k} e same nothing_left) so = record {
  name = n;
  attributes = a;
  children = k;
  is_element = e;
  added = added;
  is = is;
  events = sym (append-nil (events_of added)) ∙ so ∙ same;
}

pub element_done : {g : List Definition} {i : ℕ} {old new : List Move} → Continues g (task.Element i ∷ []) [] old new → AddsElement g i old new
element_done c = one_done c.added c.is (c.rest [] nothing_left) refl

pub continues_first : (g : List Definition) (tasks : List Task) (moves : List Move) → Continues g tasks tasks moves moves
continues_first g tasks moves = record { added = []; is = sym (append-nil moves); rest = λ s d. d }

pub continues_more : {g : List Definition} {tasks middle later : List Task} {old more new : List Move} → Continues g tasks middle old more
    → Continues g middle later more new → Continues g tasks later old new
continues_more {g = g} {tasks = tasks} {old = old} c d = record {
  added = c.added ++ d.added;
  is = d.is ∙ ap (λ (t : List Move). t ++ d.added) c.is ∙ append_assoc old c.added d.added;
  rest = λ s done.
      let same =
      ap (λ (t : List Event). t ++ s) (map-append event_of c.added d.added) ∙ append_assoc (events_of c.added) (events_of d.added) s in
      subst (λ (e : List Event). StackIsDone g tasks e) (sym same) (c.rest (events_of d.added ++ s) (d.rest s done));
}

-- nothing stands behind what is in an element, when nothing is left to be done
last_inside : {g : List Definition} {i : ℕ} {events : List Event} → IsInsideThen g i [] events → IsInside g i events []
last_inside {g = g} {i = i} {events = events} w = subst (λ (after : List Event). IsInside g i events after) (none_left w.rest) w.inside
  where
    none_left : {h : List Definition} {after : List Event} → AreDone h [] after → after ≡ []
    none_left nothing_left = refl

pub inside_done : {g : List Definition} {costs : List ℕ} {i : ℕ} {tasks' : List Task} {old middle new : List Move}
    → Begins g costs i [] tasks' old middle → Continues g tasks' [] middle new → AddsInside g i old new
inside_done {g = g} {i = i} {old = old} w c = record {
  added = w.added ++ c.added;
  is = c.is ∙ ap (λ (t : List Move). t ++ c.added) w.is ∙ append_assoc old w.added c.added;
  inside =
      let same : events_of w.added ++ (events_of c.added ++ []) ≡ events_of (w.added ++ c.added) =
      ap (λ (t : List Event). events_of w.added ++ t) (append-nil (events_of c.added)) ∙ sym (map-append event_of w.added c.added) in
      subst (λ (e : List Event). IsInside g i e []) same (last_inside (w.inside (events_of c.added ++ []) (c.rest [] nothing_left)));
}
