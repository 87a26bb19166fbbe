-- The leaves of a content, and what its elements begin with, that were kept, and an element that begins by them.
use Rattle.std.proofs.Common.{◌≡◌, ℕ, List, [], ◌∷◌, ◌++◌, map, reverse, Bool, true, false, Option, None, Some, refl, sym, subst, ap, ◌∙◌}
use Rattle.std.proofs.Common.{append_assoc}
use Rattle.std.specs.Prelude.{IsTrue, slice_get, cond}
use Rattle.std.specs.Option.{option_map}
use Rattle.std.specs.Borrow.{Bor}
use Rattle.std.specs.List.{AllByRecursion}
use Rattle.std.proofs.lemmas.Bool.{false≢true}
use Rattle.std.proofs.lemmas.Option.{slice_get-map}
use Rattle.rng_core.specs.declared.grammar.Pat.{Pat}
use Rattle.rng_core.specs.Patterns.{Pattern, Definition, not_allowed, empty, any_text, typed, literal, listed, attribute, ref, one_or_more}
use Rattle.rng_core.specs.Patterns.{choice, group, interleave}
use Rattle.rng_cost.specs.Leaves.{leaves, patterns_of}
use Rattle.rng_fill.specs.declared.moves.Move.{Move}
use Rattle.rng_fill.specs.declared.moves.Move.TheVariants as move
use Rattle.rng_fill.specs.declared.element.Task.{Task}
use Rattle.rng_fill.specs.declared.element.Task.TheVariants as task
use Rattle.rng_fill.specs.Contents.{AreLeavesOf}
use Rattle.rng_fill.specs.Sorted.{attribute_leaves, ref_leaves, string_leaves, takes_string, first_of}
use Rattle.rng_fill.specs.Strings.{AreSoundTexts, has_some_string}
use Rattle.rng_fill.specs.Fillable.{HasFilling, CanBeFilled}
use Rattle.rng_fill.specs.Doing.{AddsAttributes, AddsString, adds_none, adds_text, AreTasksOf, Begins}
use Rattle.rng_fill.specs.Heads.{AddsStringOf, IsBeginning, IsBeginningOf}
use Rattle.rng_fill.proofs.Adding.{none_found, one_found}
use Rattle.rng_fill.proofs.Going.{elements_start, string_start}

pub held : (g : List Definition) (costs : List ℕ) (lists : List (List (Bor Pat))) (i : ℕ) (ls : List (Bor Pat))
    → map patterns_of lists ≡ map (λ d. leaves costs d.content) g → Some ls ≡ slice_get lists i → AreLeavesOf g costs i (patterns_of ls)
held g costs lists i ls each at = go (slice_get g i) refl found
  where
    f : Definition → List Pattern
    f d = leaves costs d.content

    found : option_map f (slice_get g i) ≡ Some (patterns_of ls)
    found =
        sym (slice_get-map f g i) ∙ ap (λ (xs : List (List Pattern)). slice_get xs i) (sym each) ∙ slice_get-map patterns_of lists i
        ∙ ap (option_map patterns_of) (sym at)

    go : (o : Option Definition) → slice_get g i ≡ o → option_map f o ≡ Some (patterns_of ls) → AreLeavesOf g costs i (patterns_of ls)
    go None is none = cc
    go (Some d) is some = let same : f d ≡ patterns_of ls = cc in record { definition = d; at = is; same = sym same }

pub held_fill : {g : List Definition} {costs : List ℕ} {i : ℕ} {ps : List Pattern} → CanBeFilled g costs → AreLeavesOf g costs i ps
    → AllByRecursion HasFilling ps
held_fill fit h = subst (λ (t : List Pattern). AllByRecursion HasFilling t) (sym h.same) (fit.filled _ h.definition h.at)

-- ---- a leaf of a string

filled_string : (p : Pattern) → takes_string p ≡ true → HasFilling p → AreSoundTexts p × IsTrue (has_some_string false p)
filled_string (attribute class p) takes h = absurd (false≢true takes)
filled_string (ref i) takes h = absurd (false≢true takes)
filled_string not_allowed takes h = h
filled_string empty takes h = h
filled_string any_text takes h = h
filled_string (typed type excepts) takes h = h
filled_string (literal type text) takes h = h
filled_string (listed p) takes h = h
filled_string (one_or_more p) takes h = h
filled_string (choice p q) takes h = h
filled_string (group p q) takes h = h
filled_string (interleave p q) takes h = h

string_fills_by : (p q : Pattern) (ps : List Pattern) (b : Bool) → takes_string q ≡ b → HasFilling q
    → (Some p ≡ first_of (string_leaves ps) → AreSoundTexts p × IsTrue (has_some_string false p)) → Some p ≡ first_of (string_leaves (q ∷ ps))
    → AreSoundTexts p × IsTrue (has_some_string false p)
string_fills_by p q ps true takes fills more is =
    let here : Some p ≡ Some q = is ∙ ap (λ (b : Bool). first_of (cond b (q ∷ string_leaves ps) (string_leaves ps))) takes in
    let same : q ≡ p = cc in
    subst (λ (x : Pattern). AreSoundTexts x × IsTrue (has_some_string false x)) same (filled_string q takes fills)
string_fills_by p q ps false takes fills more is = more (is ∙ ap (λ (b : Bool). first_of (cond b (q ∷ string_leaves ps) (string_leaves ps))) takes)

pub string_fills : (ps : List Pattern) (p : Pattern) → AllByRecursion HasFilling ps → Some p ≡ first_of (string_leaves ps)
    → AreSoundTexts p × IsTrue (has_some_string false p)
string_fills [] p all is = cc
string_fills (q ∷ ps) p all is = string_fills_by p q ps (takes_string q) refl all.0 (λ here. string_fills ps p all.1 here) is

-- ---- an element begins

module _ {g : List Definition} {costs : List ℕ} (fit : CanBeFilled g costs) {i : ℕ} {ps : List Pattern} (h : AreLeavesOf g costs i ps)
    {tasks tasks' : List Task} (are : AreTasksOf g tasks) {old two three : List Move} (atts : AddsAttributes (attribute_leaves ps) old two)
    (closed : three ≡ two ++ move.TagEnd ∷ []) where
  pub begun_elements : None ≡ first_of (string_leaves ps)
      → tasks' ≡ (tasks ++ task.Leave ∷ []) ++ reverse (map task.Element (ref_leaves ps)) → Begins g costs i tasks tasks' old three
  begun_elements none pushed =
      elements_start fit h.definition h.at are (subst (λ (t : List Pattern). AddsAttributes (attribute_leaves t) old two) h.same atts) closed
      (none_found (string_leaves (leaves costs h.definition.content)) (none ∙ ap (λ (t : List Pattern). first_of (string_leaves t)) h.same))
      (pushed ∙ ap (λ (t : List Pattern). (tasks ++ task.Leave ∷ []) ++ reverse (map task.Element (ref_leaves t))) h.same)

  pub begun_string : (l : Pattern) → Some l ≡ first_of (string_leaves ps) → tasks' ≡ tasks ++ task.Leave ∷ [] → {new : List Move}
      → AddsString l three new → Begins g costs i tasks tasks' old new
  begun_string l is pushed adds =
      let found = one_found l (string_leaves (leaves costs h.definition.content))
      (is ∙ ap (λ (t : List Pattern). first_of (string_leaves t)) h.same) in
      string_start fit h.definition h.at are (subst (λ (t : List Pattern). AddsAttributes (attribute_leaves t) old two) h.same atts) closed
      l found.0 found.1 pushed adds

-- ---- moves that were kept, behind others

attributes_behind : {ps : List Pattern} {added : List Move} (old : List Move) → AddsAttributes ps [] added → AddsAttributes ps old (old ++ added)
attributes_behind old w = record {
  attributes = w.attributes;
  matched = w.matched;
  values = w.values;
  added = w.added;
  is = ap (λ (t : List Move). old ++ t) w.is;
  events = w.events;
}

string_behind : {leaf : Pattern} {one two : List Move} (old : List Move) → AddsString leaf one two → AddsString leaf (old ++ one) (old ++ two)
string_behind old (adds_none w same) = adds_none w (ap (λ (t : List Move). old ++ t) same)
string_behind {one = one} old (adds_text {text = text} w some more) =
    adds_text w some (ap (λ (t : List Move). old ++ t) more ∙ sym (append_assoc old one (move.Chars text ∷ [])))

-- what an element begins with fits to the leaves that are known of its content
pub same_leaves : {g : List Definition} {costs : List ℕ} {i : ℕ} {ps : List Pattern} {moves : List Move} → AreLeavesOf g costs i ps
    → IsBeginningOf g costs i moves → IsBeginning ps moves
same_leaves {costs = costs} {moves = moves} h w =
    let same : w.definition ≡ h.definition = cc in
    subst (λ (t : List Pattern). IsBeginning t moves) (ap (λ (d : Definition). leaves costs d.content) same ∙ sym h.same) w.beginning

module _ {g : List Definition} {costs : List ℕ} (fit : CanBeFilled g costs) {i : ℕ} {ps : List Pattern} (h : AreLeavesOf g costs i ps)
    {tasks tasks' : List Task} (are : AreTasksOf g tasks) {kept old new : List Move} (b : IsBeginning ps kept) (is : new ≡ old ++ kept) where
  pub kept_elements : None ≡ first_of (string_leaves ps)
      → tasks' ≡ (tasks ++ task.Leave ∷ []) ++ reverse (map task.Element (ref_leaves ps)) → Begins g costs i tasks tasks' old new
  kept_elements none pushed =
      let closed : kept ≡ b.tag ++ move.TagEnd ∷ [] = subst (λ (o : Option Pattern). AddsStringOf o (b.tag ++ move.TagEnd ∷ []) kept) (sym none) b.string in
      begun_elements fit h are (attributes_behind old b.attributes)
      (is ∙ ap (λ (t : List Move). old ++ t) closed ∙ sym (append_assoc old b.tag (move.TagEnd ∷ []))) none pushed

  pub kept_string : (l : Pattern) → Some l ≡ first_of (string_leaves ps) → tasks' ≡ tasks ++ task.Leave ∷ [] → Begins g costs i tasks tasks' old new
  kept_string l some pushed =
      let adds : AddsString l (b.tag ++ move.TagEnd ∷ []) kept =
      subst (λ (o : Option Pattern). AddsStringOf o (b.tag ++ move.TagEnd ∷ []) kept) (sym some) b.string in
      subst (λ (t : List Move). Begins g costs i tasks tasks' old t) (sym is)
      (begun_string fit h are (attributes_behind old b.attributes) (sym (append_assoc old b.tag (move.TagEnd ∷ []))) l some pushed (string_behind old adds))
