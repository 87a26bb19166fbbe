-- Attributes, elements and strings among leaves, found one after another.
use Rattle.std.proofs.Common.{◌≡◌, ℕ, List, [], ◌∷◌, ◌++◌, map, reverse, Bool, true, false, Option, None, Some, refl, sym, subst, ap, ◌∙◌}
use Rattle.std.proofs.Common.{◌<◌, ◌+◌, zero, suc, take, get_or, arith, append_assoc, append-nil}
use Rattle.std.specs.Prelude.{length, ◌==◌, cond}
use Rattle.std.specs.List.{AllByRecursion, cons_option}
use Rattle.std.specs.Borrow.{Bor}
use Rattle.std.proofs.lemmas.Bool.{eqb-false}
use Rattle.std.proofs.lemmas.List.{map-append, map_more, reverse-append}
use Rattle.std.proofs.lemmas.List.Elements.{filter-append, filter_map-append}
use Rattle.nx_base.specs.Trees.{Attribute, Event, Att, attributes_flat}
use Rattle.rng_core.specs.Names.{Class}
use Rattle.rng_core.specs.declared.grammar.Pat.{Pat}
use Rattle.rng_core.specs.Meaning.{pattern_of}
use Rattle.rng_core.specs.Patterns.{Pattern, Definition, attribute}
use Rattle.rng_cost.specs.Leaves.{patterns_of}
use Rattle.rng_fill.specs.declared.moves.Move.{Move}
use Rattle.rng_fill.specs.declared.moves.Move.TheVariants as move
use Rattle.rng_fill.specs.declared.element.Task.{Task}
use Rattle.rng_fill.specs.declared.element.Task.TheVariants as task
use Rattle.rng_fill.specs.Moves.{event_of, events_of}
use Rattle.rng_fill.specs.Written.{AreOfChars, no_value, one_value}
use Rattle.rng_fill.specs.Sorted.{is_attribute, attribute_leaves, number_of, ref_leaves, takes_string, string_leaves, first_of}
use Rattle.rng_fill.specs.Sorted.{AreAttributesOf, no_leaf, one_leaf}
use Rattle.rng_fill.specs.Fillable.{HasFilling}
use Rattle.rng_fill.specs.Doing.{AddsAttribute, AddsAttributes}

-- ---- attributes

pub adds_nothing : (moves : List Move) → AddsAttributes [] moves moves
adds_nothing moves = record {
  attributes = [];
  matched = λ g. no_leaf;
  values = no_value;
  added = [];
  is = sym (append-nil moves);
  events = λ s. refl;
}

adds_one : {class : Class} {body : Pattern} {old new : List Move} → AddsAttribute class body old new
    → AddsAttributes (attribute class body ∷ []) old new
adds_one {class = class} w = record {
  attributes = record { name = w.name; value = w.value } ∷ [];
  matched = λ g. one_leaf (w.is_value.matched g class w.name w.named) no_leaf;
  values = one_value w.is_value.of_chars no_value;
  added = move.Att w.name w.value ∷ [];
  is = w.is;
  events = λ s. refl;
}

-- of a leaf that is none's nothing is added, and of one's that alone
pub adds_no_leaf : (p : Pattern) (moves : List Move) → is_attribute p ≡ false → AddsAttributes (attribute_leaves (p ∷ [])) moves moves
adds_no_leaf p moves is =
    subst (λ (ps : List Pattern). AddsAttributes ps moves moves) (sym (ap (λ (b : Bool). cond b (p ∷ []) []) is)) (adds_nothing moves)

pub adds_leaf : {p : Pattern} {class : Class} {body : Pattern} {old new : List Move} → p ≡ attribute class body
    → AddsAttribute class body old new → AddsAttributes (attribute_leaves (p ∷ [])) old new
adds_leaf {old = old} {new = new} is w = subst (λ (x : Pattern). AddsAttributes (attribute_leaves (x ∷ [])) old new) (sym is) (adds_one w)

values_join : {a b : List Attribute} → AreOfChars a → AreOfChars b → AreOfChars (a ++ b)
values_join no_value w = w
values_join (one_value c v) w = one_value c (values_join v w)

joined : {g : List Definition} {ps qs : List Pattern} {a b : List Attribute} → AreAttributesOf g ps a → AreAttributesOf g qs b
    → AreAttributesOf g (ps ++ qs) (a ++ b)
joined no_leaf w = w
joined (one_leaf m v) w = one_leaf m (joined v w)

flat_join : (a b : List Attribute) (s : List Event) → attributes_flat (a ++ b) s ≡ attributes_flat a (attributes_flat b s)
flat_join [] b s = refl
flat_join (x ∷ a) b s = ap (λ (t : List Event). Att x.name x.value ∷ t) (flat_join a b s)

adds_both : (ps qs : List Pattern) {old middle new : List Move} → AddsAttributes ps old middle → AddsAttributes qs middle new
    → AddsAttributes (ps ++ qs) old new
adds_both ps qs {old = old} v w = record {
  attributes = v.attributes ++ w.attributes;
  matched = λ g. joined (v.matched g) (w.matched g);
  values = values_join v.values w.values;
  added = v.added ++ w.added;
  is = w.is ∙ ap (λ (t : List Move). t ++ w.added) v.is ∙ append_assoc old v.added w.added;
  events = λ s.
      ap (λ (t : List Event). t ++ s) (map-append event_of v.added w.added) ∙ append_assoc (events_of v.added) (events_of w.added) s
      ∙ ap (λ (t : List Event). events_of v.added ++ t) (w.events s) ∙ v.events (attributes_flat w.attributes s)
      ∙ sym (flat_join v.attributes w.attributes s);
}

-- ---- elements

one_turned : (o : Option ℕ) → reverse (map task.Element (cons_option o [])) ≡ map task.Element (cons_option o [])
one_turned None = refl
one_turned (Some i) = refl

-- of one leaf more behind the others they come first on the stack
pub pushed_more : (ps : List Pattern) (p : Pattern) (tasks : List Task)
    → (tasks ++ map task.Element (ref_leaves (p ∷ []))) ++ reverse (map task.Element (ref_leaves ps))
    ≡ tasks ++ reverse (map task.Element (ref_leaves (ps ++ p ∷ [])))
pushed_more ps p tasks =
    let last : List Task = map task.Element (ref_leaves (p ∷ [])) in
    let others : List Task = map task.Element (ref_leaves ps) in
    let all : map task.Element (ref_leaves (ps ++ p ∷ [])) ≡ others ++ last =
    ap (map task.Element) (filter_map-append number_of ps (p ∷ [])) ∙ map-append task.Element (ref_leaves ps) (ref_leaves (p ∷ [])) in
    let turned : reverse last ≡ last = one_turned (number_of p) in
    append_assoc tasks last (reverse others)
    ∙ ap (λ (t : List Task). tasks ++ (t ++ reverse others)) (sym turned)
    ∙ ap (λ (t : List Task). tasks ++ t) (sym (reverse-append others last))
    ∙ ap (λ (t : List Task). tasks ++ reverse t) (sym all)

-- ---- strings

pub not_empty : (b : Bool) (t : List ℕ) → b ≡ (length t == 0) → b ≡ false → t ≡ [] → ⊥
not_empty b t told is none = eqb-false (length t) 0 (sym told ∙ is) (ap length none)

-- the first leaf is that of a string, or it is passed
pub string_first : (p : Pattern) (ps : List Pattern) → takes_string p ≡ true → Some p ≡ first_of (string_leaves (p ∷ ps))
string_first p ps is = sym (ap (λ (b : Bool). first_of (cond b (p ∷ string_leaves ps) (string_leaves ps))) is)

pub string_passed : (p : Pattern) (ps : List Pattern) → takes_string p ≡ false → string_leaves (p ∷ ps) ≡ string_leaves ps
string_passed p ps is = ap (λ (b : Bool). cond b (p ∷ string_leaves ps) (string_leaves ps)) is

-- what a leaf that was found, and none, says of all
pub none_found : (ps : List Pattern) → None ≡ first_of ps → ps ≡ []
none_found [] is = refl
none_found (p ∷ ps) is = cc

pub one_found : (p : Pattern) (ps : List Pattern) → Some p ≡ first_of ps → (rest : List Pattern) × (ps ≡ p ∷ rest)
one_found p [] is = cc
one_found p (q ∷ ps) is = let same : p ≡ q = cc in (ps, ap (λ (x : Pattern). x ∷ ps) (sym same))

-- ---- leaves in a slice

-- one leaf more is behind the others
one_more : (xs : List (Bor Pat)) (i : ℕ) (leaf : Bor Pat) → i < length xs → leaf ≡ get_or xs i leaf
    → patterns_of (take (i + 1) xs) ≡ patterns_of (take i xs) ++ pattern_of leaf.now ∷ []
one_more xs i leaf low is =
    let f : Bor Pat → Pattern = λ leaf. pattern_of leaf.now in
    map_more f xs i leaf low ∙ ap (λ (x : Bor Pat). map f (take i xs) ++ f x ∷ []) (sym is)

pub attributes_more : (xs : List (Bor Pat)) (i : ℕ) (leaf : Bor Pat) {old middle new : List Move} → i < length xs → leaf ≡ get_or xs i leaf
    → AddsAttributes (attribute_leaves (patterns_of (take i xs))) old middle
    → AddsAttributes (attribute_leaves (pattern_of leaf.now ∷ [])) middle new
    → AddsAttributes (attribute_leaves (patterns_of (take (i + 1) xs))) old new
attributes_more xs i leaf {old = old} {new = new} low is v w =
    let ps : List Pattern = patterns_of (take i xs) in
    let p : Pattern = pattern_of leaf.now in
    subst (λ (t : List Pattern). AddsAttributes t old new)
    (sym (ap attribute_leaves (one_more xs i leaf low is) ∙ filter-append is_attribute ps (p ∷ [])))
    (adds_both (attribute_leaves ps) (attribute_leaves (p ∷ [])) v w)

-- an element is pushed in front of those that are left
pub pushed_step : (xs : List (Bor Pat)) (k i : ℕ) (leaf : Bor Pat) (tasks new all : List Task) → k ≡ i + 1 → i < length xs → leaf ≡ get_or xs i leaf
    → new ≡ tasks ++ map task.Element (ref_leaves (pattern_of leaf.now ∷ []))
    → tasks ++ reverse (map task.Element (ref_leaves (patterns_of (take k xs)))) ≡ all
    → new ++ reverse (map task.Element (ref_leaves (patterns_of (take i xs)))) ≡ all
pushed_step xs k i leaf tasks new all next low is pushed so =
    let ps : List Pattern = patterns_of (take i xs) in
    let p : Pattern = pattern_of leaf.now in
    ap (λ (t : List Task). t ++ reverse (map task.Element (ref_leaves ps))) pushed ∙ pushed_more ps p tasks
    ∙ ap (λ (t : List Pattern). tasks ++ reverse (map task.Element (ref_leaves t))) (sym (one_more xs i leaf low is))
    ∙ ap (λ (j : ℕ). tasks ++ reverse (map task.Element (ref_leaves (patterns_of (take j xs))))) (sym next) ∙ so

-- the first leaf that is that of a string
passed : (p : Pattern) (ps : List Pattern) → string_leaves (p ∷ ps) ≡ [] → (takes_string p ≡ false) × (string_leaves ps ≡ [])
passed p ps none = go (takes_string p) refl
  where
    go : (b : Bool) → takes_string p ≡ b → (takes_string p ≡ false) × (string_leaves ps ≡ [])
    go false is = (is, sym (string_passed p ps is) ∙ none)
    go true is =
        let some : p ∷ string_leaves ps ≡ [] = sym (ap (λ (b : Bool). cond b (p ∷ string_leaves ps) (string_leaves ps)) is) ∙ none in cc

pub string_found : (xs : List (Bor Pat)) (i : ℕ) (leaf : Bor Pat) → i < length xs → leaf ≡ get_or xs i leaf
    → string_leaves (patterns_of (take i xs)) ≡ [] → takes_string (pattern_of leaf.now) ≡ true
    → Some (pattern_of leaf.now) ≡ first_of (string_leaves (patterns_of xs))
string_found [] i leaf low is none some = absurd (omega (arith, low))
string_found (x ∷ xs) zero leaf low is none some =
    let P : Bor Pat → Type 0 = λ y. Some (pattern_of leaf.now) ≡ first_of (string_leaves (pattern_of y.now ∷ patterns_of xs)) in
    subst P is (string_first (pattern_of leaf.now) (patterns_of xs) some)
string_found (x ∷ xs) (suc i) leaf low is none some =
    let w = passed (pattern_of x.now) (patterns_of (take i xs)) none in
    string_found xs i leaf (omega (arith, low)) is w.1 some ∙ ap first_of (sym (string_passed (pattern_of x.now) (patterns_of xs) w.0))

-- a leaf of those that can be filled can be
pub filling_at : (xs : List (Bor Pat)) (i : ℕ) (leaf : Bor Pat) → i < length xs → leaf ≡ get_or xs i leaf
    → AllByRecursion HasFilling (patterns_of xs) → HasFilling (pattern_of leaf.now)
filling_at [] i leaf low is all = absurd (omega (arith, low))
filling_at (x ∷ xs) zero leaf low is all = subst (λ (y : Bor Pat). HasFilling (pattern_of y.now)) (sym is) all.0
filling_at (x ∷ xs) (suc i) leaf low is all = filling_at xs i leaf (omega (arith, low)) is all.1
