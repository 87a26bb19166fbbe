-- Moves of children and attributes that were added, one leaf after another.
use Rattle.std.proofs.Common.{◌≡◌, ◌<◌, ◌≤◌, ◌+◌, ℕ, zero, suc, length, take, get_or, arith, List, [], ◌∷◌, ◌++◌, map, Bool, true, false, Some, refl, sym, subst, ap, ◌∙◌, append_assoc, append-nil, ◌⊎◌, inl, inr}
use Rattle.std.specs.Prelude.{IsTrue, ◌==◌, cond, not}
use Rattle.std.specs.Borrow.{Bor}
use Rattle.std.specs.List.{AllByRecursion}
use Rattle.std.proofs.lemmas.Bool.{cases_Bool, eqb-false, eqb-true, false≢true, true≢false}
use Rattle.std.proofs.lemmas.List.{map-append, map_more, take_all}
use Rattle.std.proofs.lemmas.List.Elements.{filter-append}
use Rattle.nx_base.specs.Characters.{is_blank}
use Rattle.nx_base.specs.Trees.{Attribute, Children, nil, string, element, Event, Att, children_flat, attributes_flat}
use Rattle.rng_core.specs.Matching.{Matches}
use Rattle.rng_core.specs.Meaning.{pattern_of}
use Rattle.rng_core.specs.Names.{Class}
use Rattle.rng_core.specs.Patterns.{Pattern, Definition, attribute, ref, not_allowed, empty, any_text, typed, literal, listed, one_or_more, choice, group, interleave}
use Rattle.rng_core.specs.declared.grammar.Pat.{Pat}
use Rattle.rng_residual.proofs.Joining.{cat, cat_flat}
use Rattle.rng_cost.specs.Leaves.{leaves, patterns_of}
use Rattle.rng_fill.specs.Doing.{AddsElement, AddsAttribute, AddsAttributes}
use Rattle.rng_fill.specs.Matched.{none_matched}
use Rattle.rng_fill.specs.Moves.{event_of, events_of}
use Rattle.rng_fill.specs.Sorted.{is_attribute, attribute_leaves, AreAttributesOf, no_leaf, one_leaf}
use Rattle.rng_fill.specs.Strings.{IsBestString, IsStringOf}
use Rattle.rng_fill.specs.Written.{AreOfChars, no_value, one_value}
use Rattle.rng_fill.specs.declared.moves.Move.{Move}
use Rattle.rng_fill.specs.declared.moves.Move.TheVariants as move
use Rattle.rng_finish.specs.Filled.{AddsChildren, child_leaves}
use Rattle.rng_finish.specs.Fit.{FitsLeaf, FitLeaves, Fits, HasSoundValue, AddsElements, AddsLeaf, AddsIfAttribute}
use Rattle.rng_finish.proofs.Standing.{children_then, nothing_stands, string_stands, last_stands}
use Rattle.rng_finish.proofs.Together.{one_last, one_alone}

-- ---- elements

pub no_elements : (g : List Definition) (moves : List Move) → AddsElements g [] moves moves
no_elements g moves solid = record {
  children = nil;
  seen = nil;
  is_seen = refl;
  matched = none_matched;
  stands = nothing_stands;
  added = [];
  is = sym (append-nil moves);
  events = λ s. refl;
}

elements_more : {g : List Definition} {i : ℕ} {ps : List Pattern} {old middle new : List Move} → AddsElements g ps old middle
    → AddsElement g i middle new → AddsElements g (ps ++ ref i ∷ []) old new
elements_more {old = old} more w solid =
    let k : Children = element w.name w.attributes w.children nil in
    let v = more solid in
    record {
      children = cat v.children k;
      seen = cat v.seen k;
      is_seen = ap (λ (c : Children). cat c k) v.is_seen;
      matched = one_last v.matched w.is_element.matched;
      stands = last_stands v.stands w.is_element.written;
      added = v.added ++ w.added;
      is = w.is ∙ ap (λ (t : List Move). t ++ w.added) v.is ∙ append_assoc old v.added w.added;
      events = λ s.
          ap (λ (e : List Event). e ++ s) (map-append event_of v.added w.added) ∙ append_assoc (events_of v.added) (events_of w.added) s
          ∙ ap (λ (e : List Event). events_of v.added ++ (e ++ s)) w.events
          ∙ ap (λ (e : List Event). events_of v.added ++ e) (children_then k [] s)
          ∙ v.events (children_flat k s) ∙ sym (cat_flat v.children k s);
    }

leaf_more : {g : List Definition} (ps : List Pattern) (p : Pattern) {old middle new : List Move} → AddsElements g ps old middle
    → AddsLeaf g p middle new → AddsElements g (ps ++ p ∷ []) old new
leaf_more ps (ref i) more w = elements_more more w
leaf_more ps not_allowed more w = absurd w
leaf_more ps empty more w = absurd w
leaf_more ps any_text more w = absurd w
leaf_more ps (typed t e) more w = absurd w
leaf_more ps (literal t v) more w = absurd w
leaf_more ps (listed p) more w = absurd w
leaf_more ps (attribute class p) more w = absurd w
leaf_more ps (one_or_more p) more w = absurd w
leaf_more ps (choice p q) more w = absurd w
leaf_more ps (group p q) more w = absurd w
leaf_more ps (interleave p q) more w = absurd w

-- ---- a string

pub not_empty : (b : Bool) (t : List ℕ) → b ≡ (length t == 0) → b ≡ false → t ≡ [] → ⊥
not_empty b t told is none = eqb-false (length t) 0 (sym told ∙ is) (ap length none)

solid_kind : {solid : Bool} {p : Pattern} {t : List ℕ} → IsBestString solid p (Some t) → solid ≡ true → is_blank t ≡ false
solid_kind {solid = solid} {t = t} w e = by_kind (cases_Bool (is_blank t))
  where
    by_kind : (is_blank t ≡ true) ⊎ (is_blank t ≡ false) → is_blank t ≡ false
    by_kind (inl blank) = absurd (true≢false (sym e ∙ (w.1 blank).0))
    by_kind (inr kind) = kind

pub string_added : (g : List Definition) {solid : Bool} {p : Pattern} {t : List ℕ} {old new : List Move} → IsBestString solid p (Some t)
    → (t ≡ [] → ⊥) → new ≡ old ++ move.Chars t ∷ [] → AddsChildren g solid (p ∷ []) true old new
string_added g {t = t} w some is = record {
  children = string t nil;
  seen = string t nil;
  is_seen = refl;
  matched = one_alone (w.0.matched g);
  stands = string_stands w.0.of_chars some (solid_kind w);
  added = move.Chars t ∷ [];
  is = is;
  events = λ s. refl;
}

empty_text : (b : Bool) (t : List ℕ) → b ≡ (length t == 0) → b ≡ true → t ≡ []
empty_text b [] told is = refl
empty_text b (x ∷ t) told is = absurd (never (eqb-true (length (x ∷ t)) 0 (sym told ∙ is)))
  where
    never : length (x ∷ t) ≡ 0 → ⊥
    never h = omega (arith, h)

pub string_left_out : (g : List Definition) {solid : Bool} {p : Pattern} {t : List ℕ} (b : Bool) (moves : List Move) → IsBestString solid p (Some t)
    → b ≡ (length t == 0) → b ≡ true → AddsChildren g solid (p ∷ []) false moves moves
string_left_out g {p = p} {t = t} b moves w told is = record {
  children = nil;
  seen = string [] nil;
  is_seen = (refl, refl);
  matched = one_alone (subst (λ (x : List ℕ). Matches g p [] (string x nil)) (empty_text b t told is) (w.0.matched g));
  stands = nothing_stands;
  added = [];
  is = sym (append-nil moves);
  events = λ s. refl;
}

-- ---- attributes

pub adds_no_attribute : (moves : List Move) → AddsAttributes [] moves moves
adds_no_attribute moves = record {
  attributes = [];
  matched = λ g. no_leaf;
  values = no_value;
  added = [];
  is = sym (append-nil moves);
  events = λ s. refl;
}

values_join : {a b : List Attribute} → AreOfChars a → AreOfChars b → AreOfChars (a ++ b)
values_join no_value w = w
values_join (one_value c v) w = one_value c (values_join v w)

attributes_join : {g : List Definition} {ps qs : List Pattern} {a b : List Attribute} → AreAttributesOf g ps a → AreAttributesOf g qs b
    → AreAttributesOf g (ps ++ qs) (a ++ b)
attributes_join no_leaf w = w
attributes_join (one_leaf m v) w = one_leaf m (attributes_join v w)

flat_join : (a b : List Attribute) (s : List Event) → attributes_flat (a ++ b) s ≡ attributes_flat a (attributes_flat b s)
flat_join [] b s = refl
flat_join (x ∷ a) b s = ap (λ (t : List Event). Att x.name x.value ∷ t) (flat_join a b s)

both_attributes : {ps qs : List Pattern} {old middle new : List Move} → AddsAttributes ps old middle → AddsAttributes qs middle new
    → AddsAttributes (ps ++ qs) old new
both_attributes {old = old} v w = record {
  attributes = v.attributes ++ w.attributes;
  matched = λ g. attributes_join (v.matched g) (w.matched g);
  values = values_join v.values w.values;
  added = v.added ++ w.added;
  is = w.is ∙ ap (λ (t : List Move). t ++ w.added) v.is ∙ append_assoc old v.added w.added;
  events = λ s.
      ap (λ (t : List Event). t ++ s) (map-append event_of v.added w.added) ∙ append_assoc (events_of v.added) (events_of w.added) s
      ∙ ap (λ (t : List Event). events_of v.added ++ t) (w.events s) ∙ v.events (attributes_flat w.attributes s)
      ∙ sym (flat_join v.attributes w.attributes s);
}

one_attribute : {class : Class} {body : Pattern} {old new : List Move} → AddsAttribute class body old new
    → AddsAttributes (attribute class body ∷ []) old new
one_attribute {class = class} w = record {
  attributes = record { name = w.name; value = w.value } ∷ [];
  matched = λ g. one_leaf (w.is_value.matched g class w.name w.named) no_leaf;
  values = one_value w.is_value.of_chars no_value;
  added = move.Att w.name w.value ∷ [];
  is = w.is;
  events = λ s. refl;
}

unchanged : {old new : List Move} → new ≡ old → AddsAttributes [] old new
unchanged {old = old} is = subst (λ (m : List Move). AddsAttributes [] old m) (sym is) (adds_no_attribute old)

-- of a leaf that is none's nothing was added
if_attribute : (p : Pattern) {old new : List Move} → AddsIfAttribute p old new → AddsAttributes (attribute_leaves (p ∷ [])) old new
if_attribute (attribute class q) w = one_attribute w
if_attribute not_allowed w = unchanged w
if_attribute empty w = unchanged w
if_attribute any_text w = unchanged w
if_attribute (typed t e) w = unchanged w
if_attribute (literal t u) w = unchanged w
if_attribute (listed p) w = unchanged w
if_attribute (ref i) w = unchanged w
if_attribute (one_or_more p) w = unchanged w
if_attribute (choice p q) w = unchanged w
if_attribute (group p q) w = unchanged w
if_attribute (interleave p q) w = unchanged w

-- ---- which leaves there are

pub values_sound : (g : List Definition) (ps : List Pattern) → FitLeaves g ps → AllByRecursion HasSoundValue ps
values_sound g [] h = tt
values_sound g (p ∷ ps) h = (one p h.0, values_sound g ps h.1)
  where
    one : (q : Pattern) → FitsLeaf g q → HasSoundValue q
    one (attribute class q) f = f
    one not_allowed f = tt
    one empty f = tt
    one any_text f = tt
    one (typed t e) f = tt
    one (literal t v) f = tt
    one (listed q) f = tt
    one (ref i) f = tt
    one (one_or_more q) f = tt
    one (choice q r) f = tt
    one (group q r) f = tt
    one (interleave q r) f = tt

fit_if : (g : List Definition) (b : Bool) (p : Pattern) (ps : List Pattern) → FitsLeaf g p → FitLeaves g ps → FitLeaves g (cond b (p ∷ ps) ps)
fit_if g true p ps h more = (h, more)
fit_if g false p ps h more = more

pub children_fit : (g : List Definition) (ps : List Pattern) → FitLeaves g ps → FitLeaves g (child_leaves ps)
children_fit g [] h = tt
children_fit g (p ∷ ps) h = fit_if g (not (is_attribute p)) p (child_leaves ps) h.0 (children_fit g ps h.1)

-- ---- leaves in a slice

one_more : (xs : List (Bor Pat)) (i : ℕ) (leaf : Bor Pat) → i < length xs → leaf ≡ get_or xs i leaf
    → patterns_of (take (i + 1) xs) ≡ patterns_of (take i xs) ++ pattern_of leaf.now ∷ []
one_more xs i leaf low is =
    let f : Bor Pat → Pattern = λ leaf. pattern_of leaf.now in
    map_more f xs i leaf low ∙ ap (λ (x : Bor Pat). map f (take i xs) ++ f x ∷ []) (sym is)

pub leaf_at : (P : Pattern → Type 0) (xs : List (Bor Pat)) (i : ℕ) (leaf : Bor Pat) → i < length xs → leaf ≡ get_or xs i leaf
    → AllByRecursion P (patterns_of xs) → P (pattern_of leaf.now)
leaf_at P [] i leaf low is all = absurd (omega (arith, low))
leaf_at P (x ∷ xs) zero leaf low is all = subst (λ (y : Bor Pat). P (pattern_of y.now)) (sym is) all.0
leaf_at P (x ∷ xs) (suc i) leaf low is all = leaf_at P xs i leaf (omega (arith, low)) is all.1

pub children_more : (xs : List (Bor Pat)) (i : ℕ) (leaf : Bor Pat) {found more : List Pattern} → i < length xs → leaf ≡ get_or xs i leaf
    → found ≡ child_leaves (patterns_of (take i xs)) → more ≡ found ++ child_leaves (pattern_of leaf.now ∷ [])
    → more ≡ child_leaves (patterns_of (take (i + 1) xs))
children_more xs i leaf low is found more =
    more ∙ ap (λ (t : List Pattern). t ++ child_leaves (pattern_of leaf.now ∷ [])) found
    ∙ sym (ap child_leaves (one_more xs i leaf low is)
    ∙ filter-append (λ (q : Pattern). not (is_attribute q)) (patterns_of (take i xs)) (pattern_of leaf.now ∷ []))

pub elements_to : {g : List Definition} (xs : List (Bor Pat)) (i : ℕ) (leaf : Bor Pat) {old middle new : List Move} → i < length xs
    → leaf ≡ get_or xs i leaf → AddsElements g (patterns_of (take i xs)) old middle → AddsLeaf g (pattern_of leaf.now) middle new
    → AddsElements g (patterns_of (take (i + 1) xs)) old new
elements_to {g = g} xs i leaf {old = old} {new = new} low is v w =
    subst (λ (ps : List Pattern). AddsElements g ps old new) (sym (one_more xs i leaf low is))
    (leaf_more (patterns_of (take i xs)) (pattern_of leaf.now) v w)

pub attributes_to : (xs : List (Bor Pat)) (i : ℕ) (leaf : Bor Pat) {old middle new : List Move} → i < length xs → leaf ≡ get_or xs i leaf
    → AddsAttributes (attribute_leaves (patterns_of (take i xs))) old middle → AddsIfAttribute (pattern_of leaf.now) middle new
    → AddsAttributes (attribute_leaves (patterns_of (take (i + 1) xs))) old new
attributes_to xs i leaf {old = old} {new = new} low is v w =
    subst (λ (ps : List Pattern). AddsAttributes ps old new)
    (sym (ap attribute_leaves (one_more xs i leaf low is) ∙ filter-append is_attribute (patterns_of (take i xs)) (pattern_of leaf.now ∷ [])))
    (both_attributes v (if_attribute (pattern_of leaf.now) w))

-- ---- the leaves of a pattern, as they were found

pub leaves_fit : (g : List Definition) {costs by : List ℕ} (p : Pattern) {ps : List Pattern} → by ≡ costs → ps ≡ leaves by p → Fits g costs p
    → FitLeaves g ps
leaves_fit g p same is h =
    subst (λ (ps : List Pattern). FitLeaves g ps) (sym (is ∙ ap (λ (costs : List ℕ). leaves costs p) same)) h

pub leaves_added : {g : List Definition} (costs : List ℕ) {by : List ℕ} (p : Pattern) {ps : List Pattern} {solid plain : Bool} {old new : List Move} → by ≡ costs
    → ps ≡ leaves by p → plain ≡ true → AddsChildren g solid ps plain old new → AddsChildren g solid (leaves costs p) true old new
leaves_added {g = g} costs p {solid = solid} {plain = plain} {old = old} {new = new} same is told w =
    subst (λ (b : Bool). AddsChildren g solid (leaves costs p) b old new) told
    (subst (λ (ps : List Pattern). AddsChildren g solid ps plain old new) (is ∙ ap (λ (c : List ℕ). leaves c p) same) w)

pub elements_all : {g : List Definition} (xs : List (Bor Pat)) (i : ℕ) {old new : List Move} → length xs ≤ i
    → AddsElements g (patterns_of (take i xs)) old new → AddsElements g (patterns_of xs) old new
elements_all {g = g} xs i {old = old} {new = new} all w =
    subst (λ (ys : List (Bor Pat)). AddsElements g (patterns_of ys) old new) (take_all i xs all) w

pub none_left : {A : Type 0} (xs : List A) → length xs ≡ 0 → xs ≡ []
none_left [] is = refl
none_left (x ∷ xs) is = absurd (omega (arith, is))
