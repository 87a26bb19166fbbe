-- What pruning leaves of languages that are one but for numbers is one but for numbers.
use Rattle.std.proofs.Common.{◌≡◌, ℕ, List, [], length, refl, sym, ap, ap₂, subst, ◌∙◌, Option, Some, None, inl, inr, arith}
use Rattle.std.specs.Prelude.{IsTrue, slice_get}
use Rattle.std.proofs.lemmas.Option.{slice_get_cases, slice_get_past, slice_get_within, same_Some}
use Rattle.nx_base.specs.Trees.{Attribute, Children, nil}
use Rattle.rng_core.specs.Names.{Class, has_name}
use Rattle.rng_core.specs.Matching.{Matches, by_first, by_second, by_group, by_empty, by_text, by_one, by_more, by_interleave, by_element, by_attribute, by_blank_attribute, by_data, by_value, by_list}
use Rattle.rng_core.specs.Patterns.{Pattern, Definition, Language, not_allowed, empty, any_text, typed, literal, listed, attribute, ref, one_or_more, choice, group, interleave}
use Rattle.rng_live.specs.Dead.{Lives, IsDead}
use Rattle.rng_live.specs.Pruned.{prunes_not_allowed, prunes_empty, prunes_text, prunes_data, prunes_value, prunes_list, prunes_attribute, prunes_ref, prunes_one_or_more, prunes_neither, prunes_second, prunes_first, prunes_group, prunes_interleave, Prunes, Reaches, reaches_first, reaches_more, AreOnce, IsPruned}
use Rattle.rng_restrict.specs.Standing.{Stands, itself, in_list, in_attribute, in_one_or_more, in_first_choice, in_second_choice, in_first_of_group, in_second_of_group, in_first_of_interleave, in_second_of_interleave}
use Rattle.nx_numbering.specs.Numbers.{renumbered, renumbered_in, Renumbers, AreOneButForNumbers}
use Rattle.nx_numbering.specs.Schemas.{PruningLeavesOneLanguage}
use Rattle.nx_numbering.proofs.Lists.{place_in, is_placed}
use Rattle.nx_numbering.proofs.Matching.{matches_on, one_turned}

-- ---- a pattern whose numbers are others

abbrev pub RenumberedBy : (ℕ → ℕ) → Pattern → Pattern → Type 0
RenumberedBy f not_allowed p = p ≡ not_allowed
RenumberedBy f empty p = p ≡ empty
RenumberedBy f any_text p = p ≡ any_text
RenumberedBy f (typed type excepts) p = p ≡ typed type excepts
RenumberedBy f (literal type text) p = p ≡ literal type text
RenumberedBy f (listed x) p = (q : Pattern) × (p ≡ listed q) × (x ≡ renumbered f q)
RenumberedBy f (attribute class x) p = (q : Pattern) × (p ≡ attribute class q) × (x ≡ renumbered f q)
RenumberedBy f (ref n) p = (i : ℕ) × (p ≡ ref i) × (n ≡ f i)
RenumberedBy f (one_or_more x) p = (q : Pattern) × (p ≡ one_or_more q) × (x ≡ renumbered f q)
RenumberedBy f (choice x y) p = (q : Pattern) × (r : Pattern) × (p ≡ choice q r) × (x ≡ renumbered f q) × (y ≡ renumbered f r)
RenumberedBy f (group x y) p = (q : Pattern) × (r : Pattern) × (p ≡ group q r) × (x ≡ renumbered f q) × (y ≡ renumbered f r)
RenumberedBy f (interleave x y) p = (q : Pattern) × (r : Pattern) × (p ≡ interleave q r) × (x ≡ renumbered f q) × (y ≡ renumbered f r)

renumbered_by : (f : ℕ → ℕ) (p : Pattern) → RenumberedBy f (renumbered f p) p
renumbered_by f not_allowed = refl
renumbered_by f empty = refl
renumbered_by f any_text = refl
renumbered_by f (typed type excepts) = refl
renumbered_by f (literal type text) = refl
renumbered_by f (listed p) = (p, refl, refl)
renumbered_by f (attribute class p) = (p, refl, refl)
renumbered_by f (ref i) = (i, refl, refl)
renumbered_by f (one_or_more p) = (p, refl, refl)
renumbered_by f (choice p q) = (p, q, refl, refl, refl)
renumbered_by f (group p q) = (p, q, refl, refl, refl)
renumbered_by f (interleave p q) = (p, q, refl, refl, refl)

pub by_numbers : (f : ℕ → ℕ) (q p : Pattern) → q ≡ renumbered f p → RenumberedBy f q p
by_numbers f q p same = let P : Pattern → Type 0 = λ x. RenumberedBy f x p in subst P (sym same) (renumbered_by f p)

-- ---- what the one matches the other does

-- what has a definition there had one here
record IsDefined (f : ℕ → ℕ) (g : Language) (i : ℕ) (e : Definition) : Type 0 where
  definition : Definition
  is : slice_get g.definitions i ≡ Some definition
  same : e ≡ renumbered_in f definition

is_defined : {f : ℕ → ℕ} {g h : Language} (i : ℕ) (e : Definition) → Renumbers f g h → slice_get h.definitions (f i) ≡ Some e → IsDefined f g i e
is_defined {f = f} {g = g} {h = h} i e r at = elim (slice_get_cases g.definitions i).1 [
  | inl there ↦
      (let d = there.0 in
      record { definition = d; is = there.2; same = same_Some e (renumbered_in f d) (sym at ∙ r.definitions i d there.2) })
  | inr past ↦ (let none = r.undefined i past.1 in let never : ⊥ = cc (none, at) in absurd never)
]

matches_back : {f : ℕ → ℕ} {g h : Language} {q : Pattern} {a : List Attribute} {c : Children} → Renumbers f g h → Matches h.definitions q a c → (p : Pattern) → q ≡ renumbered f p → Matches g.definitions p a c
matches_back {f} {g} {h} {q} {a} {c} r (by_first {p = x} {q = y} m) p same =
    let k = by_numbers f (choice x y) p same in
    let P : Pattern → Type 0 = λ z. Matches g.definitions z a c in
    subst P (sym k.2) (by_first (matches_back r m k.0 k.3))
matches_back {f} {g} {h} {q} {a} {c} r (by_second {p = x} {q = y} m) p same =
    let k = by_numbers f (choice x y) p same in
    let P : Pattern → Type 0 = λ z. Matches g.definitions z a c in
    subst P (sym k.2) (by_second (matches_back r m k.1 k.4))
matches_back {f} {g} {h} {q} {a} {c} r (by_group {p = x} {q = y} split order m n) p same =
    let k = by_numbers f (group x y) p same in
    let P : Pattern → Type 0 = λ z. Matches g.definitions z a c in
    subst P (sym k.2) (by_group split order (matches_back r m k.0 k.3) (matches_back r n k.1 k.4))
matches_back {f} {g} {h} r by_empty p same =
    let k = by_numbers f empty p same in
    let P : Pattern → Type 0 = λ z. Matches g.definitions z [] nil in
    subst P (sym k) by_empty
matches_back {f} {g} {h} {q} {a} {c} r (by_text strings) p same =
    let k = by_numbers f any_text p same in
    let P : Pattern → Type 0 = λ z. Matches g.definitions z [] c in
    subst P (sym k) (by_text strings)
matches_back {f} {g} {h} {q} {a} {c} r (by_one {p = x} m) p same =
    let k = by_numbers f (one_or_more x) p same in
    let P : Pattern → Type 0 = λ z. Matches g.definitions z a c in
    subst P (sym k.1) (by_one (matches_back r m k.0 k.2))
matches_back {f} {g} {h} {q} {a} {c} r (by_more {p = x} split order m n) p same =
    let k = by_numbers f (one_or_more x) p same in
    let P : Pattern → Type 0 = λ z. Matches g.definitions z a c in
    subst P (sym k.1) (by_more split order (matches_back r m k.0 k.2) (matches_back r n (one_or_more k.0) (ap one_or_more k.2)))
matches_back {f} {g} {h} {q} {a} {c} r (by_interleave {p = x} {q = y} split shuffle m n) p same =
    let k = by_numbers f (interleave x y) p same in
    let P : Pattern → Type 0 = λ z. Matches g.definitions z a c in
    subst P (sym k.2) (by_interleave split shuffle (matches_back r m k.0 k.3) (matches_back r n k.1 k.4))
matches_back {f} {g} {h} {q} {a} {c} r (by_element {i = j} {d = e} {n = n} at named weakly m) p same =
    let k = by_numbers f (ref j) p same in
    let L : ℕ → Type 0 = λ number. slice_get h.definitions number ≡ Some e in
    let d = is_defined k.0 e r (subst L k.2 at) in
    let name : Class → Type 0 = λ class. IsTrue (has_name class n) in
    let P : Pattern → Type 0 = λ z. Matches g.definitions z [] c in
    subst P (sym k.1) (by_element d.is (subst name (ap (λ (x : Definition). x.class) d.same) named) weakly (matches_back r m d.definition.content (ap (λ (x : Definition). x.content) d.same)))
matches_back {f} {g} {h} {q} {a} {c} r (by_attribute {class = class} {p = x} named m) p same =
    let k = by_numbers f (attribute class x) p same in
    let P : Pattern → Type 0 = λ z. Matches g.definitions z a c in
    subst P (sym k.1) (by_attribute named (matches_back r m k.0 k.2))
matches_back {f} {g} {h} {q} {a} {c} r (by_blank_attribute {class = class} {p = x} named blank m) p same =
    let k = by_numbers f (attribute class x) p same in
    let P : Pattern → Type 0 = λ z. Matches g.definitions z a c in
    subst P (sym k.1) (by_blank_attribute named blank (matches_back r m k.0 k.2))
matches_back {f} {g} {h} {q} {a} {c} r (by_data {type = type} {excepts = excepts} accepts taken) p same =
    let k = by_numbers f (typed type excepts) p same in
    let P : Pattern → Type 0 = λ z. Matches g.definitions z [] c in
    subst P (sym k) (by_data accepts taken)
matches_back {f} {g} {h} {q} {a} {c} r (by_value {type = type} {wanted = wanted} accepts equal) p same =
    let k = by_numbers f (literal type wanted) p same in
    let P : Pattern → Type 0 = λ z. Matches g.definitions z [] c in
    subst P (sym k) (by_value accepts equal)
matches_back {f} {g} {h} {q} {a} {c} r (by_list {p = x} m) p same =
    let k = by_numbers f (listed x) p same in
    let P : Pattern → Type 0 = λ z. Matches g.definitions z [] c in
    subst P (sym k.1) (by_list (matches_back r m k.0 k.2))

lives_on : {f : ℕ → ℕ} {g h : Language} (p : Pattern) → Renumbers f g h → Lives g.definitions p → Lives h.definitions (renumbered f p)
lives_on p r w = record { attributes = w.attributes; children = w.children; values = w.values; strings_are = w.strings_are; matched = matches_on r w.matched }

lives_back : {f : ℕ → ℕ} {g h : Language} (p : Pattern) → Renumbers f g h → Lives h.definitions (renumbered f p) → Lives g.definitions p
lives_back p r w = record { attributes = w.attributes; children = w.children; values = w.values; strings_are = w.strings_are; matched = matches_back r w.matched p refl }

-- ---- what a pruned pattern is

-- of a choice: both sides, the first or the second
data ChoiceLeft (g : Language) (numbers : List ℕ) (p q r : Pattern) : Type 0 where
  both_left : (x y : Pattern) → Lives g.definitions p → Lives g.definitions q → Prunes g.definitions numbers p x → Prunes g.definitions numbers q y → r ≡ choice x y → ChoiceLeft g numbers p q r
  first_left : Lives g.definitions p → IsDead g.definitions q → Prunes g.definitions numbers p r → ChoiceLeft g numbers p q r
  second_left : IsDead g.definitions p → Prunes g.definitions numbers q r → ChoiceLeft g numbers p q r

abbrev LeftOf : Language → List ℕ → Pattern → Pattern → Type 0
LeftOf g numbers not_allowed r = r ≡ not_allowed
LeftOf g numbers empty r = r ≡ empty
LeftOf g numbers any_text r = r ≡ any_text
LeftOf g numbers (typed type excepts) r = r ≡ typed type excepts
LeftOf g numbers (literal type text) r = r ≡ literal type text
LeftOf g numbers (listed p) r = (x : Pattern) × (r ≡ listed x) × Prunes g.definitions numbers p x
LeftOf g numbers (attribute class p) r = (x : Pattern) × (r ≡ attribute class x) × Prunes g.definitions numbers p x
LeftOf g numbers (ref i) r = (k : ℕ) × (r ≡ ref k) × (slice_get numbers k ≡ Some i)
LeftOf g numbers (one_or_more p) r = (x : Pattern) × (r ≡ one_or_more x) × Prunes g.definitions numbers p x
LeftOf g numbers (choice p q) r = ChoiceLeft g numbers p q r
LeftOf g numbers (group p q) r = (x : Pattern) × (y : Pattern) × (r ≡ group x y) × Prunes g.definitions numbers p x × Prunes g.definitions numbers q y
LeftOf g numbers (interleave p q) r = (x : Pattern) × (y : Pattern) × (r ≡ interleave x y) × Prunes g.definitions numbers p x × Prunes g.definitions numbers q y

left_of : (g : Language) {numbers : List ℕ} {p r : Pattern} → Prunes g.definitions numbers p r → LeftOf g numbers p r
left_of g prunes_not_allowed = refl
left_of g prunes_empty = refl
left_of g prunes_text = refl
left_of g prunes_data = refl
left_of g prunes_value = refl
left_of g (prunes_list {r = x} h) = (x, refl, h)
left_of g (prunes_attribute {r = x} h) = (x, refl, h)
left_of g (prunes_ref {k = k} at) = (k, refl, at)
left_of g (prunes_one_or_more {r = x} h) = (x, refl, h)
left_of g (prunes_neither {r = x} {s = y} one other h k) = both_left x y one other h k refl
left_of g (prunes_second one other h) = first_left one other h
left_of g (prunes_first one h) = second_left one h
left_of g (prunes_group {r = x} {s = y} h k) = (x, y, refl, h, k)
left_of g (prunes_interleave {r = x} {s = y} h k) = (x, y, refl, h, k)

-- ---- references of a pattern

abbrev AllRefs : (ℕ → Type 0) → Pattern → Type 0
AllRefs Q not_allowed = Unit {0}
AllRefs Q empty = Unit {0}
AllRefs Q any_text = Unit {0}
AllRefs Q (typed type excepts) = Unit {0}
AllRefs Q (literal type text) = Unit {0}
AllRefs Q (listed p) = AllRefs Q p
AllRefs Q (attribute class p) = AllRefs Q p
AllRefs Q (ref k) = Q k
AllRefs Q (one_or_more p) = AllRefs Q p
AllRefs Q (choice p q) = AllRefs Q p × AllRefs Q q
AllRefs Q (group p q) = AllRefs Q p × AllRefs Q q
AllRefs Q (interleave p q) = AllRefs Q p × AllRefs Q q

ref_among : (Q : ℕ → Type 0) {k : ℕ} {x p : Pattern} → x ≡ ref k → Stands x p → AllRefs Q p → Q k
ref_among Q {k = k} same itself all = let P : Pattern → Type 0 = λ z. AllRefs Q z in subst P same all
ref_among Q same (in_list h) all = ref_among Q same h all
ref_among Q same (in_attribute h) all = ref_among Q same h all
ref_among Q same (in_one_or_more h) all = ref_among Q same h all
ref_among Q same (in_first_choice h) all = ref_among Q same h all.0
ref_among Q same (in_second_choice h) all = ref_among Q same h all.1
ref_among Q same (in_first_of_group h) all = ref_among Q same h all.0
ref_among Q same (in_second_of_group h) all = ref_among Q same h all.1
ref_among Q same (in_first_of_interleave h) all = ref_among Q same h all.0
ref_among Q same (in_second_of_interleave h) all = ref_among Q same h all.1

-- ---- new numbers

abbrev or_none : ℕ → Option ℕ → ℕ
or_none none None = none
or_none none (Some k) = k

abbrev place_of : ℕ → (ℕ → ℕ) → List ℕ → Option ℕ → ℕ
place_of none f others None = none
place_of none f others (Some i) = or_none none (place_in others (f i))

-- the new number of what had this new number in the other language
abbrev new_number : ℕ → (ℕ → ℕ) → List ℕ → List ℕ → ℕ → ℕ
new_number none f numbers others k = place_of none f others (slice_get numbers k)

-- it has one there
record IsKeptThere (none : ℕ) (f : ℕ → ℕ) (numbers others : List ℕ) (k : ℕ) : Type 0 where
  old : ℕ
  is : slice_get numbers k ≡ Some old
  there : slice_get others (new_number none f numbers others k) ≡ Some (f old)

module _ (none : ℕ) (f : ℕ → ℕ) (g h : Language) (numbers others : List ℕ) (r : Renumbers f g h) (once : AreOnce others) where
  number_there : (k i j : ℕ) → slice_get numbers k ≡ Some i → slice_get others j ≡ Some (f i) → new_number none f numbers others k ≡ j
  number_there k i j at there =
      let placed = is_placed others (f i) j there in
      ap (place_of none f others) at ∙ ap (or_none none) placed.found ∙ once.once placed.place j (f i) placed.there there

  kept_there : (k i j : ℕ) → slice_get numbers k ≡ Some i → slice_get others j ≡ Some (f i) → IsKeptThere none f numbers others k
  kept_there k i j at there =
      let P : ℕ → Type 0 = λ n. slice_get others n ≡ Some (f i) in
      record { old = i; is = at; there = subst P (sym (number_there k i j at there)) there }

  -- a pattern that is pruned there is the one that is pruned here, with new numbers
  record PrunedAlike (x y : Pattern) : Type 0 where
    same : y ≡ renumbered (new_number none f numbers others) x
    refs : AllRefs (IsKeptThere none f numbers others) x

  one_part : (by : Pattern → Pattern) (x y z : Pattern) → ((u : Pattern) → renumbered (new_number none f numbers others) (by u) ≡ by (renumbered (new_number none f numbers others) u)) →
      (AllRefs (IsKeptThere none f numbers others) x → AllRefs (IsKeptThere none f numbers others) (by x)) → y ≡ by z → PrunedAlike x z → PrunedAlike (by x) y
  one_part by x y z on refs is h = record { same = is ∙ ap by h.same ∙ sym (on x); refs = refs h.refs }

  two_parts : (by : Pattern → Pattern → Pattern) (x1 x2 y z1 z2 : Pattern) → ((u v : Pattern) → renumbered (new_number none f numbers others) (by u v) ≡ by (renumbered (new_number none f numbers others) u) (renumbered (new_number none f numbers others) v)) →
      (AllRefs (IsKeptThere none f numbers others) x1 → AllRefs (IsKeptThere none f numbers others) x2 → AllRefs (IsKeptThere none f numbers others) (by x1 x2)) → y ≡ by z1 z2 → PrunedAlike x1 z1 → PrunedAlike x2 z2 → PrunedAlike (by x1 x2) y
  two_parts by x1 x2 y z1 z2 on refs is h k = record { same = is ∙ ap₂ by h.same k.same ∙ sym (on x1 x2); refs = refs h.refs k.refs }

  pruned_alike : {p x : Pattern} → Prunes g.definitions numbers p x → (y : Pattern) → Prunes h.definitions others (renumbered f p) y → PrunedAlike x y
  pruned_alike prunes_not_allowed y w = record { same = left_of h w; refs = tt }
  pruned_alike prunes_empty y w = record { same = left_of h w; refs = tt }
  pruned_alike prunes_text y w = record { same = left_of h w; refs = tt }
  pruned_alike prunes_data y w = record { same = left_of h w; refs = tt }
  pruned_alike prunes_value y w = record { same = left_of h w; refs = tt }
  pruned_alike (prunes_list {r = x} v) y w = let k = left_of h w in one_part listed x y k.0 (λ u. refl) (λ refs. refs) k.1 (pruned_alike v k.0 k.2)
  pruned_alike (prunes_attribute {class = class} {r = x} v) y w = let k = left_of h w in one_part (attribute class) x y k.0 (λ u. refl) (λ refs. refs) k.1 (pruned_alike v k.0 k.2)
  pruned_alike (prunes_ref {i = i} {k = k} at) y w =
      let l = left_of h w in
      record { same = l.1 ∙ ap ref (sym (number_there k i l.0 at l.2)); refs = kept_there k i l.0 at l.2 }
  pruned_alike (prunes_one_or_more {r = x} v) y w = let k = left_of h w in one_part one_or_more x y k.0 (λ u. refl) (λ refs. refs) k.1 (pruned_alike v k.0 k.2)
  pruned_alike (prunes_neither {p = p} {q = q} {r = x1} {s = x2} one other v u) y w = elim (left_of h w) [
    | both_left z1 z2 lives too a b is ↦ two_parts choice x1 x2 y z1 z2 (λ m n. refl) (λ m n. (m, n)) is (pruned_alike v z1 a) (pruned_alike u z2 b)
    | first_left lives dead a ↦ absurd (dead (lives_on q r other))
    | second_left dead a ↦ absurd (dead (lives_on p r one))
  ]
  pruned_alike (prunes_second {p = p} {q = q} one other v) y w = elim (left_of h w) [
    | both_left z1 z2 lives too a b is ↦ absurd (other (lives_back q r too))
    | first_left lives dead a ↦ pruned_alike v y a
    | second_left dead a ↦ absurd (dead (lives_on p r one))
  ]
  pruned_alike (prunes_first {p = p} {q = q} one v) y w = elim (left_of h w) [
    | both_left z1 z2 lives too a b is ↦ absurd (one (lives_back p r lives))
    | first_left lives dead a ↦ absurd (one (lives_back p r lives))
    | second_left dead a ↦ pruned_alike v y a
  ]
  pruned_alike (prunes_group {r = x1} {s = x2} v u) y w =
      let k = left_of h w in two_parts group x1 x2 y k.0 k.1 (λ m n. refl) (λ m n. (m, n)) k.2 (pruned_alike v k.0 k.3) (pruned_alike u k.1 k.4)
  pruned_alike (prunes_interleave {r = x1} {s = x2} v u) y w =
      let k = left_of h w in two_parts interleave x1 x2 y k.0 k.1 (λ m n. refl) (λ m n. (m, n)) k.2 (pruned_alike v k.0 k.3) (pruned_alike u k.1 k.4)

-- ---- whole languages

abbrev made : Class → Pattern → Definition
made class content = record { class = class; content = content }

module _ (f : ℕ → ℕ) (g h left other : Language) (r : Renumbers f g h) (one : IsPruned g left) (two : IsPruned h other) where
  abbrev none_there : ℕ
  none_there = length other.definitions

  abbrev numbered_there : ℕ → ℕ
  numbered_there = new_number none_there f one.numbers two.numbers

  start_alike : PrunedAlike none_there f g h one.numbers two.numbers r two.once left.start other.start
  start_alike =
      let P : Pattern → Type 0 = λ p. Prunes h.definitions two.numbers p other.start in
      pruned_alike none_there f g h one.numbers two.numbers r two.once one.start other.start (subst P r.start two.start)

  -- the definition of the same old number
  record DefinitionThere (k : ℕ) (d : Definition) : Type 0 where
    is : slice_get other.definitions (numbered_there k) ≡ Some (renumbered_in numbered_there d)
    refs : AllRefs (IsKeptThere none_there f one.numbers two.numbers) d.content

  definition_there : (k : ℕ) (d : Definition) → slice_get left.definitions k ≡ Some d → IsKeptThere none_there f one.numbers two.numbers k → DefinitionThere k d
  definition_there k d at kept =
      let here = one.definitions k kept.old d kept.is at in
      let within = slice_get_within two.numbers (numbered_there k) (f kept.old) kept.there in
      elim (slice_get_cases other.definitions (numbered_there k)).1 [
        | inl found ↦
            (let e = found.0 in
            let there = two.definitions (numbered_there k) (f kept.old) e kept.there found.2 in
            let same : there.definition ≡ renumbered_in f here.definition = same_Some there.definition (renumbered_in f here.definition) (sym there.is ∙ r.definitions kept.old here.definition here.is) in
            let P : Definition → Type 0 = λ x. Prunes h.definitions two.numbers x.content e.content in
            let alike = pruned_alike none_there f g h one.numbers two.numbers r two.once here.content e.content (subst P same there.content) in
            let class : e.class ≡ d.class = there.same_class ∙ ap (λ (x : Definition). x.class) same ∙ sym here.same_class in
            let both : e ≡ renumbered_in numbered_there d = ap₂ made class alike.same in
            record { is = found.2 ∙ ap (λ (x : Definition). Some x) both; refs = alike.refs })
        | inr past ↦ absurd (omega (arith, past.0, within, two.as_many))
      ]

  all_kept : (k : ℕ) → Reaches left.start left.definitions k → IsKeptThere none_there f one.numbers two.numbers k
  all_kept k (reaches_first stands) = ref_among (IsKeptThere none_there f one.numbers two.numbers) refl stands start_alike.refs
  all_kept k (reaches_more {j = j} {d = d} before at stands) =
      ref_among (IsKeptThere none_there f one.numbers two.numbers) refl stands (definition_there j d at (all_kept j before)).refs

  leads_on : Renumbers numbered_there left other
  leads_on = record {
    start = start_alike.same;
    definitions = λ k d at. (definition_there k d at (all_kept k (one.reached k d at))).is;
    undefined = λ k nothing. elim (slice_get_cases left.definitions k).1 [
      | inl found ↦ (let never : ⊥ = cc (found.2, nothing) in absurd never)
      | inr past ↦
          (let no_number = slice_get_past one.numbers k (omega (arith, past.0, one.as_many)) in
          let is : numbered_there k ≡ length other.definitions = ap (place_of none_there f two.numbers) no_number in
          let P : ℕ → Type 0 = λ n. slice_get other.definitions n ≡ None in
          subst P (sym is) (slice_get_past other.definitions (length other.definitions) (omega arith)))
    ];
  }

-- a new number of the one leads to one of the other, and this back to it
and_back : (g h left other : Language) (numbers : AreOneButForNumbers g h) (one : IsPruned g left) (two : IsPruned h other) (k : ℕ) (d : Definition)
    → slice_get left.definitions k ≡ Some d
    → new_number (length left.definitions) numbers.back two.numbers one.numbers (new_number (length other.definitions) numbers.there one.numbers two.numbers k) ≡ k
and_back g h left other numbers one two k d at =
    let kept = all_kept numbers.there g h left other numbers.leads_there one two k (one.reached k d at) in
    let here = one.definitions k kept.old d kept.is at in
    let same : numbers.back (numbers.there kept.old) ≡ kept.old = numbers.there_and_back kept.old here.definition here.is in
    let P : ℕ → Type 0 = λ n. slice_get one.numbers k ≡ Some n in
    number_there (length left.definitions) numbers.back h g two.numbers one.numbers numbers.leads_back one.once
    (new_number (length other.definitions) numbers.there one.numbers two.numbers k) (numbers.there kept.old) k kept.there (subst P (sym same) kept.is)

pub pruning_leaves_one_language : PruningLeavesOneLanguage
pruning_leaves_one_language g h left other numbers one two = record {
  there = new_number (length other.definitions) numbers.there one.numbers two.numbers;
  back = new_number (length left.definitions) numbers.back two.numbers one.numbers;
  leads_there = leads_on numbers.there g h left other numbers.leads_there one two;
  leads_back = leads_on numbers.back h g other left numbers.leads_back two one;
  there_and_back = and_back g h left other numbers one two;
  back_and_there = and_back h g other left (one_turned numbers) two one;
}
