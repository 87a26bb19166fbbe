-- What a walk over definitions finds is what their classes mention, or what literals stand in them.
use Rattle.std.specs.Prelude.{◌≡◌, ◌↔◌, ◌⊎◌, ℕ, Bool, true, false, ◌||◌, List, [], ◌∷◌, ◌++◌, Some, slice_get, map, Contains}
use Rattle.std.specs.List.{fold}
use Rattle.std.specs.Str.{bytes_eq}
use Rattle.std.proofs.Common.{refl, sym, ap, ◌∙◌, subst, zero, suc, inl, inr, arith}
use Rattle.std.proofs.lemmas.Bool.{false≢true, or_left, or_right, or_cases}
use Rattle.std.proofs.lemmas.List.Elements.{Contains-append_left, Contains-push, Contains-push_cases}
use Rattle.std.proofs.lemmas.Slice.Eq.{bytes_eq-Decides}
use Rattle.nx_base.specs.declared.name.Name.{Name}
use Rattle.rng_types.specs.declared.datatype.Datatype.{Datatype}
use Rattle.rng_core.proofs.Overlaps.{same_bytes}
use Rattle.rng_core.specs.declared.grammar.Def.{Def}
use Rattle.rng_core.specs.Meaning.{definition_of}
use Rattle.rng_core.specs.Names.{Class, any_name, ns_name, the_name, either, without}
use Rattle.rng_core.specs.Patterns.{Pattern, Definition, not_allowed, empty, any_text, typed, literal, listed, attribute, ref, one_or_more, choice, group, interleave}
use Rattle.rng_restrict.specs.Standing.{Stands, itself, in_list, in_attribute, in_one_or_more, in_first_choice, in_second_choice, in_first_of_group, in_second_of_group, in_first_of_interleave, in_second_of_interleave}
use Rattle.rng_kept.specs.Mentioned.{IsClassOf, of_elements, of_attributes, IsAttributesOf, of_one_or_more, of_first_choice, of_second_choice, of_first_of_group, of_second_of_group, of_first_of_interleave, of_second_of_interleave, class_mentions, class_mentions_ns}
use Rattle.rng_kept.specs.Mentioned as kept
use Rattle.rng_residual.proofs.SoleNames.{same_itself, same_name_is}
use Rattle.rng_live.specs.declared.gathering.Asked.{Asked}
use Rattle.rng_live.specs.declared.gathering.Asked.TheVariants.{Names, Namespaces}
use Rattle.rng_live.specs.Order.{text_order, name_order, SortsOnce}
use Rattle.rng_live.specs.Gathered.{bare, with_namespace, with_name, with_class, with_attributes, with_definition, with_literals}
use Rattle.rng_live.specs.Listed.{Mentions, MentionsNamespace, HasLiteral, AreMentioned, AreNamespaces, AreLiterals}

-- ---- classes

-- a class has what was asked for: the name, or its namespace where it has no local part
abbrev MentionedAs : Asked → Class → Name → Type 0
MentionedAs Names c n = class_mentions c n ≡ true
MentionedAs Namespaces c n = (n.local ≡ []) × (class_mentions_ns c n.ns ≡ true)

-- a class that mentions what two others do
record Joins (w c d : Class) : Type 0 where
  names : (n : Name) → class_mentions w n ≡ (class_mentions c n || class_mentions d n)
  spaces : (ns : List ℕ) → class_mentions_ns w ns ≡ (class_mentions_ns c ns || class_mentions_ns d ns)

joins_either : (c d : Class) → Joins (either c d) c d
joins_either c d = record { names = λ n. refl; spaces = λ ns. refl }

joins_without : (c d : Class) → Joins (without c d) c d
joins_without c d = record { names = λ n. refl; spaces = λ ns. refl }

by_first : (asked : Asked) (w c d : Class) (n : Name) → Joins w c d → MentionedAs asked c n → MentionedAs asked w n
by_first Names w c d n j h = j.names n ∙ or_left (class_mentions c n) (class_mentions d n) h
by_first Namespaces w c d n j h = (h.0, j.spaces n.ns ∙ or_left (class_mentions_ns c n.ns) (class_mentions_ns d n.ns) h.1)

by_second : (asked : Asked) (w c d : Class) (n : Name) → Joins w c d → MentionedAs asked d n → MentionedAs asked w n
by_second Names w c d n j h = j.names n ∙ or_right (class_mentions c n) (class_mentions d n) h
by_second Namespaces w c d n j h = (h.0, j.spaces n.ns ∙ or_right (class_mentions_ns c n.ns) (class_mentions_ns d n.ns) h.1)

by_either : (asked : Asked) (w c d : Class) (n : Name) → Joins w c d → MentionedAs asked w n → MentionedAs asked c n ⊎ MentionedAs asked d n
by_either Names w c d n j h = or_cases (class_mentions c n) (class_mentions d n) (sym (j.names n) ∙ h)
by_either Namespaces w c d n j h = elim (or_cases (class_mentions_ns c n.ns) (class_mentions_ns d n.ns) (sym (j.spaces n.ns) ∙ h.1)) [
  | inl e ↦ inl (h.0, e)
  | inr e ↦ inr (h.0, e)
]

bytes_itself : (ns : List ℕ) → bytes_eq ns ns ≡ true
bytes_itself ns = (bytes_eq-Decides ns ns).1 refl

bare_is : (n : Name) (ns : List ℕ) → n.local ≡ [] → bytes_eq n.ns ns ≡ true → bare ns ≡ n
bare_is n ns none same = sym (ap (λ (l : List ℕ). record { ns = n.ns; local = l }) none ∙ ap bare (same_bytes n.ns ns same))

class_keeps : (asked : Asked) (c : Class) (n : Name) (found : List Name) → Contains found n → Contains (with_class asked c found) n
class_keeps asked any_name n found h = h
class_keeps Names (ns_name ns) n found h = h
class_keeps Namespaces (ns_name ns) n found h = Contains-append_left found (bare ns ∷ []) n h
class_keeps Names (the_name m) n found h = Contains-append_left found (m ∷ []) n h
class_keeps Namespaces (the_name m) n found h = Contains-append_left found (bare m.ns ∷ []) n h
class_keeps asked (either c d) n found h = class_keeps asked c n (with_class asked d found) (class_keeps asked d n found h)
class_keeps asked (without c d) n found h = class_keeps asked c n (with_class asked d found) (class_keeps asked d n found h)

pushed : (found : List Name) (m n : Name) → m ≡ n → Contains (found ++ m ∷ []) n
pushed found m n is = subst (λ (v : Name). Contains (found ++ m ∷ []) v) is (Contains-push found m)

class_finds : (asked : Asked) (c : Class) (n : Name) (found : List Name) → MentionedAs asked c n → Contains (with_class asked c found) n
class_finds Names any_name n found h = absurd (false≢true h)
class_finds Namespaces any_name n found h = absurd (false≢true h.1)
class_finds Names (ns_name ns) n found h = absurd (false≢true h)
class_finds Namespaces (ns_name ns) n found h = pushed found (bare ns) n (bare_is n ns h.0 h.1)
class_finds Names (the_name m) n found h = pushed found m n (sym (same_name_is n m h))
class_finds Namespaces (the_name m) n found h = pushed found (bare m.ns) n (bare_is n m.ns h.0 h.1)
class_finds asked (either c d) n found h = elim (by_either asked (either c d) c d n (joins_either c d) h) [
  | inl e ↦ class_finds asked c n (with_class asked d found) e
  | inr e ↦ class_keeps asked c n (with_class asked d found) (class_finds asked d n found e)
]
class_finds asked (without c d) n found h = elim (by_either asked (without c d) c d n (joins_without c d) h) [
  | inl e ↦ class_finds asked c n (with_class asked d found) e
  | inr e ↦ class_keeps asked c n (with_class asked d found) (class_finds asked d n found e)
]

class_found : (asked : Asked) (c : Class) (n : Name) (found : List Name) → Contains (with_class asked c found) n → MentionedAs asked c n ⊎ Contains found n
class_found asked any_name n found h = inr h
class_found Names (ns_name ns) n found h = inr h
class_found Namespaces (ns_name ns) n found h = elim (Contains-push_cases found (bare ns) n h) [
  | inl before ↦ inr before
  | inr is ↦ inl (subst (λ (v : Name). (v.local ≡ []) × (bytes_eq v.ns ns ≡ true)) is (refl, bytes_itself ns))
]
class_found Names (the_name m) n found h = elim (Contains-push_cases found m n h) [
  | inl before ↦ inr before
  | inr is ↦ inl (subst (λ (v : Name). class_mentions (the_name m) v ≡ true) is (same_itself m))
]
class_found Namespaces (the_name m) n found h = elim (Contains-push_cases found (bare m.ns) n h) [
  | inl before ↦ inr before
  | inr is ↦ inl (subst (λ (v : Name). (v.local ≡ []) × (bytes_eq v.ns m.ns ≡ true)) is (refl, bytes_itself m.ns))
]
class_found asked (either c d) n found h = elim (class_found asked c n (with_class asked d found) h) [
  | inl e ↦ inl (by_first asked (either c d) c d n (joins_either c d) e)
  | inr later ↦ elim (class_found asked d n found later) [
    | inl e ↦ inl (by_second asked (either c d) c d n (joins_either c d) e)
    | inr before ↦ inr before
  ]
]
class_found asked (without c d) n found h = elim (class_found asked c n (with_class asked d found) h) [
  | inl e ↦ inl (by_first asked (without c d) c d n (joins_without c d) e)
  | inr later ↦ elim (class_found asked d n found later) [
    | inl e ↦ inl (by_second asked (without c d) c d n (joins_without c d) e)
    | inr before ↦ inr before
  ]
]

-- ---- attributes

record OfAttributes (asked : Asked) (p : Pattern) (n : Name) : Type 0 where
  class : Class
  of : IsAttributesOf class p
  mentioned : MentionedAs asked class n

attributes_keep : (asked : Asked) (p : Pattern) (n : Name) (found : List Name) → Contains found n → Contains (with_attributes asked p found) n
attributes_keep asked not_allowed n found h = h
attributes_keep asked empty n found h = h
attributes_keep asked any_text n found h = h
attributes_keep asked (typed type excepts) n found h = h
attributes_keep asked (literal type text) n found h = h
attributes_keep asked (listed p) n found h = h
attributes_keep asked (attribute class p) n found h = class_keeps asked class n found h
attributes_keep asked (ref i) n found h = h
attributes_keep asked (one_or_more p) n found h = attributes_keep asked p n found h
attributes_keep asked (choice p q) n found h = attributes_keep asked q n (with_attributes asked p found) (attributes_keep asked p n found h)
attributes_keep asked (group p q) n found h = attributes_keep asked q n (with_attributes asked p found) (attributes_keep asked p n found h)
attributes_keep asked (interleave p q) n found h = attributes_keep asked q n (with_attributes asked p found) (attributes_keep asked p n found h)

attributes_find : (asked : Asked) (k : Class) (p : Pattern) (n : Name) (found : List Name) → IsAttributesOf k p → MentionedAs asked k n → Contains (with_attributes asked p found) n
attributes_find asked k not_allowed n found o h = elim o [ ]
attributes_find asked k empty n found o h = elim o [ ]
attributes_find asked k any_text n found o h = elim o [ ]
attributes_find asked k (typed type excepts) n found o h = elim o [ ]
attributes_find asked k (literal type text) n found o h = elim o [ ]
attributes_find asked k (listed p) n found o h = elim o [ ]
attributes_find asked k (ref i) n found o h = elim o [ ]
attributes_find asked k (attribute c p) n found kept.itself h = class_finds asked k n found h
attributes_find asked k (one_or_more p) n found (of_one_or_more o) h = attributes_find asked k p n found o h
attributes_find asked k (choice p q) n found (of_first_choice o) h = attributes_keep asked q n (with_attributes asked p found) (attributes_find asked k p n found o h)
attributes_find asked k (choice p q) n found (of_second_choice o) h = attributes_find asked k q n (with_attributes asked p found) o h
attributes_find asked k (group p q) n found (of_first_of_group o) h = attributes_keep asked q n (with_attributes asked p found) (attributes_find asked k p n found o h)
attributes_find asked k (group p q) n found (of_second_of_group o) h = attributes_find asked k q n (with_attributes asked p found) o h
attributes_find asked k (interleave p q) n found (of_first_of_interleave o) h = attributes_keep asked q n (with_attributes asked p found) (attributes_find asked k p n found o h)
attributes_find asked k (interleave p q) n found (of_second_of_interleave o) h = attributes_find asked k q n (with_attributes asked p found) o h

attributes_found : (asked : Asked) (p : Pattern) (n : Name) (found : List Name) → Contains (with_attributes asked p found) n → OfAttributes asked p n ⊎ Contains found n
attributes_found asked not_allowed n found h = inr h
attributes_found asked empty n found h = inr h
attributes_found asked any_text n found h = inr h
attributes_found asked (typed type excepts) n found h = inr h
attributes_found asked (literal type text) n found h = inr h
attributes_found asked (listed p) n found h = inr h
attributes_found asked (attribute class p) n found h = elim (class_found asked class n found h) [
  | inl e ↦ inl (record { class = class; of = kept.itself; mentioned = e })
  | inr before ↦ inr before
]
attributes_found asked (ref i) n found h = inr h
attributes_found asked (one_or_more p) n found h = elim (attributes_found asked p n found h) [
  | inl e ↦ inl (record { class = e.class; of = of_one_or_more e.of; mentioned = e.mentioned })
  | inr before ↦ inr before
]
attributes_found asked (choice p q) n found h = elim (attributes_found asked q n (with_attributes asked p found) h) [
  | inl e ↦ inl (record { class = e.class; of = of_second_choice e.of; mentioned = e.mentioned })
  | inr later ↦ elim (attributes_found asked p n found later) [
    | inl e ↦ inl (record { class = e.class; of = of_first_choice e.of; mentioned = e.mentioned })
    | inr before ↦ inr before
  ]
]
attributes_found asked (group p q) n found h = elim (attributes_found asked q n (with_attributes asked p found) h) [
  | inl e ↦ inl (record { class = e.class; of = of_second_of_group e.of; mentioned = e.mentioned })
  | inr later ↦ elim (attributes_found asked p n found later) [
    | inl e ↦ inl (record { class = e.class; of = of_first_of_group e.of; mentioned = e.mentioned })
    | inr before ↦ inr before
  ]
]
attributes_found asked (interleave p q) n found h = elim (attributes_found asked q n (with_attributes asked p found) h) [
  | inl e ↦ inl (record { class = e.class; of = of_second_of_interleave e.of; mentioned = e.mentioned })
  | inr later ↦ elim (attributes_found asked p n found later) [
    | inl e ↦ inl (record { class = e.class; of = of_first_of_interleave e.of; mentioned = e.mentioned })
    | inr before ↦ inr before
  ]
]

-- ---- definitions

record OfDefinition (asked : Asked) (d : Definition) (n : Name) : Type 0 where
  class : Class
  of : IsClassOf class d
  mentioned : MentionedAs asked class n

definition_keeps : (asked : Asked) (d : Definition) (n : Name) (found : List Name) → Contains found n → Contains (with_definition asked d found) n
definition_keeps asked d n found h = attributes_keep asked d.content n (with_class asked d.class found) (class_keeps asked d.class n found h)

definition_finds : (asked : Asked) (class : Class) (d : Definition) (n : Name) (found : List Name) → IsClassOf class d → MentionedAs asked class n → Contains (with_definition asked d found) n
definition_finds asked class d n found (of_elements is) h =
    attributes_keep asked d.content n (with_class asked d.class found) (class_finds asked d.class n found (subst (λ (c : Class). MentionedAs asked c n) (sym is) h))
definition_finds asked class d n found (of_attributes k) h = attributes_find asked class d.content n (with_class asked d.class found) k h

definition_found : (asked : Asked) (d : Definition) (n : Name) (found : List Name) → Contains (with_definition asked d found) n → OfDefinition asked d n ⊎ Contains found n
definition_found asked d n found h = elim (attributes_found asked d.content n (with_class asked d.class found) h) [
  | inl e ↦ inl (record { class = e.class; of = of_attributes e.of; mentioned = e.mentioned })
  | inr later ↦ elim (class_found asked d.class n found later) [
    | inl e ↦ inl (record { class = d.class; of = of_elements refl; mentioned = e })
    | inr before ↦ inr before
  ]
]

abbrev walk : Asked → List Name → List Def → List Name
walk asked found defs = fold (λ found def. with_definition asked (definition_of def) found) found defs

record OfAll (asked : Asked) (defs : List Def) (n : Name) : Type 0 where
  number : ℕ
  definition : Definition
  class : Class
  is : slice_get (map definition_of defs) number ≡ Some definition
  of : IsClassOf class definition
  mentioned : MentionedAs asked class n

walk_keeps : (asked : Asked) (defs : List Def) (n : Name) (found : List Name) → Contains found n → Contains (walk asked found defs) n
walk_keeps asked [] n found h = h
walk_keeps asked (d ∷ defs) n found h = walk_keeps asked defs n (with_definition asked (definition_of d) found) (definition_keeps asked (definition_of d) n found h)

walk_finds : (asked : Asked) (defs : List Def) (n : Name) (found : List Name) (i : ℕ) (d : Definition) (class : Class) → slice_get (map definition_of defs) i ≡ Some d → IsClassOf class d → MentionedAs asked class n → Contains (walk asked found defs) n
walk_finds asked [] n found i d class is of h = absurd (let no : slice_get (map definition_of []) i ≡ Some d = is in cc)
walk_finds asked (x ∷ defs) n found zero d class is of h =
    let same : d ≡ definition_of x = cc in
    walk_keeps asked defs n (with_definition asked (definition_of x) found) (definition_finds asked class (definition_of x) n found (subst (IsClassOf class) same of) h)
walk_finds asked (x ∷ defs) n found (suc i) d class is of h = walk_finds asked defs n (with_definition asked (definition_of x) found) i d class is of h

walk_found : (asked : Asked) (defs : List Def) (n : Name) (found : List Name) → Contains (walk asked found defs) n → OfAll asked defs n ⊎ Contains found n
walk_found asked [] n found h = inr h
walk_found asked (x ∷ defs) n found h = elim (walk_found asked defs n (with_definition asked (definition_of x) found) h) [
  | inl e ↦ inl (record { number = suc e.number; definition = e.definition; class = e.class; is = e.is; of = e.of; mentioned = e.mentioned })
  | inr later ↦ elim (definition_found asked (definition_of x) n found later) [
    | inl e ↦ inl (record { number = zero; definition = definition_of x; class = e.class; is = refl; of = e.of; mentioned = e.mentioned })
    | inr before ↦ inr before
  ]
]

none_there : {X : Type 0} (x : X) → Contains [] x → ⊥
none_there x h = omega (arith, h.1)

some_there : (asked : Asked) (defs : List Def) (n : Name) → Contains (walk asked [] defs) n → OfAll asked defs n
some_there asked defs n h = elim (walk_found asked defs n [] h) [
  | inl e ↦ e
  | inr before ↦ absurd (none_there n before)
]

-- the names that were found, in order, are those that are mentioned
pub names_are : (defs : List Def) (names : List Name) → SortsOnce name_order (walk Names [] defs) names → AreMentioned (map definition_of defs) names
names_are defs names s = record {
  sorted = s.sorted;
  exact = λ n. (
    λ h. let e = some_there Names defs n ((s.same n).0 h) in record { number = e.number; definition = e.definition; class = e.class; is = e.is; of_definition = e.of; mentioned = e.mentioned },
    λ m. (s.same n).1 (walk_finds Names defs n [] m.number m.definition m.class m.is m.of_definition m.mentioned),
  );
}

pub namespaces_are : (defs : List Def) (names : List Name) → SortsOnce name_order (walk Namespaces [] defs) names → AreNamespaces (map definition_of defs) names
namespaces_are defs names s = record {
  sorted = s.sorted;
  exact = λ n. (
    λ h. let e = some_there Namespaces defs n ((s.same n).0 h) in
        (e.mentioned.0, record { number = e.number; definition = e.definition; class = e.class; is = e.is; of_definition = e.of; mentioned = e.mentioned.1 }),
    λ m. (s.same n).1 (walk_finds Namespaces defs n [] m.1.number m.1.definition m.1.class m.1.is m.1.of_definition (m.0, m.1.mentioned)),
  );
}

-- ---- literals

record OfLiteral (p : Pattern) (text : List ℕ) : Type 0 where
  type : Datatype
  stands : Stands (literal type text) p

literals_keep : (p : Pattern) (text : List ℕ) (found : List (List ℕ)) → Contains found text → Contains (with_literals p found) text
literals_keep not_allowed text found h = h
literals_keep empty text found h = h
literals_keep any_text text found h = h
literals_keep (typed type excepts) text found h = h
literals_keep (literal type wanted) text found h = Contains-append_left found (wanted ∷ []) text h
literals_keep (listed p) text found h = literals_keep p text found h
literals_keep (attribute class p) text found h = literals_keep p text found h
literals_keep (ref i) text found h = h
literals_keep (one_or_more p) text found h = literals_keep p text found h
literals_keep (choice p q) text found h = literals_keep q text (with_literals p found) (literals_keep p text found h)
literals_keep (group p q) text found h = literals_keep q text (with_literals p found) (literals_keep p text found h)
literals_keep (interleave p q) text found h = literals_keep q text (with_literals p found) (literals_keep p text found h)

literals_find : (type : Datatype) (text : List ℕ) (p : Pattern) (found : List (List ℕ)) → Stands (literal type text) p → Contains (with_literals p found) text
literals_find type text not_allowed found k = elim k [ ]
literals_find type text empty found k = elim k [ ]
literals_find type text any_text found k = elim k [ ]
literals_find type text (typed other excepts) found k = elim k [ ]
literals_find type text (ref i) found k = elim k [ ]
literals_find type text (literal other wanted) found itself = Contains-push found text
literals_find type text (listed p) found (in_list k) = literals_find type text p found k
literals_find type text (attribute class p) found (in_attribute k) = literals_find type text p found k
literals_find type text (one_or_more p) found (in_one_or_more k) = literals_find type text p found k
literals_find type text (choice p q) found (in_first_choice k) = literals_keep q text (with_literals p found) (literals_find type text p found k)
literals_find type text (choice p q) found (in_second_choice k) = literals_find type text q (with_literals p found) k
literals_find type text (group p q) found (in_first_of_group k) = literals_keep q text (with_literals p found) (literals_find type text p found k)
literals_find type text (group p q) found (in_second_of_group k) = literals_find type text q (with_literals p found) k
literals_find type text (interleave p q) found (in_first_of_interleave k) = literals_keep q text (with_literals p found) (literals_find type text p found k)
literals_find type text (interleave p q) found (in_second_of_interleave k) = literals_find type text q (with_literals p found) k

literals_found : (p : Pattern) (text : List ℕ) (found : List (List ℕ)) → Contains (with_literals p found) text → OfLiteral p text ⊎ Contains found text
literals_found not_allowed text found h = inr h
literals_found empty text found h = inr h
literals_found any_text text found h = inr h
literals_found (typed type excepts) text found h = inr h
literals_found (literal type wanted) text found h = elim (Contains-push_cases found wanted text h) [
  | inl before ↦ inr before
  | inr is ↦ inl (subst (λ (v : List ℕ). OfLiteral (literal type wanted) v) is (record { type = type; stands = itself }))
]
literals_found (listed p) text found h = elim (literals_found p text found h) [
  | inl e ↦ inl (record { type = e.type; stands = in_list e.stands })
  | inr before ↦ inr before
]
literals_found (attribute class p) text found h = elim (literals_found p text found h) [
  | inl e ↦ inl (record { type = e.type; stands = in_attribute e.stands })
  | inr before ↦ inr before
]
literals_found (ref i) text found h = inr h
literals_found (one_or_more p) text found h = elim (literals_found p text found h) [
  | inl e ↦ inl (record { type = e.type; stands = in_one_or_more e.stands })
  | inr before ↦ inr before
]
literals_found (choice p q) text found h = elim (literals_found q text (with_literals p found) h) [
  | inl e ↦ inl (record { type = e.type; stands = in_second_choice e.stands })
  | inr later ↦ elim (literals_found p text found later) [
    | inl e ↦ inl (record { type = e.type; stands = in_first_choice e.stands })
    | inr before ↦ inr before
  ]
]
literals_found (group p q) text found h = elim (literals_found q text (with_literals p found) h) [
  | inl e ↦ inl (record { type = e.type; stands = in_second_of_group e.stands })
  | inr later ↦ elim (literals_found p text found later) [
    | inl e ↦ inl (record { type = e.type; stands = in_first_of_group e.stands })
    | inr before ↦ inr before
  ]
]
literals_found (interleave p q) text found h = elim (literals_found q text (with_literals p found) h) [
  | inl e ↦ inl (record { type = e.type; stands = in_second_of_interleave e.stands })
  | inr later ↦ elim (literals_found p text found later) [
    | inl e ↦ inl (record { type = e.type; stands = in_first_of_interleave e.stands })
    | inr before ↦ inr before
  ]
]

abbrev texts_walk : List (List ℕ) → List Def → List (List ℕ)
texts_walk found defs = fold (λ found def. with_literals (definition_of def).content found) found defs

texts_keep : (defs : List Def) (text : List ℕ) (found : List (List ℕ)) → Contains found text → Contains (texts_walk found defs) text
texts_keep [] text found h = h
texts_keep (d ∷ defs) text found h = texts_keep defs text (with_literals (definition_of d).content found) (literals_keep (definition_of d).content text found h)

texts_find : (defs : List Def) (text : List ℕ) (found : List (List ℕ)) (i : ℕ) (d : Definition) (type : Datatype) → slice_get (map definition_of defs) i ≡ Some d → Stands (literal type text) d.content → Contains (texts_walk found defs) text
texts_find [] text found i d type is stands = absurd (let no : slice_get (map definition_of []) i ≡ Some d = is in cc)
texts_find (x ∷ defs) text found zero d type is stands =
    let same : d ≡ definition_of x = cc in
    texts_keep defs text (with_literals (definition_of x).content found)
    (literals_find type text (definition_of x).content found (subst (λ (v : Definition). Stands (literal type text) v.content) same stands))
texts_find (x ∷ defs) text found (suc i) d type is stands = texts_find defs text (with_literals (definition_of x).content found) i d type is stands

texts_found : (defs : List Def) (text : List ℕ) (found : List (List ℕ)) → Contains (texts_walk found defs) text → HasLiteral (map definition_of defs) text ⊎ Contains found text
texts_found [] text found h = inr h
texts_found (x ∷ defs) text found h = elim (texts_found defs text (with_literals (definition_of x).content found) h) [
  | inl e ↦ inl (record { number = suc e.number; definition = e.definition; type = e.type; is = e.is; stands = e.stands })
  | inr later ↦ elim (literals_found (definition_of x).content text found later) [
    | inl e ↦ inl (record { number = zero; definition = definition_of x; type = e.type; is = refl; stands = e.stands })
    | inr before ↦ inr before
  ]
]

text_there : (defs : List Def) (text : List ℕ) → Contains (texts_walk [] defs) text → HasLiteral (map definition_of defs) text
text_there defs text h = elim (texts_found defs text [] h) [
  | inl e ↦ e
  | inr before ↦ absurd (none_there text before)
]

pub literals_are : (defs : List Def) (texts : List (List ℕ)) → SortsOnce text_order (texts_walk [] defs) texts → AreLiterals (map definition_of defs) texts
literals_are defs texts s = record {
  sorted = s.sorted;
  exact = λ text. (
    λ h. text_there defs text ((s.same text).0 h),
    λ m. (s.same text).1 (texts_find defs text [] m.number m.definition m.type m.is m.stands),
  );
}
