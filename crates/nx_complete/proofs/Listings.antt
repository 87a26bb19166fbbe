-- The names and namespaces that a schema mentions, and the literals in it, as lists.
use Rattle.std.proofs.Common.{◌≡◌, ℕ, zero, suc, List, [], ◌∷◌, ◌++◌, map, true, Some, refl, sym, ap, subst, ◌⊎◌, inl, inr}
use Rattle.std.specs.Prelude.{slice_get, Contains, ◌↔◌}
use Rattle.std.specs.List.Sorted.{IsStrictlySortedBy}
use Rattle.std.specs.Cmp.{IsTotalOrder}
use Rattle.std.specs.declared.cmp.Ordering.{Ordering}
use Rattle.std.specs.Str.{bytes_eq}
use Rattle.std.proofs.lemmas.Bool.{false≢true, or_cases, or_left, or_right}
use Rattle.std.proofs.lemmas.Cmp.{nat_list_cmp_total}
use Rattle.std.proofs.lemmas.Map.Lookups.{CmpEqualImpliesEq, exact_bytes}
use Rattle.std.proofs.lemmas.Slice.Eq.{bytes_eq-Decides}
use Rattle.nx_base.specs.declared.name.Name.{Name}
use Rattle.rng_types.specs.declared.datatype.Datatype.{Datatype}
use Rattle.rng_core.proofs.Overlaps.{same_bytes}
use Rattle.rng_core.specs.Names.{Class, any_name, ns_name, the_name, either, without}
use Rattle.rng_core.specs.Patterns.{Pattern, Definition, not_allowed, empty, any_text, typed, literal, listed, attribute, ref, one_or_more, choice, group, interleave}
use Rattle.rng_restrict.specs.Standing.{Stands, in_list, in_attribute, in_one_or_more, in_first_choice, in_second_choice, in_first_of_group, in_second_of_group, in_first_of_interleave, in_second_of_interleave}
use Rattle.rng_restrict.specs.Standing as standing
use Rattle.rng_kept.specs.Mentioned.{class_mentions, class_mentions_ns, IsAttributesOf, itself, of_one_or_more, of_first_choice, of_second_choice, of_first_of_group, of_second_of_group, of_first_of_interleave, of_second_of_interleave, IsClassOf, of_elements, of_attributes}
use Rattle.rng_live.specs.Listed.{Mentions, MentionsNamespace, HasLiteral, AreMentioned, AreNamespaces, AreLiterals}
use Rattle.rng_residual.proofs.SoleNames.{same_itself, same_name_is}
use Rattle.rng_live.proofs.OrderedNames.{names_total}
use Rattle.nx_complete.specs.Asking.{named}
use Rattle.nx_complete.proofs.Elements.{In, at_head, in_tail, to_in, from_in, in_front, in_back, in_either, in_map, map_in}
use Rattle.nx_complete.proofs.Order.{in_order, from_order, to_order, sorted_order, names_exact}

-- the items of which something holds, as a list
pub record Listing {X : Type 0} (P : X → Type 0) : Type 0 where
  pub items : List X
  pub each : (x : X) → In x items → P x
  pub all : (x : X) → P x → In x items

none : {X : Type 0} {P : X → Type 0} → ((x : X) → P x → ⊥) → Listing P
none h = record { items = []; each = λ x i. elim i [ ]; all = λ x p. absurd (h x p) }

only : {X : Type 0} (P : X → Type 0) (x y : X) → P x → In y (x ∷ []) → P y
only P x y p (at_head e) = subst P e p
only P x y p (in_tail i) = elim i [ ]

one : {X : Type 0} {P : X → Type 0} (x : X) → P x → ((y : X) → P y → x ≡ y) → Listing P
one {P = P} x p same = record { items = x ∷ []; each = λ y i. only P x y p i; all = λ y q. at_head (same y q) }

both : {X : Type 0} {P Q R : X → Type 0} → Listing P → Listing Q → ((x : X) → P x → R x) → ((x : X) → Q x → R x) → ((x : X) → R x → P x ⊎ Q x) → Listing R
both l m first second parts = record {
  items = l.items ++ m.items;
  each = λ x i. elim (in_either l.items m.items i) [ inl j ↦ first x (l.each x j) | inr j ↦ second x (m.each x j) ];
  all = λ x r. elim (parts x r) [ inl p ↦ in_front m.items (l.all x p) | inr q ↦ in_back l.items (m.all x q) ];
}

alike : {X : Type 0} {P Q : X → Type 0} → Listing P → ((x : X) → P x → Q x) → ((x : X) → Q x → P x) → Listing Q
alike l there back = record { items = l.items; each = λ x i. there x (l.each x i); all = λ x q. l.all x (back x q) }

-- ---- classes

abbrev HasName : Class → Name → Type 0
HasName c n = class_mentions c n ≡ true

abbrev HasSpace : Class → List ℕ → Type 0
HasSpace c ns = class_mentions_ns c ns ≡ true

names_in : (c : Class) → Listing (HasName c)
names_in any_name = none (λ n h. false≢true h)
names_in (ns_name ns) = none (λ n h. false≢true h)
names_in (the_name m) = one m (same_itself m) (λ n h. sym (same_name_is n m h))
names_in (either c d) =
    both (names_in c) (names_in d) (λ n h. or_left (class_mentions c n) (class_mentions d n) h) (λ n h. or_right (class_mentions c n) (class_mentions d n) h)
    (λ n h. or_cases (class_mentions c n) (class_mentions d n) h)
names_in (without c d) =
    both (names_in c) (names_in d) (λ n h. or_left (class_mentions c n) (class_mentions d n) h) (λ n h. or_right (class_mentions c n) (class_mentions d n) h)
    (λ n h. or_cases (class_mentions c n) (class_mentions d n) h)

space_itself : (ns : List ℕ) → bytes_eq ns ns ≡ true
space_itself ns = (bytes_eq-Decides ns ns).1 refl

spaces_in : (c : Class) → Listing (HasSpace c)
spaces_in any_name = none (λ ns h. false≢true h)
spaces_in (ns_name of) = one of (space_itself of) (λ ns h. sym (same_bytes ns of h))
spaces_in (the_name m) = one m.ns (space_itself m.ns) (λ ns h. sym (same_bytes ns m.ns h))
spaces_in (either c d) =
    both (spaces_in c) (spaces_in d) (λ ns h. or_left (class_mentions_ns c ns) (class_mentions_ns d ns) h) (λ ns h. or_right (class_mentions_ns c ns) (class_mentions_ns d ns) h)
    (λ ns h. or_cases (class_mentions_ns c ns) (class_mentions_ns d ns) h)
spaces_in (without c d) =
    both (spaces_in c) (spaces_in d) (λ ns h. or_left (class_mentions_ns c ns) (class_mentions_ns d ns) h) (λ ns h. or_right (class_mentions_ns c ns) (class_mentions_ns d ns) h)
    (λ ns h. or_cases (class_mentions_ns c ns) (class_mentions_ns d ns) h)

-- ---- the classes of a definition

record OfAttributes {X : Type 0} (Has : Class → X → Type 0) (p : Pattern) (x : X) : Type 0 where
  class : Class
  of : IsAttributesOf class p
  has : Has class x

record OfDefinition {X : Type 0} (Has : Class → X → Type 0) (d : Definition) (x : X) : Type 0 where
  class : Class
  of : IsClassOf class d
  has : Has class x

module _ {X : Type 0} (Has : Class → X → Type 0) (x : X) where
  of_class : {k c : Class} {p : Pattern} → IsAttributesOf k (attribute c p) → Has k x → Has c x
  of_class itself h = h

  of_body : {k : Class} {p : Pattern} → IsAttributesOf k (one_or_more p) → Has k x → OfAttributes Has p x
  of_body (of_one_or_more o) h = record { class = _; of = o; has = h }

  of_choice : {k : Class} {p q : Pattern} → IsAttributesOf k (choice p q) → Has k x → OfAttributes Has p x ⊎ OfAttributes Has q x
  of_choice (of_first_choice o) h = inl (record { class = _; of = o; has = h })
  of_choice (of_second_choice o) h = inr (record { class = _; of = o; has = h })

  of_group : {k : Class} {p q : Pattern} → IsAttributesOf k (group p q) → Has k x → OfAttributes Has p x ⊎ OfAttributes Has q x
  of_group (of_first_of_group o) h = inl (record { class = _; of = o; has = h })
  of_group (of_second_of_group o) h = inr (record { class = _; of = o; has = h })

  of_interleave : {k : Class} {p q : Pattern} → IsAttributesOf k (interleave p q) → Has k x → OfAttributes Has p x ⊎ OfAttributes Has q x
  of_interleave (of_first_of_interleave o) h = inl (record { class = _; of = o; has = h })
  of_interleave (of_second_of_interleave o) h = inr (record { class = _; of = o; has = h })

  of_either : {k : Class} {d : Definition} → IsClassOf k d → Has k x → Has d.class x ⊎ OfAttributes Has d.content x
  of_either (of_elements e) h = inl (subst (λ (c : Class). Has c x) (sym e) h)
  of_either (of_attributes o) h = inr (record { class = _; of = o; has = h })

module _ {X : Type 0} (Has : Class → X → Type 0) (in_class : (c : Class) → Listing (Has c)) where
  in_attributes : (p : Pattern) → Listing (OfAttributes Has p)
  in_attributes not_allowed = none (λ x w. elim w.of [ ])
  in_attributes empty = none (λ x w. elim w.of [ ])
  in_attributes any_text = none (λ x w. elim w.of [ ])
  in_attributes (typed type excepts) = none (λ x w. elim w.of [ ])
  in_attributes (literal type text) = none (λ x w. elim w.of [ ])
  in_attributes (listed p) = none (λ x w. elim w.of [ ])
  in_attributes (ref i) = none (λ x w. elim w.of [ ])
  in_attributes (attribute c p) = alike (in_class c) (λ x h. record { class = c; of = itself; has = h }) (λ x w. of_class Has x w.of w.has)
  in_attributes (one_or_more p) = alike (in_attributes p) (λ x w. record { class = w.class; of = of_one_or_more w.of; has = w.has }) (λ x w. of_body Has x w.of w.has)
  in_attributes (choice p q) =
      both (in_attributes p) (in_attributes q) (λ x w. record { class = w.class; of = of_first_choice w.of; has = w.has })
      (λ x w. record { class = w.class; of = of_second_choice w.of; has = w.has }) (λ x w. of_choice Has x w.of w.has)
  in_attributes (group p q) =
      both (in_attributes p) (in_attributes q) (λ x w. record { class = w.class; of = of_first_of_group w.of; has = w.has })
      (λ x w. record { class = w.class; of = of_second_of_group w.of; has = w.has }) (λ x w. of_group Has x w.of w.has)
  in_attributes (interleave p q) =
      both (in_attributes p) (in_attributes q) (λ x w. record { class = w.class; of = of_first_of_interleave w.of; has = w.has })
      (λ x w. record { class = w.class; of = of_second_of_interleave w.of; has = w.has }) (λ x w. of_interleave Has x w.of w.has)

  in_definition : (d : Definition) → Listing (OfDefinition Has d)
  in_definition d =
      both (in_class d.class) (in_attributes d.content) (λ x h. record { class = d.class; of = of_elements refl; has = h })
      (λ x w. record { class = w.class; of = of_attributes w.of; has = w.has }) (λ x w. of_either Has x w.of w.has)

-- ---- the literals of a content

record OfLiteral (p : Pattern) (text : List ℕ) : Type 0 where
  type : Datatype
  stands : Stands (literal type text) p

literal_is : {type other : Datatype} {text wanted : List ℕ} → Stands (literal type text) (literal other wanted) → wanted ≡ text
literal_is standing.itself = refl

list_body : {type : Datatype} {text : List ℕ} {p : Pattern} → Stands (literal type text) (listed p) → OfLiteral p text
list_body (in_list s) = record { type = _; stands = s }

attribute_body : {type : Datatype} {text : List ℕ} {c : Class} {p : Pattern} → Stands (literal type text) (attribute c p) → OfLiteral p text
attribute_body (in_attribute s) = record { type = _; stands = s }

repeated_body : {type : Datatype} {text : List ℕ} {p : Pattern} → Stands (literal type text) (one_or_more p) → OfLiteral p text
repeated_body (in_one_or_more s) = record { type = _; stands = s }

choice_sides : {type : Datatype} {text : List ℕ} {p q : Pattern} → Stands (literal type text) (choice p q) → OfLiteral p text ⊎ OfLiteral q text
choice_sides (in_first_choice s) = inl (record { type = _; stands = s })
choice_sides (in_second_choice s) = inr (record { type = _; stands = s })

group_sides : {type : Datatype} {text : List ℕ} {p q : Pattern} → Stands (literal type text) (group p q) → OfLiteral p text ⊎ OfLiteral q text
group_sides (in_first_of_group s) = inl (record { type = _; stands = s })
group_sides (in_second_of_group s) = inr (record { type = _; stands = s })

interleave_sides : {type : Datatype} {text : List ℕ} {p q : Pattern} → Stands (literal type text) (interleave p q) → OfLiteral p text ⊎ OfLiteral q text
interleave_sides (in_first_of_interleave s) = inl (record { type = _; stands = s })
interleave_sides (in_second_of_interleave s) = inr (record { type = _; stands = s })

literals_in : (p : Pattern) → Listing (OfLiteral p)
literals_in not_allowed = none (λ text w. elim w.stands [ ])
literals_in empty = none (λ text w. elim w.stands [ ])
literals_in any_text = none (λ text w. elim w.stands [ ])
literals_in (typed type excepts) = none (λ text w. elim w.stands [ ])
literals_in (ref i) = none (λ text w. elim w.stands [ ])
literals_in (literal type wanted) = one wanted (record { type = type; stands = standing.itself }) (λ text w. literal_is w.stands)
literals_in (listed p) = alike (literals_in p) (λ text w. record { type = w.type; stands = in_list w.stands }) (λ text w. list_body w.stands)
literals_in (attribute c p) = alike (literals_in p) (λ text w. record { type = w.type; stands = in_attribute w.stands }) (λ text w. attribute_body w.stands)
literals_in (one_or_more p) = alike (literals_in p) (λ text w. record { type = w.type; stands = in_one_or_more w.stands }) (λ text w. repeated_body w.stands)
literals_in (choice p q) =
    both (literals_in p) (literals_in q) (λ text w. record { type = w.type; stands = in_first_choice w.stands })
    (λ text w. record { type = w.type; stands = in_second_choice w.stands }) (λ text w. choice_sides w.stands)
literals_in (group p q) =
    both (literals_in p) (literals_in q) (λ text w. record { type = w.type; stands = in_first_of_group w.stands })
    (λ text w. record { type = w.type; stands = in_second_of_group w.stands }) (λ text w. group_sides w.stands)
literals_in (interleave p q) =
    both (literals_in p) (literals_in q) (λ text w. record { type = w.type; stands = in_first_of_interleave w.stands })
    (λ text w. record { type = w.type; stands = in_second_of_interleave w.stands }) (λ text w. interleave_sides w.stands)

-- ---- in all definitions

record Somewhere {X : Type 0} (Has : Definition → X → Type 0) (g : List Definition) (x : X) : Type 0 where
  number : ℕ
  definition : Definition
  is : slice_get g number ≡ Some definition
  has : Has definition x

nowhere : (number : ℕ) (d : Definition) → slice_get [] number ≡ Some d → ⊥
nowhere number d e = cc

here_or_behind : {X : Type 0} (Has : Definition → X → Type 0) (x : X) (d : Definition) (g : List Definition) (number : ℕ) (e : Definition) → slice_get (d ∷ g) number ≡ Some e → Has e x → Has d x ⊎ Somewhere Has g x
here_or_behind Has x d g zero e is h = let same : e ≡ d = cc in inl (subst (λ (k : Definition). Has k x) same h)
here_or_behind Has x d g (suc number) e is h = inr (record { number = number; definition = e; is = is; has = h })

in_each : {X : Type 0} (Has : Definition → X → Type 0) → ((d : Definition) → Listing (Has d)) → (g : List Definition) → Listing (Somewhere Has g)
in_each Has l [] = none (λ x w. nowhere w.number w.definition w.is)
in_each Has l (d ∷ g) =
    both (l d) (in_each Has l g) (λ x h. record { number = zero; definition = d; is = refl; has = h })
    (λ x w. record { number = suc w.number; definition = w.definition; is = w.is; has = w.has })
    (λ x w. here_or_behind Has x d g w.number w.definition w.is w.has)

-- ---- in order, each once

record Ordered {X : Type 0} (R : X → X → Ordering) (P : X → Type 0) : Type 0 where
  items : List X
  sorted : IsStrictlySortedBy R items
  exact : (x : X) → Contains items x ↔ P x

ordered : {X : Type 0} {R : X → X → Ordering} {P : X → Type 0} → IsTotalOrder R → CmpEqualImpliesEq R → Listing P → Ordered R P
ordered total exact l =
    let items = in_order total exact l.items in
    record {
      items = items;
      sorted = sorted_order total exact l.items;
      exact = λ x. (
        λ c. l.each x (from_order total exact l.items x (to_in items x c)),
        λ p. from_in items x (to_order total exact l.items x (l.all x p)),
      );
    }

names_listed : (g : List Definition) → Listing (Mentions g)
names_listed g =
    alike (in_each (OfDefinition HasName) (in_definition HasName names_in) g)
    (λ n w. record { number = w.number; definition = w.definition; class = w.has.class; is = w.is; of_definition = w.has.of; mentioned = w.has.has })
    (λ n m. record { number = m.number; definition = m.definition; is = m.is; has = record { class = m.class; of = m.of_definition; has = m.mentioned } })

spaces_listed : (g : List Definition) → Listing (MentionsNamespace g)
spaces_listed g =
    alike (in_each (OfDefinition HasSpace) (in_definition HasSpace spaces_in) g)
    (λ ns w. record { number = w.number; definition = w.definition; class = w.has.class; is = w.is; of_definition = w.has.of; mentioned = w.has.has })
    (λ ns m. record { number = m.number; definition = m.definition; is = m.is; has = record { class = m.class; of = m.of_definition; has = m.mentioned } })

-- each namespace as a name with an empty local part
abbrev IsSpace : List Definition → Name → Type 0
IsSpace g n = (n.local ≡ []) × MentionsNamespace g n.ns

bare : List ℕ → Name
bare ns = named ns []

bare_listed : (g : List Definition) → Listing (IsSpace g)
unfolding bare
bare_listed g =
    let l = spaces_listed g in
    record {
      items = map bare l.items;
      each = λ n i. let m = in_map bare l.items n i in subst (IsSpace g) m.is (refl, l.each m.from m.inside);
      all = λ n h. subst (λ (k : Name). In k (map bare l.items)) (sym (ap (named n.ns) h.0)) (map_in bare (l.all n.ns h.1));
    }

literals_listed : (g : List Definition) → Listing (HasLiteral g)
literals_listed g =
    alike (in_each (λ (d : Definition). OfLiteral d.content) (λ d. literals_in d.content) g)
    (λ text w. record { number = w.number; definition = w.definition; type = w.has.type; is = w.is; stands = w.has.stands })
    (λ text m. record { number = m.number; definition = m.definition; is = m.is; has = record { type = m.type; stands = m.stands } })

pub mentioned_names : (g : List Definition) → (names : List Name) × AreMentioned g names
mentioned_names g = let o = ordered names_total names_exact (names_listed g) in (o.items, record { sorted = o.sorted; exact = o.exact })

pub mentioned_spaces : (g : List Definition) → (spaces : List Name) × AreNamespaces g spaces
mentioned_spaces g = let o = ordered names_total names_exact (bare_listed g) in (o.items, record { sorted = o.sorted; exact = o.exact })

pub literals_of : (g : List Definition) → (texts : List (List ℕ)) × AreLiterals g texts
literals_of g = let o = ordered nat_list_cmp_total exact_bytes (literals_listed g) in (o.items, record { sorted = o.sorted; exact = o.exact })
