-- The rules of a document's tree, among the items of its text.
use Rattle.std.proofs.Common.{◌≡◌, refl, sym, ap, ◌∙◌, subst, ℕ, ◌+◌, ◌-◌, ◌≤◌, inl, inr, Bool, true, false, cond, eqb, List, [], ◌∷◌, ◌++◌, map, Option, Some, None, arith, append_assoc, append-nil, codes, IsUtf8}
use Rattle.std.specs.List.{list_any}
use Rattle.std.specs.Str.{bytes_eq}
use Rattle.std.proofs.lemmas.Bool.{ne_eqb}
use Rattle.nx_base.specs.Names.{same_name}
use Rattle.nx_base.specs.Tokens.{tokens_of}
use Rattle.nx_base.specs.Trees.{Tree, Children, nil, string, element, flat, children_flat, attributes_flat}
use Rattle.nx_base.specs.Trees as trees
use Rattle.nx_base.specs.declared.fault.Span.{Span}
use Rattle.nx_base.specs.declared.name.Name.{Name}
use Rattle.nx_document.specs.Document.{Document}
use Rattle.nx_document.specs.WellFormed.{WellFormedIsDocument}
use Rattle.nx_events.specs.Among.{faults_among, events_among}
use Rattle.nx_events.specs.Items.{items_of_text}
use Rattle.nx_events.specs.TreeEvents.{as_event}
use Rattle.nx_events.specs.declared.item.Event.{Event}
use Rattle.nx_events.specs.declared.item.Event.TheVariants.{Enter, Att, TagEnd, Chars, Leave}
use Rattle.nx_events.specs.declared.item.Item.{Item}
use Rattle.nx_events.specs.declared.item.Item.TheVariants as items
use Rattle.nx_locate.specs.declared.rule.Rule.{Rule}
use Rattle.nx_locate.specs.Rules.{Values, value_of, target_of, rule_by, rules_in, listed, rules_namespace, root_name, HasRules, HasNoRules, IsReadAs}
use Rattle.nx_locate.specs.RulesRead.{entered, is_fault, value_among, rule_at, rule_entered, depth_behind, rules_from, begins_rules}

-- ---- items without a fault

no_faults : (all : List Item) → list_any is_fault all ≡ false → faults_among all ≡ []
no_faults [] h = refl
no_faults (items.Event event span ∷ rest) h = no_faults rest h
no_faults (items.Fault fault ∷ rest) h = let never : ⊥ = cc in absurd never

some_fault : (all : List Item) → list_any is_fault all ≡ true → faults_among all ≡ [] → ⊥
some_fault [] h none = let never : ⊥ = cc in never
some_fault (items.Event event span ∷ rest) h none = some_fault rest h none
some_fault (items.Fault fault ∷ rest) h none = let never : ⊥ = cc in never

-- items that are these events, each somewhere
pub data Clean : List Item → List trees.Event → Type 0 where
  clean_end : Clean [] []
  clean_one : {rest : List Item} {events : List trees.Event} (event : trees.Event) (span : Span) → Clean rest events →
      Clean (items.Event (as_event event) span ∷ rest) (event ∷ events)

clean : (all : List Item) (events : List trees.Event) → faults_among all ≡ [] → events_among all ≡ map as_event events → Clean all events
clean [] [] none same = clean_end
clean [] (e ∷ events) none same = let never : ⊥ = cc in absurd never
clean (items.Fault fault ∷ rest) events none same = let never : ⊥ = cc in absurd never
clean (items.Event event span ∷ rest) [] none same = let never : ⊥ = cc in absurd never
clean (items.Event event span ∷ rest) (e ∷ events) none same =
    let first : event ≡ as_event e = cc in
    let others : events_among rest ≡ map as_event events = cc in
    subst (λ (x : Event). Clean (items.Event x span ∷ rest) (e ∷ events)) (sym first) (clean_one e span (clean rest events none others))

-- ---- values

values_same : (local : List ℕ) (attributes : List trees.Attribute) (after : List trees.Event) (all : List Item) →
    Clean all (attributes_flat attributes (trees.TagEnd ∷ after)) → value_among local all ≡ value_of local attributes
unfolding value_among value_of
values_same local [] after _ (clean_one event span rest) = refl
values_same local (a ∷ attributes) after _ (clean_one {rest = behind} event span rest) =
    ap (λ v. cond (same_name a.name (record { ns = []; local = local })) (Some a.value) v) (values_same local attributes after behind rest)

rule_alike : (local : List ℕ) (f g : Values) → ((name : List ℕ) → f name ≡ g name) → rule_by local f ≡ rule_by local g
unfolding rule_by target_of
rule_alike local f g h =
    rw (
      h (codes "rules"),
      h (codes "resource"),
      h (codes "pattern"),
      h (codes "prefix"),
      h (codes "localName"),
      h (codes "ns"),
      h (codes "fromPattern"),
      h (codes "toPattern"),
      h (codes "id"),
      h (codes "uri"),
      h (codes "typeId"),
    ) refl

-- ---- rules by depth

same_both : {A : Type 0} (b : Bool) (x : A) → cond b x x ≡ x
same_both true x = refl
same_both false x = refl

-- an item with which no element begins adds no rule
plain_step : (n : ℕ) (item : Item) (behind : List Item) → entered item ≡ None →
    rules_from n (item ∷ behind) ≡ rules_from (depth_behind n item) behind
unfolding rules_from
plain_step n item behind none =
    let nothing_here : rule_at n item behind ≡ [] =
    ap (λ (name : Option Name). cond (eqb n 1) (rule_entered name behind) []) none ∙ same_both (eqb n 1) [] in
    ap (λ rs. rs ++ rules_from (depth_behind n item) behind) nothing_here

-- nor does an element outside of the root or deeper in it
deep_step : (n : ℕ) (item : Item) (behind : List Item) → eqb n 1 ≡ false →
    rules_from n (item ∷ behind) ≡ rules_from (depth_behind n item) behind
unfolding rules_from
deep_step n item behind other = rw other refl

-- what is left behind some events, with the same rules
pub record Behind (n : ℕ) (all : List Item) (after : List trees.Event) : Type 0 where
  pub rest : List Item
  pub is_clean : Clean rest after
  pub same : rules_from n all ≡ rules_from n rest

attributes_behind : (n : ℕ) (attributes : List trees.Attribute) (after : List trees.Event) (all : List Item) →
    Clean all (attributes_flat attributes after) → Behind n all after
attributes_behind n [] after all c = record { rest = all; is_clean = c; same = refl }
attributes_behind n (a ∷ attributes) after _ (clean_one {rest = behind} event span rest) =
    let inner = attributes_behind n attributes after behind rest in
    record {
      rest = inner.rest;
      is_clean = inner.is_clean;
      same = plain_step n (items.Event (Att a.name a.value) span) behind refl ∙ inner.same;
    }

-- a tag's attributes and its end
tag_behind : (n : ℕ) (attributes : List trees.Attribute) (after : List trees.Event) (all : List Item) →
    Clean all (attributes_flat attributes (trees.TagEnd ∷ after)) → Behind n all after
tag_behind n attributes after all c = at (attributes_behind n attributes (trees.TagEnd ∷ after) all c)
  where
    end_of : (rest : List Item) → Clean rest (trees.TagEnd ∷ after) → Behind n rest after
    end_of _ (clean_one {rest = behind} event span more) =
        record { rest = behind; is_clean = more; same = plain_step n (items.Event TagEnd span) behind refl }

    at : Behind n all (trees.TagEnd ∷ after) → Behind n all after
    at b = let e = end_of b.rest b.is_clean in record { rest = e.rest; is_clean = e.is_clean; same = b.same ∙ e.same }

-- an element's end
record Ended (n : ℕ) (all : List Item) (after : List trees.Event) : Type 0 where
  pub rest : List Item
  pub is_clean : Clean rest after
  pub same : rules_from (n + 1) all ≡ rules_from n rest

leave_behind : (n : ℕ) (after : List trees.Event) (all : List Item) → Clean all (trees.Leave ∷ after) → Ended n all after
leave_behind n after _ (clean_one {rest = behind} event span more) =
    let back : n + 1 - 1 ≡ n = omega arith in
    record {
      rest = behind;
      is_clean = more;
      same = plain_step (n + 1) (items.Event Leave span) behind refl ∙ ap (λ k. rules_from k behind) back;
    }

nothing_behind : (rest : List Item) → Clean rest [] → rules_from 0 rest ≡ []
unfolding rules_from
nothing_behind _ clean_end = refl

-- the rule of an element inside of the root, and what follows its start
element_step : (name : Name) (attributes : List trees.Attribute) (within : List trees.Event) (behind : List Item) (span : Span) →
    Clean behind (attributes_flat attributes (trees.TagEnd ∷ within)) →
    rules_from 1 (items.Event (Enter name) span ∷ behind) ≡
    cond (bytes_eq name.ns rules_namespace) (listed (rule_by name.local (λ local. value_of local attributes))) [] ++ rules_from 2 behind
unfolding rules_from
element_step name attributes within behind span c =
    ap (λ (r : Option Rule). cond (bytes_eq name.ns rules_namespace) (listed r) [] ++ rules_from 2 behind)
    (rule_alike name.local (λ local. value_among local behind) (λ local. value_of local attributes)
    (λ local. values_same local attributes within behind c))

-- children that stand deeper add no rule
deep_behind : (n : ℕ) (children : Children) (after : List trees.Event) (all : List Item) → 2 ≤ n →
    Clean all (children_flat children after) → Behind n all after
deep_behind n nil after all deep c = record { rest = all; is_clean = c; same = refl }
deep_behind n (string text rest) after _ deep (clean_one {rest = behind} event span more) =
    let inner = deep_behind n rest after behind deep more in
    record {
      rest = inner.rest;
      is_clean = inner.is_clean;
      same = plain_step n (items.Event (Chars text) span) behind refl ∙ inner.same;
    }
deep_behind n (element name attributes children rest) after _ deep (clean_one {rest = behind} event span more) =
    let tag = tag_behind (n + 1) attributes (children_flat children (trees.Leave ∷ children_flat rest after)) behind more in
    let deeper : 2 ≤ n + 1 = omega (arith, deep) in
    let inner = deep_behind (n + 1) children (trees.Leave ∷ children_flat rest after) tag.rest deeper tag.is_clean in
    let left = leave_behind n (children_flat rest after) inner.rest inner.is_clean in
    let others = deep_behind n rest after left.rest deep left.is_clean in
    let other : eqb n 1 ≡ false = ne_eqb n 1 (λ e. omega (arith, deep, e)) in
    record {
      rest = others.rest;
      is_clean = others.is_clean;
      same = deep_step n (items.Event (Enter name) span) behind other ∙ tag.same ∙ inner.same ∙ left.same ∙ others.same;
    }

-- the children of the root give their rules
pub record ChildrenBehind (all : List Item) (children : Children) (after : List trees.Event) : Type 0 where
  pub rest : List Item
  pub is_clean : Clean rest after
  pub same : rules_from 1 all ≡ rules_in children ++ rules_from 1 rest

root_behind : (children : Children) (after : List trees.Event) (all : List Item) → Clean all (children_flat children after) →
    ChildrenBehind all children after
unfolding rules_in
root_behind nil after all c = record { rest = all; is_clean = c; same = refl }
root_behind (string text rest) after _ (clean_one {rest = behind} event span more) =
    let inner = root_behind rest after behind more in
    record {
      rest = inner.rest;
      is_clean = inner.is_clean;
      same = plain_step 1 (items.Event (Chars text) span) behind refl ∙ inner.same;
    }
root_behind (element name attributes children rest) after _ (clean_one {rest = behind} event span more) =
    let within = children_flat children (trees.Leave ∷ children_flat rest after) in
    let tag = tag_behind 2 attributes within behind more in
    let two : 2 ≤ 2 = omega arith in
    let inner = deep_behind 2 children (trees.Leave ∷ children_flat rest after) tag.rest two tag.is_clean in
    let left = leave_behind 1 (children_flat rest after) inner.rest inner.is_clean in
    let others = root_behind rest after left.rest left.is_clean in
    let own : List Rule =
    cond (bytes_eq name.ns rules_namespace) (listed (rule_by name.local (λ local. value_of local attributes))) [] in
    record {
      rest = others.rest;
      is_clean = others.is_clean;
      same =
          element_step name attributes within behind span more
          ∙ ap (λ rs. own ++ rs) (tag.same ∙ inner.same ∙ left.same ∙ others.same)
          ∙ sym (append_assoc own (rules_in rest) (rules_from 1 others.rest));
    }

all_rules : (tree : Tree) (all : List Item) → Clean all (flat tree) → rules_from 0 all ≡ rules_in tree.children
unfolding rules_from
all_rules tree _ (clean_one {rest = behind} event span more) =
    let tag = tag_behind 1 tree.attributes (children_flat tree.children (trees.Leave ∷ [])) behind more in
    let within = root_behind tree.children (trees.Leave ∷ []) tag.rest tag.is_clean in
    let left = leave_behind 0 [] within.rest within.is_clean in
    deep_step 0 (items.Event (Enter tree.name) span) behind refl ∙ tag.same ∙ within.same
    ∙ ap (λ rs. rules_in tree.children ++ rs) (left.same ∙ nothing_behind left.rest left.is_clean)
    ∙ append-nil (rules_in tree.children)

begins_tree : (tree : Tree) (all : List Item) → Clean all (flat tree) → begins_rules all ≡ same_name tree.name root_name
begins_tree tree _ (clean_one event span more) = refl

-- ---- what is found in a text

module _ (law : WellFormedIsDocument) (text : List ℕ) (all : List Item) (is_text : IsUtf8 text) (all_are : all ≡ items_of_text text) where
  tree_of : list_any is_fault all ≡ false → (tree : Tree) × IsReadAs text tree × Clean all (flat tree)
  tree_of h =
      let none : faults_among all ≡ [] = no_faults all h in
      let none_there : faults_among (items_of_text text) ≡ [] = ap faults_among (sym all_are) ∙ none in
      let there : (tree : Tree) × Document (tokens_of text) tree = (law text is_text).0.0 none_there in
      let events : events_among (items_of_text text) ≡ map as_event (flat there.0) = (law text is_text).1 there.0 there.1 in
      (there.0, record { no_fault = none_there; events = events }, clean all (flat there.0) none (ap events_among all_are ∙ events))

  pub has_rules : (rules : List Rule) → list_any is_fault all ≡ false → begins_rules all ≡ true → rules ≡ rules_from 0 all →
      HasRules text rules
  has_rules rules h begins are =
      let t = tree_of h in record {
        tree = t.0;
        is_read = t.1;
        root = sym (begins_tree t.0 all t.2) ∙ begins;
        are = are ∙ all_rules t.0 all t.2;
      }

  pub has_fault : list_any is_fault all ≡ true → HasNoRules text
  has_fault h = inl (λ none. some_fault all h (ap faults_among all_are ∙ none))

  pub has_other_root : list_any is_fault all ≡ false → begins_rules all ≡ false → HasNoRules text
  has_other_root h begins = let t = tree_of h in inr (t.0, t.1, sym (begins_tree t.0 all t.2) ∙ begins)

-- ---- what a text says of rules

-- its rules are those of its items
pub rules_read : (text : List ℕ) (rules : List Rule) → HasRules text rules → rules ≡ rules_from 0 (items_of_text text)
rules_read text rules h =
    let all = items_of_text text in
    h.are ∙ sym (all_rules h.tree all (clean all (flat h.tree) h.is_read.no_fault h.is_read.events))

-- no text has rules and none
pub rules_or_none : (text : List ℕ) (rules : List Rule) → HasRules text rules → HasNoRules text → ⊥
rules_or_none text rules h (inl fault) = fault h.is_read.no_fault
rules_or_none text rules h (inr other) =
    let all = items_of_text text in
    let here = begins_tree h.tree all (clean all (flat h.tree) h.is_read.no_fault h.is_read.events) in
    let there = begins_tree other.0 all (clean all (flat other.0) other.1.no_fault other.1.events) in
    let yes : same_name h.tree.name root_name ≡ true = h.root in
    let no : same_name other.0.name root_name ≡ false = other.2 in
    cc
