-- Declarations, element and attributes of a tag: no fault among their items exactly where they keep the constraints.
use Rattle.std.proofs.Common.{◌≡◌, ℕ, Bool, true, false, cond, Option, Some, None, List, [], ◌∷◌, ◌++◌, map, refl, ap, sym, subst, ◌∙◌}
use Rattle.std.specs.Prelude.{◌||◌, not}
use Rattle.std.specs.List.{AllByRecursion}
use Rattle.std.specs.Str.{bytes_eq}
use Rattle.std.proofs.lemmas.Bool.{or_parts, or_from, or_right, or_left, and_parts, and_from, false_from_ne_true, both_ways}
use Rattle.std.proofs.lemmas.List.Folds.{list_any-append}
use Rattle.std.proofs.lemmas.Slice.Eq.{bytes_eq-Decides}
use Rattle.nx_base.specs.Trees as trees
use Rattle.nx_base.specs.Trees.{attributes_flat}
use Rattle.nx_base.specs.declared.fault.Kind.TheVariants.{DuplicateAttribute, BadName, BadBinding, SecondRoot}
use Rattle.nx_base.specs.declared.fault.Span.{Span}
use Rattle.nx_base.specs.declared.name.Name.{Name}
use Rattle.nx_events.specs.Declarations.{is_declaration, declared_prefix, is_bad_binding, has_attribute, flaw_kind, with_name, declaration_flaw, flaw_faults, binding_unless, faults_at, bindings_at, declaration_faults, bindings}
use Rattle.nx_events.specs.Elements.{flawed_as, declared_or_flaw, element_resolved, element_items, is_same_name, has_name, new_or_flaw, attribute_resolved, resolved_if_attribute, attribute_item, kept_name, attribute_items}
use Rattle.nx_events.specs.Names.{is_qname}
use Rattle.nx_events.specs.Scopes.{expand_element, expand_attribute}
use Rattle.nx_events.specs.declared.flaw.Resolved.{Resolved}
use Rattle.nx_events.specs.declared.flaw.Resolved.TheVariants.{Named}
use Rattle.nx_events.specs.declared.item.Event.{Event}
use Rattle.nx_events.specs.declared.item.Event.TheVariants.{Enter, Att}
use Rattle.nx_events.specs.declared.item.Item.TheVariants as items
use Rattle.nx_events.specs.declared.scope.Binding.{Binding}
use Rattle.nx_events.specs.declared.tag.Attribute.{Attribute}
use Rattle.nx_document.specs.Constraints.{AreWrittenOnce, IsLegalDeclaration, DeclareLegally, declared, Expand, no_attribute, declaration, attribute, AreDistinct}
use Rattle.nx_events.specs.Among.{events_among}
use Rattle.nx_events.specs.TreeEvents.{as_event}
use Rattle.nx_document.proofs.Told.{Clean, clean_nil, clean_first, clean_second, faulty}

pub not_nothing : {A B : Type 0} (x : A) (xs : List A) → x ∷ xs ≡ [] → B
not_nothing x xs e = let bad : x ∷ xs ≡ [] = e in absurd (cc)

append_nothing_first : {A : Type 0} (xs ys : List A) → xs ++ ys ≡ [] → xs ≡ []
append_nothing_first [] ys e = refl
append_nothing_first (x ∷ xs) ys e = not_nothing x (xs ++ ys) e

append_nothing_second : {A : Type 0} (xs ys : List A) → xs ++ ys ≡ [] → ys ≡ []
append_nothing_second [] ys e = e
append_nothing_second (x ∷ xs) ys e = not_nothing x (xs ++ ys) e

-- names that aren't among attributes
unlike_test : (a b : List ℕ) → (a ≡ b → ⊥) → bytes_eq a b ≡ false
unlike_test a b h = false_from_ne_true (bytes_eq a b) (λ e. h ((bytes_eq-Decides a b).0 e))

has_more : (before : List Attribute) (it : Attribute) (name : List ℕ) →
    has_attribute (before ++ it ∷ []) name ≡ (has_attribute before name || (bytes_eq it.name name || false))
has_more before it name = list_any-append (λ (other : Attribute). bytes_eq other.name name) before (it ∷ [])

has_itself : (before : List Attribute) (it : Attribute) → has_attribute (before ++ it ∷ []) it.name ≡ true
has_itself before it =
    has_more before it it.name
    ∙ or_right (has_attribute before it.name) (bytes_eq it.name it.name || false) (or_left (bytes_eq it.name it.name) false ((bytes_eq-Decides it.name it.name).1 refl))

has_still : (before : List Attribute) (it : Attribute) (name : List ℕ) → has_attribute before name ≡ true → has_attribute (before ++ it ∷ []) name ≡ true
has_still before it name h = has_more before it name ∙ or_left (has_attribute before name) (bytes_eq it.name name || false) h

-- no attribute has the name of one before them
abbrev pub Apart : List Attribute → List Attribute → Type 0
Apart before xs = AllByRecursion (λ (it : Attribute). has_attribute before it.name ≡ false) xs

apart_nothing : (xs : List Attribute) → Apart [] xs
apart_nothing [] = tt
apart_nothing (x ∷ xs) = (refl, apart_nothing xs)

apart_more : (before : List Attribute) (it : Attribute) (xs : List Attribute) → Apart before xs →
    AllByRecursion (λ (other : Attribute). it.name ≡ other.name → ⊥) xs → Apart (before ++ it ∷ []) xs
apart_more before it [] h k = tt
apart_more before it (x ∷ xs) h k = (
  has_more before it x.name ∙ or_from (has_attribute before x.name) (bytes_eq it.name x.name || false) h.0
      (or_from (bytes_eq it.name x.name) false (unlike_test it.name x.name k.0) refl),
  apart_more before it xs h.1 k.1,
)

-- one declaration
record Sound (before : List Attribute) (it : Attribute) : Type 0 where
  fresh : has_attribute before it.name ≡ false
  legal : IsLegalDeclaration it

flaw_free : (had named bad : Bool) (name : List ℕ) (span : Span) →
    flaw_faults span (with_name name (cond had (Some DuplicateAttribute) (cond (not named) (Some BadName) (cond bad (Some BadBinding) None)))) ≡ [] →
    (had ≡ false) × (named ≡ true) × (bad ≡ false)
flaw_free true named bad name span e = not_nothing _ _ e
flaw_free false false bad name span e = not_nothing _ _ e
flaw_free false true true name span e = not_nothing _ _ e
flaw_free false true false name span e = (refl, refl, refl)

sound_declaration : (before : List Attribute) (it : Attribute) → is_declaration it.name ≡ true → faults_at before it ≡ [] → Sound before it
unfolding faults_at flaw_kind
sound_declaration before it d e =
    let parts = flaw_free (has_attribute before it.name) (is_qname it.name) (is_bad_binding (declared_prefix it.name) it.string) it.name it.span
    (rw d at e) in
    record { fresh = parts.0; legal = record { name = parts.1; binding = parts.2 } }

no_flaw : (before : List Attribute) (it : Attribute) → Sound before it → declaration_flaw before it ≡ None
unfolding flaw_kind
no_flaw before it s = rw (s.fresh, s.legal.name, s.legal.binding) refl

-- the pair that an attribute declares, if it is a declaration
abbrev pair_of : Attribute → List Binding
pair_of it = cond (is_declaration it.name) (record { prefix = declared_prefix it.name; uri = it.string } ∷ []) []

declared_step : (it : Attribute) (others : List Attribute) → declared (it ∷ others) ≡ pair_of it ++ declared others
declared_step it others = by_test (is_declaration it.name)
  where
    by_test : (t : Bool) → cond t (record { prefix = declared_prefix it.name; uri = it.string } ∷ declared others) (declared others)
        ≡ cond t (record { prefix = declared_prefix it.name; uri = it.string } ∷ []) [] ++ declared others
    by_test true = refl
    by_test false = refl

bindings_here : (before : List Attribute) (it : Attribute) → (is_declaration it.name ≡ true → Sound before it) → bindings_at before it ≡ pair_of it
unfolding bindings_at
bindings_here before it s = by_test (is_declaration it.name) s
  where
    by_test : (t : Bool) → (t ≡ true → Sound before it) → cond t (binding_unless it (declaration_flaw before it)) [] ≡ cond t (record { prefix = declared_prefix it.name; uri = it.string } ∷ []) []
    by_test true s = ap (binding_unless it) (no_flaw before it (s refl))
    by_test false s = refl

sound_if : (before : List Attribute) (it : Attribute) → faults_at before it ≡ [] → is_declaration it.name ≡ true → Sound before it
sound_if before it e d = sound_declaration before it d e

-- all declarations
pub declares_legally : (before xs : List Attribute) → declaration_faults before xs ≡ [] → DeclareLegally xs
unfolding declaration_faults
declares_legally before [] e = tt
declares_legally before (x ∷ xs) e = (
  (λ d. (sound_declaration before x d (append_nothing_first (faults_at before x) (declaration_faults (before ++ x ∷ []) xs) e)).legal),
  declares_legally (before ++ x ∷ []) xs (append_nothing_second (faults_at before x) (declaration_faults (before ++ x ∷ []) xs) e),
)

pub declared_once : (before xs : List Attribute) (name : List ℕ) → declaration_faults before xs ≡ [] → is_declaration name ≡ true → has_attribute before name ≡ true →
    AllByRecursion (λ (other : Attribute). name ≡ other.name → ⊥) xs
unfolding declaration_faults
declared_once before [] name e d h = tt
declared_once before (x ∷ xs) name e d h = (
  (λ same. both_ways (has_attribute before x.name)
      (sound_declaration before x (subst (λ n. is_declaration n ≡ true) same d) (append_nothing_first (faults_at before x) (declaration_faults (before ++ x ∷ []) xs) e)).fresh
      (subst (λ n. has_attribute before n ≡ true) same h)),
  declared_once (before ++ x ∷ []) xs name (append_nothing_second (faults_at before x) (declaration_faults (before ++ x ∷ []) xs) e) d (has_still before x name h),
)

pub bindings_declared : (before xs : List Attribute) → declaration_faults before xs ≡ [] → bindings before xs ≡ declared xs
unfolding declaration_faults bindings
bindings_declared before [] e = refl
bindings_declared before (x ∷ xs) e =
    ap (λ bs. bs ++ bindings (before ++ x ∷ []) xs) (bindings_here before x (sound_if before x (append_nothing_first (faults_at before x) (declaration_faults (before ++ x ∷ []) xs) e)))
    ∙ ap (λ bs. pair_of x ++ bs) (bindings_declared (before ++ x ∷ []) xs (append_nothing_second (faults_at before x) (declaration_faults (before ++ x ∷ []) xs) e))
    ∙ sym (declared_step x xs)

faultless_here : (before : List Attribute) (x : Attribute) → has_attribute before x.name ≡ false → (is_declaration x.name ≡ true → IsLegalDeclaration x) → faults_at before x ≡ []
unfolding faults_at
faultless_here before x fresh legal = by_test (is_declaration x.name) legal
  where
    by_test : (t : Bool) → (t ≡ true → IsLegalDeclaration x) → cond t (flaw_faults x.span (declaration_flaw before x)) [] ≡ []
    by_test true h = ap (flaw_faults x.span) (no_flaw before x (record { fresh = fresh; legal = h refl }))
    by_test false h = refl

pub declarations_faultless : (before xs : List Attribute) → Apart before xs → AreWrittenOnce xs → DeclareLegally xs → declaration_faults before xs ≡ []
unfolding declaration_faults
declarations_faultless before [] apart once legal = refl
declarations_faultless before (x ∷ xs) apart once legal =
    ap (λ fs. fs ++ declaration_faults (before ++ x ∷ []) xs) (faultless_here before x apart.0 legal.0)
    ∙ declarations_faultless (before ++ x ∷ []) xs (apart_more before x xs apart.1 once.0) once.1 legal.1

pub all_faultless : (xs : List Attribute) → AreWrittenOnce xs → DeclareLegally xs → declaration_faults [] xs ≡ []
all_faultless xs once legal = declarations_faultless [] xs (apart_nothing xs) once legal

-- expanded names
same_names : (a b : Name) → is_same_name a b ≡ true → a ≡ b
same_names a b e =
    let parts = and_parts (bytes_eq a.ns b.ns) (bytes_eq a.local b.local) e in
    let ns : a.ns ≡ b.ns = (bytes_eq-Decides a.ns b.ns).0 parts.0 in
    let local : a.local ≡ b.local = (bytes_eq-Decides a.local b.local).0 parts.1 in
    let first : a ≡ record { ns = b.ns; local = a.local } = ap (λ (x : List ℕ). let n : Name = record { ns = x; local = a.local } in n) ns in
    first ∙ ap (λ (y : List ℕ). let n : Name = record { ns = b.ns; local = y } in n) local

names_same : (a b : Name) → a ≡ b → is_same_name a b ≡ true
names_same a b e =
    and_from (bytes_eq a.ns b.ns) (bytes_eq a.local b.local) ((bytes_eq-Decides a.ns b.ns).1 (ap (λ (n : Name). n.ns) e)) ((bytes_eq-Decides a.local b.local).1 (ap (λ (n : Name). n.local) e))

kept_more : (kept new : List Name) (name : Name) → has_name (kept ++ new) name ≡ (has_name kept name || has_name new name)
kept_more kept new name = list_any-append (λ (other : Name). is_same_name other name) kept new

abbrev pub Unkept : List Name → List trees.Attribute → Type 0
Unkept kept attributes = AllByRecursion (λ (a : trees.Attribute). has_name kept a.name ≡ false) attributes

unkept_nothing : (attributes : List trees.Attribute) → Unkept [] attributes
unkept_nothing [] = tt
unkept_nothing (a ∷ attributes) = (refl, unkept_nothing attributes)

unkept_less : (kept new : List Name) (attributes : List trees.Attribute) → Unkept (kept ++ new) attributes → Unkept kept attributes
unkept_less kept new [] h = tt
unkept_less kept new (a ∷ attributes) h =
    ((or_parts (has_name kept a.name) (has_name new a.name) (sym (kept_more kept new a.name) ∙ h.0)).0, unkept_less kept new attributes h.1)

unkept_new : (kept : List Name) (name : Name) (attributes : List trees.Attribute) → Unkept (kept ++ name ∷ []) attributes →
    AllByRecursion (λ (a : trees.Attribute). name ≡ a.name → ⊥) attributes
unkept_new kept name [] h = tt
unkept_new kept name (a ∷ attributes) h = (
  (λ same. both_ways (is_same_name name a.name)
      (or_parts (is_same_name name a.name) false (or_parts (has_name kept a.name) (has_name (name ∷ []) a.name) (sym (kept_more kept (name ∷ []) a.name) ∙ h.0)).1).0
      (names_same name a.name same)),
  unkept_new kept name attributes h.1,
)

unkept_more : (kept : List Name) (name : Name) (attributes : List trees.Attribute) → Unkept kept attributes →
    AllByRecursion (λ (a : trees.Attribute). name ≡ a.name → ⊥) attributes → Unkept (kept ++ name ∷ []) attributes
unkept_more kept name [] h k = tt
unkept_more kept name (a ∷ attributes) h k = (
  kept_more kept (name ∷ []) a.name ∙ or_from (has_name kept a.name) (is_same_name name a.name || false) h.0
      (or_from (is_same_name name a.name) false (false_from_ne_true (is_same_name name a.name) (λ e. k.0 (same_names name a.name e))) refl),
  unkept_more kept name attributes h.1 k.1,
)

-- one attribute
record Kept (scope : List Binding) (kept : List Name) (it : Attribute) : Type 0 where
  name : Name
  qualified : is_qname it.name ≡ true
  expands : expand_attribute scope it.name ≡ Some name
  fresh : has_name kept name ≡ false

attribute_parts : (q : Bool) (o : Option Name) (kept : List Name) (it : Attribute) →
    Clean (attribute_item it (Some (cond (not q) (flawed_as BadName it.name) (new_or_flaw kept (declared_or_flaw o it.name) it.name)))) →
    (q ≡ true) × ((name : Name) × (o ≡ Some name) × (has_name kept name ≡ false))
unfolding new_or_flaw
attribute_parts false o kept it h = faulty _ _ h
attribute_parts true None kept it h = faulty _ _ h
attribute_parts true (Some name) kept it h = (refl, (name, refl, by_kept (has_name kept name) h))
  where
    by_kept : (t : Bool) → Clean (attribute_item it (Some (cond t (flawed_as DuplicateAttribute it.name) (Named name)))) → t ≡ false
    by_kept true h = faulty _ _ h
    by_kept false h = refl

kept_attribute : (scope : List Binding) (kept : List Name) (it : Attribute) → is_declaration it.name ≡ false → Clean (attribute_item it (resolved_if_attribute scope kept it)) → Kept scope kept it
unfolding resolved_if_attribute attribute_resolved
kept_attribute scope kept it d h =
    let parts = attribute_parts (is_qname it.name) (expand_attribute scope it.name) kept it (rw d at h) in
    record { name = parts.1.0; qualified = parts.0; expands = parts.1.1; fresh = parts.1.2 }

attribute_named : (scope : List Binding) (kept : List Name) (it : Attribute) (k : Kept scope kept it) → is_declaration it.name ≡ false → resolved_if_attribute scope kept it ≡ Some (Named k.name)
unfolding resolved_if_attribute attribute_resolved new_or_flaw
attribute_named scope kept it k d = rw (d, k.qualified, k.expands, k.fresh) refl

declaration_passed : (scope : List Binding) (kept : List Name) (it : Attribute) → is_declaration it.name ≡ true → resolved_if_attribute scope kept it ≡ None
unfolding resolved_if_attribute
declaration_passed scope kept it d = rw d refl

-- all attributes
pub record Expanded (scope : List Binding) (kept : List Name) (xs : List Attribute) : Type 0 where
  pub attributes : List trees.Attribute
  pub expand : Expand scope xs attributes
  pub distinct : AreDistinct attributes
  pub unkept : Unkept kept attributes

module _ (scope : List Binding) where
  one_declaration : (kept : List Name) (x : Attribute) (xs : List Attribute) (r : Option Resolved) → is_declaration x.name ≡ true → Expanded scope (kept ++ kept_name r) xs → Expanded scope kept (x ∷ xs)
  one_declaration kept x xs r d w = record { attributes = w.attributes; expand = declaration d w.expand; distinct = w.distinct; unkept = unkept_less kept (kept_name r) w.attributes w.unkept }

  one_attribute : (kept : List Name) (x : Attribute) (xs : List Attribute) (k : Kept scope kept x) → is_declaration x.name ≡ false → Expanded scope (kept ++ k.name ∷ []) xs → Expanded scope kept (x ∷ xs)
  one_attribute kept x xs k d w = record {
    attributes = record { name = k.name; value = x.string } ∷ w.attributes;
    expand = attribute d k.qualified k.expands w.expand;
    distinct = (unkept_new kept k.name w.attributes w.unkept, w.distinct);
    unkept = (k.fresh, unkept_less kept (k.name ∷ []) w.attributes w.unkept);
  }

  one_expanded : (kept : List Name) (x : Attribute) (xs : List Attribute) → Clean (attribute_item x (resolved_if_attribute scope kept x)) →
      Expanded scope (kept ++ kept_name (resolved_if_attribute scope kept x)) xs → Expanded scope kept (x ∷ xs)
  one_expanded kept x xs c w = by_test (is_declaration x.name) refl
    where
      by_test : (t : Bool) → is_declaration x.name ≡ t → Expanded scope kept (x ∷ xs)
      by_test true d = one_declaration kept x xs (resolved_if_attribute scope kept x) d w
      by_test false d =
          let k = kept_attribute scope kept x d c in
          one_attribute kept x xs k d (subst (λ r. Expanded scope (kept ++ kept_name r) xs) (attribute_named scope kept x k d) w)

  pub expanded : (kept : List Name) (xs : List Attribute) → Clean (attribute_items scope kept xs) → Expanded scope kept xs
  unfolding attribute_items
  expanded kept [] h = record { attributes = []; expand = no_attribute; distinct = tt; unkept = tt }
  expanded kept (x ∷ xs) h =
      let r = resolved_if_attribute scope kept x in
      one_expanded kept x xs (clean_first (attribute_item x r) (attribute_items scope (kept ++ kept_name r) xs) h)
      (expanded (kept ++ kept_name r) xs (clean_second (attribute_item x r) (attribute_items scope (kept ++ kept_name r) xs) h))

  -- no name that has this expanded name is written in them
  expanded_once : (name : List ℕ) (n : Name) {xs : List Attribute} {attributes : List trees.Attribute} → is_declaration name ≡ false → expand_attribute scope name ≡ Some n →
      Expand scope xs attributes → AllByRecursion (λ (a : trees.Attribute). n ≡ a.name → ⊥) attributes → AllByRecursion (λ (other : Attribute). name ≡ other.name → ⊥) xs
  expanded_once name n d e no_attribute h = tt
  expanded_once name n d e (declaration {it = it} c more) h =
      ((λ same. both_ways (is_declaration name) d (ap is_declaration same ∙ c)), expanded_once name n d e more h)
  expanded_once name n d e (attribute {it = it} {name = m} c q f more) h =
      ((λ same. h.0 (let both : Some n ≡ Some m = sym e ∙ ap (expand_attribute scope) same ∙ f in cc)), expanded_once name n d e more h.1)

  pub written_once : (before : List Attribute) {xs : List Attribute} {attributes : List trees.Attribute} → declaration_faults before xs ≡ [] →
      Expand scope xs attributes → AreDistinct attributes → AreWrittenOnce xs
  unfolding declaration_faults
  written_once before f no_attribute h = tt
  written_once before f (declaration {it = it} {others = xs} c more) h =
      let rest = append_nothing_second (faults_at before it) (declaration_faults (before ++ it ∷ []) xs) f in
      (declared_once (before ++ it ∷ []) xs it.name rest c (has_itself before it), written_once (before ++ it ∷ []) rest more h)
  written_once before f (attribute {it = it} {others = xs} {name = n} c q e more) h =
      let rest = append_nothing_second (faults_at before it) (declaration_faults (before ++ it ∷ []) xs) f in
      (expanded_once it.name n c e more h.0, written_once (before ++ it ∷ []) rest more h.1)

  -- and back: no fault, and the events
  pub record Told (kept : List Name) (xs : List Attribute) (attributes : List trees.Attribute) : Type 0 where
    pub clean : Clean (attribute_items scope kept xs)
    pub events : (x : List trees.Event) → events_among (attribute_items scope kept xs) ++ map as_event x ≡ map as_event (attributes_flat attributes x)

  pass_declaration : (kept : List Name) (it : Attribute) (xs : List Attribute) (attributes : List trees.Attribute) → is_declaration it.name ≡ true →
      Told (kept ++ []) xs attributes → Told kept (it ∷ xs) attributes
  unfolding attribute_items
  pass_declaration kept it xs attributes d told =
      let P : Option Resolved → Type 0 = λ r. Clean (attribute_item it r ++ attribute_items scope (kept ++ kept_name r) xs) in
      let Q : Option Resolved → Type 0 = λ r. (x : List trees.Event) → events_among (attribute_item it r ++ attribute_items scope (kept ++ kept_name r) xs) ++ map as_event x ≡ map as_event (attributes_flat attributes x) in
      let same = sym (declaration_passed scope kept it d) in
      record { clean = subst P same told.clean; events = subst Q same told.events }

  pass_attribute : (kept : List Name) (it : Attribute) (xs : List Attribute) (attributes : List trees.Attribute) (k : Kept scope kept it) → is_declaration it.name ≡ false →
      Told (kept ++ k.name ∷ []) xs attributes → Told kept (it ∷ xs) (record { name = k.name; value = it.string } ∷ attributes)
  unfolding attribute_items
  pass_attribute kept it xs attributes k d told =
      let P : Option Resolved → Type 0 = λ r. Clean (attribute_item it r ++ attribute_items scope (kept ++ kept_name r) xs) in
      let Q : Option Resolved → Type 0 = λ r. (x : List trees.Event) → events_among (attribute_item it r ++ attribute_items scope (kept ++ kept_name r) xs) ++ map as_event x
      ≡ map as_event (attributes_flat (record { name = k.name; value = it.string } ∷ attributes) x) in
      let same = sym (attribute_named scope kept it k d) in
      let inner : Clean (attribute_items scope (kept ++ k.name ∷ []) xs) = told.clean in
      record {
        clean = subst P same (record { none = inner.none });
        events = subst Q same (λ x. ap (λ (es : List Event). Att k.name it.string ∷ es) (told.events x));
      }

  tells : (kept : List Name) {xs : List Attribute} {attributes : List trees.Attribute} → Expand scope xs attributes → AreDistinct attributes → Unkept kept attributes →
      Told kept xs attributes
  unfolding attribute_items
  tells kept no_attribute h u = record { clean = clean_nil; events = λ x. refl }
  tells kept (declaration {it = it} {others = xs} {expanded = attributes} c more) h u =
      pass_declaration kept it xs attributes c (tells (kept ++ []) more h (unkept_still kept attributes u))
    where
      unkept_still : (kept : List Name) (attributes : List trees.Attribute) → Unkept kept attributes → Unkept (kept ++ []) attributes
      unkept_still kept [] h = tt
      unkept_still kept (a ∷ attributes) h = (kept_more kept [] a.name ∙ or_from (has_name kept a.name) false h.0 refl, unkept_still kept attributes h.1)
  tells kept (attribute {it = it} {others = xs} {name = n} {expanded = attributes} c q e more) h u =
      let k : Kept scope kept it = record { name = n; qualified = q; expands = e; fresh = u.0 } in
      pass_attribute kept it xs attributes k c (tells (kept ++ n ∷ []) more h.1 (unkept_more kept n attributes u.1 h.0))

  pub attributes_told : {xs : List Attribute} {attributes : List trees.Attribute} → Expand scope xs attributes → AreDistinct attributes → Told [] xs attributes
  attributes_told {attributes} e h = tells [] e h (unkept_nothing attributes)

-- the element's name
pub record Entered (behind : Bool) (scope : List Binding) (written : List ℕ) (span : Span) : Type 0 where
  pub name : Name
  pub inside : behind ≡ false
  pub qualified : is_qname written ≡ true
  pub named : expand_element scope written ≡ Some name

name_parts : (behind q : Bool) (o : Option Name) (written : List ℕ) (span : Span) →
    Clean (element_items span (cond behind (flawed_as SecondRoot written) (cond (not q) (flawed_as BadName written) (declared_or_flaw o written)))) →
    (behind ≡ false) × (q ≡ true) × ((name : Name) × (o ≡ Some name))
name_parts true q o written span h = faulty _ _ h
name_parts false false o written span h = faulty _ _ h
name_parts false true None written span h = faulty _ _ h
name_parts false true (Some name) written span h = (refl, refl, (name, refl))

pub entered : (behind : Bool) (scope : List Binding) (written : List ℕ) (span : Span) → Clean (element_items span (element_resolved behind scope written)) → Entered behind scope written span
unfolding element_resolved
entered behind scope written span h =
    let parts = name_parts behind (is_qname written) (expand_element scope written) written span h in
    record { name = parts.2.0; inside = parts.0; qualified = parts.1; named = parts.2.1 }

pub enters : (behind : Bool) (scope : List Binding) (written : List ℕ) (span : Span) (name : Name) → behind ≡ false → is_qname written ≡ true → expand_element scope written ≡ Some name →
    element_items span (element_resolved behind scope written) ≡ items.Event (Enter name) span ∷ []
unfolding element_resolved
enters behind scope written span name b q e = rw (b, q, e) refl
