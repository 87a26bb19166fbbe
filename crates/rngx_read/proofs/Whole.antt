-- What elements say leaves no prefix out.
use Rattle.std.proofs.Common.{◌≡◌, ◌≢◌, ℕ, List, [], ◌∷◌, Some, None, refl, sym, ap, ◌∙◌, ◌⊎◌, inl, inr, codes}
use Rattle.nx_base.specs.declared.name.Name.{Name}
use Rattle.nx_events.specs.Names.{prefix_of, local_of}
use Rattle.rnc_parse.specs.declared.surface.Namespace.{Namespace}
use Rattle.rnc_parse.specs.declared.surface.Param.{Param}
use Rattle.rnc_parse.specs.declared.surface.Defined.{Defined}
use Rattle.rnc_parse.specs.declared.surface.Combine.{Combine}
use Rattle.rnc_parse.specs.Written.{WrittenClass, WrittenPattern, WrittenItem, WrittenItems, WrittenReplacement, WrittenReplacements, WrittenSurface}
use Rattle.rngx_read.specs.declared.element.Tag.{Tag}
use Rattle.rngx_read.specs.declared.kind.Kind.{Kind}
use Rattle.rngx_read.specs.declared.kind.Kind.TheVariants as kind
use Rattle.rngx_read.specs.Classes.{IsClass, a_name, any_name, ns_name, a_choice, IsAllBut, all_of_them, all_but, IsEither, any_of, AreClasses}
use Rattle.rngx_read.specs.Classes.{no_class, next_class}
use Rattle.rngx_read.specs.Defaults.{Defaults, inside, outermost}
use Rattle.rngx_read.specs.Elements.{Elements, no_elements, element_then}
use Rattle.rngx_read.specs.Kinds.{kind_text}
use Rattle.rngx_read.specs.Forms.{kind_of}
use Rattle.rngx_read.specs.Names.{Resolver, trimmed, IsNamed, without_prefix, with_prefix, IsClassName}
use Rattle.rngx_read.specs.Patterns as p
use Rattle.rngx_read.specs.Patterns.{Joins, Makes, Refers, IsLeaf, HasClass, AreParams, IsPattern, IsAttributeValue, IsRow, ArePatterns, IsDefinition, IsItem}
use Rattle.rngx_read.specs.Patterns.{AreItems, IsReplacement, AreReplacements}
use Rattle.rngx_read.specs.Reads.{Writes, at_element, at_attribute, in_name, NeedsPrefix, LeavesOut, here, within, behind, IsFile, pattern_file}
use Rattle.rngx_read.specs.Reads.{grammar_file}
use Rattle.rngx_read.specs.Tags.{value_of, IsTag}
use Rattle.rngx_read.proofs.Tags.{kind_found}

-- ---- a name that is read has no such prefix

module _ (resolve : Resolver) where
  named_whole : (scope : List Name) (unprefixed : Namespace) (prefix local : List ℕ) (class : WrittenClass) →
      IsNamed resolve scope unprefixed prefix local class → prefix ≢ [] → resolve scope prefix ≡ None → ⊥
  named_whole scope unprefixed _ local _ without_prefix some none = some refl
  named_whole scope unprefixed _ local _ (with_prefix e) some none = cc

  class_name_whole : (tag : Tag) (unprefixed : Namespace) (written : List ℕ) (class : WrittenClass) (prefix : List ℕ) →
      IsClassName resolve tag.scope unprefixed written class → (needs : NeedsPrefix resolve tag prefix) → needs.written ≡ written → ⊥
  class_name_whole tag unprefixed written class prefix is needs same =
      let here_is : prefix_of (trimmed written) ≡ prefix = ap (λ (w : List ℕ). prefix_of (trimmed w)) (sym same) ∙ needs.prefix_is in
      named_whole tag.scope unprefixed (prefix_of (trimmed written)) (local_of (trimmed written)) class is.named
      (λ none. needs.some_prefix (sym here_is ∙ none)) (ap (resolve tag.scope) here_is ∙ needs.undeclared)

  -- ---- which elements write names

  same_kind : (tag : Tag) (k other : Kind) → IsTag k tag → tag.local ≡ kind_text other → k ≡ other
  same_kind tag k other is e =
      let found : kind_of tag.local ≡ Some k = ap kind_of is.called ∙ kind_found k in
      let also : kind_of tag.local ≡ Some other = ap kind_of e ∙ kind_found other in
      let both : Some k ≡ Some other = sym found ∙ also in
      cc

  writes_what : (tag : Tag) (k : Kind) (written : List ℕ) → IsTag k tag → Writes tag written →
      (((k ≡ kind.Element) ⊎ (k ≡ kind.Attribute)) × (value_of (codes "name") tag.attributes ≡ Some written)) ⊎
      ((k ≡ kind.Name) × (written ≡ tag.text))
  writes_what tag k written is (at_element called e) = inl (inl (same_kind tag k kind.Element is called), e)
  writes_what tag k written is (at_attribute called e) = inl (inr (same_kind tag k kind.Attribute is called), e)
  writes_what tag k _ is (in_name called) = inr (same_kind tag k kind.Name is called, refl)

  -- an element of another kind writes none
  no_writer : (tag : Tag) (k : Kind) (prefix : List ℕ) → IsTag k tag → NeedsPrefix resolve tag prefix → k ≢ kind.Element → k ≢ kind.Attribute →
      k ≢ kind.Name → ⊥
  no_writer tag k prefix is needs no_element no_attribute no_name = by_kind (writes_what tag k needs.written is needs.writes)
    where
      by_kind : (((k ≡ kind.Element) ⊎ (k ≡ kind.Attribute)) × (value_of (codes "name") tag.attributes ≡ Some needs.written)) ⊎
          ((k ≡ kind.Name) × (needs.written ≡ tag.text)) → ⊥
      by_kind (inl (inl e, v)) = no_element e
      by_kind (inl (inr e, v)) = no_attribute e
      by_kind (inr (e, v)) = no_name e

  -- a `name` writes its text
  name_writes : (tag : Tag) (prefix : List ℕ) → IsTag kind.Name tag → (needs : NeedsPrefix resolve tag prefix) → needs.written ≡ tag.text
  name_writes tag prefix is needs = by_kind (writes_what tag kind.Name needs.written is needs.writes)
    where
      by_kind : (((kind.Name ≡ kind.Element) ⊎ (kind.Name ≡ kind.Attribute)) × (value_of (codes "name") tag.attributes ≡ Some needs.written)) ⊎
          ((kind.Name ≡ kind.Name) × (needs.written ≡ tag.text)) → needs.written ≡ tag.text
      by_kind (inl (inl e, v)) = absurd cc
      by_kind (inl (inr e, v)) = absurd cc
      by_kind (inr (e, v)) = v

  -- an `element` and an `attribute` write their attribute `name`
  attribute_writes : (tag : Tag) (k : Kind) (prefix : List ℕ) → IsTag k tag → k ≢ kind.Name → (needs : NeedsPrefix resolve tag prefix) →
      value_of (codes "name") tag.attributes ≡ Some needs.written
  attribute_writes tag k prefix is no_name needs = by_kind (writes_what tag k needs.written is needs.writes)
    where
      by_kind : (((k ≡ kind.Element) ⊎ (k ≡ kind.Attribute)) × (value_of (codes "name") tag.attributes ≡ Some needs.written)) ⊎
          ((k ≡ kind.Name) × (needs.written ≡ tag.text)) →
          value_of (codes "name") tag.attributes ≡ Some needs.written
      by_kind (inl (e, v)) = v
      by_kind (inr (e, v)) = absurd (no_name e)

  -- ---- where a prefix may be left out

  abbrev OutOf : Elements → List ℕ → Type 0
  OutOf no_elements prefix = ⊥
  OutOf (element_then tag children rest) prefix = NeedsPrefix resolve tag prefix ⊎ (LeavesOut resolve prefix children ⊎ LeavesOut resolve prefix rest)

  out_of : (elements : Elements) (prefix : List ℕ) → LeavesOut resolve prefix elements → OutOf elements prefix
  out_of _ prefix (here needs) = inl needs
  out_of _ prefix (within left) = inr (inl left)
  out_of _ prefix (behind left) = inr (inr left)

  -- nothing is left out in these, and nowhere at an element and in it
  abbrev Whole : Elements → Type 0
  Whole elements = (prefix : List ℕ) → LeavesOut resolve prefix elements → ⊥

  abbrev Clean : Tag → Type 0
  Clean tag = (prefix : List ℕ) → NeedsPrefix resolve tag prefix → ⊥

  whole_then : (tag : Tag) (children rest : Elements) → Clean tag → Whole children → Whole rest → Whole (element_then tag children rest)
  whole_then tag children rest clean inner others prefix left = by_place (out_of (element_then tag children rest) prefix left)
    where
      by_place : NeedsPrefix resolve tag prefix ⊎ (LeavesOut resolve prefix children ⊎ LeavesOut resolve prefix rest) → ⊥
      by_place (inl needs) = clean prefix needs
      by_place (inr (inl l)) = inner prefix l
      by_place (inr (inr l)) = others prefix l

  nothing_whole : Whole no_elements
  nothing_whole prefix left = out_of no_elements prefix left

  other_clean : (tag : Tag) (k : Kind) → IsTag k tag → k ≢ kind.Element → k ≢ kind.Attribute → k ≢ kind.Name → Clean tag
  other_clean tag k is e a n prefix needs = no_writer tag k prefix is needs e a n

  name_clean : (tag : Tag) (unprefixed : Namespace) (class : WrittenClass) → IsTag kind.Name tag →
      IsClassName resolve tag.scope unprefixed tag.text class → Clean tag
  name_clean tag unprefixed class is named prefix needs =
      class_name_whole tag unprefixed tag.text class prefix named needs (name_writes tag prefix is needs)

  -- ---- classes

  mutual
    class_clean : (defaults : Defaults) (tag : Tag) (children : Elements) (class : WrittenClass) → IsClass resolve defaults tag children class →
        Clean tag × Whole children
    class_clean defaults tag _ class (a_name is named) = (name_clean tag _ class is named, nothing_whole)
    class_clean defaults tag children class (any_name is but) =
        (other_clean tag kind.AnyName is (λ e. cc) (λ e. cc) (λ e. cc), but_whole _ _ children class but)
    class_clean defaults tag children class (ns_name is but) =
        (other_clean tag kind.NsName is (λ e. cc) (λ e. cc) (λ e. cc), but_whole _ _ children class but)
    class_clean defaults tag children class (a_choice is any) =
        (other_clean tag kind.Choice is (λ e. cc) (λ e. cc) (λ e. cc), either_whole _ children class any)

    but_whole : (defaults : Defaults) (all : WrittenClass) (elements : Elements) (class : WrittenClass) → IsAllBut resolve defaults all elements class →
        Whole elements
    but_whole defaults all _ _ all_of_them = nothing_whole
    but_whole defaults all _ _ (all_but {except = except} {tag = tag} {children = children} is any) =
        whole_then tag children no_elements (other_clean tag kind.Except is (λ e. cc) (λ e. cc) (λ e. cc)) (either_whole _ children except any)
        nothing_whole

    either_whole : (defaults : Defaults) (elements : Elements) (class : WrittenClass) → IsEither resolve defaults elements class → Whole elements
    either_whole defaults elements class (any_of {first = first} {more = more} are e) = classes_whole defaults elements (first ∷ more) are

    classes_whole : (defaults : Defaults) (elements : Elements) (classes : List WrittenClass) → AreClasses resolve defaults elements classes →
        Whole elements
    classes_whole defaults _ _ no_class = nothing_whole
    classes_whole defaults _ _ (next_class {tag = tag} {children = children} {rest = rest} {class = class} {classes = classes} is are) =
        let one = class_clean defaults tag children class is in
        whole_then tag children rest one.0 one.1 (classes_whole defaults rest classes are)

  -- ---- names of elements and attributes

  -- neither the element nor its children leave a prefix out, where its class is read and what follows it leaves none out
  has_class_clean : (defaults : Defaults) (unprefixed : Namespace) (tag : Tag) (k : Kind) (children content : Elements) (class : WrittenClass) →
      IsTag k tag → k ≢ kind.Name →
      HasClass resolve defaults unprefixed tag children class content → Whole content → Clean tag × Whole children
  has_class_clean defaults unprefixed tag k children _ class is no_name (p.by_attribute {written = written} e named) whole = (clean, whole)
    where
      clean : Clean tag
      clean prefix needs =
          let there : value_of (codes "name") tag.attributes ≡ Some needs.written = attribute_writes tag k prefix is no_name needs in
          let both : Some needs.written ≡ Some written = sym there ∙ e in
          let same : needs.written ≡ written = cc in
          class_name_whole tag unprefixed written class prefix named needs same
  has_class_clean defaults unprefixed tag k _ content class is no_name (p.by_child {first = first} {within = inner} e one) whole =
      let first_one = class_clean defaults first inner class one in
      (clean, whole_then first inner content first_one.0 first_one.1 whole)
    where
      clean : Clean tag
      clean prefix needs =
          let there : value_of (codes "name") tag.attributes ≡ Some needs.written = attribute_writes tag k prefix is no_name needs in
          let both : None ≡ Some needs.written = sym e ∙ there in
          cc

  -- ---- elements that write no name

  abbrev WritesNone : Kind → Type 0
  WritesNone k = (k ≢ kind.Element) × (k ≢ kind.Attribute) × (k ≢ kind.Name)

  none_clean : (tag : Tag) (k : Kind) → IsTag k tag → WritesNone k → Clean tag
  none_clean tag k is none = other_clean tag k is none.0 none.1 none.2

  joins_none : (k : Kind) (join : WrittenPattern → WrittenPattern → WrittenPattern) → Joins k join → WritesNone k
  joins_none _ _ p.by_group = (λ e. cc, λ e. cc, λ e. cc)
  joins_none _ _ p.by_interleave = (λ e. cc, λ e. cc, λ e. cc)
  joins_none _ _ p.by_choice = (λ e. cc, λ e. cc, λ e. cc)

  makes_none : (k : Kind) (make : WrittenPattern → WrittenPattern) → Makes k make → WritesNone k
  makes_none _ _ p.by_optional = (λ e. cc, λ e. cc, λ e. cc)
  makes_none _ _ p.by_zero_or_more = (λ e. cc, λ e. cc, λ e. cc)
  makes_none _ _ p.by_one_or_more = (λ e. cc, λ e. cc, λ e. cc)
  makes_none _ _ p.by_list = (λ e. cc, λ e. cc, λ e. cc)
  makes_none _ _ p.by_mixed = (λ e. cc, λ e. cc, λ e. cc)

  refers_none : (k : Kind) (refer : List ℕ → WrittenPattern) → Refers k refer → WritesNone k
  refers_none _ _ p.by_ref = (λ e. cc, λ e. cc, λ e. cc)
  refers_none _ _ p.by_parent_ref = (λ e. cc, λ e. cc, λ e. cc)

  leaf_none : (k : Kind) (q : WrittenPattern) → IsLeaf k q → WritesNone k
  leaf_none _ _ p.is_empty = (λ e. cc, λ e. cc, λ e. cc)
  leaf_none _ _ p.is_text = (λ e. cc, λ e. cc, λ e. cc)
  leaf_none _ _ p.is_not_allowed = (λ e. cc, λ e. cc, λ e. cc)

  params_whole : (elements : Elements) (params : List Param) (rest : Elements) → AreParams elements params rest → Whole rest → Whole elements
  params_whole _ _ rest p.no_param whole = whole
  params_whole _ _ rest (p.next_param {tag = tag} {others = others} {params = params} is name_is value_is are) whole =
      whole_then tag no_elements others (none_clean tag kind.Param is (λ e. cc, λ e. cc, λ e. cc)) nothing_whole
      (params_whole others params rest are whole)

  -- ---- patterns and grammars

  mutual
    pattern_clean : (defaults : Defaults) (tag : Tag) (children : Elements) (q : WrittenPattern) → IsPattern resolve defaults tag children q →
        Clean tag × Whole children
    pattern_clean defaults tag children _ (p.an_element {content = content} {class = class} {p = q} is has row) =
        has_class_clean (inside defaults tag) (inside defaults tag).namespace tag kind.Element children content class is (λ e. cc) has
        (row_whole _ (inside defaults tag) content q row)
    pattern_clean defaults tag children _ (p.an_attribute {content = content} {class = class} {p = q} is has value) =
        has_class_clean (inside defaults tag) _ tag kind.Attribute children content class is (λ e. cc) has
        (value_whole (inside defaults tag) content q value)
    pattern_clean defaults tag children q (p.a_row {this = this} {join = join} joins is row) =
        (none_clean tag this is (joins_none this join joins), row_whole join (inside defaults tag) children q row)
    pattern_clean defaults tag children _ (p.made {this = this} {make = make} {p = q} makes is row) =
        (none_clean tag this is (makes_none this make makes), row_whole _ (inside defaults tag) children q row)
    pattern_clean defaults tag _ _ (p.a_reference {this = this} {refer = refer} refers is e) =
        (none_clean tag this is (refers_none this refer refers), nothing_whole)
    pattern_clean defaults tag _ q (p.a_leaf {this = this} leaf is) = (none_clean tag this is (leaf_none this q leaf), nothing_whole)
    pattern_clean defaults tag _ _ (p.an_untyped_value is e) = (none_clean tag kind.Value is (λ e. cc, λ e. cc, λ e. cc), nothing_whole)
    pattern_clean defaults tag _ _ (p.a_value is type) = (none_clean tag kind.Value is (λ e. cc, λ e. cc, λ e. cc), nothing_whole)
    pattern_clean defaults tag children _ (p.a_type {params = params} is type are) =
        (none_clean tag kind.Data is (λ e. cc, λ e. cc, λ e. cc), params_whole children params no_elements are nothing_whole)
    pattern_clean defaults tag children _ (p.a_type_but {except = except} {within = inner} {params = params} {p = q} is type are but row) = (
      none_clean tag kind.Data is (λ e. cc, λ e. cc, λ e. cc),
      params_whole children params (element_then except inner no_elements) are
          (whole_then except inner no_elements (none_clean except kind.Except but (λ e. cc, λ e. cc, λ e. cc)) (row_whole _ _ inner q row)
          nothing_whole),
    )
    pattern_clean defaults tag _ _ (p.an_external is file) = (none_clean tag kind.ExternalRef is (λ e. cc, λ e. cc, λ e. cc), nothing_whole)
    pattern_clean defaults tag children _ (p.a_grammar_of {items = items} is are) =
        (none_clean tag kind.Grammar is (λ e. cc, λ e. cc, λ e. cc), items_whole (inside defaults tag) children items are)

    value_whole : (defaults : Defaults) (elements : Elements) (q : WrittenPattern) → IsAttributeValue resolve defaults elements q → Whole elements
    value_whole defaults _ _ p.any_value = nothing_whole
    value_whole defaults _ q (p.this_value {tag = tag} {children = children} is) =
        let one = pattern_clean defaults tag children q is in whole_then tag children no_elements one.0 one.1 nothing_whole

    row_whole : (join : WrittenPattern → WrittenPattern → WrittenPattern) (defaults : Defaults) (elements : Elements) (q : WrittenPattern) →
        IsRow resolve join defaults elements q → Whole elements
    row_whole join defaults elements q (p.row_of {first = first} {more = more} are e) = patterns_whole defaults elements (first ∷ more) are

    patterns_whole : (defaults : Defaults) (elements : Elements) (qs : List WrittenPattern) → ArePatterns resolve defaults elements qs → Whole elements
    patterns_whole defaults _ _ p.no_pattern = nothing_whole
    patterns_whole defaults _ _ (p.next_pattern {tag = tag} {children = children} {rest = rest} {p = q} {ps = qs} is are) =
        let one = pattern_clean defaults tag children q is in
        whole_then tag children rest one.0 one.1 (patterns_whole defaults rest qs are)

    definition_clean : (defaults : Defaults) (tag : Tag) (children : Elements) (name : Defined) (how : Combine) (q : WrittenPattern) →
        IsDefinition resolve defaults tag children name how q → Clean tag × Whole children
    definition_clean defaults tag _ _ how q (p.a_start {one = one} {within = inner} is combined first) =
        let only = pattern_clean (inside defaults tag) one inner q first in
        (none_clean tag kind.Start is (λ e. cc, λ e. cc, λ e. cc), whole_then one inner no_elements only.0 only.1 nothing_whole)
    definition_clean defaults tag children _ how q (p.a_define is combined named row) =
        (none_clean tag kind.Define is (λ e. cc, λ e. cc, λ e. cc), row_whole _ (inside defaults tag) children q row)

    item_clean : (defaults : Defaults) (tag : Tag) (children : Elements) (item : WrittenItem) → IsItem resolve defaults tag children item →
        Clean tag × Whole children
    item_clean defaults tag children _ (p.a_definition {name = name} {how = how} {p = q} is) = definition_clean defaults tag children name how q is
    item_clean defaults tag children _ (p.a_div {items = items} is are) =
        (none_clean tag kind.Div is (λ e. cc, λ e. cc, λ e. cc), items_whole (inside defaults tag) children items are)
    item_clean defaults tag children _ (p.an_include {replacements = replacements} is file are) =
        (none_clean tag kind.Include is (λ e. cc, λ e. cc, λ e. cc), replacements_whole (inside defaults tag) children replacements are)

    items_whole : (defaults : Defaults) (elements : Elements) (items : WrittenItems) → AreItems resolve defaults elements items → Whole elements
    items_whole defaults _ _ p.no_more_items = nothing_whole
    items_whole defaults _ _ (p.next_item {tag = tag} {children = children} {rest = rest} {item = item} {items = items} is are) =
        let one = item_clean defaults tag children item is in
        whole_then tag children rest one.0 one.1 (items_whole defaults rest items are)

    replacement_clean : (defaults : Defaults) (tag : Tag) (children : Elements) (replacement : WrittenReplacement) →
        IsReplacement resolve defaults tag children replacement →
        Clean tag × Whole children
    replacement_clean defaults tag children _ (p.a_definition_anew {name = name} {how = how} {p = q} is) =
        definition_clean defaults tag children name how q is
    replacement_clean defaults tag children _ (p.a_div_anew {replacements = replacements} is are) =
        (none_clean tag kind.Div is (λ e. cc, λ e. cc, λ e. cc), replacements_whole (inside defaults tag) children replacements are)

    replacements_whole : (defaults : Defaults) (elements : Elements) (replacements : WrittenReplacements) →
        AreReplacements resolve defaults elements replacements → Whole elements
    replacements_whole defaults _ _ p.no_more_replacements = nothing_whole
    replacements_whole defaults _ _
        (p.next_replacement {tag = tag} {children = children} {rest = rest} {replacement = replacement} {replacements = replacements} is are) =
        let one = replacement_clean defaults tag children replacement is in
        whole_then tag children rest one.0 one.1 (replacements_whole defaults rest replacements are)

  -- elements that say something leave no prefix out
  pub file_whole : (elements : Elements) (surface : WrittenSurface) (prefix : List ℕ) → IsFile resolve elements surface →
      LeavesOut resolve prefix elements → ⊥
  file_whole _ _ prefix (pattern_file {tag = tag} {children = children} {p = q} other is) left =
      let one = pattern_clean outermost tag children q is in whole_then tag children no_elements one.0 one.1 nothing_whole prefix left
  file_whole _ _ prefix (grammar_file {tag = tag} {children = children} {items = items} is are) left =
      whole_then tag children no_elements (none_clean tag kind.Grammar is (λ e. cc, λ e. cc, λ e. cc))
      (items_whole (inside outermost tag) children items are) nothing_whole prefix left
