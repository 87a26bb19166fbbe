-- What stands in the relation of patterns and grammars is read.
use Rattle.std.proofs.Common.{◌≡◌, ℕ, Bool, true, false, cond, List, [], ◌∷◌, ◌++◌, Option, Some, None, refl, sym, ap, ◌∙◌, codes, append_assoc}
use Rattle.std.specs.Str.{bytes_eq}
use Rattle.std.proofs.lemmas.List.{append-nil}
use Rattle.std.proofs.lemmas.Slice.Eq.{bytes_eq-Decides}
use Rattle.rnc_parse.specs.declared.surface.TypeName.{TypeName}
use Rattle.rnc_parse.specs.declared.surface.Param.{Param}
use Rattle.rnc_parse.specs.declared.surface.FileReference.{FileReference}
use Rattle.rnc_parse.specs.declared.surface.Combine.{Combine}
use Rattle.rnc_parse.specs.Written.{WrittenClass, WrittenPattern, element, attribute, value, external, grammar, choice, group, interleave, joined}
use Rattle.rnc_parse.specs.Written.{WrittenItem, div, include, WrittenItems, item_then, WrittenReplacement, div_anew, WrittenReplacements}
use Rattle.rnc_parse.specs.Written.{replacement_then, WrittenSurface, a_pattern, a_grammar}
use Rattle.rngx_read.specs.declared.element.Tag.{Tag}
use Rattle.rngx_read.specs.declared.kind.Kind.TheVariants as kind
use Rattle.rngx_read.specs.Defaults.{Defaults, inside, outermost, own_namespace}
use Rattle.rngx_read.specs.Elements.{Elements, no_elements, element_then}
use Rattle.rngx_read.specs.Names.{Resolver, name_in, simple_name}
use Rattle.rngx_read.specs.Patterns as p
use Rattle.rngx_read.specs.Patterns.{Joins, Makes, Refers, IsLeaf, HasClass, IsType, AreParams, IsReference, IsCombine, IsPattern, IsAttributeValue, IsRow}
use Rattle.rngx_read.specs.Patterns.{ArePatterns, IsDefinition, IsItem, AreItems, IsReplacement, AreReplacements, is_number_sign}
use Rattle.rngx_read.specs.Reading.{Reading, read, ◌>>=◌}
use Rattle.rngx_read.specs.ReadingPatterns.{needed, name_at, type_at, literal_type_by, reference_at, combine_by, combine_at, row_joined, Parts, no_parts}
use Rattle.rngx_read.specs.ReadingPatterns.{typed_of, row_at, element_by, attribute_by, pattern_by, item_by, replacement_by, readings, pattern_at}
use Rattle.rngx_read.specs.ReadingPatterns.{grammar_file_by, surface_at}
use Rattle.rngx_read.specs.Reads.{IsFile, pattern_file, grammar_file}
use Rattle.rngx_read.specs.Tags.{value_of, IsTag}
use Rattle.rngx_read.specs.Forms.{form_of}
use Rattle.rngx_read.proofs.Tags.{form_found}
use Rattle.rngx_read.proofs.Classes.{class_name_read, class_read}

-- ---- parts

name_read : (tag : Tag) (name : List ℕ) → simple_name (codes "name") tag ≡ Some name → name_at tag ≡ read name
name_read tag name e = ap needed e

type_read : (defaults : Defaults) (tag : Tag) (type : TypeName) → IsType defaults tag type → type_at defaults tag ≡ read type
type_read defaults tag type is =
    ap (λ (found : Option (List ℕ)). needed found >>= λ name. read (record { library = defaults.library; name = name })) is.name_is
    ∙ ap (λ (library : List ℕ). read (record { library = library; name = type.name })) (sym is.library_is)

reference_read : (defaults : Defaults) (tag : Tag) (file : FileReference) → IsReference defaults tag file → reference_at defaults tag ≡ read file
reference_read defaults tag file is =
    rw (is.uri_is, is.no_fragment) (ap (λ ns. read (record { uri = file.uri; namespace = ns })) (sym is.namespace_is))

no_type : (tag : Tag) (name : List ℕ) → value_of (codes "type") tag.attributes ≡ None → simple_name (codes "type") tag ≡ Some name → ⊥
unfolding simple_name
no_type tag name none some = let nothing = ap name_in none in cc

combine_read : (tag : Tag) (how : Combine) → IsCombine tag how → combine_at tag ≡ read how
combine_read tag _ (p.alone e) = ap combine_by e
combine_read tag _ (p.as_choice {written = written} e word) = rw (e, word) refl
combine_read tag _ (p.as_interleave {written = written} e word) = rw (e, word) refl

literal_read : (inner : Defaults) (tag : Tag) (type : TypeName) → IsType inner tag type →
    (literal_type_by inner tag (value_of (codes "type") tag.attributes) >>= λ t. read (value t tag.text)) ≡ read (value type tag.text)
literal_read inner tag type is = by_value (value_of (codes "type") tag.attributes) refl
  where
    by_value : (found : Option (List ℕ)) → value_of (codes "type") tag.attributes ≡ found →
        (literal_type_by inner tag found >>= λ t. read (value t tag.text)) ≡ read (value type tag.text)
    by_value (Some written) e = ap (λ (x : Reading TypeName). x >>= λ t. read (value t tag.text)) (type_read inner tag type is)
    by_value None e = absurd (no_type tag type.name e is.name_is)

in_element : (class : WrittenClass) (q first : WrittenPattern) (more : List WrittenPattern) (found : Reading (List WrittenPattern)) →
    found ≡ read (first ∷ more) → q ≡ joined group first more →
    (found >>= row_joined group >>= λ r. read (element class r)) ≡ read (element class q)
in_element class q first more found e joins =
    ap (λ (x : Reading (List WrittenPattern)). x >>= row_joined group >>= λ r. read (element class r)) e
    ∙ ap (λ r. read (element class r)) (sym joins)

module _ (resolve : Resolver) where
  params_read : (defaults : Defaults) (elements : Elements) (before params : List Param) → AreParams elements params no_elements →
      (readings resolve elements).parts defaults (record { params = before; except = None })
      ≡ read (record { params = before ++ params; except = None })
  unfolding readings
  params_read defaults _ before _ p.no_param = ap (λ (l : List Param). read (record { params = l; except = None })) (sym (append-nil before))
  params_read defaults _ before _ (p.next_param {tag = tag} {others = others} {param = param} {params = params} is name_is value_is are) =
      rw (form_found tag kind.Param is, name_is)
      (ap (λ v. (readings resolve others).parts defaults (record { params = before ++ (record { name = param.name; value = v }) ∷ []; except = None }))
      (sym value_is)
      ∙ params_read defaults others (before ++ param ∷ []) params are
      ∙ ap (λ (l : List Param). read (record { params = l; except = None })) (append_assoc before (param ∷ []) params))

  except_read : (defaults : Defaults) (elements : Elements) (before params : List Param) (tag : Tag) (within : Elements) (q : WrittenPattern) →
      AreParams elements params (element_then tag within no_elements) → IsTag kind.Except tag →
      row_at choice (readings resolve within) (inside defaults tag) ≡ read q →
      (readings resolve elements).parts defaults (record { params = before; except = None })
      ≡ read (record { params = before ++ params; except = Some q })
  unfolding readings
  except_read defaults _ before _ tag within q p.no_param is row =
      rw (form_found tag kind.Except is, row)
      (ap (λ (l : List Param). read (record { params = l; except = Some q })) (sym (append-nil before)))
  except_read defaults _ before _ tag within q
      (p.next_param {tag = first} {others = others} {param = param} {params = params} is_param name_is value_is are) is row =
      rw (form_found first kind.Param is_param, name_is)
      (ap (λ v. (readings resolve others).parts defaults (record { params = before ++ (record { name = param.name; value = v }) ∷ []; except = None }))
      (sym value_is)
      ∙ except_read defaults others (before ++ param ∷ []) params tag within q are is row
      ∙ ap (λ (l : List Param). read (record { params = l; except = Some q })) (append_assoc before (param ∷ []) params))

  mutual
    unfolding readings

    pub pattern_read : (defaults : Defaults) (tag : Tag) (children : Elements) (q : WrittenPattern) → IsPattern resolve defaults tag children q →
        pattern_by resolve (inside defaults tag) tag children (readings resolve children) (form_of tag) ≡ read q
    pattern_read defaults tag children _ (p.an_element {content = content} {class = class} {p = q} is has row) =
        rw (form_found tag kind.Element is) (element_read (inside defaults tag) tag children content class q has row)
    pattern_read defaults tag children _ (p.an_attribute {content = content} {class = class} {p = q} is has one) =
        rw (form_found tag kind.Attribute is) (attribute_read (inside defaults tag) tag children content class q has one)
    pattern_read defaults tag children q (p.a_row p.by_group is row) =
        rw (form_found tag kind.Group is) (row_read group (inside defaults tag) children q row)
    pattern_read defaults tag children q (p.a_row p.by_interleave is row) =
        rw (form_found tag kind.Interleave is) (row_read interleave (inside defaults tag) children q row)
    pattern_read defaults tag children q (p.a_row p.by_choice is row) =
        rw (form_found tag kind.Choice is) (row_read choice (inside defaults tag) children q row)
    pattern_read defaults tag children _ (p.made {make = make} {p = q} p.by_optional is row) =
        rw (form_found tag kind.Optional is)
        (ap (λ (x : Reading WrittenPattern). x >>= λ r. read (make r)) (row_read group (inside defaults tag) children q row))
    pattern_read defaults tag children _ (p.made {make = make} {p = q} p.by_zero_or_more is row) =
        rw (form_found tag kind.ZeroOrMore is)
        (ap (λ (x : Reading WrittenPattern). x >>= λ r. read (make r)) (row_read group (inside defaults tag) children q row))
    pattern_read defaults tag children _ (p.made {make = make} {p = q} p.by_one_or_more is row) =
        rw (form_found tag kind.OneOrMore is)
        (ap (λ (x : Reading WrittenPattern). x >>= λ r. read (make r)) (row_read group (inside defaults tag) children q row))
    pattern_read defaults tag children _ (p.made {make = make} {p = q} p.by_list is row) =
        rw (form_found tag kind.List is)
        (ap (λ (x : Reading WrittenPattern). x >>= λ r. read (make r)) (row_read group (inside defaults tag) children q row))
    pattern_read defaults tag children _ (p.made {make = make} {p = q} p.by_mixed is row) =
        rw (form_found tag kind.Mixed is)
        (ap (λ (x : Reading WrittenPattern). x >>= λ r. read (make r)) (row_read group (inside defaults tag) children q row))
    pattern_read defaults tag _ _ (p.a_reference {refer = refer} {name = name} p.by_ref is e) =
        rw (form_found tag kind.Ref is) (ap (λ (x : Reading (List ℕ)). x >>= λ n. read (refer n)) (name_read tag name e))
    pattern_read defaults tag _ _ (p.a_reference {refer = refer} {name = name} p.by_parent_ref is e) =
        rw (form_found tag kind.ParentRef is) (ap (λ (x : Reading (List ℕ)). x >>= λ n. read (refer n)) (name_read tag name e))
    pattern_read defaults tag _ _ (p.a_leaf p.is_empty is) = rw (form_found tag kind.Empty is) refl
    pattern_read defaults tag _ _ (p.a_leaf p.is_text is) = rw (form_found tag kind.Text is) refl
    pattern_read defaults tag _ _ (p.a_leaf p.is_not_allowed is) = rw (form_found tag kind.NotAllowed is) refl
    pattern_read defaults tag _ _ (p.an_untyped_value is none) = rw (form_found tag kind.Value is, none) refl
    pattern_read defaults tag _ _ (p.a_value {type = type} is is_type) =
        rw (form_found tag kind.Value is) (literal_read (inside defaults tag) tag type is_type)
    pattern_read defaults tag children _ (p.a_type {type = type} {params = params} is is_type are) =
        rw (form_found tag kind.Data is)
        (ap (λ (x : Reading TypeName). x >>= λ t. (readings resolve children).parts (inside defaults tag) no_parts
        >>= λ parts. read (typed_of t parts))
        (type_read (inside defaults tag) tag type is_type)
        ∙ ap (λ (x : Reading Parts). x >>= λ parts. read (typed_of type parts)) (params_read (inside defaults tag) children [] params are))
    pattern_read defaults tag children _
        (p.a_type_but {except = except} {within = within} {type = type} {params = params} {p = q} is is_type are but row) =
        rw (form_found tag kind.Data is)
        (ap (λ (x : Reading TypeName). x >>= λ t. (readings resolve children).parts (inside defaults tag) no_parts
        >>= λ parts. read (typed_of t parts))
        (type_read (inside defaults tag) tag type is_type)
        ∙ ap (λ (x : Reading Parts). x >>= λ parts. read (typed_of type parts))
        (except_read (inside defaults tag) children [] params except within q are but
        (row_read choice (inside (inside defaults tag) except) within q row)))
    pattern_read defaults tag _ _ (p.an_external {file = file} is refers) =
        rw (form_found tag kind.ExternalRef is)
        (ap (λ (x : Reading FileReference). x >>= λ f. read (external f)) (reference_read (inside defaults tag) tag file refers))
    pattern_read defaults tag children _ (p.a_grammar_of {items = items} is are) =
        rw (form_found tag kind.Grammar is)
        (ap (λ (x : Reading WrittenItems). x >>= λ l. read (grammar l)) (items_read (inside defaults tag) children items are))

    element_read : (inner : Defaults) (tag : Tag) (children content : Elements) (class : WrittenClass) (q : WrittenPattern) →
        HasClass resolve inner inner.namespace tag children class content → IsRow resolve group inner content q →
        element_by resolve inner tag children (readings resolve children) (value_of (codes "name") tag.attributes) ≡ read (element class q)
    element_read inner tag children _ class q (p.by_attribute {written = written} e named) (p.row_of {first = first} {more = more} are joins) =
        rw (e, class_name_read resolve tag.scope inner.namespace written class named)
        (in_element class q first more ((readings resolve children).patterns inner) (patterns_read inner children (first ∷ more) are) joins)
    element_read inner tag _ _ class q (p.by_child {first = head} {within = within} {rest = rest} e is)
        (p.row_of {first = first} {more = more} are joins) =
        rw (e, class_read resolve inner head within class is)
        (in_element class q first more ((readings resolve rest).patterns inner) (patterns_read inner rest (first ∷ more) are) joins)

    attribute_read : (inner : Defaults) (tag : Tag) (children content : Elements) (class : WrittenClass) (q : WrittenPattern) →
        HasClass resolve inner (own_namespace tag) tag children class content → IsAttributeValue resolve inner content q →
        attribute_by resolve inner tag children (readings resolve children) (value_of (codes "name") tag.attributes) ≡ read (attribute class q)
    attribute_read inner tag _ _ class _ (p.by_attribute {written = written} e named) p.any_value =
        rw (e, class_name_read resolve tag.scope (own_namespace tag) written class named) refl
    attribute_read inner tag _ _ class _ (p.by_child {first = head} {within = within} e is) p.any_value =
        rw (e, class_read resolve inner head within class is) refl
    attribute_read inner tag _ _ class q (p.by_attribute {written = written} e named) (p.this_value {tag = one} {children = children} is) =
        rw (e, class_name_read resolve tag.scope (own_namespace tag) written class named, pattern_read inner one children q is) refl
    attribute_read inner tag _ _ class q (p.by_child {first = head} {within = within} e is_class)
        (p.this_value {tag = one} {children = children} is) =
        rw (e, class_read resolve inner head within class is_class, pattern_read inner one children q is) refl

    row_read : (join : WrittenPattern → WrittenPattern → WrittenPattern) (defaults : Defaults) (elements : Elements) (q : WrittenPattern) →
        IsRow resolve join defaults elements q → row_at join (readings resolve elements) defaults ≡ read q
    row_read join defaults elements q (p.row_of {first = first} {more = more} are e) =
        ap (λ (x : Reading (List WrittenPattern)). x >>= row_joined join) (patterns_read defaults elements (first ∷ more) are) ∙ ap read (sym e)

    patterns_read : (defaults : Defaults) (elements : Elements) (qs : List WrittenPattern) → ArePatterns resolve defaults elements qs →
        (readings resolve elements).patterns defaults ≡ read qs
    patterns_read defaults _ _ p.no_pattern = refl
    patterns_read defaults _ _ (p.next_pattern {tag = tag} {children = children} {rest = rest} {p = q} {ps = qs} is are) =
        ap (λ (x : Reading WrittenPattern). x >>= λ r. (readings resolve rest).patterns defaults >>= λ rs. read (r ∷ rs))
        (pattern_read defaults tag children q is)
        ∙ ap (λ (x : Reading (List WrittenPattern)). x >>= λ rs. read (q ∷ rs)) (patterns_read defaults rest qs are)

    items_read : (defaults : Defaults) (elements : Elements) (items : WrittenItems) → AreItems resolve defaults elements items →
        (readings resolve elements).items defaults ≡ read items
    items_read defaults _ _ p.no_more_items = refl
    items_read defaults _ _ (p.next_item {tag = tag} {children = children} {rest = rest} {item = item} {items = items} is are) =
        ap (λ (x : Reading WrittenItem). x >>= λ i. (readings resolve rest).items defaults >>= λ l. read (item_then i l))
        (item_read defaults tag children item is)
        ∙ ap (λ (x : Reading WrittenItems). x >>= λ l. read (item_then item l)) (items_read defaults rest items are)

    item_read : (defaults : Defaults) (tag : Tag) (children : Elements) (item : WrittenItem) → IsItem resolve defaults tag children item →
        item_by resolve (inside defaults tag) tag (readings resolve children) (form_of tag) ≡ read item
    item_read defaults tag _ _ (p.a_definition {how = how} {p = q} (p.a_start {one = one} {within = within} is combines one_is)) =
        rw (form_found tag kind.Start is, combine_read tag how combines, pattern_read (inside defaults tag) one within q one_is) refl
    item_read defaults tag children _ (p.a_definition {how = how} {p = q} (p.a_define {name = name} is combines e row)) =
        rw (form_found tag kind.Define is, combine_read tag how combines, e, row_read group (inside defaults tag) children q row) refl
    item_read defaults tag children _ (p.a_div {items = items} is are) =
        rw (form_found tag kind.Div is)
        (ap (λ (x : Reading WrittenItems). x >>= λ l. read (div l)) (items_read (inside defaults tag) children items are))
    item_read defaults tag children _ (p.an_include {file = file} {replacements = rs} is refers are) =
        rw (form_found tag kind.Include is, reference_read (inside defaults tag) tag file refers)
        (ap (λ (x : Reading WrittenReplacements). x >>= λ l. read (include file l)) (replacements_read (inside defaults tag) children rs are))

    replacements_read : (defaults : Defaults) (elements : Elements) (rs : WrittenReplacements) → AreReplacements resolve defaults elements rs →
        (readings resolve elements).replacements defaults ≡ read rs
    replacements_read defaults _ _ p.no_more_replacements = refl
    replacements_read defaults _ _
        (p.next_replacement {tag = tag} {children = children} {rest = rest} {replacement = one} {replacements = rs} is are) =
        ap (λ (x : Reading WrittenReplacement). x >>= λ i. (readings resolve rest).replacements defaults >>= λ l. read (replacement_then i l))
        (replacement_read defaults tag children one is)
        ∙ ap (λ (x : Reading WrittenReplacements). x >>= λ l. read (replacement_then one l)) (replacements_read defaults rest rs are)

    replacement_read : (defaults : Defaults) (tag : Tag) (children : Elements) (one : WrittenReplacement) →
        IsReplacement resolve defaults tag children one →
        replacement_by resolve (inside defaults tag) tag (readings resolve children) (form_of tag) ≡ read one
    replacement_read defaults tag _ _ (p.a_definition_anew {how = how} {p = q} (p.a_start {one = one} {within = within} is combines one_is)) =
        rw (form_found tag kind.Start is, combine_read tag how combines, pattern_read (inside defaults tag) one within q one_is) refl
    replacement_read defaults tag children _ (p.a_definition_anew {how = how} {p = q} (p.a_define {name = name} is combines e row)) =
        rw (form_found tag kind.Define is, combine_read tag how combines, e, row_read group (inside defaults tag) children q row) refl
    replacement_read defaults tag children _ (p.a_div_anew {replacements = rs} is are) =
        rw (form_found tag kind.Div is)
        (ap (λ (x : Reading WrittenReplacements). x >>= λ l. read (div_anew l)) (replacements_read (inside defaults tag) children rs are))

  pub surface_read : (elements : Elements) (s : WrittenSurface) → IsFile resolve elements s → surface_at resolve elements ≡ read s
  unfolding surface_at pattern_at
  surface_read _ _ (pattern_file {tag = tag} {children = children} {p = q} other is) =
      by_name (bytes_eq tag.local (codes "grammar")) refl
    where
      by_name : (b : Bool) → bytes_eq tag.local (codes "grammar") ≡ b →
          cond b (grammar_file_by resolve tag children (form_of tag)) (pattern_at resolve outermost tag children >>= λ r. read (a_pattern r))
          ≡ read (a_pattern q)
      by_name true e = absurd (other ((bytes_eq-Decides tag.local (codes "grammar")).0 e))
      by_name false e = ap (λ (x : Reading WrittenPattern). x >>= λ r. read (a_pattern r)) (pattern_read outermost tag children q is)
  surface_read _ _ (grammar_file {tag = tag} {children = children} {items = items} is are) =
      let named : bytes_eq tag.local (codes "grammar") ≡ true = ap (λ (l : List ℕ). bytes_eq l (codes "grammar")) is.called in
      rw (named, form_found tag kind.Grammar is)
      (ap (λ (x : Reading WrittenItems). x >>= λ l. read (a_grammar l)) (items_read (inside outermost tag) children items are))
