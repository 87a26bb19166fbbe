-- What reading finds of patterns and grammars is in the relation.
use Rattle.std.proofs.Common.{◌≡◌, ℕ, List, [], ◌∷◌, ◌++◌, Option, Some, None, refl, sym, ap, subst, ◌∙◌, inl, inr, codes}
use Rattle.std.specs.List.{list_any}
use Rattle.std.specs.Str.{bytes_eq}
use Rattle.std.proofs.lemmas.List.{append-nil}
use Rattle.std.proofs.lemmas.Slice.Eq.{bytes_eq-Decides}
use Rattle.std.proofs.Common.{append_assoc}
use Rattle.rnc_parse.specs.declared.surface.Namespace.{Namespace}
use Rattle.rnc_parse.specs.declared.surface.TypeName.{TypeName}
use Rattle.rnc_parse.specs.declared.surface.Param.{Param}
use Rattle.rnc_parse.specs.declared.surface.Defined.TheVariants as defined
use Rattle.rnc_parse.specs.declared.surface.Combine.{Combine}
use Rattle.rnc_parse.specs.Written.{WrittenClass, WrittenPattern, element, attribute, value, external, grammar, choice, group, interleave, optional}
use Rattle.rnc_parse.specs.Written.{zero_or_more, one_or_more, list, mixed, ref, parent_ref, empty, any_text, not_allowed}
use Rattle.rnc_parse.specs.Written.{define, define_anew}
use Rattle.rngx_read.specs.declared.element.Tag.{Tag}
use Rattle.rngx_read.specs.declared.kind.Kind.{Kind}
use Rattle.rngx_read.specs.declared.kind.Kind.TheVariants as kind
use Rattle.rngx_read.specs.Defaults.{Defaults, inside, outermost, own_namespace}
use Rattle.rngx_read.specs.Elements.{Elements, no_elements, element_then}
use Rattle.rngx_read.specs.Names.{Resolver, trimmed, simple_name}
use Rattle.rngx_read.specs.Patterns as p
use Rattle.rngx_read.specs.Patterns.{Joins, Makes, Refers, IsLeaf, HasClass, IsType, AreParams, IsReference, IsCombine, IsPattern, IsAttributeValue, IsRow}
use Rattle.rngx_read.specs.Patterns.{ArePatterns, IsDefinition, IsItem, AreItems, IsReplacement, AreReplacements, is_number_sign}
use Rattle.rngx_read.specs.Reading.{Reading, read, no_form, ◌>>=◌}
use Rattle.rngx_read.specs.ReadingClasses.{childless, class_name_at, class_at}
use Rattle.rngx_read.specs.ReadingPatterns.{needed, name_at, type_at, literal_type_by, reference_by, reference_at, combine_by, combine_at, row_joined}
use Rattle.rngx_read.specs.ReadingPatterns.{value_of_row, one_of_row, Parts, no_parts, typed_of, row_at, param_at, part_of, part_by, has_class_by}
use Rattle.rngx_read.specs.ReadingPatterns.{content_by, element_by, attribute_by, pattern_by, definition_by, item_by, replacement_by, readings}
use Rattle.rngx_read.specs.ReadingPatterns.{pattern_at, grammar_file_by, surface_at}
use Rattle.rngx_read.specs.Reads.{Writes, at_element, at_attribute, LeavesOut, within, behind, IsFile, pattern_file, grammar_file}
use Rattle.rngx_read.specs.Tags.{value_of, IsTag}
use Rattle.rngx_read.specs.Forms.{form_of}
use Rattle.rngx_read.proofs.Sounding.{Sounds, finds, ends, sound_bind, sound_weaker, sound_cond}
use Rattle.rngx_read.proofs.Tags.{form_is}
use Rattle.rngx_read.proofs.Classes.{OutAt, out_first, class_name_sound, class_sound}

-- ---- parts that no prefix stops

needed_is : {A : Type 0} {Q : List ℕ → Type 0} (found : Option A) → Sounds (λ one. found ≡ Some one) Q (needed found)
needed_is None = ends
needed_is (Some one) = finds refl

childless_is : {Q : List ℕ → Type 0} (children : Elements) → Sounds (λ _. children ≡ no_elements) Q (childless children)
childless_is no_elements = finds refl
childless_is (element_then tag inner rest) = ends

type_is : {Q : List ℕ → Type 0} (defaults : Defaults) (tag : Tag) → Sounds (IsType defaults tag) Q (type_at defaults tag)
type_is defaults tag =
    sound_bind (needed (simple_name (codes "type") tag)) _ (needed_is (simple_name (codes "type") tag))
    (λ name e. finds (record { name_is = e; library_is = refl }))

reference_is : {Q : List ℕ → Type 0} (defaults : Defaults) (tag : Tag) → Sounds (IsReference defaults tag) Q (reference_at defaults tag)
reference_is {Q} defaults tag = by_href (value_of (codes "href") tag.attributes) refl
  where
    by_href : (found : Option (List ℕ)) → value_of (codes "href") tag.attributes ≡ found →
        Sounds (IsReference defaults tag) Q (reference_by defaults found)
    by_href None e = ends
    by_href (Some uri) e =
        sound_cond (list_any is_number_sign uri) no_form _ (λ _. ends)
        (λ none. finds (record { uri_is = e; no_fragment = none; namespace_is = refl }))

combine_is : {Q : List ℕ → Type 0} (tag : Tag) → Sounds (IsCombine tag) Q (combine_at tag)
combine_is {Q} tag = by_word (value_of (codes "combine") tag.attributes) refl
  where
    by_word : (found : Option (List ℕ)) → value_of (codes "combine") tag.attributes ≡ found → Sounds (IsCombine tag) Q (combine_by found)
    by_word None e = finds (p.alone e)
    by_word (Some written) e =
        sound_cond (bytes_eq (trimmed written) (codes "choice")) _ _
        (λ h. finds (p.as_choice e ((bytes_eq-Decides (trimmed written) (codes "choice")).0 h)))
        (λ _. sound_cond (bytes_eq (trimmed written) (codes "interleave")) _ no_form
        (λ h. finds (p.as_interleave e ((bytes_eq-Decides (trimmed written) (codes "interleave")).0 h)))
        (λ _. ends))

-- parameters one behind another
more_params : {elements middle rest : Elements} {first more : List Param} → AreParams elements first middle → AreParams middle more rest →
    AreParams elements (first ++ more) rest
more_params p.no_param are = are
more_params (p.next_param is name_is value_is others) are = p.next_param is name_is value_is (more_params others are)

module _ (resolve : Resolver) where
  abbrev Out : Elements → List ℕ → Type 0
  Out elements prefix = LeavesOut resolve prefix elements

  -- the patterns behind the first element
  pub data Behind (defaults : Defaults) : Elements → List WrittenPattern → Type 0 where
    behind_first : {tag : Tag} {inner rest : Elements} {ps : List WrittenPattern} → ArePatterns resolve defaults rest ps →
        Behind defaults (element_then tag inner rest) ps

  -- the parts of a `data` behind others: parameters, then an `except`, or nothing behind one
  pub data PartsBehind (defaults : Defaults) : Elements → Parts → Parts → Type 0 where
    params_alone : {elements : Elements} {before all : List Param} {more : List Param} → AreParams elements more no_elements →
        all ≡ before ++ more → PartsBehind defaults elements (record { params = before; except = None }) (record { params = all; except = None })
    params_but : {elements inner : Elements} {tag : Tag} {before all more : List Param} {p : WrittenPattern} →
        AreParams elements more (element_then tag inner no_elements) → IsTag kind.Except tag →
        IsRow resolve choice (inside defaults tag) inner p → all ≡ before ++ more →
        PartsBehind defaults elements (record { params = before; except = None }) (record { params = all; except = Some p })
    over : {parts : Parts} {p : WrittenPattern} → parts.except ≡ Some p → PartsBehind defaults no_elements parts parts

  pub record RowSound (elements : Elements) : Type 0 where
    pub patterns : (defaults : Defaults) → Sounds (ArePatterns resolve defaults elements) (Out elements) ((readings resolve elements).patterns defaults)
    pub behind : (defaults : Defaults) → Sounds (Behind defaults elements) (Out elements) ((readings resolve elements).behind defaults)
    pub items : (defaults : Defaults) → Sounds (AreItems resolve defaults elements) (Out elements) ((readings resolve elements).items defaults)
    pub replacements : (defaults : Defaults) →
        Sounds (AreReplacements resolve defaults elements) (Out elements) ((readings resolve elements).replacements defaults)
    pub parts : (defaults : Defaults) (before : Parts) →
        Sounds (PartsBehind defaults elements before) (Out elements) ((readings resolve elements).parts defaults before)

  -- ---- rows

  row_is : (join : WrittenPattern → WrittenPattern → WrittenPattern) (defaults : Defaults) (elements : Elements) (ps : List WrittenPattern) →
      ArePatterns resolve defaults elements ps → Sounds (IsRow resolve join defaults elements) (Out elements) (row_joined join ps)
  row_is join defaults _ [] are = ends
  row_is join defaults _ (first ∷ more) are = finds (p.row_of are refl)

  row_sound : (join : WrittenPattern → WrittenPattern → WrittenPattern) (defaults : Defaults) (elements : Elements) → RowSound elements →
      Sounds (IsRow resolve join defaults elements) (Out elements) (row_at join (readings resolve elements) defaults)
  row_sound join defaults elements sound =
      sound_bind ((readings resolve elements).patterns defaults) (row_joined join) (sound.patterns defaults) (λ ps are. row_is join defaults elements ps are)

  value_is : {Q : List ℕ → Type 0} (defaults : Defaults) (elements : Elements) (ps : List WrittenPattern) → ArePatterns resolve defaults elements ps →
      Sounds (IsAttributeValue resolve defaults elements) Q (value_of_row ps)
  value_is defaults _ _ p.no_pattern = finds p.any_value
  value_is defaults _ _ (p.next_pattern is p.no_pattern) = finds (p.this_value is)
  value_is defaults _ _ (p.next_pattern is (p.next_pattern next more)) = ends

  -- ---- elements and attributes

  has_class_sound : (defaults : Defaults) (unprefixed : Namespace) (tag : Tag) (children : Elements) (name : Option (List ℕ)) →
      value_of (codes "name") tag.attributes ≡ name →
      ((written : List ℕ) → value_of (codes "name") tag.attributes ≡ Some written → Writes tag written) →
      (as_one : List WrittenPattern → Reading WrittenPattern) (make : WrittenClass → WrittenPattern → WrittenPattern)
      (Fits : Elements → WrittenPattern → Type 0) (P : WrittenPattern → Type 0) → RowSound children →
      ((content : Elements) (ps : List WrittenPattern) → ArePatterns resolve defaults content ps → Sounds (Fits content) (λ prefix. ⊥) (as_one ps)) →
      ((class : WrittenClass) (content : Elements) (q : WrittenPattern) → HasClass resolve defaults unprefixed tag children class content →
      Fits content q → P (make class q)) →
      Sounds P (OutAt resolve tag children)
      (has_class_by resolve defaults unprefixed tag children name >>= λ class.
      content_by resolve defaults (readings resolve children) name >>= as_one >>= λ q. read (make class q))
  has_class_sound defaults unprefixed tag children (Some written) e writes as_one make Fits P sound fit made =
      sound_bind (class_name_at resolve unprefixed tag.scope written) _
      (sound_weaker _ (class_name_sound resolve tag unprefixed written (writes written e)) (λ class is. is) (λ prefix needs. inl needs))
      (λ class named. sound_bind ((readings resolve children).patterns defaults >>= as_one) (λ q. read (make class q)) content_fits
      (λ q fits. finds (made class children q (p.by_attribute e named) fits)))
    where
      content_fits : Sounds (Fits children) (OutAt resolve tag children) ((readings resolve children).patterns defaults >>= as_one)
      content_fits =
          sound_bind ((readings resolve children).patterns defaults) as_one
          (sound_weaker _ (sound.patterns defaults) (λ ps are. are) (λ prefix left. inr left))
          (λ ps are. sound_weaker (as_one ps) (fit children ps are) (λ q fits. fits) (λ prefix never. absurd never))
  has_class_sound defaults unprefixed tag no_elements None e writes as_one make Fits P sound fit made = ends
  has_class_sound defaults unprefixed tag (element_then first inner rest) None e writes as_one make Fits P sound fit made =
      sound_bind (class_at resolve defaults first inner) _
      (sound_weaker _ (class_sound resolve defaults first inner) (λ class is. is) (λ prefix out. inr (out_first resolve first inner rest prefix out)))
      (λ class is. sound_bind ((readings resolve (element_then first inner rest)).behind defaults >>= as_one) (λ q. read (make class q)) content_fits
      (λ q fits. finds (made class rest q (p.by_child e is) fits)))
    where
      behind_it : (ps : List WrittenPattern) → Behind defaults (element_then first inner rest) ps →
          Sounds (Fits rest) (OutAt resolve tag (element_then first inner rest)) (as_one ps)
      behind_it ps (behind_first are) = sound_weaker (as_one ps) (fit rest ps are) (λ q fits. fits) (λ prefix never. absurd never)

      content_fits : Sounds (Fits rest) (OutAt resolve tag (element_then first inner rest))
          ((readings resolve (element_then first inner rest)).behind defaults >>= as_one)
      content_fits =
          sound_bind ((readings resolve (element_then first inner rest)).behind defaults) as_one
          (sound_weaker _ (sound.behind defaults) (λ ps are. are) (λ prefix left. inr left)) behind_it

  element_sound : (defaults : Defaults) (tag : Tag) (children : Elements) → RowSound children → IsTag kind.Element tag →
      Sounds (IsPattern resolve defaults tag children) (OutAt resolve tag children)
      (element_by resolve (inside defaults tag) tag children (readings resolve children) (value_of (codes "name") tag.attributes))
  element_sound defaults tag children sound is =
      has_class_sound (inside defaults tag) (inside defaults tag).namespace tag children (value_of (codes "name") tag.attributes) refl
      (λ written e. at_element is.called e) (row_joined group) element (IsRow resolve group (inside defaults tag)) (IsPattern resolve defaults tag children)
      sound row_there (λ class content q has row. p.an_element is has row)
    where
      row_there : (content : Elements) (ps : List WrittenPattern) → ArePatterns resolve (inside defaults tag) content ps →
          Sounds (IsRow resolve group (inside defaults tag) content) (λ prefix. ⊥) (row_joined group ps)
      row_there content [] are = ends
      row_there content (first ∷ more) are = finds (p.row_of are refl)

  attribute_sound : (defaults : Defaults) (tag : Tag) (children : Elements) → RowSound children → IsTag kind.Attribute tag →
      Sounds (IsPattern resolve defaults tag children) (OutAt resolve tag children)
      (attribute_by resolve (inside defaults tag) tag children (readings resolve children) (value_of (codes "name") tag.attributes))
  attribute_sound defaults tag children sound is =
      has_class_sound (inside defaults tag) (own_namespace tag) tag children (value_of (codes "name") tag.attributes) refl
      (λ written e. at_attribute is.called e) value_of_row attribute (IsAttributeValue resolve (inside defaults tag)) (IsPattern resolve defaults tag children)
      sound (λ content ps are. value_is (inside defaults tag) content ps are) (λ class content q has value. p.an_attribute is has value)

  -- ---- the other forms

  rows_of : (defaults : Defaults) (tag : Tag) (children : Elements) (this : Kind) (join : WrittenPattern → WrittenPattern → WrittenPattern) →
      RowSound children → Joins this join →
      IsTag this tag → Sounds (IsPattern resolve defaults tag children) (OutAt resolve tag children)
      (row_at join (readings resolve children) (inside defaults tag))
  rows_of defaults tag children this join sound joins is =
      sound_weaker _ (row_sound join (inside defaults tag) children sound) (λ q row. p.a_row joins is row) (λ prefix left. inr left)

  made_of : (defaults : Defaults) (tag : Tag) (children : Elements) (this : Kind) (make : WrittenPattern → WrittenPattern) → RowSound children →
      Makes this make →
      IsTag this tag → Sounds (IsPattern resolve defaults tag children) (OutAt resolve tag children)
      (row_at group (readings resolve children) (inside defaults tag) >>= λ q. read (make q))
  made_of defaults tag children this make sound makes is =
      sound_bind (row_at group (readings resolve children) (inside defaults tag)) (λ q. read (make q))
      (sound_weaker _ (row_sound group (inside defaults tag) children sound) (λ q row. row) (λ prefix left. inr left))
      (λ q row. finds (p.made makes is row))

  refers_by : (defaults : Defaults) (tag : Tag) (children : Elements) (this : Kind) (refer : List ℕ → WrittenPattern) → Refers this refer →
      IsTag this tag →
      Sounds (IsPattern resolve defaults tag children) (OutAt resolve tag children)
      (childless children >>= λ _. name_at tag >>= λ name. read (refer name))
  refers_by defaults tag no_elements this refer refers is =
      sound_bind (name_at tag) (λ name. read (refer name)) (needed_is (simple_name (codes "name") tag)) (λ name e. finds (p.a_reference refers is e))
  refers_by defaults tag (element_then first inner rest) this refer refers is = ends

  leaf_of : (defaults : Defaults) (tag : Tag) (children : Elements) (this : Kind) (q : WrittenPattern) → IsLeaf this q → IsTag this tag →
      Sounds (IsPattern resolve defaults tag children) (OutAt resolve tag children) (childless children >>= λ _. read q)
  leaf_of defaults tag no_elements this q leaf is = finds (p.a_leaf leaf is)
  leaf_of defaults tag (element_then first inner rest) this q leaf is = ends

  literal_of : (defaults : Defaults) (tag : Tag) (children : Elements) → IsTag kind.Value tag →
      Sounds (IsPattern resolve defaults tag children) (OutAt resolve tag children)
      (childless children >>= λ _. literal_type_by (inside defaults tag) tag (value_of (codes "type") tag.attributes)
      >>= λ type. read (value type tag.text))
  literal_of defaults tag (element_then first inner rest) is = ends
  literal_of defaults tag no_elements is = by_type (value_of (codes "type") tag.attributes) refl
    where
      by_type : (found : Option (List ℕ)) → value_of (codes "type") tag.attributes ≡ found →
          Sounds (IsPattern resolve defaults tag no_elements) (OutAt resolve tag no_elements)
          (literal_type_by (inside defaults tag) tag found >>= λ type. read (value type tag.text))
      by_type None e = finds (p.an_untyped_value is e)
      by_type (Some written) e =
          sound_bind (type_at (inside defaults tag) tag) _ (type_is (inside defaults tag) tag) (λ type is_type. finds (p.a_value is is_type))

  external_of : (defaults : Defaults) (tag : Tag) (children : Elements) → IsTag kind.ExternalRef tag →
      Sounds (IsPattern resolve defaults tag children) (OutAt resolve tag children)
      (childless children >>= λ _. reference_at (inside defaults tag) tag >>= λ file. read (external file))
  external_of defaults tag (element_then first inner rest) is = ends
  external_of defaults tag no_elements is =
      sound_bind (reference_at (inside defaults tag) tag) _ (reference_is (inside defaults tag) tag) (λ file refers. finds (p.an_external is refers))

  data_of : (defaults : Defaults) (tag : Tag) (children : Elements) → RowSound children → IsTag kind.Data tag →
      Sounds (IsPattern resolve defaults tag children) (OutAt resolve tag children)
      (type_at (inside defaults tag) tag >>= λ type. (readings resolve children).parts (inside defaults tag) no_parts
      >>= λ parts. read (typed_of type parts))
  data_of defaults tag children sound is =
      sound_bind (type_at (inside defaults tag) tag) _ (type_is (inside defaults tag) tag)
      (λ type is_type. sound_bind ((readings resolve children).parts (inside defaults tag) no_parts) (λ parts. read (typed_of type parts))
      (sound_weaker _ (sound.parts (inside defaults tag) no_parts) (λ parts are. are) (λ prefix left. inr left))
      (λ parts are. of_parts type is_type children no_parts parts refl are))
    where
      of_parts : (type : TypeName) → IsType (inside defaults tag) tag type → (elements : Elements) (before parts : Parts) → before ≡ no_parts →
          PartsBehind (inside defaults tag) elements before parts →
          Sounds (IsPattern resolve defaults tag elements) (OutAt resolve tag children) (read (typed_of type parts))
      of_parts type is_type elements _ _ none (params_alone {more = more} are e) =
          finds (p.a_type is is_type
          (subst (λ (l : List Param). AreParams elements l no_elements) (sym (e ∙ ap (λ (l : Parts). l.params ++ more) none)) are))
      of_parts type is_type elements _ _ none (params_but {inner = inner} {tag = except} {more = more} are but row e) =
          finds (p.a_type_but is is_type
          (subst (λ (l : List Param). AreParams elements l (element_then except inner no_elements))
          (sym (e ∙ ap (λ (l : Parts). l.params ++ more) none)) are) but row)
      of_parts type is_type _ _ _ none (over {p = q} e) = let nothing = ap (λ (l : Parts). l.except) none in absurd cc

  grammar_of : (defaults : Defaults) (tag : Tag) (children : Elements) → RowSound children → IsTag kind.Grammar tag →
      Sounds (IsPattern resolve defaults tag children) (OutAt resolve tag children)
      ((readings resolve children).items (inside defaults tag) >>= λ items. read (grammar items))
  grammar_of defaults tag children sound is =
      sound_bind ((readings resolve children).items (inside defaults tag)) _
      (sound_weaker _ (sound.items (inside defaults tag)) (λ items are. are) (λ prefix left. inr left)) (λ items are. finds (p.a_grammar_of is are))

  pattern_by_sound : (defaults : Defaults) (tag : Tag) (children : Elements) → RowSound children → (form : Option Kind) →
      ((k : Kind) → form ≡ Some k → IsTag k tag) →
      Sounds (IsPattern resolve defaults tag children) (OutAt resolve tag children)
      (pattern_by resolve (inside defaults tag) tag children (readings resolve children) form)
  pattern_by_sound defaults tag children sound (Some kind.Element) is = element_sound defaults tag children sound (is kind.Element refl)
  pattern_by_sound defaults tag children sound (Some kind.Attribute) is = attribute_sound defaults tag children sound (is kind.Attribute refl)
  pattern_by_sound defaults tag children sound (Some kind.Group) is =
      rows_of defaults tag children kind.Group group sound p.by_group (is kind.Group refl)
  pattern_by_sound defaults tag children sound (Some kind.Interleave) is =
      rows_of defaults tag children kind.Interleave interleave sound p.by_interleave (is kind.Interleave refl)
  pattern_by_sound defaults tag children sound (Some kind.Choice) is =
      rows_of defaults tag children kind.Choice choice sound p.by_choice (is kind.Choice refl)
  pattern_by_sound defaults tag children sound (Some kind.Optional) is =
      made_of defaults tag children kind.Optional optional sound p.by_optional (is kind.Optional refl)
  pattern_by_sound defaults tag children sound (Some kind.ZeroOrMore) is =
      made_of defaults tag children kind.ZeroOrMore zero_or_more sound p.by_zero_or_more (is kind.ZeroOrMore refl)
  pattern_by_sound defaults tag children sound (Some kind.OneOrMore) is =
      made_of defaults tag children kind.OneOrMore one_or_more sound p.by_one_or_more (is kind.OneOrMore refl)
  pattern_by_sound defaults tag children sound (Some kind.List) is = made_of defaults tag children kind.List list sound p.by_list (is kind.List refl)
  pattern_by_sound defaults tag children sound (Some kind.Mixed) is =
      made_of defaults tag children kind.Mixed mixed sound p.by_mixed (is kind.Mixed refl)
  pattern_by_sound defaults tag children sound (Some kind.Ref) is = refers_by defaults tag children kind.Ref ref p.by_ref (is kind.Ref refl)
  pattern_by_sound defaults tag children sound (Some kind.ParentRef) is =
      refers_by defaults tag children kind.ParentRef parent_ref p.by_parent_ref (is kind.ParentRef refl)
  pattern_by_sound defaults tag children sound (Some kind.Empty) is = leaf_of defaults tag children kind.Empty empty p.is_empty (is kind.Empty refl)
  pattern_by_sound defaults tag children sound (Some kind.Text) is = leaf_of defaults tag children kind.Text any_text p.is_text (is kind.Text refl)
  pattern_by_sound defaults tag children sound (Some kind.NotAllowed) is =
      leaf_of defaults tag children kind.NotAllowed not_allowed p.is_not_allowed (is kind.NotAllowed refl)
  pattern_by_sound defaults tag children sound (Some kind.Value) is = literal_of defaults tag children (is kind.Value refl)
  pattern_by_sound defaults tag children sound (Some kind.Data) is = data_of defaults tag children sound (is kind.Data refl)
  pattern_by_sound defaults tag children sound (Some kind.ExternalRef) is = external_of defaults tag children (is kind.ExternalRef refl)
  pattern_by_sound defaults tag children sound (Some kind.Grammar) is = grammar_of defaults tag children sound (is kind.Grammar refl)
  pattern_by_sound defaults tag children sound _ is = ends

  -- ---- definitions

  definition_by_sound : (defaults : Defaults) (tag : Tag) (children : Elements) → RowSound children → (form : Option Kind) →
      ((k : Kind) → form ≡ Some k → IsTag k tag) →
      Sounds (λ d. IsDefinition resolve defaults tag children d.0 d.1 d.2) (Out children)
      (definition_by resolve (inside defaults tag) tag (readings resolve children) form)
  definition_by_sound defaults tag children sound (Some kind.Start) is =
      sound_bind (combine_at tag) _ (combine_is tag)
      (λ how combines. sound_bind ((readings resolve children).patterns (inside defaults tag) >>= one_of_row) _
      (sound_bind ((readings resolve children).patterns (inside defaults tag)) one_of_row (sound.patterns (inside defaults tag))
      (λ ps are. one_is ps how combines are))
      (λ q there. finds there))
    where
      one_is : (ps : List WrittenPattern) (how : Combine) → IsCombine tag how → ArePatterns resolve (inside defaults tag) children ps →
          Sounds (λ q. IsDefinition resolve defaults tag children defined.Start how q) (Out children) (one_of_row ps)
      one_is ps how combines are = start_is children ps how combines are
        where
          start_is : (elements : Elements) (ps : List WrittenPattern) (how : Combine) → IsCombine tag how →
              ArePatterns resolve (inside defaults tag) elements ps →
              Sounds (λ q. IsDefinition resolve defaults tag elements defined.Start how q) (Out children) (one_of_row ps)
          start_is _ _ how combines p.no_pattern = ends
          start_is _ _ how combines (p.next_pattern one p.no_pattern) = finds (p.a_start (is kind.Start refl) combines one)
          start_is _ _ how combines (p.next_pattern one (p.next_pattern next more)) = ends
  definition_by_sound defaults tag children sound (Some kind.Define) is =
      sound_bind (combine_at tag) _ (combine_is tag)
      (λ how combines. sound_bind (name_at tag) _ (needed_is (simple_name (codes "name") tag))
      (λ name e. sound_bind (row_at group (readings resolve children) (inside defaults tag)) _ (row_sound group (inside defaults tag) children sound)
      (λ q row. finds (p.a_define (is kind.Define refl) combines e row))))
  definition_by_sound defaults tag children sound _ is = ends

  defines : (defaults : Defaults) (tag : Tag) (children : Elements) → RowSound children → (form : Option Kind) →
      ((k : Kind) → form ≡ Some k → IsTag k tag) →
      Sounds (IsItem resolve defaults tag children) (Out children)
      (definition_by resolve (inside defaults tag) tag (readings resolve children) form >>= λ d. read (define d.0 d.1 d.2))
  defines defaults tag children sound form is =
      sound_bind (definition_by resolve (inside defaults tag) tag (readings resolve children) form) _
      (definition_by_sound defaults tag children sound form is)
      (λ d is_one. finds (p.a_definition is_one))

  item_by_sound : (defaults : Defaults) (tag : Tag) (children : Elements) → RowSound children → (form : Option Kind) →
      ((k : Kind) → form ≡ Some k → IsTag k tag) →
      Sounds (IsItem resolve defaults tag children) (Out children) (item_by resolve (inside defaults tag) tag (readings resolve children) form)
  item_by_sound defaults tag children sound (Some kind.Div) is =
      sound_bind ((readings resolve children).items (inside defaults tag)) _ (sound.items (inside defaults tag))
      (λ items are. finds (p.a_div (is kind.Div refl) are))
  item_by_sound defaults tag children sound (Some kind.Include) is =
      sound_bind (reference_at (inside defaults tag) tag) _ (reference_is (inside defaults tag) tag)
      (λ file refers. sound_bind ((readings resolve children).replacements (inside defaults tag)) _ (sound.replacements (inside defaults tag))
      (λ replacements are. finds (p.an_include (is kind.Include refl) refers are)))
  item_by_sound defaults tag children sound form is = defines defaults tag children sound form is

  defines_anew : (defaults : Defaults) (tag : Tag) (children : Elements) → RowSound children → (form : Option Kind) →
      ((k : Kind) → form ≡ Some k → IsTag k tag) →
      Sounds (IsReplacement resolve defaults tag children) (Out children)
      (definition_by resolve (inside defaults tag) tag (readings resolve children) form >>= λ d. read (define_anew d.0 d.1 d.2))
  defines_anew defaults tag children sound form is =
      sound_bind (definition_by resolve (inside defaults tag) tag (readings resolve children) form) _
      (definition_by_sound defaults tag children sound form is)
      (λ d is_one. finds (p.a_definition_anew is_one))

  replacement_by_sound : (defaults : Defaults) (tag : Tag) (children : Elements) → RowSound children → (form : Option Kind) →
      ((k : Kind) → form ≡ Some k → IsTag k tag) →
      Sounds (IsReplacement resolve defaults tag children) (Out children)
      (replacement_by resolve (inside defaults tag) tag (readings resolve children) form)
  replacement_by_sound defaults tag children sound (Some kind.Div) is =
      sound_bind ((readings resolve children).replacements (inside defaults tag)) _ (sound.replacements (inside defaults tag))
      (λ rs are. finds (p.a_div_anew (is kind.Div refl) are))
  replacement_by_sound defaults tag children sound form is = defines_anew defaults tag children sound form is

  -- ---- parts of a `data`

  further : (defaults : Defaults) (tag : Tag) (rest : Elements) (param : Param) (params : List Param) (after : Parts) → IsTag kind.Param tag →
      simple_name (codes "name") tag ≡ Some param.name → param.value ≡ tag.text →
      PartsBehind defaults rest (record { params = params ++ param ∷ []; except = None }) after →
      PartsBehind defaults (element_then tag no_elements rest) (record { params = params; except = None }) after
  further defaults tag rest param params _ is name_is value_is (params_alone {more = more} are e) =
      params_alone (p.next_param is name_is value_is are) (e ∙ append_assoc params (param ∷ []) more)
  further defaults tag rest param params _ is name_is value_is (params_but {more = more} are but row e) =
      params_but (p.next_param is name_is value_is are) but row (e ∙ append_assoc params (param ∷ []) more)
  further defaults tag rest param params _ is name_is value_is (over e) = absurd cc

  excepted : (defaults : Defaults) (tag : Tag) (children rest : Elements) (params : List Param) (q : WrittenPattern) (after : Parts) →
      IsTag kind.Except tag →
      IsRow resolve choice (inside defaults tag) children q → PartsBehind defaults rest (record { params = params; except = Some q }) after →
      PartsBehind defaults (element_then tag children rest) (record { params = params; except = None }) after
  excepted defaults tag children _ params q _ is row (over e) = params_but p.no_param is row (sym (append-nil params))

  param_sound : {Q : List ℕ → Type 0} (tag : Tag) (children : Elements) →
      Sounds (λ param. (children ≡ no_elements) × (simple_name (codes "name") tag ≡ Some param.name) × (param.value ≡ tag.text)) Q
      (param_at tag children)
  param_sound tag no_elements =
      sound_bind (name_at tag) _ (needed_is (simple_name (codes "name") tag)) (λ name e. finds (refl, e, refl))
  param_sound tag (element_then first inner rest) = ends

  parts_sound : (defaults : Defaults) (tag : Tag) (children rest : Elements) → RowSound children → RowSound rest → (form : Option Kind) →
      ((k : Kind) → form ≡ Some k → IsTag k tag) → (params : List Param) →
      Sounds (PartsBehind defaults (element_then tag children rest) (record { params = params; except = None })) (Out (element_then tag children rest))
      (part_of (inside defaults tag) tag children (readings resolve children) form params >>= λ next. (readings resolve rest).parts defaults next)
  parts_sound defaults tag children rest inner others (Some kind.Param) is params =
      sound_bind (part_of (inside defaults tag) tag children (readings resolve children) (Some kind.Param) params)
      (λ next. (readings resolve rest).parts defaults next)
      (sound_bind {P = λ param. (children ≡ no_elements) × (simple_name (codes "name") tag ≡ Some param.name) × (param.value ≡ tag.text)}
      {R = λ (next : Parts). (param : Param) × (next ≡ record { params = params ++ param ∷ []; except = None }) × (children ≡ no_elements)
      × (simple_name (codes "name") tag ≡ Some param.name) × (param.value ≡ tag.text)}
      (param_at tag children) _ (param_sound tag children) (λ param there. finds (param, refl, there.0, there.1, there.2)))
      (λ next there. sound_weaker ((readings resolve rest).parts defaults next) (others.parts defaults next)
      (λ after behind_it. subst (λ (c : Elements). PartsBehind defaults (element_then tag c rest) (record { params = params; except = None }) after)
      (sym there.2)
      (further defaults tag rest there.0 params after (is kind.Param refl) there.3 there.4
      (subst (λ (before : Parts). PartsBehind defaults rest before after) there.1 behind_it)))
      (λ prefix left. behind left))
  parts_sound defaults tag children rest inner others (Some kind.Except) is params =
      sound_bind (part_of (inside defaults tag) tag children (readings resolve children) (Some kind.Except) params)
      (λ next. (readings resolve rest).parts defaults next)
      (sound_bind {R = λ (next : Parts). (q : WrittenPattern) × (next ≡ record { params = params; except = Some q }) × IsRow resolve choice
      (inside defaults tag) children q}
      (row_at choice (readings resolve children) (inside defaults tag)) _
      (sound_weaker _ (row_sound choice (inside defaults tag) children inner) (λ q row. row) (λ prefix left. within left))
      (λ q row. finds (q, refl, row)))
      (λ next there. sound_weaker ((readings resolve rest).parts defaults next) (others.parts defaults next)
      (λ after behind_it. excepted defaults tag children rest params there.0 after (is kind.Except refl) there.2
      (subst (λ (before : Parts). PartsBehind defaults rest before after) there.1 behind_it))
      (λ prefix left. behind left))
  parts_sound defaults tag children rest inner others _ is params = ends

  parts_by : (defaults : Defaults) (tag : Tag) (children rest : Elements) → RowSound children → RowSound rest →
      (params : List Param) (except : Option WrittenPattern) →
      Sounds (PartsBehind defaults (element_then tag children rest) (record { params = params; except = except }))
      (Out (element_then tag children rest))
      (part_by (inside defaults tag) tag children (readings resolve children) params except >>= λ next. (readings resolve rest).parts defaults next)
  parts_by defaults tag children rest inner others params None = parts_sound defaults tag children rest inner others (form_of tag) (form_is tag) params
  parts_by defaults tag children rest inner others params (Some q) = ends

  -- nothing left of a `data`
  no_more_parts : (defaults : Defaults) (params : List Param) (except : Option WrittenPattern) →
      PartsBehind defaults no_elements (record { params = params; except = except }) (record { params = params; except = except })
  no_more_parts defaults params None = params_alone p.no_param (sym (append-nil params))
  no_more_parts defaults params (Some q) = over refl

  -- ---- all rows

  pub rows_sound : (elements : Elements) → RowSound elements
  unfolding readings
  rows_sound no_elements = record {
    patterns = λ defaults. finds p.no_pattern;
    behind = λ defaults. ends;
    items = λ defaults. finds p.no_more_items;
    replacements = λ defaults. finds p.no_more_replacements;
    parts = λ defaults before. finds (no_more_parts defaults before.params before.except);
  }
  rows_sound (element_then tag children rest) =
      let inner = rows_sound children in
      let others = rows_sound rest in
      record {
        patterns = λ defaults.
            sound_bind (pattern_by resolve (inside defaults tag) tag children (readings resolve children) (form_of tag)) _
            (sound_weaker _ (pattern_by_sound defaults tag children inner (form_of tag) (form_is tag)) (λ q is. is)
            (λ prefix out. out_first resolve tag children rest prefix out))
            (λ q is. sound_bind ((readings resolve rest).patterns defaults) _
            (sound_weaker _ (others.patterns defaults) (λ ps are. are) (λ prefix left. behind left)) (λ ps are. finds (p.next_pattern is are)));
        behind = λ defaults. sound_weaker _ (others.patterns defaults) (λ ps are. behind_first are) (λ prefix left. behind left);
        items = λ defaults.
            sound_bind (item_by resolve (inside defaults tag) tag (readings resolve children) (form_of tag)) _
            (sound_weaker _ (item_by_sound defaults tag children inner (form_of tag) (form_is tag)) (λ item is. is) (λ prefix left. within left))
            (λ item is. sound_bind ((readings resolve rest).items defaults) _
            (sound_weaker _ (others.items defaults) (λ items are. are) (λ prefix left. behind left)) (λ items are. finds (p.next_item is are)));
        replacements = λ defaults.
            sound_bind (replacement_by resolve (inside defaults tag) tag (readings resolve children) (form_of tag)) _
            (sound_weaker _ (replacement_by_sound defaults tag children inner (form_of tag) (form_is tag)) (λ one is. is) (λ prefix left. within left))
            (λ one is. sound_bind ((readings resolve rest).replacements defaults) _
            (sound_weaker _ (others.replacements defaults) (λ rs are. are) (λ prefix left. behind left))
            (λ rs are. finds (p.next_replacement is are)));
        parts = λ defaults before. parts_by defaults tag children rest inner others before.params before.except;
      }

  -- ---- a whole file

  pub pattern_sound : (defaults : Defaults) (tag : Tag) (children : Elements) →
      Sounds (IsPattern resolve defaults tag children) (OutAt resolve tag children) (pattern_at resolve defaults tag children)
  unfolding pattern_at
  pattern_sound defaults tag children = pattern_by_sound defaults tag children (rows_sound children) (form_of tag) (form_is tag)

  grammar_file_sound : (tag : Tag) (children : Elements) → (form : Option Kind) → ((k : Kind) → form ≡ Some k → IsTag k tag) →
      Sounds (IsFile resolve (element_then tag children no_elements)) (Out (element_then tag children no_elements))
      (grammar_file_by resolve tag children form)
  grammar_file_sound tag children (Some kind.Grammar) is =
      sound_bind ((readings resolve children).items (inside outermost tag)) _
      (sound_weaker _ ((rows_sound children).items (inside outermost tag)) (λ items are. are) (λ prefix left. within left))
      (λ items are. finds (grammar_file (is kind.Grammar refl) are))
  grammar_file_sound tag children _ is = ends

  pub surface_sound : (elements : Elements) → Sounds (IsFile resolve elements) (Out elements) (surface_at resolve elements)
  unfolding surface_at
  surface_sound no_elements = ends
  surface_sound (element_then tag children (element_then next inner rest)) = ends
  surface_sound (element_then tag children no_elements) =
      sound_cond (bytes_eq tag.local (codes "grammar")) _ _
      (λ _. grammar_file_sound tag children (form_of tag) (form_is tag))
      (λ other. sound_bind (pattern_at resolve outermost tag children) _
      (sound_weaker _ (pattern_sound outermost tag children) (λ q is. is) (λ prefix out. out_first resolve tag children no_elements prefix out))
      (λ q is. finds (pattern_file (λ same. let yes = (bytes_eq-Decides tag.local (codes "grammar")).1 same in absurd cc) is)))
