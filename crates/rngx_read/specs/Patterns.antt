-- Patterns and grammars: ISO/IEC 19757-2, section 6; how the rows of an element are joined 7.13, and a value without a type 7.5.
use Rattle.std.specs.Prelude.{◌≡◌, ℕ, Bool, false, ◌==◌, List, [], ◌∷◌, Some, None, codes}
use Rattle.std.specs.List.{list_any}
use Rattle.rnc_parse.specs.declared.surface.Namespace.{Namespace}
use Rattle.rnc_parse.specs.declared.surface.TypeName.{TypeName}
use Rattle.rnc_parse.specs.declared.surface.Param.{Param}
use Rattle.rnc_parse.specs.declared.surface.FileReference.{FileReference}
use Rattle.rnc_parse.specs.declared.surface.Defined.{Defined}
use Rattle.rnc_parse.specs.declared.surface.Defined.TheVariants as defined
use Rattle.rnc_parse.specs.declared.surface.Combine.{Combine}
use Rattle.rnc_parse.specs.declared.surface.Combine.TheVariants as combine
use Rattle.rnc_parse.specs.Parts.{built_in}
use Rattle.rnc_parse.specs.Written.{WrittenClass, WrittenPattern, element, attribute, list, mixed, ref, parent_ref, empty, any_text}
use Rattle.rnc_parse.specs.Written.{not_allowed, value, typed, typed_but, external, grammar, optional, zero_or_more, one_or_more, choice}
use Rattle.rnc_parse.specs.Written.{group, interleave, WrittenItem, define, div, include, WrittenItems, no_items, item_then}
use Rattle.rnc_parse.specs.Written.{WrittenReplacement, define_anew, div_anew, WrittenReplacements, no_replacements, replacement_then, joined}
use Rattle.rngx_read.specs.declared.element.Tag.{Tag}
use Rattle.rngx_read.specs.declared.kind.Kind.{Kind}
use Rattle.rngx_read.specs.declared.kind.Kind.TheVariants as kind
use Rattle.rngx_read.specs.Classes.{IsClass}
use Rattle.rngx_read.specs.Defaults.{Defaults, inside, own_namespace}
use Rattle.rngx_read.specs.Elements.{Elements, no_elements, element_then}
use Rattle.rngx_read.specs.Names.{Resolver, IsClassName, trimmed, simple_name}
use Rattle.rngx_read.specs.Tags.{value_of, IsTag}

-- ---- tables

-- elements that join the patterns in them
pub data Joins : Kind → (WrittenPattern → WrittenPattern → WrittenPattern) → Type 0 where
  by_group : Joins kind.Group group
  by_interleave : Joins kind.Interleave interleave
  by_choice : Joins kind.Choice choice

-- elements that make something of the group of the patterns in them
pub data Makes : Kind → (WrittenPattern → WrittenPattern) → Type 0 where
  by_optional : Makes kind.Optional optional
  by_zero_or_more : Makes kind.ZeroOrMore zero_or_more
  by_one_or_more : Makes kind.OneOrMore one_or_more
  by_list : Makes kind.List list
  by_mixed : Makes kind.Mixed mixed

-- elements with a name alone
pub data Refers : Kind → (List ℕ → WrittenPattern) → Type 0 where
  by_ref : Refers kind.Ref ref
  by_parent_ref : Refers kind.ParentRef parent_ref

-- elements with nothing at all
pub data IsLeaf : Kind → WrittenPattern → Type 0 where
  is_empty : IsLeaf kind.Empty empty
  is_text : IsLeaf kind.Text any_text
  is_not_allowed : IsLeaf kind.NotAllowed not_allowed

-- ---- parts

-- the class of an `element` or `attribute`, by its attribute `name`, which without a prefix is in the namespace `unprefixed`, or by
-- its first child; and the children that are left
pub data HasClass (resolve : Resolver) : Defaults → Namespace → Tag → Elements → WrittenClass → Elements → Type 0 where
  by_attribute : {defaults : Defaults} {unprefixed : Namespace} {tag : Tag} {children : Elements} {class : WrittenClass}
      {written : List ℕ} → value_of (codes "name") tag.attributes ≡ Some written →
      IsClassName resolve tag.scope unprefixed written class → HasClass resolve defaults unprefixed tag children class children
  by_child : {defaults : Defaults} {unprefixed : Namespace} {tag first : Tag} {within rest : Elements} {class : WrittenClass} →
      value_of (codes "name") tag.attributes ≡ None → IsClass resolve defaults first within class →
      HasClass resolve defaults unprefixed tag (element_then first within rest) class rest

-- a type of the nearest library
pub record IsType (defaults : Defaults) (tag : Tag) (type : TypeName) : Type 0 where
  pub name_is : simple_name (codes "type") tag ≡ Some type.name
  pub library_is : type.library ≡ defaults.library

-- parameters, up to what follows
pub data AreParams : Elements → List Param → Elements → Type 0 where
  no_param : {rest : Elements} → AreParams rest [] rest
  next_param : {tag : Tag} {others rest : Elements} {param : Param} {params : List Param} → IsTag kind.Param tag →
      simple_name (codes "name") tag ≡ Some param.name → param.value ≡ tag.text → AreParams others params rest →
      AreParams (element_then tag no_elements others) (param ∷ params) rest

abbrev pub is_number_sign : ℕ → Bool
is_number_sign b = b == 35

-- a reference to another file, to which the nearest `ns` is handed on: no fragment of one
pub record IsReference (defaults : Defaults) (tag : Tag) (file : FileReference) : Type 0 where
  pub uri_is : value_of (codes "href") tag.attributes ≡ Some file.uri
  pub no_fragment : list_any is_number_sign file.uri ≡ false
  pub namespace_is : file.namespace ≡ defaults.namespace

-- how a definition is combined with others of its name
pub data IsCombine (tag : Tag) : Combine → Type 0 where
  alone : value_of (codes "combine") tag.attributes ≡ None → IsCombine tag combine.Alone
  as_choice : {written : List ℕ} → value_of (codes "combine") tag.attributes ≡ Some written → trimmed written ≡ codes "choice" →
      IsCombine tag combine.Choice
  as_interleave : {written : List ℕ} → value_of (codes "combine") tag.attributes ≡ Some written →
      trimmed written ≡ codes "interleave" → IsCombine tag combine.Interleave

-- ---- patterns

-- An element with this tag and these children stands for this. The defaults are those around it
mutual
  pub data IsPattern (resolve : Resolver) : Defaults → Tag → Elements → WrittenPattern → Type 0 where
    an_element : {defaults : Defaults} {tag : Tag} {children content : Elements} {class : WrittenClass} {p : WrittenPattern} →
        IsTag kind.Element tag → HasClass resolve (inside defaults tag) (inside defaults tag).namespace tag children class content →
        IsRow resolve group (inside defaults tag) content p → IsPattern resolve defaults tag children (element class p)
    an_attribute : {defaults : Defaults} {tag : Tag} {children content : Elements} {class : WrittenClass} {p : WrittenPattern} →
        IsTag kind.Attribute tag → HasClass resolve (inside defaults tag) (own_namespace tag) tag children class content →
        IsAttributeValue resolve (inside defaults tag) content p → IsPattern resolve defaults tag children (attribute class p)
    a_row : {defaults : Defaults} {tag : Tag} {children : Elements} {this : Kind}
        {join : WrittenPattern → WrittenPattern → WrittenPattern} {p : WrittenPattern} → Joins this join → IsTag this tag →
        IsRow resolve join (inside defaults tag) children p → IsPattern resolve defaults tag children p
    made : {defaults : Defaults} {tag : Tag} {children : Elements} {this : Kind} {make : WrittenPattern → WrittenPattern}
        {p : WrittenPattern} → Makes this make → IsTag this tag → IsRow resolve group (inside defaults tag) children p →
        IsPattern resolve defaults tag children (make p)
    a_reference : {defaults : Defaults} {tag : Tag} {this : Kind} {refer : List ℕ → WrittenPattern} {name : List ℕ} →
        Refers this refer → IsTag this tag → simple_name (codes "name") tag ≡ Some name →
        IsPattern resolve defaults tag no_elements (refer name)
    a_leaf : {defaults : Defaults} {tag : Tag} {this : Kind} {p : WrittenPattern} → IsLeaf this p → IsTag this tag →
        IsPattern resolve defaults tag no_elements p
    -- a literal without a type is of the built-in type token
    an_untyped_value : {defaults : Defaults} {tag : Tag} → IsTag kind.Value tag → value_of (codes "type") tag.attributes ≡ None →
        IsPattern resolve defaults tag no_elements (value (built_in (codes "token")) tag.text)
    a_value : {defaults : Defaults} {tag : Tag} {type : TypeName} → IsTag kind.Value tag → IsType (inside defaults tag) tag type →
        IsPattern resolve defaults tag no_elements (value type tag.text)
    a_type : {defaults : Defaults} {tag : Tag} {children : Elements} {type : TypeName} {params : List Param} → IsTag kind.Data tag →
        IsType (inside defaults tag) tag type → AreParams children params no_elements →
        IsPattern resolve defaults tag children (typed type params)
    a_type_but : {defaults : Defaults} {tag except : Tag} {children within : Elements} {type : TypeName} {params : List Param}
        {p : WrittenPattern} → IsTag kind.Data tag → IsType (inside defaults tag) tag type →
        AreParams children params (element_then except within no_elements) → IsTag kind.Except except →
        IsRow resolve choice (inside (inside defaults tag) except) within p →
        IsPattern resolve defaults tag children (typed_but type params p)
    an_external : {defaults : Defaults} {tag : Tag} {file : FileReference} → IsTag kind.ExternalRef tag →
        IsReference (inside defaults tag) tag file → IsPattern resolve defaults tag no_elements (external file)
    a_grammar_of : {defaults : Defaults} {tag : Tag} {children : Elements} {items : WrittenItems} → IsTag kind.Grammar tag →
        AreItems resolve (inside defaults tag) children items → IsPattern resolve defaults tag children (grammar items)

  -- the value of an attribute: one pattern, or any text where there is none
  pub data IsAttributeValue (resolve : Resolver) : Defaults → Elements → WrittenPattern → Type 0 where
    any_value : {defaults : Defaults} → IsAttributeValue resolve defaults no_elements any_text
    this_value : {defaults : Defaults} {tag : Tag} {children : Elements} {p : WrittenPattern} → IsPattern resolve defaults tag children p →
        IsAttributeValue resolve defaults (element_then tag children no_elements) p

  -- these patterns joined, of which there is at least one
  pub data IsRow (resolve : Resolver) : (WrittenPattern → WrittenPattern → WrittenPattern) → Defaults → Elements → WrittenPattern → Type 0
    where
      row_of : {join : WrittenPattern → WrittenPattern → WrittenPattern} {defaults : Defaults} {elements : Elements}
          {first all : WrittenPattern} {more : List WrittenPattern} →
          ArePatterns resolve defaults elements (first ∷ more) → all ≡ joined join first more → IsRow resolve join defaults elements all

  pub data ArePatterns (resolve : Resolver) : Defaults → Elements → List WrittenPattern → Type 0 where
    no_pattern : {defaults : Defaults} → ArePatterns resolve defaults no_elements []
    next_pattern : {defaults : Defaults} {tag : Tag} {children rest : Elements} {p : WrittenPattern} {ps : List WrittenPattern} →
        IsPattern resolve defaults tag children p → ArePatterns resolve defaults rest ps →
        ArePatterns resolve defaults (element_then tag children rest) (p ∷ ps)

  -- ---- grammars

  -- a `start` has one pattern, a `define` one or more
  pub data IsDefinition (resolve : Resolver) : Defaults → Tag → Elements → Defined → Combine → WrittenPattern → Type 0 where
    a_start : {defaults : Defaults} {tag one : Tag} {within : Elements} {how : Combine} {p : WrittenPattern} → IsTag kind.Start tag →
        IsCombine tag how → IsPattern resolve (inside defaults tag) one within p →
        IsDefinition resolve defaults tag (element_then one within no_elements) defined.Start how p
    a_define : {defaults : Defaults} {tag : Tag} {children : Elements} {name : List ℕ} {how : Combine} {p : WrittenPattern} →
        IsTag kind.Define tag → IsCombine tag how → simple_name (codes "name") tag ≡ Some name →
        IsRow resolve group (inside defaults tag) children p → IsDefinition resolve defaults tag children (defined.Name name) how p

  pub data IsItem (resolve : Resolver) : Defaults → Tag → Elements → WrittenItem → Type 0 where
    a_definition : {defaults : Defaults} {tag : Tag} {children : Elements} {name : Defined} {how : Combine} {p : WrittenPattern} →
        IsDefinition resolve defaults tag children name how p → IsItem resolve defaults tag children (define name how p)
    a_div : {defaults : Defaults} {tag : Tag} {children : Elements} {items : WrittenItems} → IsTag kind.Div tag →
        AreItems resolve (inside defaults tag) children items → IsItem resolve defaults tag children (div items)
    an_include : {defaults : Defaults} {tag : Tag} {children : Elements} {file : FileReference} {replacements : WrittenReplacements} →
        IsTag kind.Include tag → IsReference (inside defaults tag) tag file →
        AreReplacements resolve (inside defaults tag) children replacements →
        IsItem resolve defaults tag children (include file replacements)

  pub data AreItems (resolve : Resolver) : Defaults → Elements → WrittenItems → Type 0 where
    no_more_items : {defaults : Defaults} → AreItems resolve defaults no_elements no_items
    next_item : {defaults : Defaults} {tag : Tag} {children rest : Elements} {item : WrittenItem} {items : WrittenItems} →
        IsItem resolve defaults tag children item → AreItems resolve defaults rest items →
        AreItems resolve defaults (element_then tag children rest) (item_then item items)

  -- what stands in an `include`
  pub data IsReplacement (resolve : Resolver) : Defaults → Tag → Elements → WrittenReplacement → Type 0 where
    a_definition_anew : {defaults : Defaults} {tag : Tag} {children : Elements} {name : Defined} {how : Combine} {p : WrittenPattern} →
        IsDefinition resolve defaults tag children name how p → IsReplacement resolve defaults tag children (define_anew name how p)
    a_div_anew : {defaults : Defaults} {tag : Tag} {children : Elements} {replacements : WrittenReplacements} → IsTag kind.Div tag →
        AreReplacements resolve (inside defaults tag) children replacements →
        IsReplacement resolve defaults tag children (div_anew replacements)

  pub data AreReplacements (resolve : Resolver) : Defaults → Elements → WrittenReplacements → Type 0 where
    no_more_replacements : {defaults : Defaults} → AreReplacements resolve defaults no_elements no_replacements
    next_replacement : {defaults : Defaults} {tag : Tag} {children rest : Elements} {replacement : WrittenReplacement}
        {replacements : WrittenReplacements} → IsReplacement resolve defaults tag children replacement →
        AreReplacements resolve defaults rest replacements →
        AreReplacements resolve defaults (element_then tag children rest) (replacement_then replacement replacements)
