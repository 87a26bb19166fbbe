-- What the elements, contexts and classes of the program say.
use Rattle.std.specs.Prelude.{ℕ, List, [], ◌∷◌, Option, Some, None, map, reverse, option_copied}
use Rattle.std.specs.Option.{option_map}
use Rattle.rnc_parse.specs.declared.surface.NameClass.{NameClass}
use Rattle.rnc_parse.specs.declared.surface.Namespace.{Namespace}
use Rattle.rnc_parse.specs.declared.surface.Namespace.TheVariants.{Inherited, Uri}
use Rattle.rnc_parse.specs.declared.surface.Pattern.{Pattern}
use Rattle.rnc_parse.specs.Views.{class_of, pattern_of}
use Rattle.rnc_parse.specs.Written.{WrittenClass, WrittenPattern}
use Rattle.rngx_read.specs.declared.build.Builder.{Builder}
use Rattle.rngx_read.specs.declared.build.Open.{Open}
use Rattle.rngx_read.specs.declared.defaults.Defaults.{Defaults as TheDefaults}
use Rattle.rngx_read.specs.declared.element.Element.{Element, out-Element}
use Rattle.rngx_read.specs.declared.element.Element as elements
use Rattle.rngx_read.specs.declared.element.Tag.{Tag}
use Rattle.rngx_read.specs.declared.pattern.Parts.{Parts as TheParts}
use Rattle.rngx_read.specs.Building.{Frame, Built}
use Rattle.rngx_read.specs.Defaults.{Defaults}
use Rattle.rngx_read.specs.Elements.{Elements, no_elements, element_then}
use Rattle.rngx_read.specs.ReadingPatterns.{Parts}

-- the nearest `ns`, or the inherited namespace
abbrev pub namespace_or : Option (List ℕ) → Namespace
namespace_or None = Inherited
namespace_or (Some uri) = Uri uri

abbrev pub defaults_of : TheDefaults → Defaults
defaults_of defaults = record { namespace = namespace_or (option_copied defaults.namespace); library = defaults.library.now }

abbrev pub tag_of : Element → Tag
tag_of element = (out-Element element).tag

abbrev mutual
  pub children_of : Element → Elements
  children_of (elements.Element' tag at shape row) = elements_of_row row

  pub elements_of_row : {n : _} → elements.Row_of-Element n → Elements
  elements_of_row elements.end_of-Element = no_elements
  elements_of_row (elements.more_of-Element first row) = element_then (tag_of first) (children_of first) (elements_of_row row)

-- elements of a list, in order
abbrev pub listed : List Element → Elements
listed [] = no_elements
listed (first ∷ more) = element_then (tag_of first) (children_of first) (listed more)

abbrev pub classes_of : List NameClass → List WrittenClass
classes_of classes = map class_of classes

abbrev pub patterns_of : List Pattern → List WrittenPattern
patterns_of patterns = map pattern_of patterns

abbrev pub parts_of : TheParts → Parts
parts_of parts = record { params = parts.params; except = option_map pattern_of parts.except }

-- an open element, and what the builder holds: its lists stand the other way round there
abbrev pub frame_of : Open → Frame
frame_of frame = record { tag = frame.tag; children = listed frame.children.items }

abbrev pub built_of : Builder → Built
built_of builder = record {
  inner = frame_of builder.inner;
  outer = map frame_of (reverse builder.outer.items);
  passed = builder.passed;
  declared = reverse builder.declared.items;
}
