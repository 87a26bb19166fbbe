-- Content types: ISO/IEC 19757-2, section 10.3.
use Rattle.std.specs.Prelude.{◌≡◌, ℕ, List}
use Rattle.rng_types.specs.declared.datatype.Datatype.{Datatype}
use Rattle.rng_types.specs.declared.datatype.Except.{Except}
use Rattle.rng_core.specs.Names.{Class}
use Rattle.rng_core.specs.Patterns.{Pattern, Definition, not_allowed, empty, any_text, typed, literal, listed}
use Rattle.rng_core.specs.Patterns.{attribute, ref, one_or_more, choice, group, interleave}
use Rattle.rng_restrict.specs.declared.content.Content.{Content}
use Rattle.rng_restrict.specs.declared.content.Content.TheVariants.{Empty, Complex, Simple}
use Rattle.rng_restrict.specs.Reaching.{IsReached}

-- content of two types can stand beside one another
pub data Groupable : Content → Content → Type 0 where
  beside_empty : {t : Content} → Groupable t Empty
  empty_beside : {t : Content} → Groupable Empty t
  both_complex : Groupable Complex Complex

-- the greater of two types, in the order empty, complex, simple
abbrev pub greater : Content → Content → Content
greater Empty t = t
greater Complex Empty = Complex
greater Complex Complex = Complex
greater Complex Simple = Simple
greater Simple t = Simple

-- a pattern has a content type
pub data HasType : Pattern → Content → Type 0 where
  value_is_simple : {type : Datatype} {text : List ℕ} → HasType (literal type text) Simple
  data_is_simple : {type : Datatype} {excepts : List Except} → HasType (typed type excepts) Simple
  list_is_simple : {p : Pattern} → HasType (listed p) Simple
  text_is_complex : HasType any_text Complex
  ref_is_complex : {i : ℕ} → HasType (ref i) Complex
  empty_is_empty : HasType empty Empty
  attribute_is_empty : {class : Class} {p : Pattern} {t : Content} → HasType p t → HasType (attribute class p) Empty
  group_has : {p q : Pattern} {s t : Content} → HasType p s → HasType q t → Groupable s t → HasType (group p q) (greater s t)
  interleave_has : {p q : Pattern} {s t : Content} → HasType p s → HasType q t → Groupable s t → HasType (interleave p q) (greater s t)
  one_or_more_has : {p : Pattern} {t : Content} → HasType p t → Groupable t t → HasType (one_or_more p) t
  choice_has : {p q : Pattern} {s t : Content} → HasType p s → HasType q t → HasType (choice p q) (greater s t)

-- an element's content is neither notAllowed nor of any type
pub record IsMixture (content : Pattern) : Type 0 where
  pub is_allowed : content ≡ not_allowed → ⊥
  pub has_no_type : (t : Content) → HasType content t → ⊥

-- and that element is reached
pub record BreaksMixture (start : Pattern) (defs : List Definition) : Type 0 where
  pub definition : Definition
  pub reached : IsReached start defs definition
  pub mixture : IsMixture definition.content
