-- Prohibited paths: ISO/IEC 19757-2, section 10.2. A path a//b is a pattern b that stands below a pattern a.
use Rattle.std.specs.Prelude.{ℕ, List, ◌⊎◌}
use Rattle.rng_types.specs.declared.datatype.Datatype.{Datatype}
use Rattle.rng_types.specs.declared.datatype.Except.{Except}
use Rattle.rng_core.specs.Names.{Class}
use Rattle.rng_core.specs.Patterns.{Pattern, Definition, empty, any_text, typed, literal, listed, attribute, ref}
use Rattle.rng_core.specs.Patterns.{one_or_more, group, interleave}
use Rattle.rng_restrict.specs.Standing.{Stands}
use Rattle.rng_restrict.specs.Reaching.{Somewhere}

-- a prohibited path stands in a pattern
pub data HasPath (p : Pattern) : Type 0 where
  -- 10.2.2: attribute//attribute, attribute//ref
  attribute_below_attribute : {c d : Class} {body inner : Pattern} →
      Stands (attribute c body) p → Stands (attribute d inner) body → HasPath p
  ref_below_attribute : {c : Class} {body : Pattern} {i : ℕ} → Stands (attribute c body) p → Stands (ref i) body → HasPath p
  -- 10.2.3: oneOrMore//group//attribute, oneOrMore//interleave//attribute
  attribute_below_repeated_group : {r a b body : Pattern} {c : Class} →
      Stands (one_or_more r) p → Stands (group a b) r → Stands (attribute c body) (group a b) → HasPath p
  attribute_below_repeated_interleave : {r a b body : Pattern} {c : Class} →
      Stands (one_or_more r) p → Stands (interleave a b) r → Stands (attribute c body) (interleave a b) → HasPath p
  -- 10.2.4: list//list, list//ref, list//attribute, list//text, list//interleave
  list_below_list : {body inner : Pattern} → Stands (listed body) p → Stands (listed inner) body → HasPath p
  ref_below_list : {body : Pattern} {i : ℕ} → Stands (listed body) p → Stands (ref i) body → HasPath p
  attribute_below_list : {body inner : Pattern} {c : Class} → Stands (listed body) p → Stands (attribute c inner) body → HasPath p
  text_below_list : {body : Pattern} → Stands (listed body) p → Stands any_text body → HasPath p
  interleave_below_list : {body a b : Pattern} → Stands (listed body) p → Stands (interleave a b) body → HasPath p

-- 10.2.6: a pattern stands in the start that mustn't
pub data HasStartPath (start : Pattern) : Type 0 where
  attribute_in_start : {c : Class} {body : Pattern} → Stands (attribute c body) start → HasStartPath start
  data_in_start : {type : Datatype} {excepts : List Except} → Stands (typed type excepts) start → HasStartPath start
  value_in_start : {type : Datatype} {text : List ℕ} → Stands (literal type text) start → HasStartPath start
  text_in_start : Stands any_text start → HasStartPath start
  list_in_start : {body : Pattern} → Stands (listed body) start → HasStartPath start
  group_in_start : {a b : Pattern} → Stands (group a b) start → HasStartPath start
  interleave_in_start : {a b : Pattern} → Stands (interleave a b) start → HasStartPath start
  one_or_more_in_start : {r : Pattern} → Stands (one_or_more r) start → HasStartPath start
  empty_in_start : Stands empty start → HasStartPath start

abbrev pub BreaksPath : Pattern → List Definition → Type 0
BreaksPath start defs = HasStartPath start ⊎ Somewhere HasPath start defs
