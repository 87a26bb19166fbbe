-- Grammars whose references, literals, excepts and texts are in order.
use Rattle.std.specs.Prelude.{ℕ, ◌<◌, ◌≤◌, ◌^◌, List, length, IsTrue}
use Rattle.std.specs.List.{list_all, AllByRecursion}
use Rattle.std.specs.Str.{is_utf8}
use Rattle.nx_base.specs.Characters.{is_of_chars}
use Rattle.nx_base.specs.declared.name.Name.{Name}
use Rattle.rng_types.specs.Types.{Accepts}
use Rattle.rng_types.specs.WellMade.{is_well_made, is_sound_except}
use Rattle.rng_types.specs.declared.datatype.Datatype.{Datatype}
use Rattle.rng_types.specs.declared.datatype.Except.{Except}
use Rattle.rng_types.specs.declared.datatype.Except.TheVariants.{Own, BuiltinString, BuiltinToken}
use Rattle.rng_core.specs.declared.grammar.Grammar.{Grammar}
use Rattle.rng_core.specs.Names.{Class, any_name, ns_name, the_name, either, without}
use Rattle.rng_core.specs.Patterns.{Pattern, Definition, not_allowed, empty, any_text, typed, literal, listed}
use Rattle.rng_core.specs.Patterns.{attribute, ref, one_or_more, choice, group, interleave}
use Rattle.rng_core.specs.Meaning.{pattern_of, definitions_of}

-- the namespaces and names that are written in a class are UTF-8
pub data IsSoundClass : Class → Type 0 where
  sound_any_name : IsSoundClass any_name
  sound_ns_name : {ns : List ℕ} → IsTrue (is_utf8 ns) → IsSoundClass (ns_name ns)
  sound_name : {name : Name} → IsTrue (is_utf8 name.ns) → IsTrue (is_utf8 name.local) → IsSoundClass (the_name name)
  sound_either : {c d : Class} → IsSoundClass c → IsSoundClass d → IsSoundClass (either c d)
  sound_without : {c d : Class} → IsSoundClass c → IsSoundClass d → IsSoundClass (without c d)

-- an except's text is UTF-8, and a value of the type itself is accepted by it
abbrev pub IsSoundExcept : Datatype → Except → Type 0
IsSoundExcept type (Own text) = IsTrue (is_utf8 text) × Accepts type text
IsSoundExcept type (BuiltinString text) = IsTrue (is_utf8 text)
IsSoundExcept type (BuiltinToken text) = IsTrue (is_utf8 text)

-- each reference names one of so many definitions, each type is well made, each literal is of its type and of characters
-- that XML allows, no type has more than 128 excepts, each of them sound, and each class is sound
pub data IsSoundPattern (count : ℕ) : Pattern → Type 0 where
  sound_not_allowed : IsSoundPattern count not_allowed
  sound_empty : IsSoundPattern count empty
  sound_text : IsSoundPattern count any_text
  sound_data : {type : Datatype} {excepts : List Except} → IsTrue (is_well_made type) → length excepts ≤ 128 →
      AllByRecursion (IsSoundExcept type) excepts → IsSoundPattern count (typed type excepts)
  sound_value : {type : Datatype} {text : List ℕ} → IsTrue (is_well_made type) → Accepts type text → IsTrue (is_of_chars text) →
      IsSoundPattern count (literal type text)
  sound_list : {p : Pattern} → IsSoundPattern count p → IsSoundPattern count (listed p)
  sound_attribute : {class : Class} {p : Pattern} → IsSoundClass class → IsSoundPattern count p → IsSoundPattern count (attribute class p)
  sound_ref : {i : ℕ} → i < count → IsSoundPattern count (ref i)
  sound_one_or_more : {p : Pattern} → IsSoundPattern count p → IsSoundPattern count (one_or_more p)
  sound_choice : {p q : Pattern} → IsSoundPattern count p → IsSoundPattern count q → IsSoundPattern count (choice p q)
  sound_group : {p q : Pattern} → IsSoundPattern count p → IsSoundPattern count q → IsSoundPattern count (group p q)
  sound_interleave : {p q : Pattern} → IsSoundPattern count p → IsSoundPattern count q → IsSoundPattern count (interleave p q)

-- a definition's names and its content are sound
pub record IsSoundDefinition (count : ℕ) (d : Definition) : Type 0 where
  pub class_is : IsSoundClass d.class
  pub content_is : IsSoundPattern count d.content

-- fewer than 2^32 definitions, and each of them sound, as the start is
pub record IsSoundGrammar (start : Pattern) (defs : List Definition) : Type 0 where
  pub few : length defs < 2 ^ 32
  pub start_is : IsSoundPattern (length defs) start
  pub definitions_are : AllByRecursion (IsSoundDefinition (length defs)) defs

abbrev pub IsSound : Grammar → Type 0
IsSound grammar = IsSoundGrammar (pattern_of grammar.start) (definitions_of grammar)

-- the excepts of a sound pattern are sound as the members of a type ask for
abbrev pub SoundExceptsSuit : Type 0
SoundExceptsSuit = (type : Datatype) (excepts : List Except) → AllByRecursion (IsSoundExcept type) excepts →
    IsTrue (list_all (is_sound_except type) excepts)
