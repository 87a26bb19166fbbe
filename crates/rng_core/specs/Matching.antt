-- What a pattern matches: ISO/IEC 19757-2, section 9.3. Attributes are a set with distinct names, children a list.
use Rattle.std.specs.Prelude.{◌≡◌, ℕ, List, [], ◌∷◌, Some, slice_get, IsTrue}
use Rattle.std.specs.List.{AllByRecursion}
use Rattle.nx_base.specs.declared.name.Name.{Name}
use Rattle.nx_base.specs.Characters.{is_blank}
use Rattle.rng_types.specs.Spaces.{words}
use Rattle.rng_types.specs.Types.{Accepts, SameValue, TakesAway}
use Rattle.rng_types.specs.declared.datatype.Datatype.{Datatype}
use Rattle.rng_types.specs.declared.datatype.Except.{Except}
use Rattle.rng_core.specs.Names.{Class, has_name, has_attribute_name}
use Rattle.rng_core.specs.Patterns.{Pattern, Definition, empty, any_text, typed, literal, listed, attribute, ref}
use Rattle.rng_core.specs.Patterns.{one_or_more, choice, group, interleave}
use Rattle.nx_base.specs.Trees.{Attribute, Children, nil, string, element, without_blanks, strings}

-- a set of attributes is split: each goes to one side
pub data Split : List Attribute → List Attribute → List Attribute → Type 0 where
  no_attribute : Split [] [] []
  to_first : {a : Attribute} {all one other : List Attribute} → Split all one other → Split (a ∷ all) (a ∷ one) other
  to_second : {a : Attribute} {all one other : List Attribute} → Split all one other → Split (a ∷ all) one (a ∷ other)

-- children are split in order: those of one side, and then those of the other
pub data InOrder : Children → Children → Children → Type 0 where
  then_second : {other : Children} → InOrder other nil other
  string_of_first : {text : List ℕ} {all one other : Children} → InOrder all one other → InOrder (string text all) (string text one) other
  element_of_first : {n : Name} {a : List Attribute} {k all one other : Children} →
      InOrder all one other → InOrder (element n a k all) (element n a k one) other

-- children are split as a shuffle: each goes to one side, and on each side they keep their order
pub data Shuffle : Children → Children → Children → Type 0 where
  no_child : Shuffle nil nil nil
  string_to_first : {text : List ℕ} {all one other : Children} → Shuffle all one other → Shuffle (string text all) (string text one) other
  string_to_second : {text : List ℕ} {all one other : Children} → Shuffle all one other → Shuffle (string text all) one (string text other)
  element_to_first : {n : Name} {a : List Attribute} {k all one other : Children} →
      Shuffle all one other → Shuffle (element n a k all) (element n a k one) other
  element_to_second : {n : Name} {a : List Attribute} {k all one other : Children} →
      Shuffle all one other → Shuffle (element n a k all) one (element n a k other)

-- strings alone, or nothing
pub data AreStrings : Children → Type 0 where
  no_string : AreStrings nil
  one_string : {text : List ℕ} {rest : Children} → AreStrings rest → AreStrings (string text rest)

-- an element's children as a content may see them: as they stand, without all blank strings, or, where there are
-- none, as one empty string. The standard drops blank strings one by one; under its restrictions the trees that a
-- pattern matches are the same, of trees in which no two strings stand side by side, as the standard has them
pub data Weakly : Children → Children → Type 0 where
  as_they_stand : {children : Children} → Weakly children children
  with_blanks_left_out : {children : Children} → Weakly children (without_blanks children)
  as_one_empty_string : Weakly nil (string [] nil)

-- the pattern matches the attributes and the children, where references name these definitions
pub data Matches (defs : List Definition) : Pattern → List Attribute → Children → Type 0 where
  -- 9.3.1, choice: either side
  by_first : {p q : Pattern} {a : List Attribute} {c : Children} → Matches defs p a c → Matches defs (choice p q) a c
  by_second : {p q : Pattern} {a : List Attribute} {c : Children} → Matches defs q a c → Matches defs (choice p q) a c
  -- 9.3.2, group: the attributes as a set, the children in order
  by_group : {p q : Pattern} {a a1 a2 : List Attribute} {c c1 c2 : Children} →
      Split a a1 a2 → InOrder c c1 c2 → Matches defs p a1 c1 → Matches defs q a2 c2 →
      Matches defs (group p q) a c
  -- 9.3.3, empty: nothing at all
  by_empty : Matches defs empty [] nil
  -- 9.3.4, text: any strings
  by_text : {c : Children} → AreStrings c → Matches defs any_text [] c
  -- 9.3.5, oneOrMore: one part, or one and then more
  by_one : {p : Pattern} {a : List Attribute} {c : Children} → Matches defs p a c → Matches defs (one_or_more p) a c
  by_more : {p : Pattern} {a a1 a2 : List Attribute} {c c1 c2 : Children} →
      Split a a1 a2 → InOrder c c1 c2 → Matches defs p a1 c1 → Matches defs (one_or_more p) a2 c2 →
      Matches defs (one_or_more p) a c
  -- 9.3.6, interleave: the attributes as a set, the children as a shuffle
  by_interleave : {p q : Pattern} {a a1 a2 : List Attribute} {c c1 c2 : Children} →
      Split a a1 a2 → Shuffle c c1 c2 → Matches defs p a1 c1 → Matches defs q a2 c2 →
      Matches defs (interleave p q) a c
  -- 9.3.7, element: one element with a name of the class, whose attributes and children match weakly
  by_element : {i : ℕ} {d : Definition} {n : Name} {a : List Attribute} {k k' : Children} →
      slice_get defs i ≡ Some d → IsTrue (has_name d.class n) → Weakly k k' → Matches defs d.content a k' →
      Matches defs (ref i) [] (element n a k nil)
  -- 9.3.7, attribute: one attribute with a name of the class that an attribute can have, whose value matches as one string, or, where it
  -- is blank, as nothing
  by_attribute : {class : Class} {p : Pattern} {a : Attribute} →
      IsTrue (has_attribute_name class a.name) → Matches defs p [] (string a.value nil) →
      Matches defs (attribute class p) (a ∷ []) nil
  by_blank_attribute : {class : Class} {p : Pattern} {a : Attribute} →
      IsTrue (has_attribute_name class a.name) → IsTrue (is_blank a.value) → Matches defs p [] nil →
      Matches defs (attribute class p) (a ∷ []) nil
  -- 9.3.8, data: one string of the type that no except takes away
  by_data : {type : Datatype} {excepts : List Except} {text : List ℕ} →
      Accepts type text → AllByRecursion (λ except. TakesAway type text except → ⊥) excepts →
      Matches defs (typed type excepts) [] (string text nil)
  -- 9.3.8, value: one string of the type with the literal's value
  by_value : {type : Datatype} {text wanted : List ℕ} →
      Accepts type text → SameValue type text wanted → Matches defs (literal type wanted) [] (string text nil)
  -- 9.3.10, list: one string whose words match, as strings
  by_list : {p : Pattern} {text : List ℕ} → Matches defs p [] (strings (words text)) → Matches defs (listed p) [] (string text nil)
