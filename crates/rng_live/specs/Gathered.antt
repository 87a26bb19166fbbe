-- Names that classes mention, and literals that stand in patterns, as a walk finds them: as often as they stand there.
use Rattle.std.specs.Prelude.{ℕ, List, [], ◌∷◌, ◌++◌}
use Rattle.nx_base.specs.declared.name.Name.{Name}
use Rattle.rng_types.specs.declared.datatype.Datatype.{Datatype}
use Rattle.rng_core.specs.Names.{Class, any_name, ns_name, the_name, either, without}
use Rattle.rng_core.specs.Patterns.{Pattern, Definition, not_allowed, empty, any_text, typed, literal, listed, attribute, ref, one_or_more}
use Rattle.rng_core.specs.Patterns.{choice, group, interleave}
use Rattle.rng_live.specs.declared.gathering.Asked.{Asked}
use Rattle.rng_live.specs.declared.gathering.Asked.TheVariants.{Names, Namespaces}

-- a namespace as a name with an empty local part
abbrev pub bare : List ℕ → Name
bare ns = record { ns = ns; local = [] }

-- what is found in a class of a whole namespace, and in a class of one name, behind what was found before
abbrev pub with_namespace : Asked → List ℕ → List Name → List Name
with_namespace Names ns found = found
with_namespace Namespaces ns found = found ++ bare ns ∷ []

abbrev pub with_name : Asked → Name → List Name → List Name
with_name Names n found = found ++ n ∷ []
with_name Namespaces n found = found ++ bare n.ns ∷ []

-- in any class
abbrev pub with_class : Asked → Class → List Name → List Name
with_class asked any_name found = found
with_class asked (ns_name ns) found = with_namespace asked ns found
with_class asked (the_name n) found = with_name asked n found
with_class asked (either c d) found = with_class asked c (with_class asked d found)
with_class asked (without c d) found = with_class asked c (with_class asked d found)

-- in the classes of the attributes of a pattern
abbrev pub with_attributes : Asked → Pattern → List Name → List Name
with_attributes asked not_allowed found = found
with_attributes asked empty found = found
with_attributes asked any_text found = found
with_attributes asked (typed type excepts) found = found
with_attributes asked (literal type text) found = found
with_attributes asked (listed p) found = found
with_attributes asked (attribute class p) found = with_class asked class found
with_attributes asked (ref i) found = found
with_attributes asked (one_or_more p) found = with_attributes asked p found
with_attributes asked (choice p q) found = with_attributes asked q (with_attributes asked p found)
with_attributes asked (group p q) found = with_attributes asked q (with_attributes asked p found)
with_attributes asked (interleave p q) found = with_attributes asked q (with_attributes asked p found)

-- in the classes of a definition
abbrev pub with_definition : Asked → Definition → List Name → List Name
with_definition asked d found = with_attributes asked d.content (with_class asked d.class found)

-- the literals of a pattern
abbrev pub with_literals : Pattern → List (List ℕ) → List (List ℕ)
with_literals not_allowed found = found
with_literals empty found = found
with_literals any_text found = found
with_literals (typed type excepts) found = found
with_literals (literal type text) found = found ++ text ∷ []
with_literals (listed p) found = with_literals p found
with_literals (attribute class p) found = with_literals p found
with_literals (ref i) found = found
with_literals (one_or_more p) found = with_literals p found
with_literals (choice p q) found = with_literals q (with_literals p found)
with_literals (group p q) found = with_literals q (with_literals p found)
with_literals (interleave p q) found = with_literals q (with_literals p found)
