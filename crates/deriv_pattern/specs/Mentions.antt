-- Names that the classes of a pattern's attributes mention, so far as an attribute of one may be needed.
use Rattle.std.specs.Prelude.{◌++◌, List, []}
use Rattle.nx_base.specs.declared.name.Name.{Name}
use Rattle.rng_core.specs.Patterns.{Pattern, not_allowed, empty, any_text, typed, literal, listed, attribute, ref}
use Rattle.rng_core.specs.Patterns.{one_or_more, choice, group, interleave}
use Rattle.rng_kept.specs.Needed.{class_names}

-- those of the attributes of a pattern; of a choice the one side suffices, since what is needed is needed by each side
abbrev pub names_of : Pattern → List Name
names_of not_allowed = []
names_of empty = []
names_of any_text = []
names_of (typed type excepts) = []
names_of (literal type text) = []
names_of (listed p) = []
names_of (attribute class p) = class_names class
names_of (ref i) = []
names_of (one_or_more p) = names_of p
names_of (choice p q) = names_of p
names_of (group p q) = names_of p ++ names_of q
names_of (interleave p q) = names_of p ++ names_of q
