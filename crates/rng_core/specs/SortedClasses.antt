-- Classes that are sorted for look-ups.
use Rattle.std.specs.Prelude.{ℕ, Bool, ◌&&◌, ◌||◌, List}
use Rattle.std.specs.Borrow.{Bor}
use Rattle.std.specs.List.{list_any}
use Rattle.std.specs.Str.{bytes_eq}
use Rattle.nx_base.specs.declared.name.Name.{Name}
use Rattle.rng_core.specs.declared.name_class.NameClass.{NameClass}
use Rattle.rng_core.specs.declared.sorted_class.SortedClass.{SortedClass}
use Rattle.rng_core.specs.Names.{covers}
use Rattle.rng_core.specs.Meaning.{class_of}

-- a name is among the keys, each a namespace and a local part
unfoldable pub has_pair : List (Bor (List ℕ) × Bor (List ℕ)) → Name → Bool
has_pair keys name = list_any (λ key. bytes_eq name.ns key.0.now && bytes_eq name.local key.1.now) keys

-- one of the classes covers it
abbrev pub some_covers : List (Bor NameClass) → Name → Bool
some_covers classes name = list_any (λ class. covers (class_of class.now) name) classes

-- it is a single name of a sorted class, or covered by what else that class holds
abbrev pub covers_sorted : SortedClass → Name → Bool
covers_sorted class name = has_pair class.names.keys name || some_covers class.others.items name
