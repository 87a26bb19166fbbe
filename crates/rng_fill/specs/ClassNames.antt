-- Names that are tried of a class. Nothing here is needed to believe what is answered.
use Rattle.std.specs.Prelude.{◌≡◌, ℕ, max, true, false, List, Option, None, Some, length, IsTrue}
use Rattle.nx_base.specs.declared.name.Name.{Name}
use Rattle.rng_core.specs.Names.{Class, any_name, ns_name, the_name, either, without}
use Rattle.rng_core.specs.declared.name_class.Bearer.{Bearer}
use Rattle.rng_kept.specs.Mentioned.{class_mentions, class_mentions_ns}
use Rattle.rng_fill.specs.Strings.{has_name_as}

-- how long the longest namespace or local part is that a class mentions
abbrev pub longest : Class → ℕ
longest any_name = 0
longest (ns_name ns) = length ns
longest (the_name n) = max (length n.ns) (length n.local)
longest (either c d) = max (longest c) (longest d)
longest (without c d) = max (longest c) (longest d)

-- a class has none of the names that a part of it mentions
abbrev pub HasNoneOf : Bearer → Class → Class → Type 0
HasNoneOf bearer class part = (n : Name) → class_mentions part n ≡ true → has_name_as bearer class n ≡ false

-- it has none with this local part in a namespace that the part mentions
abbrev pub HasNoneWith : Bearer → Class → List ℕ → Class → Type 0
HasNoneWith bearer class local part = (ns : List ℕ) → class_mentions_ns part ns ≡ true
    → has_name_as bearer class (record { ns = ns; local = local }) ≡ false

-- a name that it has; none only where the premise holds
abbrev pub IsNameElse : Type 0 → Bearer → Class → Option Name → Type 0
IsNameElse none bearer class None = none
IsNameElse none bearer class (Some name) = IsTrue (has_name_as bearer class name)
