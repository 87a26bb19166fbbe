-- Names in the details of faults.
use Rattle.std.specs.Prelude.{ℕ, List, [], ◌∷◌, ◌++◌, codes}
use Rattle.std.specs.List.{flat_map}
use Rattle.nx_base.specs.PrintedNames.{name_text}
use Rattle.nx_base.specs.declared.name.Name.{Name}

-- names, each behind a space
abbrev pub further_text : List Name → List ℕ
further_text names = flat_map (λ name. codes " " ++ name_text name) names

-- names, separated by a space
abbrev pub names_text : List Name → List ℕ
names_text [] = []
names_text (name ∷ others) = name_text name ++ further_text others

-- what is needed, if anything is, behind its word
abbrev pub needed_text : List Name → List ℕ
needed_text [] = []
needed_text (name ∷ others) = codes " needs" ++ further_text (name ∷ others)

-- a name, and what is needed
abbrev pub needs_text : Name → List Name → List ℕ
needs_text name needed = name_text name ++ needed_text needed
