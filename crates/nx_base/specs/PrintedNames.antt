-- Names as they print.
use Rattle.std.specs.Prelude.{ℕ, List, [], ◌∷◌, ◌++◌, codes}
use Rattle.nx_base.specs.declared.name.Name.{Name}

-- a namespace in braces, where there is one
abbrev pub braced : List ℕ → List ℕ
braced [] = []
braced (byte ∷ bytes) = codes "{" ++ ((byte ∷ bytes) ++ codes "}")

-- a name as it prints: its local part, behind its namespace in braces
abbrev pub name_text : Name → List ℕ
name_text name = braced name.ns ++ name.local
