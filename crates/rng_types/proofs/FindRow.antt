-- The program's tables of types are those of the definition.
use Rattle.std.specs.Prelude.{◌≡◌, ℕ, Bool, true, false, cond, List, [], ◌∷◌, map, Option, Some}
use Rattle.std.proofs.Common.{refl}
use Rattle.std.specs.List.{find}
use Rattle.std.specs.Option.{option_map}
use Rattle.std.specs.Str.{bytes_eq}
use Rattle.rng_types.specs.declared.table.Row.{Row}
use Rattle.rng_types.specs.Table.{TypeRow}
use Rattle.rng_types.specs.Rows.{row_of}

find-case : (b : Bool) (row : Row) (found : Option Row) (more : Option TypeRow) → option_map row_of found ≡ more → option_map row_of (cond b (Some row) found) ≡ cond b (Some (row_of row)) more
find-case true row found more same = refl
find-case false row found more same = same

pub find-row_of : (name : List ℕ) (rows : List Row) → option_map row_of (find (λ (row : Row). bytes_eq row.name.now name) rows) ≡ find (λ (row : TypeRow). bytes_eq row.name name) (map row_of rows)
find-row_of name [] = refl
find-row_of name (row ∷ rows) = find-case (bytes_eq row.name.now name) row _ _ (find-row_of name rows)
