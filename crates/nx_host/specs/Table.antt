-- Files in memory, as a finite map from URI texts to bytes.
use Rattle.std.specs.Prelude.{ℕ, List, map, String, string_bytes}
use Rattle.std.specs.Cmp.Lexicographic.{slice_cmp}
use Rattle.std.specs.Coded.{Coded, coded_ℕ, coded_list}
use Rattle.std.specs.FinMap as fin
use Rattle.std.specs.Ordering.{nat_cmp}

-- a finite map from texts to bytes; the texts are in the order of their bytes
abbrev pub Table : Type 0
Table = fin.FinMap (slice_cmp nat_cmp) (List ℕ)

-- how the logic stores one
abbrev pub table_code : Coded Table
table_code = fin.code (coded_list coded_ℕ) (coded_list coded_ℕ)

-- the entries of a map from strings, with the strings as their bytes
abbrev pub text_entries : {A X : Type 0} → List (String A × X) → List (List ℕ × X)
text_entries entries = map (λ entry. (string_bytes entry.0, entry.1)) entries
