-- Comments and processing instructions (XML 1.0, 2.5 and 2.6; Namespaces in XML 1.0, section 7).
use Rattle.std.specs.Prelude.{ℕ, ◌-◌, Bool, false, not, ◌&&◌, ◌||◌, ◌==◌, nat_eq, List, [], ◌∷◌, length, take, drop, slice_index}
use Rattle.std.specs.Prelude.{slice_index_or, codes}
use Rattle.std.specs.List.{starts_with, list_any}
use Rattle.std.specs.Str.{byte, str_eq_ignore_ascii_case}
use Rattle.nx_base.specs.Characters.{is_space}
use Rattle.nx_events.specs.References.{name_len}

-- some `-` is the last or has another behind it (2.5 [15])
unfoldable pub has_loose_hyphen : List ℕ → Bool
has_loose_hyphen [] = false
has_loose_hyphen (b ∷ bytes) =
    (b == byte "-" && slice_index_or bytes 0 (byte "-") == byte "-") || has_loose_hyphen bytes

-- the content between `<!--` and `-->` has `--`, or ends with `-`
unfoldable pub is_bad_comment : List ℕ → Bool
is_bad_comment bytes = has_loose_hyphen (take (length bytes - 7) (drop 4 bytes))

-- what stands behind a target: white space, or the end (2.6 [16])
abbrev pub ends_target : List ℕ → Bool
ends_target bytes = is_space (slice_index bytes 0) || starts_with nat_eq bytes (codes "?>")

-- behind `<?` stands a Name without a colon that isn't `xml`, and then white space or the end (2.6 [16] and [17]; Namespaces, 7)
abbrev pub is_target_of_length : ℕ → List ℕ → Bool
is_target_of_length n bytes =
    not (n == 0) && not (list_any (λ b. b == byte ":") (take n bytes))
    && not (str_eq_ignore_ascii_case (take n bytes) (codes "xml")) && ends_target (drop n bytes)

unfoldable pub is_bad_pi : List ℕ → Bool
is_bad_pi bytes = not (is_target_of_length (name_len (drop 2 bytes)) (drop 2 bytes))
