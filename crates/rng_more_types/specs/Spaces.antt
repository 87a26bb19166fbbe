-- White space at the ends of a text and inside. Each such character is one byte below 128, so that bytes serve for characters.
use Rattle.std.specs.Prelude.{ℕ, Bool, not, ◌==◌, ◌&&◌, ◌||◌, if◌then◌else◌, List, [], ◌∷◌, length, drop}
use Rattle.std.specs.List.{prefix_len, filter, list_all}

-- a space (32), tab (9), line feed (10) or carriage return (13)
abbrev pub is_space : ℕ → Bool
is_space c = c == 32 || (c == 9 || (c == 10 || c == 13))

abbrev pub is_no_space : ℕ → Bool
is_no_space c = not (is_space c)

-- nothing but white space
abbrev pub is_blank : List ℕ → Bool
is_blank text = list_all is_space text

-- a list without those at its end that pass a test
abbrev pub without_trailing : (ℕ → Bool) → List ℕ → List ℕ
without_trailing test [] = []
without_trailing test (c ∷ cs) =
    if test c && length (without_trailing test cs) == 0 then [] else c ∷ without_trailing test cs

-- a text without white space at its ends
unfoldable pub trimmed : List ℕ → List ℕ
trimmed text = without_trailing is_space (drop (prefix_len is_space text) text)

-- a text without white space
abbrev pub unspaced : List ℕ → List ℕ
unspaced text = filter is_no_space text
