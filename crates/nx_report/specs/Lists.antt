-- Lists in a sentence.
use Rattle.std.specs.Prelude.{ℕ, ◌-◌, ◌==◌, if◌then◌else◌, List, [], ◌∷◌, ◌++◌, length, take, codes}
use Rattle.std.specs.Fmt.{decimal}
use Rattle.std.specs.List.{flat_map}

-- how many items of a list are told
abbrev pub most_told : ℕ
most_told = 8

-- with a comma and a space between them
abbrev pub separated : List (List ℕ) → List ℕ
separated [] = []
separated (item ∷ items) = item ++ flat_map (λ other. codes ", " ++ other) items

-- how many there are besides, if there are any
abbrev pub more_text : ℕ → List ℕ
more_text count = if count == 0 then [] else codes " and " ++ decimal count ++ codes " more"

-- `A, B, C and 12 more`
abbrev pub listed : List (List ℕ) → List ℕ
listed items = separated (take most_told items) ++ more_text (length items - most_told)

-- a list behind the words that introduce it; nothing where it is empty
abbrev pub introduced : List ℕ → List (List ℕ) → List ℕ
introduced words [] = []
introduced words (item ∷ items) = words ++ listed (item ∷ items)
