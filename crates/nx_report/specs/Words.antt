-- The words of a detail: names as they print, and `needs`, with a space between them.
use Rattle.std.specs.Prelude.{◌≡◌, ℕ, ◌+◌, Bool, true, false, ◌==◌, not, ◌&&◌, ◌||◌, cond, List, [], ◌∷◌, ◌++◌, take, drop, map, codes}
use Rattle.std.specs.List.{list_all, flat_map}
use Rattle.nx_base.specs.PrintedNames.{name_text}
use Rattle.nx_base.specs.declared.name.Name.{Name}

-- a space between words, and none in the braces of a namespace
abbrev pub ends_word : Bool → ℕ → Bool
ends_word in_braces byte = not in_braces && (byte == 32)

-- whether braces are open behind a byte
abbrev pub in_braces_behind : Bool → ℕ → Bool
in_braces_behind in_braces byte = cond in_braces (not (byte == 125)) (byte == 123)

-- how many bytes the first word has
abbrev pub word_len : Bool → List ℕ → ℕ
word_len in_braces [] = 0
word_len in_braces (byte ∷ rest) = cond (ends_word in_braces byte) 0 (1 + word_len (in_braces_behind in_braces byte) rest)

abbrev pub first_word : List ℕ → List ℕ
first_word text = take (word_len false text) text

-- what stands behind it: nothing, or a space and the other words
abbrev pub behind_word : List ℕ → List ℕ
behind_word text = drop (word_len false text) text

-- a byte in front of the first of some words
abbrev pub onto : ℕ → List (List ℕ) → List (List ℕ)
onto byte [] = (byte ∷ []) ∷ []
onto byte (word ∷ words) = (byte ∷ word) ∷ words

-- the words of a text
abbrev pub words_in : Bool → List ℕ → List (List ℕ)
words_in in_braces [] = [] ∷ []
words_in in_braces (byte ∷ rest) =
    cond (ends_word in_braces byte) ([] ∷ words_in false rest) (onto byte (words_in (in_braces_behind in_braces byte) rest))

abbrev pub words : List ℕ → List (List ℕ)
words text = words_in false text

-- the words behind another
abbrev pub words_behind : List ℕ → List (List ℕ)
words_behind [] = []
words_behind (space ∷ text) = words text

-- what a detail `NAME needs A B ..` says is needed
abbrev pub needed_words : List ℕ → List (List ℕ)
needed_words text = drop 2 (words text)

-- not the brace that closes a namespace
abbrev pub is_no_end : ℕ → Bool
is_no_end byte = not (byte == 125)

-- neither a space nor the brace that opens a namespace
abbrev pub is_no_border : ℕ → Bool
is_no_border byte = not ((byte == 32) || (byte == 123))

-- a name that can be told from others in a detail: of those that documents have, all but the ones in a namespace with a closing brace
abbrev pub is_separable : Name → Bool
is_separable name = list_all is_no_end name.ns && list_all is_no_border name.local

-- names, each behind a space
abbrev pub spaced : List Name → List ℕ
spaced names = flat_map (λ name. codes " " ++ name_text name) names

-- so the words of a detail are the names of which it was made
pub record DetailsAreRead : Type 0 where
  pub lists : (name : Name) (others : List Name) → list_all is_separable (name ∷ others) ≡ true →
      words (name_text name ++ spaced others) ≡ map name_text (name ∷ others)
  pub needs : (name : Name) (needed : List Name) → list_all is_separable (name ∷ needed) ≡ true →
      needed_words (name_text name ++ (codes " needs" ++ spaced needed)) ≡ map name_text needed
