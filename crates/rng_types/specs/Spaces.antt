-- White space in a text. Each such character is one byte below 128, so that bytes serve for characters.
use Rattle.std.specs.Prelude.{ℕ, Bool, not, ◌==◌, if◌then◌else◌, List, map, length}
use Rattle.std.specs.List.{slice_split, filter, join_with_byte}
use Rattle.nx_base.specs.Characters.{is_space}
use Rattle.rng_types.specs.declared.kind.Whitespace.{Whitespace}
use Rattle.rng_types.specs.declared.kind.Whitespace.TheVariants.{Preserve, Replace, Collapse}

-- there is something
abbrev pub is_some_text : List ℕ → Bool
is_some_text text = not (length text == 0)

-- the words of a text: what stands between white space
abbrev pub words : List ℕ → List (List ℕ)
words text = filter is_some_text (slice_split is_space text)

-- each white space as a space (32)
abbrev pub replaced_char : ℕ → ℕ
replaced_char c = if is_space c then 32 else c

abbrev pub replaced : List ℕ → List ℕ
replaced text = map replaced_char text

-- the words with one space between each two
abbrev pub collapsed : List ℕ → List ℕ
collapsed text = join_with_byte 32 (words text)

-- the text after a type's treatment of white space: XML Schema Part 2, section 4.3.6
abbrev pub normalized : Whitespace → List ℕ → List ℕ
normalized Preserve text = text
normalized Replace text = replaced text
normalized Collapse text = collapsed text
