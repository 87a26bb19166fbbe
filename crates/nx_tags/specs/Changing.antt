-- The changes that commands on tags make.
use Rattle.std.specs.Prelude.{ℕ, ◌+◌, Option, Some, None, List, [], ◌∷◌, ◌++◌, codes}
use Rattle.nx_base.specs.declared.change.Change.{Change}

-- the bytes from `from` to `to` become this text
abbrev pub replacing : ℕ → ℕ → List ℕ → Change
replacing from to text = record { from = from; to = to; text = text }

abbrev pub inserting : ℕ → List ℕ → Change
inserting at text = replacing at at text

-- the tags of an element of this written name, without attributes
abbrev pub start_tag : List ℕ → List ℕ
start_tag name = codes "<" ++ (name ++ codes ">")

abbrev pub end_tag : List ℕ → List ℕ
end_tag name = codes "</" ++ (name ++ codes ">")

-- the names of so many bytes in a tag at a place and in its end tag, if there is one, become this name: the end tag's first, so that each
-- change lies in front of the one before it
abbrev pub renaming : ℕ → Option ℕ → ℕ → List ℕ → List Change
renaming at None len name = replacing (at + 1) (at + 1 + len) name ∷ []
renaming at (Some end) len name = replacing (end + 2) (end + 2 + len) name ∷ replacing (at + 1) (at + 1 + len) name ∷ []
