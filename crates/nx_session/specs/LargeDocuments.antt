-- Large documents that are made from two numbers: a seed, and how many pieces they have.
use Rattle.std.specs.Prelude.{ℕ, zero, suc, ◌+◌, ◌*◌, ◌/◌, ◌%◌, ◌==◌, List, [], ◌++◌, codes, if◌then◌else◌}
use Rattle.std.specs.Fmt.{decimal}

-- the number behind this one
abbrev pub next_number : ℕ → ℕ
next_number x = (x * 1103515245 + 12345) % 2147483648

-- the seed, and the numbers behind it, counted from 0
unfoldable pub number_at : ℕ → ℕ → ℕ
number_at seed zero = seed
number_at seed (suc i) = next_number (number_at seed i)

-- every hundredth piece begins with a comment of its index
abbrev pub comment_text : ℕ → List ℕ
comment_text i = if i % 100 == 0 then codes "<!--" ++ decimal i ++ codes "-->" else []

-- a paragraph of the number's digits, of which every other has them in an element of their own
abbrev pub paragraph_text : ℕ → List ℕ
paragraph_text x =
    if (x / 65536) % 2 == 0 then codes "<para>w<em>" ++ decimal x ++ codes "</em></para>\n"
    else codes "<para>" ++ decimal x ++ codes "</para>\n"

-- the piece of this index
abbrev pub piece_text : ℕ → ℕ → List ℕ
piece_text seed i = comment_text i ++ paragraph_text (number_at seed (suc i))

-- the first pieces, so many of them
unfoldable pub pieces_text : ℕ → ℕ → List ℕ
pieces_text seed zero = []
pieces_text seed (suc i) = pieces_text seed i ++ piece_text seed i

-- what stands in front of the pieces
unfoldable pub opening_text : ℕ → List ℕ
opening_text seed = codes "<doc id='g'><title>" ++ decimal seed ++ codes "</title>"

-- the whole document
abbrev pub large_document : ℕ → ℕ → List ℕ
large_document seed pieces = opening_text seed ++ pieces_text seed pieces ++ codes "</doc>"
