-- A text in which words are put in the places of others. As many bytes stand there as before, so all else stays at its place.
use Rattle.std.specs.Prelude.{ℕ, ◌-◌, ◌==◌, ◌||◌, nat_le, if◌then◌else◌, List, [], ◌∷◌, ◌++◌, length, map, take, drop}
use Rattle.rng_widen.specs.declared.widening.Widening.{Widening}

-- a space in place of a byte; the ends of lines, LF (10) and CR (13), stay
abbrev pub blanked : ℕ → ℕ
blanked b = if b == 10 || b == 13 then b else 32

-- a word in place of these bytes, and blanks behind it; where it is longer, the bytes stay
unfoldable pub put_in : List ℕ → List ℕ → List ℕ
put_in word bytes = if nat_le (length word) (length bytes) then word ++ map blanked (drop (length word) bytes) else bytes

-- where the place of a word begins in the last bytes of a text of so many, and how many bytes it has
abbrev pub before_place : ℕ → List ℕ → Widening → ℕ
before_place len rest one = one.from - (len - length rest)

abbrev pub place_size : Widening → ℕ
place_size one = one.to - one.from

-- the last bytes of a text of so many through the place of a word, which is put there, and what is behind it
unfoldable pub put_front : ℕ → List ℕ → Widening → List ℕ
put_front len rest one =
    take (before_place len rest one) rest ++ put_in one.word (take (place_size one) (drop (before_place len rest one) rest))

unfoldable pub put_behind : ℕ → List ℕ → Widening → List ℕ
put_behind len rest one = drop (place_size one) (drop (before_place len rest one) rest)

-- the last bytes of a text of so many, with the words put in their places, in order
unfoldable pub put_from : ℕ → List ℕ → List Widening → List ℕ
put_from len rest [] = rest
put_from len rest (one ∷ more) = put_front len rest one ++ put_from len (put_behind len rest one) more

-- the text with the words put in their places
unfoldable pub put_all : List ℕ → List Widening → List ℕ
put_all text widenings = put_from (length text) text widenings
