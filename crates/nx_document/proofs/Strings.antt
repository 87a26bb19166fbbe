-- The string of characters that XML allows is of such characters.
use Rattle.std.proofs.Common.{◌≡◌, ℕ, zero, suc, ◌+◌, ◌-◌, true, Option, Some, None, List, [], ◌∷◌, length, take, drop, refl, subst, arith}
use Rattle.std.specs.Prelude.{◌==◌, slice_index, nat_eq, codes}
use Rattle.std.specs.List.{flat_map, starts_with}
use Rattle.std.specs.Str.{bytes_eq}
use Rattle.nx_base.specs.Characters.{is_char, is_space}
use Rattle.nx_events.specs.References.{numbered, character_named, referenced, spelled}
use Rattle.nx_base.specs.CharacterCodes.{char_of_code}
use Rattle.std.specs.Str.Parse.{digits_value}
use Rattle.nx_events.specs.Strings.{Piece, cut_by, piece_len, line_string_of, text_string_of, value_string_of, piece_string, string_of}
use Rattle.nx_events.specs.declared.reading.Reading.{Reading}
use Rattle.nx_events.specs.declared.reading.Reading.TheVariants.{Plain, Text, Value}
use Rattle.nx_events.proofs.Pieces.{piece_positive}
use Rattle.nx_events.proofs.Texts.{either_is, test_is}
use Rattle.nx_document.proofs.OfChars.{OfChars, of_nothing, of_both, of_one, of_plain, of_take, of_drop}
use Rattle.nx_document.proofs.Places.{piece_border}

-- what references stand for
abbrev IsNoneOrChar : Option ℕ → Type 0
IsNoneOrChar None = Unit {0}
IsNoneOrChar (Some c) = is_char c ≡ true

one_or_none : (c : ℕ) → IsNoneOrChar (char_of_code c)
unfolding char_of_code
one_or_none c = test_is IsNoneOrChar (is_char c) (Some c) None (λ h. h) (λ _. tt)

numbered_char : (body : List ℕ) → IsNoneOrChar (numbered body)
unfolding numbered
numbered_char body =
    either_is IsNoneOrChar (starts_with nat_eq body (codes "#x")) _ _ (one_or_none (digits_value 16 (drop 2 body)))
    (either_is IsNoneOrChar (starts_with nat_eq body (codes "#")) _ _ (one_or_none (digits_value 10 (drop 1 body))) tt)

named_char : (body : List ℕ) → IsNoneOrChar (character_named body)
unfolding character_named is_char
named_char body =
    either_is IsNoneOrChar (bytes_eq body (codes "lt")) (Some 60) _ refl
    (either_is IsNoneOrChar (bytes_eq body (codes "gt")) (Some 62) _ refl
    (either_is IsNoneOrChar (bytes_eq body (codes "amp")) (Some 38) _ refl
    (either_is IsNoneOrChar (bytes_eq body (codes "apos")) (Some 39) _ refl
    (either_is IsNoneOrChar (bytes_eq body (codes "quot")) (Some 34) _ refl (numbered_char body)))))

spelled_chars : (found : Option ℕ) → IsNoneOrChar found → OfChars (spelled found)
unfolding spelled
spelled_chars None h = of_nothing
spelled_chars (Some c) h = of_one c h

-- what stands for a piece
line_feed : OfChars (10 ∷ [])
unfolding is_char
line_feed = of_plain (10 ∷ []) ((refl, omega arith), tt)

blank : OfChars (32 ∷ [])
unfolding is_char
blank = of_plain (32 ∷ []) ((refl, omega arith), tt)

line_chars : (p : List ℕ) → OfChars p → OfChars (line_string_of p)
unfolding line_string_of
line_chars p o = either_is OfChars (slice_index p 0 == 13) (10 ∷ []) p line_feed o

text_chars : (p : List ℕ) → OfChars p → OfChars (text_string_of p)
unfolding text_string_of referenced
text_chars p o =
    either_is OfChars (slice_index p 0 == 38) (spelled (referenced p)) (line_string_of p)
    (spelled_chars (referenced p) (named_char (take (length p - 2) (drop 1 p)))) (line_chars p o)

value_chars : (p : List ℕ) → OfChars p → OfChars (value_string_of p)
unfolding value_string_of
value_chars p o = either_is OfChars (is_space (slice_index p 0)) (32 ∷ []) (text_string_of p) blank (text_chars p o)

piece_chars : (reading : Reading) (p : List ℕ) → OfChars p → OfChars (piece_string reading p)
piece_chars Plain p o = line_chars p o
piece_chars Text p o = text_chars p o
piece_chars Value p o = value_chars p o

pieces_chars : (reading : Reading) (n at : ℕ) (xs : List ℕ) → OfChars (drop n xs) → OfChars (flat_map (λ (p : Piece). piece_string reading p.bytes) (cut_by (piece_len reading) n at xs))
unfolding cut_by
pieces_chars reading n at [] o = of_nothing
pieces_chars reading (suc n) at (b ∷ bs) o = pieces_chars reading n (at + 1) bs o
pieces_chars reading zero at (b ∷ bs) o =
    let len = piece_len reading (b ∷ bs) in
    let some = piece_positive reading (b ∷ bs) (omega arith) in
    let border = piece_border reading b bs o.utf8 in
    let next : len ≡ suc (len - 1) = omega (arith, some) in
    of_both (piece_string reading (take len (b ∷ bs))) (flat_map (λ (p : Piece). piece_string reading p.bytes) (cut_by (piece_len reading) (len - 1) (at + 1) bs))
    (piece_chars reading (take len (b ∷ bs)) (of_take (b ∷ bs) len o border))
    (pieces_chars reading (len - 1) (at + 1) bs (subst (λ n. OfChars (drop n (b ∷ bs))) next (of_drop (b ∷ bs) len o border)))

pub string_chars : (reading : Reading) (xs : List ℕ) → OfChars xs → OfChars (string_of reading xs)
unfolding string_of
string_chars reading xs o = pieces_chars reading 0 0 xs o
