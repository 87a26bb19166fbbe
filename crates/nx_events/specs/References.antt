-- References (XML 1.0, 4.1 and 4.6).
use Rattle.std.specs.Prelude.{ℕ, zero, suc, ◌+◌, ◌-◌, ◌&&◌, ◌==◌, nat_lt, nat_eq, if◌then◌else◌, List, [], ◌∷◌, length, take, drop}
use Rattle.std.specs.Prelude.{slice_index, Option, Some, None, codes}
use Rattle.std.specs.List.{starts_with, prefix_len}
use Rattle.std.specs.Str.{bytes_eq, byte, continuation_len}
use Rattle.std.specs.Char.{is_ascii_digit, is_ascii_hexdigit, encode_utf8}
use Rattle.std.specs.Str.Parse.{digits_value}
use Rattle.nx_base.specs.CharacterCodes.{char_of_code}
use Rattle.nx_base.specs.Characters.{is_name_start, is_name_char}
use Rattle.nx_events.specs.Utf8.{front_char}

-- how many bytes the NameChars at the front have; the first n belong to a character already counted
unfoldable pub name_chars_len : ℕ → List ℕ → ℕ
name_chars_len n [] = 0
name_chars_len (suc n) (b ∷ bytes) = suc (name_chars_len n bytes)
name_chars_len zero (b ∷ bytes) =
    if is_name_char (front_char (b ∷ bytes)) then suc (name_chars_len (continuation_len b) bytes) else 0

-- how many bytes the longest Name at the front has, and 0 where there is none (2.3 [5])
unfoldable pub name_len : List ℕ → ℕ
name_len bytes = if is_name_start (front_char bytes) then name_chars_len 0 bytes else 0

-- the length with that of the mark before it, where there is something behind the mark
abbrev pub behind_mark : ℕ → ℕ → ℕ
behind_mark mark n = if n == 0 then 0 else mark + n

-- of what stands behind `&`: how long `#x` and hexadecimal digits, `#` and digits, or a Name are
unfoldable pub reference_body_len : List ℕ → ℕ
reference_body_len bytes =
    if starts_with nat_eq bytes (codes "#x") then behind_mark 2 (prefix_len is_ascii_hexdigit (drop 2 bytes))
    else (if starts_with nat_eq bytes (codes "#") then behind_mark 1 (prefix_len is_ascii_digit (drop 1 bytes))
    else name_len bytes)

-- how many bytes belong to the reference behind its `&`: through its `;`, and none where it has no such form
unfoldable pub reference_len : List ℕ → ℕ
reference_len bytes =
    let n = reference_body_len bytes in
    if nat_lt 0 n && slice_index bytes n == byte ";" then n + 1 else 0

-- the Char that `#x` and hexadecimal digits, or `#` and digits, denote (4.1 [66])
unfoldable pub numbered : List ℕ → Option ℕ
numbered body =
    if starts_with nat_eq body (codes "#x") then char_of_code (digits_value 16 (drop 2 body))
    else (if starts_with nat_eq body (codes "#") then char_of_code (digits_value 10 (drop 1 body))
    else None)

-- the character of what stands between `&` and `;`, if it is one of the five entities or denotes a Char (4.6)
unfoldable pub character_named : List ℕ → Option ℕ
character_named body =
    if bytes_eq body (codes "lt") then Some (byte "<")
    else (if bytes_eq body (codes "gt") then Some (byte ">")
    else (if bytes_eq body (codes "amp") then Some (byte "&")
    else (if bytes_eq body (codes "apos") then Some (byte "'")
    else (if bytes_eq body (codes "quot") then Some 34
    else numbered body))))

-- the character that a reference, from its `&` through its `;`, stands for
unfoldable pub referenced : List ℕ → Option ℕ
referenced reference = character_named (take (length reference - 2) (drop 1 reference))

-- the bytes of a character, if there is one
unfoldable pub spelled : Option ℕ → List ℕ
spelled None = []
spelled (Some code) = encode_utf8 code
