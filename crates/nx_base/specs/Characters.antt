-- The classes of characters of XML 1.0 (fifth edition), as ranges of code points with both ends.
use Rattle.std.specs.Prelude.{ℕ, Bool, false, not, ◌||◌, ◌&&◌, ◌==◌, nat_le, List, [], ◌∷◌}
use Rattle.std.specs.List.{list_all}
use Rattle.std.specs.Str.{chars, is_utf8}

-- the code point lies in one of the ranges
abbrev pub is_in : List (ℕ × ℕ) → ℕ → Bool
is_in [] c = false
is_in (range ∷ ranges) c = (nat_le range.0 c && nat_le c range.1) || is_in ranges c

-- Char, section 2.2
abbrev pub char_ranges : List (ℕ × ℕ)
char_ranges = (0x9, 0xA) ∷ (0xD, 0xD) ∷ (0x20, 0xD7FF) ∷ (0xE000, 0xFFFD) ∷ (0x10000, 0x10FFFF) ∷ []

-- S, section 2.3
abbrev pub space_ranges : List (ℕ × ℕ)
space_ranges = (0x9, 0xA) ∷ (0xD, 0xD) ∷ (0x20, 0x20) ∷ []

-- NameStartChar, section 2.3
abbrev pub name_start_ranges : List (ℕ × ℕ)
name_start_ranges =
    (0x3A, 0x3A) ∷ (0x41, 0x5A) ∷ (0x5F, 0x5F) ∷ (0x61, 0x7A) ∷ (0xC0, 0xD6) ∷ (0xD8, 0xF6)
    ∷ (0xF8, 0x2FF) ∷ (0x370, 0x37D) ∷ (0x37F, 0x1FFF) ∷ (0x200C, 0x200D) ∷ (0x2070, 0x218F)
    ∷ (0x2C00, 0x2FEF) ∷ (0x3001, 0xD7FF) ∷ (0xF900, 0xFDCF) ∷ (0xFDF0, 0xFFFD) ∷ (0x10000, 0xEFFFF) ∷ []

-- what NameChar has beside NameStartChar, section 2.3
abbrev pub further_name_ranges : List (ℕ × ℕ)
further_name_ranges = (0x2D, 0x2E) ∷ (0x30, 0x39) ∷ (0xB7, 0xB7) ∷ (0x300, 0x36F) ∷ (0x203F, 0x2040) ∷ []

unfoldable pub is_char : ℕ → Bool
is_char c = is_in char_ranges c

unfoldable pub is_space : ℕ → Bool
is_space c = is_in space_ranges c

unfoldable pub is_name_start : ℕ → Bool
is_name_start c = is_in name_start_ranges c

unfoldable pub is_name_char : ℕ → Bool
is_name_char c = is_name_start c || is_in further_name_ranges c

-- a single (39) or double (34) quote
abbrev pub is_quote : ℕ → Bool
is_quote c = c == 34 || c == 39

-- nothing but white space, or nothing at all; each such character is one byte below 128, so that bytes serve for characters
abbrev pub is_blank : List ℕ → Bool
is_blank text = list_all is_space text

-- UTF-8 whose characters XML allows
abbrev pub is_of_chars : List ℕ → Bool
is_of_chars text = is_utf8 text && list_all is_char (chars text)

-- Name, section 2.3, over characters
abbrev pub is_name : List ℕ → Bool
is_name [] = false
is_name (c ∷ cs) = is_name_start c && list_all is_name_char cs

-- NCName, Namespaces in XML 1.0, section 3, over characters: a Name without `:` (58)
abbrev pub is_nc_name : List ℕ → Bool
is_nc_name cs = is_name cs && list_all (λ c. not (c == 58)) cs
