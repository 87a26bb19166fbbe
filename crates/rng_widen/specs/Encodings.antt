-- The encoding that the XML declaration of an ASCII text names (XML 1.0, 2.8 and 4.3.3): such a text says in each encoding of which ASCII is
-- a part what it says in UTF-8.
use Rattle.std.specs.Prelude.{ℕ, ◌+◌, ◌-◌, ◌==◌, ◌&&◌, ◌||◌, nat_lt, Bool, not, if◌then◌else◌, List, [], ◌∷◌, length, take, drop, codes}
use Rattle.std.specs.Char.{is_ascii_digit}
use Rattle.std.specs.List.{list_all, prefix_len}
use Rattle.std.specs.Str.{str_eq_ignore_ascii_case}
use Rattle.nx_base.specs.Characters.{is_quote}
use Rattle.nx_events.specs.XmlDeclaration.{is_xml_declaration}
use Rattle.rng_widen.specs.declared.widening.Widening.{Widening}
use Rattle.rng_widen.specs.declared.widening.Note.TheVariants.{Encoding}
use Rattle.rng_widen.specs.Widened.{put_all}

abbrev pub is_ascii : List ℕ → Bool
is_ascii bytes = list_all (λ byte. nat_lt byte 128) bytes

-- ---- encodings of which ASCII is a part

-- the word, with letters of either case (4.3.3), and digits behind it
abbrev pub is_numbered : List ℕ → List ℕ → Bool
is_numbered word name =
    str_eq_ignore_ascii_case (take (length word) name) word
    && (nat_lt (length word) (length name) && list_all is_ascii_digit (drop (length word) name))

-- the parts of ISO 8859, code pages of Windows, and some of East Asia and of Russia
unfoldable pub has_ascii : List ℕ → Bool
has_ascii name =
    is_numbered (codes "ISO-8859-") name || (is_numbered (codes "windows-125") name
    || (str_eq_ignore_ascii_case name (codes "EUC-JP") || (str_eq_ignore_ascii_case name (codes "EUC-KR")
    || (str_eq_ignore_ascii_case name (codes "GB2312") || (str_eq_ignore_ascii_case name (codes "KOI8-R")
    || str_eq_ignore_ascii_case name (codes "KOI8-U"))))))

-- ---- the second value of a declaration

-- the front of a text through its first `>` (62)
unfoldable pub through_tag : List ℕ → List ℕ
through_tag bytes = take (prefix_len (λ byte. not (byte == 62)) bytes + 1) bytes

-- a text from its first quote on, and the value that begins there, and what is behind that and its other quote
unfoldable pub at_quote : List ℕ → List ℕ
at_quote bytes = drop (prefix_len (λ byte. not (is_quote byte)) bytes) bytes

unfoldable pub quoted : List ℕ → List ℕ
quoted [] = []
quoted (quote ∷ rest) = take (prefix_len (λ byte. not (byte == quote)) rest) rest

unfoldable pub behind_quoted : List ℕ → List ℕ
behind_quoted [] = []
behind_quoted (quote ∷ rest) = drop (prefix_len (λ byte. not (byte == quote)) rest + 1) rest

-- a declaration from its second value on, which is that of the encoding
abbrev pub at_second : List ℕ → List ℕ
at_second front = at_quote (behind_quoted (at_quote front))

-- ---- what is put there

-- UTF-8 in the place of the second value
abbrev pub as_utf8 : List ℕ → Widening
as_utf8 front = record {
  from = length front - length (at_second front);
  to = length front - length (behind_quoted (at_second front));
  word = codes "\"UTF-8\"";
  note = Encoding;
}

-- the front of a text is an XML declaration when its second value, which is such an encoding, is put to UTF-8
abbrev pub names_other : List ℕ → Bool
names_other front = has_ascii (quoted (at_second front)) && is_xml_declaration (put_all front (as_utf8 front ∷ []))

-- what is put in the place of the encoding that the declaration of a text names, where the text is ASCII
unfoldable pub declared : List ℕ → List Widening
declared bytes = if is_ascii bytes && names_other (through_tag bytes) then as_utf8 (through_tag bytes) ∷ [] else []
